-- What the numbers of a source stand for, by what its lowering reads.
use Rattle.lk_lower_expr.specs.Expressions.{part}
use Rattle.lk_lower_expr.specs.Names.{Names}
use Rattle.lk_lower_expr.specs.Naming.{names_of}
use Rattle.lk_lower_expr.specs.Parts.{Part}
use Rattle.lk_lower_expr.specs.declared.lowering.Lowering.{Lowering}
use Rattle.lk_typed.specs.declared.expression.TypedExpr.{TypedExpr}

abbrev pub names_by : Lowering → Names
names_by lowering = names_of lowering.table.now lowering.names.now

abbrev pub part_by : Lowering → TypedExpr → Part
part_by lowering = part (names_by lowering)
