use Rattle.std.proofs.Common.{◌∙◌, sym, ap}
use Rattle.lk_check_expr.specs.Functions.{row_of}
use Rattle.lk_check_expr.proofs.FunctionRows.{named_row}
use Rattle.lk_check_expr.proofs.library.LibraryFunction.of.Goals as goal

pub returns : goal.returns
returns c = named_row c.args.name.now ∙ ap row_of (sym c.named.ensures)
