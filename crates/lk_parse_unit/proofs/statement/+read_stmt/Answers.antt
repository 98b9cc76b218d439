use Rattle.std.proofs.Common.{rules, arith}
use Rattle.lk_parse_unit.proofs.Levels.{stmt_inside, no_stmt}
use Rattle.lk_parse_unit.proofs.statement.+read_stmt.Goals as goal

pub returns-then-depth-eq0 : goal.returns-then-depth-eq0
returns-then-depth-eq0 t c = λ never. no_stmt c.args.depth c.args.cursor.now _ _ (omega arith) (c.exhausted.ensures never) (search rules)

pub returns : goal.returns
returns t c = rw (stmt_inside c.args.depth c.args.cursor.now (omega arith)) (search rules)
