use Rattle.std.proofs.Common.{rules, arith}
use Rattle.lk_parse_unit.proofs.Levels.{body_inside, no_body}
use Rattle.lk_parse_unit.proofs.unit.body_items.Goals as goal

pub returns-then-depth-eq0 : goal.returns-then-depth-eq0
returns-then-depth-eq0 c = λ never. no_body c.args.depth c.args.cursor.now _ (omega arith) (c.refuse.ensures never)

pub returns : goal.returns
returns c = rw (body_inside c.args.depth c.args.cursor.now (omega arith)) (search rules)
