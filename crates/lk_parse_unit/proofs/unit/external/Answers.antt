use Rattle.std.proofs.Common.{rules, arith}
use Rattle.lk_parse_unit.proofs.Levels.{external_inside, no_external}
use Rattle.lk_parse_unit.proofs.unit.external.Goals as goal

pub returns-then-depth-eq0 : goal.returns-then-depth-eq0
returns-then-depth-eq0 c = λ never. no_external c.args.depth c.args.cursor.now _ _ (omega arith) (c.exhausted.ensures never) (search rules)

pub returns : goal.returns
returns c = rw (external_inside c.args.depth c.args.cursor.now (omega arith)) (search rules)
