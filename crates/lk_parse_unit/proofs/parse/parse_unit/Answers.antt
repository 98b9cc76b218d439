use Rattle.lk_parse_unit.proofs.Few.{few_answered}
use Rattle.lk_parse_unit.proofs.parse.parse_unit.Goals as goal

pub returns-clause-few : goal.returns-clause-few
returns-clause-few c = few_answered _ c.args.source.now c.args.tokens.now _ _ _ _ c.in_ok-cursor.ensures c.in_ok-found.ensures c.in_ok-number_unit.ensures
