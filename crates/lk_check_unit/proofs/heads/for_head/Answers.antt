use Rattle.lk_check_unit.proofs.Heading.{head_walked}
use Rattle.lk_check_unit.proofs.heads.for_head.Goals as goal

pub returns-clause-walks : goal.returns-clause-walks
returns-clause-walks c =
    head_walked c.args.first.now c.args.condition.now c.args.step.now c.args.checker.now c.first_part.new.checker c.condition_if_any.new.checker c.dropped_if_any.new.checker c.in_ok-first.first
    c.in_ok-second.second c.in_ok-third.third c.all_codes.result c.in_ok-first.ensures.asks c.in_ok-second.ensures.asks c.in_ok-third.ensures.asks c.all_codes.ensures
