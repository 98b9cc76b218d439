use Rattle.lk_elaborator.proofs.Growing.{grows_on}
use Rattle.lk_elaborate.proofs.Carried.{goes_then}
use Rattle.lk_elaborate.proofs.PuttingStatements as put
use Rattle.lk_elaborate.proofs.statements.for_head.Goals as goal

pub returns-clause-makes : goal.returns-clause-makes
returns-clause-makes c =
    record {
      first = c.boxed_first.new.walk;
      second = c.boxed_value.new.walk;
      first_on = c.in_ok-first.ensures.goes_on;
      first_makes = c.in_ok-first.ensures.makes;
      second_grows = c.in_ok-test.ensures.grows;
      second_makes = c.in_ok-test.ensures.makes;
      third_grows = c.in_ok-step.ensures.grows;
      third_makes = c.in_ok-step.ensures.makes;
    }

pub returns-clause-goes_on : goal.returns-clause-goes_on
returns-clause-goes_on c =
    goes_then c.args.walk.now c.boxed_first.new.walk c.boxed_value-2.new.walk c.in_ok-first.ensures.goes_on
    (goes_then c.boxed_first.new.walk c.boxed_value.new.walk c.boxed_value-2.new.walk (grows_on c.boxed_first.new.walk c.boxed_value.new.walk c.in_ok-test.ensures.grows)
    (grows_on c.boxed_value.new.walk c.boxed_value-2.new.walk c.in_ok-step.ensures.grows))

pub returns-clause-puts : goal.returns-clause-puts
returns-clause-puts c =
    put.head_put c.args.walk.now c.boxed_first.new.walk c.boxed_value.new.walk c.boxed_value-2.new.walk c.args.first.now c.in_ok-first.ensures.goes_on c.in_ok-first.ensures.puts c.in_ok-test.ensures.grows
    c.in_ok-step.ensures.grows
