use Rattle.lk_elaborate.proofs.MakingStatics.{begun_value}
use Rattle.lk_elaborate.proofs.statics.value_part.Goals as goal

pub returns-clause-part : goal.returns-clause-part
returns-clause-part c =
    begun_value c.args.walk.now c.static_value.new.walk c.args.given.now c.args.e.now c.in_ok-begun.begun c.in_ok-part.part c.in_ok-begun.ensures.value c.in_ok-part.ensures
