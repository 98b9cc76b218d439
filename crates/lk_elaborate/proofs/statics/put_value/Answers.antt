use Rattle.lk_elaborate.proofs.statics.put_value.Goals as goal

pub returns-clause-part : goal.returns-clause-part
returns-clause-part c = (c.in_ok-part.part, c.in_ok-push.ensures.items, c.in_ok-part.ensures.part)
