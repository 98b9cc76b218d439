use Rattle.std.proofs.Common.{subst}
use Rattle.lk_facts.specs.Typed.{IsHolderType}
use Rattle.lk_point_types.proofs.functions.held_type.Goals as goal

pub returns-in-Slot-clause-only : goal.returns-in-Slot-clause-only
returns-in-Slot-clause-only c = λ t is. c.slot_type.ensures.only t (subst (λ holder. IsHolderType c.args.points.now holder t) c.in-Slot.is is)
