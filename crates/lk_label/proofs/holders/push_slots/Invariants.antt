use Rattle.lk_facts.specs.declared.root.Holder.TheVariants.{Slot}
use Rattle.lk_label.specs.Holding.{AreBelow}
use Rattle.lk_label.proofs.holders.push_slots.Given as goal

abbrev pub invariant-loop-slot : goal.invariant-loop-slot
invariant-loop-slot l = AreBelow l.points (Slot l.f 0) l.initial.holders.items → AreBelow l.points (Slot l.f l.slot) l.holders.items
