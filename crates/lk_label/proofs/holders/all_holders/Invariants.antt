use Rattle.lk_facts.specs.declared.root.Holder.TheVariants.{Root, Slot, Result, Point}
use Rattle.lk_label.specs.Holding.{AreBelow}
use Rattle.lk_label.proofs.holders.all_holders.Given as goal

abbrev pub invariant-loop-r : goal.invariant-loop-r
invariant-loop-r l = AreBelow l.points (Root l.r) l.holders.items

abbrev pub invariant-loop-f : goal.invariant-loop-f
invariant-loop-f l = AreBelow l.points (Slot l.f 0) l.holders.items

abbrev pub invariant-loop-f-2 : goal.invariant-loop-f-2
invariant-loop-f-2 l = AreBelow l.points (Result l.f) l.holders.items

abbrev pub invariant-loop-p : goal.invariant-loop-p
invariant-loop-p l = AreBelow l.points (Point l.p) l.holders.items
