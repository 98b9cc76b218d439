use Rattle.std.proofs.Common.{◌≡◌, length, subst, arith}
use Rattle.lk_facts.specs.declared.root.Holder.TheVariants.{Slot}
use Rattle.lk_label.specs.Holding.{AreBelow}
use Rattle.lk_label.proofs.HolderLists.{slot_more, slots_all}
use Rattle.lk_label.proofs.holders.push_slots.Goals as goal

pub loop-slot-preserved : goal.loop-slot-preserved
loop-slot-preserved c = λ below.
    let slots = c.slots.result.now in
    rw c.in_ok-push.ensures.items (slot_more c.args.points.now c.args.f c.loop-slot.slot slots c.slots.ensures.value c.loop-slot-test.true (c.loop-slot.invariant below))

pub returns : goal.returns
returns c = λ below.
    let slots = c.slots.result.now in
    let last : c.loop-slot.slot ≡ length slots = omega (arith, c.loop-slot-test.false, c.loop-slot.auto.slot-end) in
    slots_all c.args.points.now c.args.f slots c.slots.ensures.value (subst (λ s. AreBelow c.args.points.now (Slot c.args.f s) c.loop-slot.holders.items) last (c.loop-slot.invariant below))
