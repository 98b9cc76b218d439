use Rattle.std.proofs.Common.{refl}
use Rattle.lk_lower_parts.proofs.Adding.{loop_more}
use Rattle.lk_lower_parts.specs.Wanted.{seen, local_by, locals_of, slot_by, slots_of_locals}
use Rattle.lk_typed.specs.declared.unit.Local.{Local}
use Rattle.lk_lower_parts.proofs.roots.SourceAt.push_locals.Goals as goal

pub loop-local-preserved : goal.loop-local-preserved
loop-local-preserved c =
    let at = seen c.args.self.now in
    let list = c.list-local-items.result.now in
    let i = c.loop-local.local-index in
    let x = c.local-item.result in record {
      roots = loop_more (locals_of at c.args.function) (λ (one : Local). local_by at one.is_slot c.args.function one) (λ x xs. refl) list i x _ c.loop-local.roots.items c.push_local.new.roots.items c.loop-local-test.true c.local-item.is
          c.loop-local.invariant.roots c.in_ok-push_local.ensures.roots;
      slots = loop_more (slots_of_locals at) (λ (one : Local). slot_by at one.is_slot one) (λ x xs. refl) list i x _ c.loop-local.slots.items c.push_local.new.slots.items c.loop-local-test.true c.local-item.is
          c.loop-local.invariant.slots c.in_ok-push_local.ensures.slots;
    }
