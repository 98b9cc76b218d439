use Rattle.std.proofs.Common.{refl}
use Rattle.lk_lower_parts.proofs.Adding.{loop_more}
use Rattle.lk_lower_parts.proofs.Pointers.{more_more}
use Rattle.lk_lower_parts.proofs.Rooted.{later_before}
use Rattle.lk_lower_parts.specs.Found.{all_found, as_owned}
use Rattle.lk_lower_parts.specs.Wanted.{seen, root_by, roots_of, slot_of, slots_of}
use Rattle.lk_lower_parts.proofs.roots.SourceAt.push_all_owned.Goals as goal

pub loop-owned-preserved : goal.loop-owned-preserved
loop-owned-preserved c =
    let at = seen c.args.self.now in
    let old = c.loop-owned.types in
    let new = c.push_owned.new.types in
    let list = c.deref-owned-items.result.now in record {
      roots = λ forms later.
          loop_more (λ all. roots_of at forms c.args.function (all_found all)) (λ one. root_by at forms c.args.function (as_owned one)) (λ x xs. refl) list c.loop-owned.owned-index c.owned-item.result _ c.loop-owned.roots.items
          c.push_owned.new.roots.items c.loop-owned-test.true c.owned-item.is (c.loop-owned.invariant.roots forms (later_before old new forms c.in_ok-push_owned.ensures.more later)) (c.in_ok-push_owned.ensures.roots forms later);
      slots = loop_more (λ all. slots_of at (all_found all)) (λ one. slot_of at (as_owned one)) (λ x xs. refl) list c.loop-owned.owned-index c.owned-item.result _ c.loop-owned.slots.items c.push_owned.new.slots.items c.loop-owned-test.true
          c.owned-item.is c.loop-owned.invariant.slots c.in_ok-push_owned.ensures.slots;
      more = more_more _ old new c.loop-owned.invariant.more c.in_ok-push_owned.ensures.more;
    }
