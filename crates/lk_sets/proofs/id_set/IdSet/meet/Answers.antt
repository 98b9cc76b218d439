use Rattle.std.proofs.Common.{◌&&◌, refl, arith, ◌<◌, ◌≡◌}
use Rattle.std.proofs.lemmas.Bool.Decides.{nat_tests}
use Rattle.std.proofs.lemmas.List.{append-nil}
use Rattle.lk_sets.proofs.Merging.{merge_left, merge_right, merge_both}
use Rattle.lk_sets.proofs.id_set.IdSet.meet.Goals as goal

pub loop-x-preserved-in-Less : goal.loop-x-preserved-in-Less
loop-x-preserved-in-Less c =
    let a = c.in-Some-Some in
    let less : a.x.now < a.y.now = grind (arith, nat_tests) in
    rw append-nil at (merge_left ◌&&◌ refl _ _ _ _ _ _ _ _ _ c.loop-x.invariant a.ensures.cases a.ensures'.cases less)

pub loop-x-preserved-in-Greater : goal.loop-x-preserved-in-Greater
loop-x-preserved-in-Greater c =
    let a = c.in-Some-Some in
    let less : a.y.now < a.x.now = grind (arith, nat_tests) in
    rw append-nil at (merge_right ◌&&◌ refl _ _ _ _ _ _ _ _ _ c.loop-x.invariant a.ensures.cases a.ensures'.cases less)

pub loop-x-preserved : goal.loop-x-preserved
loop-x-preserved c =
    let a = c.in-Some-Some in
    let same : a.x.now ≡ a.y.now = grind (arith, nat_tests) in
    rw c.in_ok-push-in-Equal.ensures.items (merge_both ◌&&◌ refl _ _ _ _ _ _ _ _ _ c.loop-x.invariant a.ensures.cases a.ensures'.cases same)
