use Rattle.std.proofs.Common.{◌||◌, refl, arith, ◌<◌, ◌≡◌, ◌⊎◌, inl, inr, length}
use Rattle.std.proofs.lemmas.Bool.Decides.{nat_tests}
use Rattle.lk_sets.specs.Ids.{has_id, IsSetOf}
use Rattle.lk_sets.proofs.Merging.{merge_left, merge_right, merge_both, merge_end}
use Rattle.lk_sets.proofs.id_set.IdSet.union.Goals as goal
use Rattle.lk_sets.proofs.id_set.IdSet.union.Goals.{In_ok-extend_from_slice-2, in_default, in_default-2}

pub loop-x-preserved-in_ok-push-in-Less : goal.loop-x-preserved-in_ok-push-in-Less
loop-x-preserved-in_ok-push-in-Less c =
    let a = c.in-Some-Some in
    let less : a.x.now < a.y.now = grind (arith, nat_tests) in
    rw c.in_ok-push-in-Less.ensures.items (merge_left ◌||◌ refl _ _ _ _ _ _ _ _ _ c.loop-x.invariant a.ensures.cases a.ensures'.cases less)

pub loop-x-preserved-in_ok-push-in-Greater : goal.loop-x-preserved-in_ok-push-in-Greater
loop-x-preserved-in_ok-push-in-Greater c =
    let a = c.in-Some-Some in
    let less : a.y.now < a.x.now = grind (arith, nat_tests) in
    rw c.in_ok-push-in-Greater.ensures.items (merge_right ◌||◌ refl _ _ _ _ _ _ _ _ _ c.loop-x.invariant a.ensures.cases a.ensures'.cases less)

pub loop-x-preserved : goal.loop-x-preserved
loop-x-preserved c =
    let a = c.in-Some-Some in
    let same : a.x.now ≡ a.y.now = grind (arith, nat_tests) in
    rw c.in_ok-push-in-Equal.ensures.items (merge_both ◌||◌ refl _ _ _ _ _ _ _ _ _ c.loop-x.invariant a.ensures.cases a.ensures'.cases same)

merged : (c : In_ok-extend_from_slice-2) → IsSetOf (λ x. has_id c.args.self.now x || has_id c.args.other.now x) c.extend_from_slice-2.new.self.items
merged c =
    let ended : (length c.loop-x.left.now ≡ 0) ⊎ (length c.loop-x.right.now ≡ 0) =
    elim c.match-split_first.branch [ in_default w ↦ inr w.in_default.ensures'.cases | in_default-2 w ↦ inl w.in_default.ensures.cases ] in
    rw (c.in_ok-extend_from_slice-2.ensures.items, c.in_ok-extend_from_slice.ensures.items) (merge_end _ _ _ _ _ c.loop-x.invariant ended)

pub invariant_of-result : goal.invariant_of-result
invariant_of-result c = (merged c).sorted

pub returns : goal.returns
returns c = merged c
