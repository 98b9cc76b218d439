-- The pointers from which one moves: those at one place.
use Rattle.std.proofs.Common.{ℕ, ◌≡◌, ◌∙◌, ◌<◌, ◌^◌, Bool, false, true, List, [], ◌∷◌, ◌++◌, Option, None, Some, ap, refl, subst, suc, sym}
use Rattle.std.specs.Prelude.{ℤ, pos, ◌+ℤ◌, ◌-ℤ◌, MatchOption}
use Rattle.std.specs.Option.{option_map}
use Rattle.std.proofs.Math.IntN.{+ℤ-neg_ℤ_cancel}
use Rattle.lk_base.specs.declared.cell.CellStep.{CellStep}
use Rattle.lk_base.specs.declared.cell.CellStep.TheVariants.{Field, Index}
use Rattle.lk_facts.specs.Initials.{IsMoved, stand}
use Rattle.lk_facts.specs.Initials.IsMoved.{in_array, of_member, of_object}
use Rattle.lk_point_statics.proofs.Near.{no_last, same_front, same_last, stand_next}
use Rattle.lk_point_statics.specs.Backwards.{path_with, path_in, index_in, EndsIn, EndsInElement, MovesTo, NoneMovesTo, StandsAt}
use Rattle.lk_point_statics.specs.Near.{IsIndex, IsMovedNear}
use Rattle.lk_point_statics.specs.declared.wanted.Wanted.{Wanted}

pub nothing_there : {X : Type 0} (o : Option X) → ((x : X) → o ≡ Some x → ⊥) → o ≡ None
nothing_there None never = refl
nothing_there (Some x) never = absurd (never x refl)

element_last : (last : Option CellStep) (i : ℕ) → index_in last ≡ Some i → last ≡ Some (Index i)
element_last None i h = absurd cc
element_last (Some (Field k)) i h = absurd cc
element_last (Some (Index j)) i h = ap (option_map Index) h

index_is : (m k : ℕ) → Index m ≡ Index k → m ≡ k
index_is m k h = cc

other_step : (m k : ℕ) → Field m ≡ Index k → ⊥
other_step m k h = cc

-- ---- from an element

-- from where a pointer to an element moves
from_element : {path to : List CellStep} {past after : Bool} {n : ℤ} → IsMoved path past n to after → (before : List CellStep) (index : ℕ) → to ≡ before ++ Index index ∷ [] →
    (k : ℕ) × (path ≡ before ++ Index k ∷ []) × (stand k past +ℤ n ≡ stand index after)
from_element (in_array front i m from after n moved) before index is = (
  i,
  ap (λ xs. xs ++ Index i ∷ []) (same_front front before (Index m) (Index index) is),
  moved ∙ ap (λ j. stand j after) (index_is m index (same_last front before (Index m) (Index index) is)),
)
from_element (of_member front m from after n moved) before index is = absurd (other_step m index (same_last front before (Field m) (Index index) is))
from_element (of_object from after n moved) before index is = absurd (no_last before (Index index) is)

cancelled : (x y n z : ℤ) → x +ℤ n ≡ z → y +ℤ n ≡ z → x ≡ y
cancelled x y n z h k = sym (+ℤ-neg_ℤ_cancel x n) ∙ ap (λ m. m -ℤ n) (h ∙ sym k) ∙ +ℤ-neg_ℤ_cancel y n

pos_is : (m k : ℕ) → pos m ≡ pos k → m ≡ k
pos_is m k h = cc

stands : (before : List CellStep) (k from : ℕ) (past : Bool) → stand k past ≡ pos from → StandsAt (before ++ Index k ∷ []) past (before ++ Index from ∷ []) false
stands before k from false h = subst (λ i. StandsAt (before ++ Index k ∷ []) false (before ++ Index i ∷ []) false) (pos_is k from h) (StandsAt.same (before ++ Index k ∷ []) false)
stands before k from true h = subst (λ i. StandsAt (before ++ Index k ∷ []) true (before ++ Index i ∷ []) false) (pos_is (suc k) from (sym (stand_next k) ∙ h)) (StandsAt.next before k)

module _ (by : ℤ) (to : Wanted) (index : ℕ) (is : index_in to.last ≡ Some index) where
  element_path : path_in to ≡ to.before.now ++ Index index ∷ []
  element_path = ap (path_with to.before.now) (element_last to.last index is)

  pub moved_element : (from : ℕ) → from < 2 ^ 64 → pos from +ℤ by ≡ stand index to.past →
      MovesTo by (record { root = to.root; before = to.before; last = Some (Index from); past = false }) to
  moved_element from few moved = record {
    root = refl;
    moved = record {
      moved = subst (λ path. IsMoved (to.before.now ++ Index from ∷ []) false by path to.past) (sym element_path) (in_array to.before.now from index false to.past by moved);
      near = λ before k at. (from, ap pos (sym (index_is from k (same_last to.before.now before (Index from) (Index k) at))), few);
    };
    only = λ path past moves.
        let was = from_element moves.moved to.before.now index element_path in
        let place = cancelled (stand was.0 past) (pos from) by (stand index to.past) was.2 moved in
        subst (λ xs. StandsAt xs past (to.before.now ++ Index from ∷ []) false) (sym was.1) (stands to.before.now was.0 from past place);
  }

  pub none_element : ((place : ℤ) → IsIndex place → place +ℤ by ≡ stand index to.past → ⊥) → NoneMovesTo by to
  none_element none path past moves =
      let was = from_element moves.moved to.before.now index element_path in
      none (stand was.0 past) (moves.near to.before.now was.0 was.1) was.2

-- ---- from what is no element

no_element : (before : List CellStep) (last : Option CellStep) → index_in last ≡ None → (front : List CellStep) (k : ℕ) → path_with before last ≡ front ++ Index k ∷ [] → ⊥
no_element before None none front k is = no_last front (Index k) is
no_element before (Some (Field m)) none front k is = other_step m k (same_last before front (Field m) (Index k) is)
no_element before (Some (Index i)) none front k is = cc

from_whole : {path to : List CellStep} {past after : Bool} {n : ℤ} → IsMoved path past n to after → (before : List CellStep) (last : Option CellStep) → index_in last ≡ None → path_with before last ≡ to →
    (path ≡ to) × (stand 0 past +ℤ n ≡ stand 0 after)
from_whole (in_array front i m from after n moved) before last none is = absurd (no_element before last none front m is)
from_whole (of_member front m from after n moved) before last none is = (refl, moved)
from_whole (of_object from after n moved) before last none is = (refl, moved)

whole_moved : (before : List CellStep) (last : Option CellStep) (from to : Bool) (by : ℤ) → index_in last ≡ None → stand 0 from +ℤ by ≡ stand 0 to →
    IsMoved (path_with before last) from by (path_with before last) to
whole_moved before None from to by is moved = of_object from to by moved
whole_moved before (Some (Field k)) from to by is moved = of_member before k from to by moved
whole_moved before (Some (Index i)) from to by is moved = absurd cc

same_past : (a b : Bool) → stand 0 a ≡ stand 0 b → a ≡ b
same_past false false h = refl
same_past false true h = absurd (no_one 0 (h ∙ stand_next 0))
  where
    no_one : (k : ℕ) → pos 0 ≡ pos (suc k) → ⊥
    no_one k h = cc
same_past true false h = absurd (no_one 0 (sym h ∙ stand_next 0))
  where
    no_one : (k : ℕ) → pos 0 ≡ pos (suc k) → ⊥
    no_one k h = cc
same_past true true h = refl

module _ (by : ℤ) (to : Wanted) (is : index_in to.last ≡ None) where
  pub moved_whole : (from : Bool) → stand 0 from +ℤ by ≡ stand 0 to.past → MovesTo by (record { root = to.root; before = to.before; last = to.last; past = from }) to
  moved_whole from moved = record {
    root = refl;
    moved = record {
      moved = whole_moved to.before.now to.last from to.past by is moved;
      near = λ before k at. absurd (no_element to.before.now to.last is before k at);
    };
    only = λ path past moves.
        let was = from_whole moves.moved to.before.now to.last is refl in
        let same = same_past past from (cancelled (stand 0 past) (stand 0 from) by (stand 0 to.past) was.1 moved) in
        subst (λ b. StandsAt path past (path_in to) b) same (subst (λ xs. StandsAt path past xs past) was.0 (StandsAt.same path past));
  }

  pub none_whole : ((from : Bool) → stand 0 from +ℤ by ≡ stand 0 to.past → ⊥) → NoneMovesTo by to
  none_whole none path past moves =
      let was = from_whole moves.moved to.before.now to.last is refl in
      none past was.1

-- ---- last steps

-- the last step is one to a member, or to an element
pub ends_otherwise : (to : Wanted) (k : ℕ) → ((m : ℕ) → to.last ≡ Some (Field m) → ⊥) → EndsIn (Field k) to → ⊥
ends_otherwise to k never ends = by_last to.last refl ends.1
  where
    by_last : (last : Option CellStep) → to.last ≡ last → path_with to.before.now last ≡ ends.0 ++ Field k ∷ [] → ⊥
    by_last None at is = no_last ends.0 (Field k) is
    by_last (Some (Field m)) at is = never m at
    by_last (Some (Index i)) at is = other_step k i (sym (same_last to.before.now ends.0 (Index i) (Field k) is))

pub ends_member : (to : Wanted) (k m : ℕ) → to.last ≡ Some (Field m) → EndsIn (Field k) to → m ≡ k
ends_member to k m at ends = same (same_last to.before.now ends.0 (Field m) (Field k) (sym (ap (path_with to.before.now) at) ∙ ends.1))
  where
    same : Field m ≡ Field k → m ≡ k
    same h = cc

pub ends_element : (to : Wanted) (n : ℤ) (i : ℕ) → index_in to.last ≡ Some i → EndsInElement n to → n ≡ pos i
ends_element to n i is ends =
    let at = element_last to.last i is in
    ends.1 ∙ ap pos (index_is ends.0 i (sym (same_last to.before.now ends.2.0 (Index i) (Index ends.0) (sym (ap (path_with to.before.now) at) ∙ ends.2.1))))

pub ends_in_none : (to : Wanted) (n : ℤ) → index_in to.last ≡ None → EndsInElement n to → ⊥
ends_in_none to n none ends = no_element to.before.now to.last none ends.2.0 ends.0 ends.2.1

-- what follows from what a clause says of an answer
pub match_then : {X : Type 0} (o : Option X) {P P' : Type 0} {Q Q' : X → Type 0} → MatchOption o P Q → (P → P') → ((x : X) → Q x → Q' x) → MatchOption o P' Q'
match_then None h f g = f h
match_then (Some x) h f g = g x h
