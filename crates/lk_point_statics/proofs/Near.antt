-- Pointers whose moves are near: they are given, and one past an element stands at the next one.
use Rattle.std.proofs.Common.{ℕ, ◌≡◌, ◌∙◌, Bool, false, true, List, [], ◌∷◌, ◌++◌, ap, refl, subst, suc, sym}
use Rattle.std.specs.Prelude.{ℤ, pos, ◌+ℤ◌}
use Rattle.std.proofs.Math.IntN.{+ℤ_one}
use Rattle.std.proofs.lemmas.Bool.{false≢true}
use Rattle.lk_base.specs.declared.cell.CellStep.{CellStep}
use Rattle.lk_base.specs.declared.cell.CellStep.TheVariants.{Field, Index}
use Rattle.lk_facts.specs.Initials.{GivesAddress, IsMoved, IsWritten, Writes, stand}
use Rattle.lk_facts.specs.Initials.IsMoved.{in_array, of_member, of_object}
use Rattle.lk_facts.specs.declared.initial.Initial.{Initial}
use Rattle.lk_facts.specs.declared.initial.InitialValue.{InitialValue}
use Rattle.lk_facts.specs.declared.initial.InitialValue.TheVariants as value
use Rattle.lk_facts.specs.declared.program.Program.{Program}
use Rattle.lk_point_statics.specs.Backwards.{StandsAt}
use Rattle.lk_point_statics.specs.Near.{GivesNear, IsMovedNear, IsWrittenNear, WritesNear}

-- ---- paths by their last steps

pub no_last : {X : Type 0} (xs : List X) (x : X) → [] ≡ xs ++ x ∷ [] → ⊥
no_last [] x h = cc
no_last (y ∷ xs) x h = cc

pub same_last : {X : Type 0} (xs ys : List X) (x y : X) → xs ++ x ∷ [] ≡ ys ++ y ∷ [] → x ≡ y
same_last [] [] x y h = cc
same_last [] (z ∷ ys) x y h = absurd (no_last ys y cc)
same_last (z ∷ xs) [] x y h = absurd (no_last xs x cc)
same_last (z ∷ xs) (w ∷ ys) x y h = same_last xs ys x y cc

pub same_front : {X : Type 0} (xs ys : List X) (x y : X) → xs ++ x ∷ [] ≡ ys ++ y ∷ [] → xs ≡ ys
same_front [] [] x y h = refl
same_front [] (z ∷ ys) x y h = absurd (no_last ys y cc)
same_front (z ∷ xs) [] x y h = absurd (no_last xs x cc)
same_front (z ∷ xs) (w ∷ ys) x y h =
    let rest : xs ++ x ∷ [] ≡ ys ++ y ∷ [] = cc in
    let first : z ≡ w = cc in
    ap (λ zs. z ∷ zs) (same_front xs ys x y rest) ∙ ap (λ v. v ∷ ys) first

-- ---- places in arrays

pub stand_next : (k : ℕ) → stand k true ≡ pos (suc k)
stand_next k = +ℤ_one (pos k)

moved_beyond : {path to : List CellStep} {past after : Bool} {n : ℤ} → IsMoved path past n to after → (before : List CellStep) (k : ℕ) → to ≡ before ++ Index k ∷ [] → after ≡ true →
    IsMoved path past n (before ++ Index (suc k) ∷ []) false
moved_beyond (in_array front i m from after n moved) before k is beyond =
    let same : m ≡ k = index_is m k (same_last front before (Index m) (Index k) is) in
    let stands : stand i from +ℤ n ≡ pos (suc k) = moved ∙ ap (stand m) beyond ∙ stand_next m ∙ ap (λ j. pos (suc j)) same in
    subst (λ xs. IsMoved (front ++ Index i ∷ []) from n (xs ++ Index (suc k) ∷ []) false) (same_front front before (Index m) (Index k) is) (in_array front i (suc k) from false n stands)
  where
    index_is : (m k : ℕ) → Index m ≡ Index k → m ≡ k
    index_is m k h = cc
moved_beyond (of_member front m from after n moved) before k is beyond = absurd (other m k (same_last front before (Field m) (Index k) is))
  where
    other : (m k : ℕ) → Field m ≡ Index k → ⊥
    other m k h = cc
moved_beyond (of_object from after n moved) before k is beyond = absurd (no_last before (Index k) is)

module _ (program : Program) where
  -- a pointer one past an element stands at the next one
  beyond : (p r : ℕ) (path : List CellStep) (past : Bool) → GivesNear program p r path past → (before : List CellStep) (k : ℕ) → path ≡ before ++ Index k ∷ [] → past ≡ true →
      GivesNear program p r (before ++ Index (suc k) ∷ []) false
  beyond p r path past (GivesNear.root _ _ does) before k is behind = absurd (false≢true behind)
  beyond p r path past (GivesNear.text _ _ does) before k is behind = absurd (false≢true behind)
  beyond p r path past (GivesNear.member _ a m _ from does gives) before k is behind = absurd (false≢true behind)
  beyond p r path past (GivesNear.element _ a b m _ from does number gives) before k is behind = absurd (false≢true behind)
  beyond p r path past (GivesNear.index _ a b _ n from _ was _ does number gives moves) before k is behind =
      GivesNear.index p a b r n from (before ++ Index (suc k) ∷ []) was false does number gives (record { moved = moved_beyond moves.moved before k is behind; near = moves.near })
  beyond p r path past (GivesNear.plus _ a b _ n from _ was _ does number gives moves) before k is behind =
      GivesNear.plus p a b r n from (before ++ Index (suc k) ∷ []) was false does number gives (record { moved = moved_beyond moves.moved before k is behind; near = moves.near })
  beyond p r path past (GivesNear.minus _ a b _ n from _ was _ does number gives moves) before k is behind =
      GivesNear.minus p a b r n from (before ++ Index (suc k) ∷ []) was false does number gives (record { moved = moved_beyond moves.moved before k is behind; near = moves.near })
  beyond p r path past (GivesNear.converted _ a t _ _ _ does gives) before k is behind =
      GivesNear.converted p a t r (before ++ Index (suc k) ∷ []) false does (beyond a r path past gives before k is behind)

  -- a point gives a pointer where it gives one that stands at its place
  pub standing : (p r : ℕ) {path to : List CellStep} {past after : Bool} → StandsAt path past to after → GivesNear program p r path past → GivesNear program p r to after
  standing p r (StandsAt.same path past) gives = gives
  standing p r (StandsAt.next before k) gives = beyond p r (before ++ Index k ∷ []) true gives before k refl refl

  -- ---- what is given nearby is given

  pub address : (p r : ℕ) (path : List CellStep) (past : Bool) → GivesNear program p r path past → GivesAddress program p r path past
  address p r path past (GivesNear.root _ _ does) = GivesAddress.root p r does
  address p r path past (GivesNear.text _ _ does) = GivesAddress.text p r does
  address p r path past (GivesNear.member _ a m _ from does gives) = GivesAddress.member p a m r from does (address a r from false gives)
  address p r path past (GivesNear.element _ a b m _ from does number gives) = GivesAddress.element p a b m r from does number (address a r from false gives)
  address p r path past (GivesNear.index _ a b _ n from _ was _ does number gives moves) = GivesAddress.index p a b r n from path was past does number (address a r from was gives) moves.moved
  address p r path past (GivesNear.plus _ a b _ n from _ was _ does number gives moves) = GivesAddress.plus p a b r n from path was past does number (address a r from was gives) moves.moved
  address p r path past (GivesNear.minus _ a b _ n from _ was _ does number gives moves) = GivesAddress.minus p a b r n from path was past does number (address a r from was gives) moves.moved
  address p r path past (GivesNear.converted _ a t _ _ _ does gives) = GivesAddress.converted p a t r path past does (address a r path past gives)

  writes_too : (initial : Initial) (b : ℕ) → WritesNear program initial b → Writes program initial b
  writes_too initial b writes = (writes.0, writes.1, writes.2, writes.3, address writes.1 initial.root initial.path false writes.4)

  pub written_too : (initial : Initial) (v : InitialValue) → IsWrittenNear program initial v → IsWritten program initial v
  written_too initial (value.Number n) h = tt
  written_too initial value.Null h = tt
  written_too initial (value.Function f) h = (h.0, h.1, writes_too initial h.0 h.2)
  written_too initial (value.Address r path past) h = (h.0, address h.0 r path past h.1, writes_too initial h.0 h.2)
  written_too initial value.Ready h = tt
