-- Passing rows on from what has grown alone: what stays so while marks are put, and where such a loop stands.
use Rattle.std.proofs.Common.{ℕ, ◌+◌, ◌<◌, ◌≤◌, ◌≡◌, ◌||◌, Bool, true, false, List, length, get_or, replicate, take, All, refl, sym, ap, ◌∙◌, subst, ◌⊎◌, inl, inr}
use Rattle.std.specs.Prelude.{⊤}
use Rattle.std.proofs.lemmas.Bool.{both_ways, cases_lt, or_parts}
use Rattle.std.proofs.lemmas.List.{take_all, get_or_past, get_or-replicate, length-replicate}
use Rattle.std.proofs.lemmas.List.Elements.{All-more, All-weaker}
use Rattle.lk_sets.specs.declared.spread.Arrow.{Arrow}
use Rattle.lk_sets.specs.Closing.{Going}
use Rattle.lk_sets.specs.Marks.{is_marked, PassesOrWaits, AreMarked}
use Rattle.lk_sets.specs.Rows.{Rows, has}
use Rattle.lk_sets.specs.Spread.{IsSound, PassesOn}
use Rattle.lk_sets.proofs.Closing.{going_more}

-- what an arrow has passed on it has still, or the row that it passes on has grown
pub still_passes : {old new : Rows} {before now : List Bool} {changed : Bool} → AreMarked old new before now changed → ((a b : ℕ) → has old a b ≡ true → has new a b ≡ true) → (arrow : Arrow) → PassesOn old arrow → PassesOrWaits now new arrow
still_passes {old} {new} {before} {now} marked kept arrow passes = by (is_marked now arrow.from) refl
  where
    by : (q : Bool) → is_marked now arrow.from ≡ q → PassesOrWaits now new arrow
    by true is = inr is
    by false is = inl (λ b h. elim (marked.grown arrow.from b h) [ inl before ↦ kept arrow.into b (passes b before) | inr grown ↦ absurd (both_ways false refl (sym is ∙ grown)) ])

-- the arrow waits for a mark of either list
abbrev pub IsLeft : List Bool → List Bool → Rows → Arrow → Type 0
IsLeft marks grown r arrow = PassesOrWaits marks r arrow ⊎ (is_marked grown arrow.from ≡ true)

-- Where a round over the arrows stands: the first k are done, but where a row has grown since.
pub record Passing (arrows : List Arrow) (old new : Rows) (marks none grown : List Bool) (changed : Bool) (k : ℕ) : Type 0 where
  pub going : (first : Rows) → Going (IsSound arrows first) (λ _. ⊤) old new changed
  pub marked : AreMarked old new none grown changed
  pub passed : All (PassesOrWaits grown new) (take k arrows)
  pub left : All (IsLeft marks grown new) arrows

marked_twice : {old mid new : Rows} {none before now : List Bool} {b c : Bool} → AreMarked old mid none before b → AreMarked mid new before now c → AreMarked old new none now (b || c)
marked_twice {b = b} {c = c} g h = record {
  long = h.long ∙ g.long;
  grown = λ x y p. elim (h.grown x y p) [ inl before ↦ elim (g.grown x y before) [ inl first ↦ inl first | inr marked ↦ inr (h.kept x marked) ] | inr marked ↦ inr marked ];
  kept = λ x p. h.kept x (g.kept x p);
  none = λ nothing. let parts = or_parts b c nothing in h.none parts.1 ∙ g.none parts.0;
}

pub passing_more : {arrows : List Arrow} {old mid new : Rows} {marks lent none before now : List Bool} {b c : Bool} (k : ℕ) (d : Arrow) → k < length arrows → Passing arrows old mid marks none before b k → ((first : Rows) → Going (IsSound arrows first) (λ _. ⊤) mid new c) → AreMarked mid new before now c → lent ≡ marks → (IsLeft lent before mid (get_or arrows k d) → PassesOrWaits now new (get_or arrows k d)) → Passing arrows old new marks none now (b || c) (k + 1)
passing_more {arrows} {old} {mid} {new} {marks} {lent} {none} {before} {now} k d within p going marked same passes =
    let kept = (going old).grows.kept in
    record {
      going = λ first. going_more (λ _ _ _. tt) (p.going first) (going first);
      marked = marked_twice p.marked marked;
      passed =
          All-more (PassesOrWaits now new) arrows k d within
          (All-weaker (PassesOrWaits before mid) (PassesOrWaits now new) (λ arrow h. elim h [ inl done ↦ still_passes marked kept arrow done | inr waits ↦ inr (marked.kept arrow.from waits) ]) (take k arrows) p.passed)
          (passes (subst (λ ms. IsLeft ms before mid (get_or arrows k d)) (sym same) (p.left k d within)));
      left = All-weaker (IsLeft marks before mid) (IsLeft marks now new) (λ arrow h. elim h [
        | inl (inl done) ↦ elim (still_passes marked kept arrow done) [ inl still ↦ inl (inl still) | inr grown ↦ inr grown ]
        | inl (inr waits) ↦ inl (inr waits)
        | inr grown ↦ inr (marked.kept arrow.from grown)
      ]) arrows p.left;
    }

pub passing_all : {arrows : List Arrow} {old new : Rows} {marks none grown : List Bool} {changed : Bool} (k : ℕ) → length arrows ≤ k → Passing arrows old new marks none grown changed k → All (PassesOrWaits grown new) arrows
passing_all {arrows} {new = new} {grown = grown} k past p = subst (All (PassesOrWaits grown new)) (take_all k arrows past) p.passed

-- where no row has grown each arrow has nothing to pass on
pub passing_done : {arrows : List Arrow} {old new : Rows} {marks none grown : List Bool} {changed : Bool} (k : ℕ) → length arrows ≤ k → ((a : ℕ) → is_marked none a ≡ false) → Passing arrows old new marks none grown changed k → (first : Rows) → Going (IsSound arrows first) (λ r. All (PassesOn r) arrows) old new changed
passing_done {arrows} {old} {new} {marks} {none} {grown} {changed} k past clear p first = record {
  grows = (p.going first).grows;
  sound = (p.going first).sound;
  done = λ nothing.
      All-weaker (PassesOrWaits grown new) (PassesOn new) (λ arrow h. elim h [
        | inl done ↦ done
        | inr waits ↦ absurd (both_ways false refl (sym (clear arrow.from) ∙ (ap (λ ms. is_marked ms arrow.from) (sym (p.marked.none nothing)) ∙ waits)))
      ]) arrows (passing_all k past p);
}

-- marks that are all put at none
pub clear_marks : (n : ℕ) (marks : List Bool) → (((y : Bool) → y ≡ false → y ≡ false) → marks ≡ replicate n false) → (a : ℕ) → is_marked marks a ≡ false
clear_marks n marks are a = ap (λ ms. is_marked ms a) (are (λ y h. h)) ∙ none n a
  where
    none : (n a : ℕ) → get_or (replicate n false) a false ≡ false
    none n a = elim (cases_lt a n) [
      | inl below ↦ get_or-replicate n a false false below
      | inr past ↦ get_or_past (replicate n false) a false (subst (λ m. m ≤ a) (sym (length-replicate n false)) past)
    ]
