-- Pairs of structs that are compared in turn, until each is kept.
use Rattle.std.proofs.Common.{◌≡◌, ◌∙◌, ◌⊎◌, inl, inr, ◌<◌, ◌≤◌, ◌+◌, ℕ, Bool, true, false, List, Some, refl, sym, ap, subst, length, get_or, arith}
use Rattle.std.proofs.lemmas.Bool.{false≢true}
use Rattle.std.proofs.lemmas.Option.{same_Some, slice_get_within, slice_get-get_or}
use Rattle.std.proofs.Math.Nat.{eq-or-lt_of_le}
use Rattle.std.specs.List.{slice_get}
use Rattle.lk_types.proofs.SizeLemmas.{all_read}
use Rattle.lk_link.specs.Pairs.{IsAmong, AreAmong, IsLonger, IsAnswered}
use Rattle.lk_link.specs.Sources.{Units}
use Rattle.lk_link.specs.Structs.{HasNoDifference, AreKept, IsPair, IsSettled}
use Rattle.lk_link.specs.declared.place.StructPair.{StructPair}
use Rattle.lk_link.proofs.Answering.{longer_among}

-- the pairs below a place are kept by lists that have all of these
pub record IsKeeping (units : Units) (old pairs : List StructPair) (place : ℕ) : Type 0 where
  pub known : (pair : StructPair) → IsAmong pairs pair → IsPair units pair
  pub longer : IsLonger old pairs
  pub done : (i : ℕ) (pair : StructPair) → i < place → slice_get pairs i ≡ Some pair → (ps : List StructPair) → AreAmong pairs ps → HasNoDifference units ps pair
  pub needed : (ps : List StructPair) → AreKept units ps → AreAmong old ps → AreAmong pairs ps

module _ (units : Units) where
  pub keeping_first : (old : List StructPair) → ((pair : StructPair) → IsAmong old pair → IsPair units pair) → IsKeeping units old old 0
  keeping_first old known = record {
    known = known;
    longer = λ place pair at. at;
    done = λ i pair less at ps among. absurd (omega (arith, less));
    needed = λ ps kept among. among;
  }

  kept_pair : (ps : List StructPair) (pair : StructPair) → AreKept units ps → IsAmong ps pair → HasNoDifference units ps pair
  kept_pair ps pair kept among = all_read (HasNoDifference units ps) ps among.0 pair kept among.1

  module _ (old pairs new : List StructPair) (place : ℕ) (pair : StructPair) (h : IsKeeping units old pairs place) (at : slice_get pairs place ≡ Some pair) where
    pub keeping_more : (answer : Bool) → answer ≡ true → IsAnswered (IsPair units) pairs new (λ ps. HasNoDifference units ps pair) answer → IsKeeping units old new (place + 1)
    keeping_more answer is k = record {
      known = λ p among. elim (k.from p among) [ inl there ↦ h.known p there | inr of ↦ of ];
      longer = λ i p there. k.longer i p (h.longer i p there);
      done = λ i p less there ps among. done i p (eq-or-lt_of_le (at_most i less)) there ps among;
      needed = λ ps kept among. let before = h.needed ps kept among in (k.needed ps before (kept_pair ps pair kept (before pair (place, at)))).1;
    }
      where
        at_most : (i : ℕ) → i < place + 1 → i ≤ place
        at_most i less = omega arith

        old_among : (ps : List StructPair) → AreAmong new ps → AreAmong pairs ps
        old_among ps among p there = among p (longer_among pairs new k.longer p there)

        done : (i : ℕ) (p : StructPair) → (i ≡ place) ⊎ (i < place) → slice_get new i ≡ Some p → (ps : List StructPair) → AreAmong new ps → HasNoDifference units ps p
        done i p (inl is_place) there ps among =
            let same = same_Some pair p (sym (k.longer place pair at) ∙ ap (slice_get new) (sym is_place) ∙ there) in
            subst (HasNoDifference units ps) same (k.holds is ps among)
        done i p (inr less) there ps among =
            let within = slice_get_within pairs place pair at in
            let was = slice_get-get_or pairs i p (omega (arith, less, within)) in
            let same = same_Some (get_or pairs i p) p (sym (k.longer i (get_or pairs i p) was) ∙ there) in
            subst (HasNoDifference units ps) same (h.done i (get_or pairs i p) less was ps (old_among ps among))

    pub settled_no : (answer : Bool) → answer ≡ false → IsAnswered (IsPair units) pairs new (λ ps. HasNoDifference units ps pair) answer → IsSettled units old new false
    settled_no answer is k = record {
      longer = λ i p there. k.longer i p (h.longer i p there);
      kept = λ yes_. absurd (false≢true yes_);
      needed = λ ps kept among. let before = h.needed ps kept among in sym is ∙ (k.needed ps before (kept_pair ps pair kept (before pair (place, at)))).0;
    }

  pub settled_yes : (old pairs : List StructPair) (place : ℕ) → length pairs ≤ place → IsKeeping units old pairs place → IsSettled units old pairs true
  settled_yes old pairs place past h = record {
    longer = h.longer;
    kept = λ yes_ k d within. h.done k (get_or pairs k d) (omega (arith, past, within)) (slice_get-get_or pairs k d within) pairs (λ p among. among);
    needed = λ ps kept among. refl;
  }
