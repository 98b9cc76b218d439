-- Numbers that are marked in a list.
use Rattle.std.proofs.Common.{arith, ap, sym, subst, ◌∙◌, ◌≡◌, ◌<◌, ◌++◌, ◌⊎◌, inl, inr, ℕ, Bool, true, false, List, [], ◌∷◌, length, get_or, set, replicate, Some, refl}
use Rattle.std.specs.Prelude.{Contains, slice_get}
use Rattle.std.proofs.lemmas.Bool.{cases_eq, false≢true}
use Rattle.std.proofs.lemmas.List.{length-set, length-replicate, get_or-replicate, get_or-set_same, get_or-set_other}
use Rattle.std.proofs.lemmas.List.Elements.{Contains-append_left, Contains-push, Contains-push_cases}
use Rattle.std.proofs.lemmas.Option.{get_or_from_slice_get, slice_get-get_or, slice_get_within}
use Rattle.lk_lower_parts.specs.Parts.{AreMarkedParts, IsWith}

pub set_here : (xs : List Bool) (p : ℕ) → p < length xs → slice_get (set xs p true) p ≡ Some true
set_here xs p within = slice_get-get_or (set xs p true) p false (omega (arith, length-set xs p true)) ∙ ap Some (get_or-set_same xs p true false within)

pub set_kept : (xs : List Bool) (p q : ℕ) → p < length xs → slice_get xs q ≡ Some true → slice_get (set xs p true) q ≡ Some true
set_kept xs p q within at =
    elim (cases_eq q p) [
      | inl same ↦ subst (λ r. slice_get (set xs p true) r ≡ Some true) (sym same) (set_here xs p within)
      | inr other ↦
          slice_get-get_or (set xs p true) q false (omega (arith, length-set xs p true, slice_get_within xs q true at))
          ∙ ap Some (get_or-set_other xs p q true false other ∙ get_or_from_slice_get xs q true false at)
    ]

pub set_only : (xs : List Bool) (p q : ℕ) → slice_get (set xs p true) q ≡ Some true → (slice_get xs q ≡ Some true) ⊎ (p ≡ q)
set_only xs p q at =
    elim (cases_eq q p) [
      | inl same ↦ inr (sym same)
      | inr other ↦ inl (slice_get-get_or xs q false (omega (arith, length-set xs p true, slice_get_within (set xs p true) q true at))
          ∙ ap Some (sym (get_or-set_other xs p q true false other) ∙ get_or_from_slice_get (set xs p true) q true false at))
    ]

pub none_marked : (n p : ℕ) (xs : List Bool) → xs ≡ replicate n false → slice_get xs p ≡ Some true → ⊥
none_marked n p xs all at =
    let there : slice_get (replicate n false) p ≡ Some true = subst (λ ys. slice_get ys p ≡ Some true) all at in
    false≢true (sym (get_or-replicate n p false false (omega (arith, length-replicate n false, slice_get_within (replicate n false) p true there))) ∙ get_or_from_slice_get (replicate n false) p true false there)

-- ---- marked Parts

pub marked_more : (seen : List Bool) (old new : List ℕ) (u : ℕ) → u < length seen → new ≡ old ++ u ∷ [] → AreMarkedParts seen old → AreMarkedParts (set seen u true) new
marked_more seen old new u within put marked = subst (AreMarkedParts (set seen u true)) (sym put) (λ t. (
  (λ at. elim (set_only seen u t at) [
    | inl was ↦ Contains-append_left old (u ∷ []) t ((marked t).0 was)
    | inr same ↦ subst (Contains (old ++ u ∷ [])) same (Contains-push old u)
  ]),
  (λ there. elim (Contains-push_cases old u t there) [
    | inl was ↦ set_kept seen u t within ((marked t).1 was)
    | inr same ↦ subst (λ x. slice_get (set seen u true) x ≡ Some true) same (set_here seen u within)
  ]),
))

pub with_new : (seen : List Bool) (old new : List ℕ) (u : ℕ) (has : Bool) → has ≡ get_or seen u has → has ≡ false → new ≡ old ++ u ∷ [] → AreMarkedParts seen old → IsWith u old new
with_new seen old new u has read is put marked = IsWith.added (λ there. false≢true (sym is ∙ read ∙ get_or_from_slice_get seen u true has ((marked u).1 there))) put

pub with_old : (seen : List Bool) (old : List ℕ) (u : ℕ) (has : Bool) → u < length seen → has ≡ get_or seen u has → has ≡ true → AreMarkedParts seen old → IsWith u old old
with_old seen old u has within read is marked = IsWith.there ((marked u).0 (slice_get-get_or seen u has within ∙ ap Some (sym read ∙ is))) refl
