-- The clashes of all kinds in one list, and the first of them.
use Rattle.std.proofs.Common.{◌≡◌, ◌⊎◌, ◌++◌, [], inl, inr, ℕ, List, Option, Some, None, sym, subst}
use Rattle.std.specs.Prelude.{MatchOption}
use Rattle.std.specs.List.{Contains}
use Rattle.std.proofs.lemmas.List.Elements.{Contains-append_left, Contains-append_right, Contains-append_cases}
use Rattle.lk_link.specs.Clashes.{IsClash, IsFirstClash, IsFirstOf, IsToldBefore}
use Rattle.lk_link.specs.Clashes.IsClash.{defined_twice, types_differ, library_differs, missing, missing_inside}
use Rattle.lk_link.specs.First.{AreAll, IsOfDeclarations, IsUndefined}
use Rattle.lk_link.specs.Sources.{Units}
use Rattle.lk_link.specs.declared.clash.Clash.{Clash}
use Rattle.lk_link.proofs.Growing.{nothing_contained}

-- two lists that were joined
pub all_joined : (P Q : Clash → Type 0) (xs ys zs : List Clash) → zs ≡ xs ++ ys → AreAll P xs → AreAll Q ys → AreAll (λ clash. P clash ⊎ Q clash) zs
all_joined P Q xs ys zs is first second clash = (
  (λ among. elim (Contains-append_cases xs ys clash (subst (λ l. Contains l clash) is among)) [ inl there ↦ inl ((first clash).0 there) | inr there ↦ inr ((second clash).0 there) ]),
  (λ either. subst (λ l. Contains l clash) (sym is) (elim either [
    | inl p ↦ Contains-append_left xs ys clash ((first clash).1 p)
    | inr q ↦ Contains-append_right xs ys clash ((second clash).1 q)
  ])),
)

module _ (units : Units) (externs : List (List ℕ)) where
  to_clash : (clash : Clash) → IsOfDeclarations units clash ⊎ IsUndefined units externs clash → IsClash units externs clash
  to_clash clash (inl (inl (inl h))) = defined_twice h
  to_clash clash (inl (inl (inr h))) = library_differs h
  to_clash clash (inl (inr h)) = types_differ h
  to_clash clash (inr (inl h)) = missing h
  to_clash clash (inr (inr h)) = missing_inside h

  from_clash : (clash : Clash) → IsClash units externs clash → IsOfDeclarations units clash ⊎ IsUndefined units externs clash
  from_clash clash (defined_twice h) = inl (inl (inl h))
  from_clash clash (types_differ h) = inl (inr h)
  from_clash clash (library_differs h) = inl (inl (inr h))
  from_clash clash (missing h) = inr (inl h)
  from_clash clash (missing_inside h) = inr (inr h)

  pub all_kinds : (clashes : List Clash) → AreAll (λ clash. IsOfDeclarations units clash ⊎ IsUndefined units externs clash) clashes → AreAll (IsClash units externs) clashes
  all_kinds clashes all clash = ((λ among. to_clash clash ((all clash).0 among)), (λ is. (all clash).1 (from_clash clash is)))

  -- the first of all clashes is that which is told
  pub first_is : (clashes : List Clash) → AreAll (IsClash units externs) clashes → (found : Option Clash) → MatchOption found (clashes ≡ []) (IsFirstOf clashes) →
      MatchOption found ((clash : Clash) → IsClash units externs clash → ⊥) (IsFirstClash units externs)
  first_is clashes all None empty = λ clash is. nothing_contained clash (subst (λ l. Contains l clash) empty ((all clash).1 is))
  first_is clashes all (Some first) h = (
    (all first).0 h.among,
    (λ other is told.
        let there = (all other).1 is in
        h.first_is there.0 other there.1 (subst (λ x. IsToldBefore x first) (sym there.2) told)),
  )
