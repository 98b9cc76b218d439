-- Lists of clashes that grow by those of the entities of a source, and of the sources in turn.
use Rattle.std.proofs.Common.{◌≡◌, ◌∙◌, ◌⊎◌, ◌↔◌, inl, inr, ◌<◌, ◌≤◌, ◌+◌, ◌++◌, ◌∷◌, [], ℕ, List, Some, None, Option, sym, ap, subst, length, get_or, arith}
use Rattle.std.proofs.lemmas.List.Elements.{Contains-append_left, Contains-push, Contains-push_cases}
use Rattle.std.proofs.lemmas.Option.{none-some, same_Some, slice_get_within, slice_get-get_or}
use Rattle.std.proofs.Math.Nat.{eq-or-lt_of_le}
use Rattle.std.specs.List.{slice_get, Contains, Any}
use Rattle.lk_typed.specs.declared.entity.Entity.{Entity}
use Rattle.lk_typed.specs.declared.unit.TypedUnit.{TypedUnit}
use Rattle.lk_link.specs.Clashes.{HaveGained, IsMissingHere, IsInsideSource, IsMissingInside}
use Rattle.lk_link.specs.Sources.{Units}
use Rattle.lk_link.specs.declared.clash.Clash.{Clash}

-- the clash is that of one of the first n entities
abbrev pub IsBelow : ℕ → List Entity → ℕ → Clash → Type 0
IsBelow source entities n clash = (clash.source ≡ source) × ((i : ℕ) × (entity : Entity) × (i < n) × (get_or entities i entity ≡ entity) × IsMissingHere entity clash)

-- it is one of the first n sources
abbrev pub IsBelowSource : Units → ℕ → Clash → Type 0
IsBelowSource units n clash = (clash.source < n) × IsMissingInside units clash

at_most : {i n : ℕ} → i < n + 1 → i ≤ n
at_most {i} {n} less = omega arith

one_more : {i n : ℕ} → i < n → i < n + 1
one_more {i} {n} less = omega arith

this_one : (n : ℕ) → n < n + 1
this_one n = omega arith

same_entity : (entities : List Entity) (i : ℕ) (a b : Entity) → i < length entities → get_or entities i a ≡ a → get_or entities i b ≡ b → a ≡ b
same_entity entities i a b within at bt = sym at ∙ same_Some (get_or entities i a) (get_or entities i b) (sym (slice_get-get_or entities i a within) ∙ slice_get-get_or entities i b within) ∙ bt

module _ (source : ℕ) (entities : List Entity) (n : ℕ) (entity : Entity) (within : n < length entities) (is : entity ≡ get_or entities n entity) where
  below_cases : (clash : Clash) → IsBelow source entities (n + 1) clash → IsBelow source entities n clash ⊎ ((clash.source ≡ source) × IsMissingHere entity clash)
  below_cases clash h = elim (eq-or-lt_of_le (at_most h.1.2)) [
    | inl last ↦
        let at = subst (λ i. get_or entities i h.1.1 ≡ h.1.1) last h.1.3 in
        inr (h.0, subst (λ e. IsMissingHere e clash) (same_entity entities n h.1.1 entity within at (sym is)) h.1.4)
    | inr less ↦ inl (h.0, (h.1.0, h.1.1, less, h.1.3, h.1.4))
  ]

  below_old : (clash : Clash) → IsBelow source entities n clash → IsBelow source entities (n + 1) clash
  below_old clash h = (h.0, (h.1.0, h.1.1, one_more h.1.2, h.1.3, h.1.4))

  below_last : (clash : Clash) → clash.source ≡ source → IsMissingHere entity clash → IsBelow source entities (n + 1) clash
  below_last clash here missing = (here, (n, entity, this_one n, sym is, missing))

  pub gained_step : (old now new : List Clash) → HaveGained old now (IsBelow source entities n) → HaveGained now new (λ clash. (clash.source ≡ source) × IsMissingHere entity clash) → HaveGained old new (IsBelow source entities (n + 1))
  gained_step old now new h gain clash = (
    (λ among. elim ((gain clash).0 among) [
      | inl there ↦ elim ((h clash).0 there) [ inl before ↦ inl before | inr below ↦ inr (below_old clash below) ]
      | inr here ↦ inr (below_last clash here.0 here.1)
    ]),
    (λ either. (gain clash).1 (elim either [
      | inl before ↦ inl ((h clash).1 (inl before))
      | inr below ↦ elim (below_cases clash below) [ inl earlier ↦ inl ((h clash).1 (inr earlier)) | inr last ↦ inr last ]
    ])),
  )

module _ (source : ℕ) (entity : Entity) (found : Option Clash) (exact : (clash : Clash) → (found ≡ Some clash) ↔ ((clash.source ≡ source) × IsMissingHere entity clash)) (now : List Clash) where
  pub gained_none : found ≡ None → HaveGained now now (λ clash. (clash.source ≡ source) × IsMissingHere entity clash)
  gained_none none_ clash = ((λ among. inl among), (λ either. elim either [ inl there ↦ there | inr here ↦ absurd (none-some clash (sym none_ ∙ (exact clash).1 here)) ]))

  pub gained_some : (last : Clash) → found ≡ Some last → HaveGained now (now ++ last ∷ []) (λ clash. (clash.source ≡ source) × IsMissingHere entity clash)
  gained_some last is_found clash = (
    (λ among. elim (Contains-push_cases now last clash among) [ inl there ↦ inl there | inr same ↦ inr ((exact clash).0 (is_found ∙ ap Some same)) ]),
    (λ either. elim either [
      | inl there ↦ Contains-append_left now (last ∷ []) clash there
      | inr here ↦ subst (Contains (now ++ last ∷ [])) (same_Some last clash (sym is_found ∙ (exact clash).1 here)) (Contains-push now last)
    ]),
  )

pub gained_nothing : (old : List Clash) (source : ℕ) (entities : List Entity) → HaveGained old old (IsBelow source entities 0)
gained_nothing old source entities clash = ((λ among. inl among), (λ either. elim either [ inl before ↦ before | inr below ↦ let less = below.1.2 in absurd (omega (arith, less)) ]))

pub gained_all : (old now : List Clash) (source : ℕ) (entities : List Entity) (n : ℕ) → n ≡ length entities → HaveGained old now (IsBelow source entities n) → HaveGained old now (IsInsideSource source entities)
gained_all old now source entities n whole h = subst (λ n. HaveGained old now (IsBelow source entities n)) whole h

module _ (units : Units) (n : ℕ) (unit : TypedUnit) (at : slice_get units n ≡ Some unit) (now new : List Clash) (h : (clash : Clash) → Contains now clash ↔ IsBelowSource units n clash) (gain : HaveGained now new (IsInsideSource n unit.entities)) where
  pub sources_more : (clash : Clash) → Contains new clash ↔ IsBelowSource units (n + 1) clash
  sources_more clash = (
    (λ among. elim ((gain clash).0 among) [
      | inl before ↦ let k = (h clash).0 before in (one_more k.0, k.1)
      | inr here ↦ (subst (λ s. s < n + 1) (sym here.0) (this_one n), (unit, ap (slice_get units) here.0 ∙ at, here.1))
    ]),
    (λ below. (gain clash).1 (elim (eq-or-lt_of_le (at_most below.0)) [
      | inl last ↦
          let same = same_Some below.1.0 unit (sym below.1.1 ∙ ap (slice_get units) last ∙ at) in
          inr (last, subst (λ u. Any (λ entity. IsMissingHere entity clash) u.entities) same below.1.2)
      | inr less ↦ inl ((h clash).1 (less, below.1))
    ])),
  )

pub no_sources : (units : Units) (clash : Clash) → Contains [] clash ↔ IsBelowSource units 0 clash
no_sources units clash = ((λ among. let less = among.1 in absurd (omega (arith, less))), (λ below. let less = below.0 in absurd (omega (arith, less))))

pub all_sources : (units : Units) (now : List Clash) (n : ℕ) → n ≡ length units → ((clash : Clash) → Contains now clash ↔ IsBelowSource units n clash) → (clash : Clash) → Contains now clash ↔ IsMissingInside units clash
all_sources units now n whole h clash = (
  (λ among. ((h clash).0 among).1),
  (λ missing. (h clash).1 (subst (λ n. clash.source < n) (sym whole) (slice_get_within units clash.source missing.0 missing.1), missing)),
)
