-- What is put of a source that agrees with those before it may be told.
use Rattle.std.proofs.Common.{◌≡◌, ◌∙◌, ◌⊎◌, ◌+◌, inl, inr, ℕ, List, None, Some, ap, arith, sym}
use Rattle.std.proofs.lemmas.Bool.{cases_eq}
use Rattle.std.proofs.lemmas.Option.{same_Some}
use Rattle.std.specs.List.{slice_get}
use Rattle.lk_link.specs.Sources.{HaveOwnNames, IsDefinition}
use Rattle.lk_typed.specs.declared.entity.Entity.{Entity}
use Rattle.lk_typed.specs.declared.entity.Linkage.TheVariants.{External}
use Rattle.lk_typed.specs.declared.whole.WholeEntity.{WholeEntity}
use Rattle.lk_join.specs.Agreeing.{FitFrom, Fits, MayPut, MayTellOf}
use Rattle.lk_join.specs.Entities.{IsListed, IsSaid}
use Rattle.lk_join.specs.Entities.IsListed.{pushed, told}
use Rattle.lk_join.proofs.Saying.{push_cases, set_here, set_there, told_name}

-- what a source says of an entity that fits may be put
pub may_put : (list : List WholeEntity) (row : List ℕ) (place : ℕ × ℕ) (entity : Entity) (is : WholeEntity) → IsSaid row place entity is → Fits list entity → MayPut list is
may_put list row place entity is said fits n there at one =
    let tells = fits n there at one.first (sym said.linkage ∙ one.second) (one.name ∙ said.name) in
    record { kind = tells.kind ∙ sym said.kind; defined = by_definition tells said.told }
  where
    by_definition : MayTellOf entity there → (is.defined ≡ None) ⊎ ((is.defined ≡ Some place) × IsDefinition entity) → (is.defined ≡ None) ⊎ (there.defined ≡ None)
    by_definition tells (inl nothing) = inl nothing
    by_definition tells (inr is_defined) = inr (tells.defined is_defined.1)

-- another entity of the source fits then too, where it has another name
module _ (entity other : Entity) (apart : entity.linkage ≡ External → other.linkage ≡ External → entity.name ≡ other.name → ⊥) where
  still_fits : (now new : List WholeEntity) (is : WholeEntity) (number : ℕ) → is.linkage ≡ entity.linkage → is.name ≡ entity.name → IsListed now new is number → Fits now other → Fits new other
  still_fits now new is number linkage name (pushed none last new_is) fits n there at there_external other_external names =
      elim (push_cases now is there n (ap (λ l. slice_get l n) (sym new_is) ∙ at)) [
        | inl before ↦ fits n there before there_external other_external names
        | inr it ↦ absurd (apart (sym linkage ∙ ap (λ (x : WholeEntity). x.linkage) (sym it.1) ∙ there_external) other_external (sym name ∙ ap (λ (x : WholeEntity). x.name) (sym it.1) ∙ names))
      ]
  still_fits now new is number linkage name (told {there = old} {here = here} old_at one kind is_told new_is) fits n there at there_external other_external names =
      elim (cases_eq n number) [
        | inl same ↦
            let it = same_Some here there (sym (set_here now number old here old_at) ∙ ap (λ l. slice_get l number) (sym new_is) ∙ ap (slice_get new) (sym same) ∙ at) in
            absurd (apart (sym linkage ∙ one.second) other_external (sym name ∙ sym one.name ∙ sym (told_name is_told) ∙ ap (λ (x : WholeEntity). x.name) it ∙ names))
        | inr elsewhere ↦ fits n there (sym (ap (λ l. slice_get l n) new_is ∙ set_there now number n here elsewhere) ∙ at) there_external other_external names
      ]

-- so do all entities behind the one that was put
pub fit_behind : (entities : List Entity) → HaveOwnNames entities → (now new : List WholeEntity) (row : List ℕ) (place : ℕ × ℕ) (e : ℕ) (entity : Entity) (is : WholeEntity) (number : ℕ) →
    slice_get entities e ≡ Some entity → IsSaid row place entity is → IsListed now new is number → FitFrom now entities e → FitFrom new entities (e + 1)
fit_behind entities names now new row place e entity is number at said listed fits f other from other_at =
    still_fits entity other
    (λ external other_external same. omega (arith, from, names e f entity other at other_at external other_external same))
    now new is number said.linkage said.name listed (fits f other (omega (arith, from)) other_at)
