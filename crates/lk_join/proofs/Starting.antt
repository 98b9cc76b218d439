-- The program's `main`, where a source defines it.
use Rattle.std.proofs.Common.{◌≡◌, ◌∙◌, ◌<◌, ◌+◌, ◌≤◌, inl, inr, ℕ, List, Some, ap, arith, length, subst, sym}
use Rattle.std.proofs.lemmas.Option.{get_or_from_slice_get, same_Some, slice_get_within}
use Rattle.std.proofs.Math.Nat.{eq-or-lt_of_le}
use Rattle.std.specs.List.{Any, slice_get}
use Rattle.lk_link.specs.Clashes.{HasMain, IsMain}
use Rattle.lk_link.specs.Sources.{IsEntity, Units}
use Rattle.lk_typed.specs.declared.entity.Entity.{Entity}
use Rattle.lk_typed.specs.declared.whole.WholeEntity.{WholeEntity}
use Rattle.lk_types.proofs.KeptLemmas.{read_got}
use Rattle.lk_join.specs.Entities.{AreEntityRows}
use Rattle.lk_join.specs.Program.{IsMainFunction}
use Rattle.lk_join.proofs.Joined.{same_entity_at}

module _ (units : Units) (types rows : List (List ℕ)) (list : List WholeEntity) (h : AreEntityRows units types rows list (length units)) where
  -- a source's `main` is one of the program
  put_main : (s e : ℕ) (entity : Entity) → IsEntity units s e entity → s < length units → IsMain entity → Any IsMainFunction list
  put_main s e entity of less is =
      let number = h.known s e entity of less in
      let said = h.said s e number.0 number.1 in
      let kept = h.gathered.kept s e number.0 said.0 said.1 in
      let same = same_entity_at units s e said.1.entity entity said.1.of of in (
        number.0,
        kept.0,
        slice_get_within list number.0 kept.0 kept.1,
        get_or_from_slice_get list number.0 kept.0 kept.0 kept.1,
        record {
          is_function = kept.2.kind ∙ said.1.said.kind ∙ ap (λ (x : Entity). x.kind) same ∙ is.is_function;
          external = kept.2.linkage ∙ said.1.said.linkage ∙ ap (λ (x : Entity). x.linkage) same ∙ is.external;
          named = kept.2.name ∙ said.1.said.name ∙ ap (λ (x : Entity). x.name) same ∙ is.named;
        },
      )

  pub main_listed : HasMain units → Any IsMainFunction list
  main_listed has =
      let s = has.0 in
      let unit = has.1 in
      let e = has.4.0 in
      let entity = has.4.1 in
      put_main s e entity
      (record { unit = unit; at = read_got units s unit has.2 (sym has.3); stands = read_got unit.entities e entity has.4.2 (sym has.4.3) })
      has.2 has.4.4

-- none of the first entities is `main`
abbrev pub HasNoMain : List WholeEntity → ℕ → Type 0
HasNoMain entities n = (k : ℕ) (entity : WholeEntity) → k < n → slice_get entities k ≡ Some entity → IsMainFunction entity → ⊥

pub no_main_more : (entities : List WholeEntity) (n : ℕ) (entity : WholeEntity) → slice_get entities n ≡ Some entity → (IsMainFunction entity → ⊥) → HasNoMain entities n → HasNoMain entities (n + 1)
no_main_more entities n entity at other none_ k x less there is = elim (eq-or-lt_of_le (at_most k n less)) [
  | inl last ↦ other (subst IsMainFunction (same_Some x entity (sym there ∙ ap (slice_get entities) last ∙ at)) is)
  | inr before ↦ none_ k x before there is
]
  where
    at_most : (i n : ℕ) → i < n + 1 → i ≤ n
    at_most i n less = omega arith

pub never_none : (entities : List WholeEntity) (n : ℕ) → length entities ≤ n → Any IsMainFunction entities → HasNoMain entities n → ⊥
never_none entities n past has none_ =
    let within = has.2 in
    none_ has.0 has.1 (omega (arith, past, within)) (read_got entities has.0 has.1 has.2 (sym has.3)) has.4
