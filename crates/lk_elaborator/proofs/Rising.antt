-- One name more, behind those before it.
use Rattle.std.proofs.Common.{◌≡◌, ◌∙◌, ◌<◌, ◌≤◌, ◌++◌, inl, inr, ℕ, List, [], ◌∷◌, refl, sym, subst, arith}
use Rattle.std.specs.List.{Contains}
use Rattle.std.proofs.lemmas.Option.{slice_get_within}
use Rattle.lk_typed.specs.Env.{Name}
use Rattle.lk_typed.specs.declared.entity.Linkage.{Linkage}
use Rattle.lk_typed.specs.declared.entity.Linkage.TheVariants as linkage
use Rattle.lk_elaborator.specs.Gathering.{IsGathered, Rise, entity_named}
use Rattle.lk_elaborator.specs.Rising.{IsRising}
use Rattle.lk_elaborator.specs.declared.entities.Entities.{Entities}
use Rattle.lk_elaborator.specs.declared.entities.NamedEntity.{NamedEntity}
use Rattle.lk_elaborator.proofs.Gathering.{at_split, contains_at, in_split}

pub rising : (ns : List NamedEntity) (n : NamedEntity) (old new : Entities) → old.last < n.ordinal → new.last ≡ n.ordinal → IsRising ns old → IsRising (ns ++ n ∷ []) new
rising ns n old new behind last was = record { rise = rise; last = up_to }
  where
    rise : Rise (ns ++ n ∷ [])
    rise i j a b order at_i at_j = elim (at_split ns n j b at_j) [
      | inl j_before ↦ elim (at_split ns n i a at_i) [
        | inl i_before ↦ was.rise i j a b order i_before j_before
        | inr at_last ↦ absurd (let h = slice_get_within ns j b j_before in omega (arith, h, order, at_last.0))
      ]
      | inr at_last ↦ elim (at_split ns n i a at_i) [
        | inl i_before ↦ subst (λ (y : NamedEntity). a.ordinal < y.ordinal) (sym at_last.1) (let h = was.last a (contains_at ns i a i_before) in omega (arith, h, behind))
        | inr both ↦ absurd (omega (arith, order, both.0, at_last.0))
      ]
    ]

    up_to : (m : NamedEntity) → Contains (ns ++ n ∷ []) m → m.ordinal ≤ new.last
    up_to m there = elim (in_split ns n m there) [
      | inl before ↦ let h = was.last m before in omega (arith, h, behind, last)
      | inr is ↦ subst (λ (y : NamedEntity). y.ordinal ≤ new.last) (sym is) (omega (arith, last))
    ]

-- which name was the last one doesn't matter to entities
pub with_last : (ns : List NamedEntity) (entities : Entities) (last : ℕ) → IsGathered ns entities → IsGathered ns (record entities { last = last })
with_last ns entities last are = record {
  alone = are.alone;
  all = are.all;
  none_else = are.none_else;
  numbered = are.numbered;
  one = are.one;
  first = are.first;
  named = λ n there linked. same n.linkage n.name ∙ are.named n there linked;
  none_named = λ l name e is. are.none_named l name e (sym (same l name) ∙ is);
  entities_rise = are.entities_rise;
  declarations_rise = are.declarations_rise;
}
  where
    same : (l : Linkage) (name : Name) → entity_named (record entities { last = last }) l name ≡ entity_named entities l name
    same linkage.External name = refl
    same linkage.Internal name = refl
    same linkage.None name = refl
