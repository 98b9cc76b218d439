-- The entities of a program, from those that were put.
use Rattle.std.proofs.Common.{◌≡◌, ◌∙◌, ◌⊎◌, ◌↔◌, inl, inr, ◌<◌, ℕ, List, Some, None, sym, ap, subst, length, arith}
use Rattle.std.proofs.lemmas.Bool.{cases_order}
use Rattle.std.proofs.lemmas.Option.{none-some, same_Some, slice_get_within}
use Rattle.std.specs.List.{slice_get}
use Rattle.lk_join.specs.Joining.{AreEntities, AreOneEntity, IsEntityHere, IsFirst as IsFirstHere, IsFirstPlace, IsOfSource, IsTypeHere, IsWholeEntity, units_of}
use Rattle.lk_join.specs.Joining.AreOneEntity.{same as same_entity, external}
use Rattle.lk_link.specs.Sources.{ComesBefore, IsDefinition, IsEntity, Units}
use Rattle.lk_typed.specs.declared.entity.Entity.{Entity}
use Rattle.lk_typed.specs.declared.unit.TypedUnit.{TypedUnit}
use Rattle.lk_typed.specs.declared.whole.Whole.{Whole}
use Rattle.lk_typed.specs.declared.whole.WholeEntity.{WholeEntity}
use Rattle.lk_join.specs.Entities.{AreEntityRows, AreOne, IsFirst, IsKept, IsNumberAt, IsSaidAt}
use Rattle.lk_join.specs.Sources.{AreLinked}
use Rattle.lk_join.proofs.Typing.{entities_at, row_at, source_at}

module _ (units : Units) where
  pub same_entity_at : (s e : ℕ) (a b : Entity) → IsEntity units s e a → IsEntity units s e b → a ≡ b
  same_entity_at s e a b h k =
      let unit = same_Some h.unit k.unit (sym h.at ∙ k.at) in
      same_Some a b (sym h.stands ∙ ap (λ (u : TypedUnit). slice_get u.entities e) unit ∙ k.stands)

module _ (whole : Whole) (units : Units) (types numbers : List (List ℕ)) (linked : AreLinked units types numbers whole.sources) (rows : AreEntityRows units types numbers whole.entities (length units)) where
  abbrev Says : (s e n : ℕ) → WholeEntity → Type 0
  Says s e n is = IsSaidAt units types numbers s e n is

  of_units : (s e : ℕ) (entity : Entity) → IsEntity (units_of whole) s e entity → IsEntity units s e entity
  of_units s e entity of = subst (λ us. IsEntity us s e entity) linked.units_are of

  of_whole : (s e : ℕ) (entity : Entity) → IsEntity units s e entity → IsEntity (units_of whole) s e entity
  of_whole s e entity of = subst (λ us. IsEntity us s e entity) (sym linked.units_are) of

  number_of : (s e n : ℕ) → IsEntityHere whole s e n → IsNumberAt numbers s e n
  number_of s e n h = (h.0.entities, entities_at whole units types numbers linked s h.0 h.1, h.2)

  here_of : (s e n : ℕ) (is : WholeEntity) → Says s e n is → IsEntityHere whole s e n
  here_of s e n is says =
      let source = source_at whole units types numbers linked s says.of.unit says.of.at in
      let row = same_Some says.number.0 source.0.entities (sym says.number.1 ∙ entities_at whole units types numbers linked s source.0 source.1) in
      (source.0, source.1, ap (λ r. slice_get r e) (sym row) ∙ says.number.2)

  -- the program's type of what is said
  type_of : (s e n : ℕ) (is : WholeEntity) → Says s e n is → (entity : Entity) → IsEntity units s e entity → (ty : ℕ) → ty ≡ is.ty → IsTypeHere whole s entity.ty ty
  type_of s e n is says entity of ty same =
      let source = source_at whole units types numbers linked s says.of.unit says.of.at in
      let row = same_Some says.row source.0.types (sym says.row_at ∙ row_at whole units types numbers linked s source.0 source.1) in
      let it = same_entity_at units s e says.entity entity says.of of in
      (source.0, source.1, ap (slice_get source.0.types) (ap (λ (x : Entity). x.ty) (sym it)) ∙ ap (λ r. slice_get r says.entity.ty) (sym row) ∙ says.said.type ∙ ap Some (sym same))

  one_entity : (s e z d n m : ℕ) (a b : WholeEntity) → Says s e n a → Says z d m b → AreOne s e z d a b → AreOneEntity whole s e z d
  one_entity s e z d n m a b x y (inl is) = same_entity is.0 is.1
  one_entity s e z d n m a b x y (inr one) =
      external (of_whole s e x.entity x.of) (of_whole z d y.entity y.of) (sym x.said.linkage ∙ one.first) (sym y.said.linkage ∙ one.second) (sym x.said.name ∙ one.name ∙ y.said.name)

  are_one : (s e z d n m : ℕ) (a b : WholeEntity) → Says s e n a → Says z d m b → AreOneEntity whole s e z d → AreOne s e z d a b
  are_one s e z d n m a b x y (same_entity source number) = inl (source, number)
  are_one s e z d n m a b x y (external {a = p} {b = q} of_p of_q outside also names) =
      let it = same_entity_at units s e x.entity p x.of (of_units s e p of_p) in
      let other = same_entity_at units z d y.entity q y.of (of_units z d q of_q) in
      inr (record {
        first = x.said.linkage ∙ ap (λ (v : Entity). v.linkage) it ∙ outside;
        second = y.said.linkage ∙ ap (λ (v : Entity). v.linkage) other ∙ also;
        name = x.said.name ∙ ap (λ (v : Entity). v.name) it ∙ names ∙ sym (y.said.name ∙ ap (λ (v : Entity). v.name) other);
      })

  one : (s e z d here there : ℕ) → IsEntityHere whole s e here → IsEntityHere whole z d there → (here ≡ there) ↔ AreOneEntity whole s e z d
  one s e z d here there h k =
      let a = rows.said s e here (number_of s e here h) in
      let b = rows.said z d there (number_of z d there k) in (
        (λ is. one_entity s e z d here there a.0 b.0 a.1 b.1 (rows.gathered.one_then s e z d here there a.0 b.0 a.1 b.1 is)),
        (λ are. rows.gathered.one_where s e z d here there a.0 b.0 a.1 b.1 (are_one s e z d here there a.0 b.0 a.1 b.1 are)),
      )

  definition_kept : (s e n : ℕ) (is here : WholeEntity) → Says s e n is → IsKept is here → (entity : Entity) → IsEntity units s e entity → IsDefinition entity → (here.defined ≡ Some (s, e)) × (here.ty ≡ is.ty)
  definition_kept s e n is here says k entity of defines = by k.definition
    where
      told : is.defined ≡ Some (s, e)
      told = says.said.defines (subst IsDefinition (sym (same_entity_at units s e says.entity entity says.of of)) defines)

      by : (is.defined ≡ None) ⊎ ((here.defined ≡ is.defined) × (here.ty ≡ is.ty)) → (here.defined ≡ Some (s, e)) × (here.ty ≡ is.ty)
      by (inl none) = absurd (none-some (s, e) (sym none ∙ told))
      by (inr both) = (both.0 ∙ told, both.1)

  kept : (s e : ℕ) (entity : Entity) → IsEntity (units_of whole) s e entity →
      (here : ℕ) × (is : WholeEntity) × IsEntityHere whole s e here × (slice_get whole.entities here ≡ Some is) × IsWholeEntity whole s e entity is
  kept s e entity of =
      let of_it = of_units s e entity of in
      let n = rows.known s e entity of_it (slice_get_within units s of_it.unit of_it.at) in
      let is = rows.said s e n.0 n.1 in
      let k = rows.gathered.kept s e n.0 is.0 is.1 in
      let it = same_entity_at units s e is.1.entity entity is.1.of of_it in (
        n.0,
        k.0,
        here_of s e n.0 is.0 is.1,
        k.1,
        record {
          name = k.2.name ∙ is.1.said.name ∙ ap (λ (x : Entity). x.name) it;
          linkage = k.2.linkage ∙ is.1.said.linkage ∙ ap (λ (x : Entity). x.linkage) it;
          kind = k.2.kind ∙ is.1.said.kind ∙ ap (λ (x : Entity). x.kind) it;
          defined = λ defines. (definition_kept s e n.0 is.0 k.0 is.1 k.2 entity of_it defines).0;
          type = λ defines. type_of s e n.0 is.0 is.1 entity of_it k.0.ty (definition_kept s e n.0 is.0 k.0 is.1 k.2 entity of_it defines).1;
        },
      )

  -- what stands before in the program stands before where the numbers are put
  first_here : (n s e : ℕ) → IsFirst Says n s e → IsFirstHere whole n s e
  first_here n s e first z d h before = let is = rows.said z d n (number_of z d n h) in first z d is.0 is.1 before

  first_said : (n s e : ℕ) → IsFirstHere whole n s e → IsFirst Says n s e
  first_said n s e first z d is says before = first z d (here_of z d n is says) before

  none_else : (here : ℕ) (is : WholeEntity) → slice_get whole.entities here ≡ Some is → IsOfSource whole here is
  none_else here is at =
      let f = rows.gathered.none_else here is at in
      record {
        source = f.source;
        number = f.number;
        entity = f.says.entity;
        of = of_whole f.source f.number f.says.entity f.says.of;
        at = here_of f.source f.number here f.is f.says;
        type = type_of f.source f.number here f.is f.says f.says.entity f.says.of is.ty f.type;
        defined = elim f.says.said.told [
          | inl none ↦ inl (f.defined ∙ none, first_here here f.source f.number (f.first (f.defined ∙ none)))
          | inr by ↦ inr (f.defined ∙ by.0, by.1)
        ];
      }

  order : (here there s e z d : ℕ) → IsFirstPlace whole here s e → IsFirstPlace whole there z d → (here < there) ↔ ComesBefore s e z d
  order here there s e z d h k =
      let a = rows.said s e here (number_of s e here h.at) in
      let b = rows.said z d there (number_of z d there k.at) in
      let first = first_said here s e h.first in
      let other = first_said there z d k.first in
      ((λ less. forward a b first other less), (λ before. rows.gathered.order s e z d here there a.0 b.0 a.1 b.1 first other before))
    where
      forward : (a : (is : WholeEntity) × Says s e here is) (b : (is : WholeEntity) × Says z d there is) → IsFirst Says here s e → IsFirst Says there z d → here < there → ComesBefore s e z d
      forward a b first other less = by (cases_order s z) (cases_order e d)
        where
          after : ComesBefore z d s e → ⊥
          after before = let more = rows.gathered.order z d s e there here b.0 a.0 b.1 a.1 other first before in omega (arith, more, less)

          by : (s ≡ z) ⊎ ((s < z) ⊎ (z < s)) → (e ≡ d) ⊎ ((e < d) ⊎ (d < e)) → ComesBefore s e z d
          by (inr (inl before)) q = inl before
          by (inr (inr more)) q = absurd (after (inl more))
          by (inl same) (inr (inl before)) = inr (same, before)
          by (inl same) (inr (inr more)) = absurd (after (inr (sym same, more)))
          by (inl same) (inl also) =
              let number = rows.gathered.one_where s e z d here there a.0 b.0 a.1 b.1 (inl (same, also)) in absurd (omega (arith, number, less))

  pub are_entities : AreEntities whole
  are_entities = record { one = one; kept = kept; none_else = none_else; order = order }
