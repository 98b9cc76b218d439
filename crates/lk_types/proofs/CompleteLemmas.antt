-- What is kept stays true when a struct is completed.
use Rattle.std.proofs.Common.{◌≡◌, ◌∙◌, ◌<◌, ◌⊎◌, inl, inr, ℕ, zero, suc, false, List, [], ◌∷◌, length, map, refl, sym, ap, subst, arith, All, Option, Some, None}
use Rattle.std.specs.List.{slice_get}
use Rattle.std.specs.Option.{option_map}
use Rattle.std.specs.Prelude.{unwrap_or, slice_set}
use Rattle.std.proofs.lemmas.Bool.{false≢true}
use Rattle.std.proofs.lemmas.List.{length-map, length-set}
use Rattle.std.proofs.lemmas.List.Elements.{All-weaker, All-map}
use Rattle.std.proofs.lemmas.Option.{none-some, same_Some, slice_get-map}
use Rattle.lk_types.specs.Building.{IsTable, IsType, IsLonger, IsClosed, IsForm, IsMadeOf, CanComplete, IsPartOfObjects, types_of}
use Rattle.lk_types.specs.Kept.{table_of, AreKept, kept_size, size_by, IsSized}
use Rattle.lk_types.specs.Sizes.{size_at, form_size, fields_size, is_over}
use Rattle.lk_types.specs.Table.{Table, type_at, members_of, is_open, struct_of, IsKnown}
use Rattle.lk_types.specs.Walks.{fields, branches}
use Rattle.lk_types.specs.declared.c_type.CType.{CType}
use Rattle.lk_types.specs.declared.c_type.CType.TheVariants.{Void, Int, ThreadId, Mutex, Cond, Pointer, Array, Struct, Function, Opaque}
use Rattle.lk_types.specs.declared.facts.StructEntry.{StructEntry}
use Rattle.lk_types.specs.declared.facts.TypeFacts.{TypeFacts}
use Rattle.lk_types.specs.declared.member.StructMember.{StructMember}
use Rattle.lk_types.specs.declared.size.TypeSize.{TypeSize}
use Rattle.lk_types.proofs.ClosedLemmas.{closed_members}
use Rattle.lk_types.proofs.Entries.{OfParts}
use Rattle.lk_types.proofs.Fuel.{size_at_is}
use Rattle.lk_types.proofs.GrowLemmas.{IsOwn, type_grown, size_same, holds_struct_same, closed_same, parts_same, parts_size_same}
use Rattle.lk_types.proofs.KeptLemmas.{known_got, type_at_is}
use Rattle.lk_types.proofs.OrderLemmas.{ordered_completed, sized_closed}
use Rattle.lk_types.proofs.PartLemmas.{of_fields}
use Rattle.lk_types.proofs.RestLemmas.{longer_rest, rest_table, parts_rest, sized_grown}
use Rattle.lk_types.proofs.StructLemmas.{sized_structs}

-- reading after a write
set_here : {X : Type 0} (xs : List X) (s : ℕ) (x : X) → s < length xs → slice_get (slice_set xs s x) s ≡ Some x
set_here [] s x within = absurd (omega arith)
set_here (y ∷ xs) zero x within = refl
set_here (y ∷ xs) (suc s) x within = set_here xs s x (omega arith)

set_there : {X : Type 0} (xs : List X) (s r : ℕ) (x : X) → (s ≡ r → ⊥) → slice_get (slice_set xs s x) r ≡ slice_get xs r
set_there [] s r x apart = refl
set_there (y ∷ xs) zero zero x apart = absurd (apart refl)
set_there (y ∷ xs) zero (suc r) x apart = refl
set_there (y ∷ xs) (suc s) zero x apart = refl
set_there (y ∷ xs) (suc s) (suc r) x apart = set_there xs s r x (λ is. apart (ap suc is))

pub map-set : {X Y : Type 0} (f : X → Y) (xs : List X) (s : ℕ) (x : X) → map f (slice_set xs s x) ≡ slice_set (map f xs) s (f x)
map-set f [] s x = refl
map-set f (y ∷ xs) zero x = refl
map-set f (y ∷ xs) (suc s) x = ap (λ ys. f y ∷ ys) (map-set f xs s x)

same_or : (s r : ℕ) → (s ≡ r) ⊎ (s ≡ r → ⊥)
same_or zero zero = inl refl
same_or zero (suc r) = inr (λ is. absurd (omega arith))
same_or (suc s) zero = inr (λ is. absurd (omega arith))
same_or (suc s) (suc r) = elim (same_or s r) [ inl h ↦ inl (ap suc h) | inr h ↦ inr (λ is. h (omega arith)) ]

pub struct_is : (form : CType) (s : ℕ) → struct_of form ≡ Some s → form ≡ Struct s
struct_is Void s is = absurd (none-some s is)
struct_is (Int kind) s is = absurd (none-some s is)
struct_is ThreadId s is = absurd (none-some s is)
struct_is Mutex s is = absurd (none-some s is)
struct_is Cond s is = absurd (none-some s is)
struct_is (Pointer t) s is = absurd (none-some s is)
struct_is (Array t n) s is = absurd (none-some s is)
struct_is (Struct r) s is = ap Struct (same_Some r s is)
struct_is (Function result params dots) s is = absurd (none-some s is)
struct_is (Opaque n) s is = absurd (none-some s is)

module _ (types : List (CType × TypeFacts)) (classes : List (CType × ℕ)) (structs : List StructEntry) (parts : List ℕ) (kept : AreKept types classes structs (table_of types structs parts))
    (s : ℕ) (members : List StructMember) (size : TypeSize) (ok : CanComplete (table_of types structs parts) s members) (size_is : size ≡ fields_size (table_of types structs parts) (types_of members)) where
  abbrev old : Table
  old = table_of types structs parts

  abbrev entry' : StructEntry
  entry' = record { members = members; size = size }

  abbrev pub structs' : List StructEntry
  structs' = slice_set structs s entry'

  abbrev new : Table
  new = table_of types structs' parts

  good : IsTable old
  good = kept.table_is

  within : s < length structs
  within = omega (arith, ok.known, length-map structs (λ entry. entry.members))

  members_at : (ss : List StructEntry) (r : ℕ) → slice_get (map (λ entry. entry.members) ss) r ≡ option_map (λ entry. entry.members) (slice_get ss r)
  members_at ss r = slice_get-map (λ entry. entry.members) ss r

  members_same : (r : ℕ) → (s ≡ r → ⊥) → members_of new r ≡ members_of old r
  members_same r apart = ap (λ o. unwrap_or o []) (members_at structs' r ∙ ap (option_map (λ entry. entry.members)) (set_there structs s r entry' apart) ∙ sym (members_at structs r))

  members_here : members_of new s ≡ members
  members_here = ap (λ o. unwrap_or o []) (members_at structs' s ∙ ap (option_map (λ entry. entry.members)) (set_here structs s entry' within))

  same_count : length structs' ≡ length structs
  same_count = length-set structs s entry'

  pub completed_longer : IsLonger old new
  completed_longer = longer_rest old (map (λ entry. entry.members) structs') parts
      (omega (arith, same_count, length-map structs (λ entry. entry.members), length-map structs' (λ entry. entry.members)))
      (λ r shut. members_same r (λ is. false≢true (sym (ap (is_open old) is ∙ shut) ∙ ok.incomplete)))

  own : (form : CType) → (struct_of form ≡ Some s → ⊥) → IsOwn old new good completed_longer form
  own form apart r is = members_same r (λ same. apart (ap struct_of is ∙ ap Some (sym same)))

  objects : All (IsPartOfObjects old) (types_of members)
  objects = All-map (IsPartOfObjects old) (λ member. member.ty) members ok.parts

  member_parts : All (λ u. IsKnown old u × IsClosed old u) (types_of members)
  member_parts = closed_members old (types_of members) objects

  fields_same : fields_size new (types_of members) ≡ fields_size old (types_of members)
  fields_same = parts_size_same old new good completed_longer (fields 0 (types_of members)) (of_fields (λ u. IsKnown old u × IsClosed old u) (types_of members) 0 member_parts)

  struct_size : form_size new (Struct s) ≡ fields_size old (types_of members)
  struct_size = ap (λ ms. fields_size new (types_of ms)) members_here ∙ fields_same

  members_closed : All (IsClosed new) (types_of members)
  members_closed = λ k d inside. let part = member_parts k d inside in closed_same old new good completed_longer _ part.0 part.1

  struct_type : (t : ℕ) → type_at new t ≡ Struct s → IsType new t
  struct_type t is =
      subst (λ f. IsMadeOf new t f → IsForm new f → OfParts (IsClosed new) (branches new f) → is_over (form_size new f) ≡ false → IsType new t) is
      (λ made ok closed small. record { made_of = made; form = ok; closed = closed; small = small }) (
        omega (arith, within, same_count, length-map structs' (λ entry. entry.members)),
        subst (λ ms. All (IsKnown new) (types_of ms)) (sym members_here) (All-weaker (λ u. IsKnown old u × IsClosed old u) (IsKnown new) (λ u h. h.0) (types_of members) member_parts),
      )
      (omega (arith, within, same_count, length-map structs' (λ entry. entry.members)))
      (subst (λ ms. OfParts (IsClosed new) (fields 0 (types_of ms))) (sym members_here) (of_fields (IsClosed new) (types_of members) 0 members_closed))
      (ap is_over struct_size ∙ ok.small)

  -- whether a type is the struct that is completed
  is_it : (form : CType) → (struct_of form ≡ Some s) ⊎ (struct_of form ≡ Some s → ⊥)
  is_it form = of (struct_of form) refl
    where
      of : (o : Option ℕ) → struct_of form ≡ o → (struct_of form ≡ Some s) ⊎ (struct_of form ≡ Some s → ⊥)
      of None is = inr (λ it. none-some s (sym is ∙ it))
      of (Some r) is = elim (same_or s r) [ inl h ↦ inl (is ∙ ap Some (sym h)) | inr h ↦ inr (λ it. h (same_Some s r (sym it ∙ is))) ]

  types_are : (t : ℕ) → IsKnown old t → IsType new t
  types_are t known = elim (is_it (type_at old t)) [
    | inl it ↦ struct_type t (struct_is (type_at old t) s it)
    | inr apart ↦ type_grown old new good completed_longer t known (own (type_at old t) apart)
  ]

  sized_same : (t : ℕ) (form : CType) (fact : TypeFacts) → slice_get types t ≡ Some (form, fact) → kept_size structs' form fact ≡ Some (size_at new t)
  sized_same t form fact at = elim (is_it form) [
    | inl it ↦
        let is = struct_is form s it in
        let type = type_at_is types structs parts t form fact at in
        ap (size_by structs' fact) it ∙ ap (option_map (λ entry. entry.size)) (set_here structs s entry' within) ∙
        ap Some (size_is ∙ sym struct_size ∙ ap (form_size new) (sym (type ∙ is)) ∙ sym (size_at_is new t (types_are t (known_got types structs parts t form fact at)).small))
    | inr apart ↦
        let type = type_at_is types structs parts t form fact at in
        let known = known_got types structs parts t form fact at in
        other t form fact at apart ∙ kept.sized t form fact at ∙
        ap Some (sym (size_same old new good completed_longer t known (own (type_at old t) (λ it. apart (ap struct_of (sym type) ∙ it)))))
  ]
    where
      other : (t : ℕ) (form : CType) (fact : TypeFacts) → slice_get types t ≡ Some (form, fact) → (struct_of form ≡ Some s → ⊥) → kept_size structs' form fact ≡ kept_size structs form fact
      other t form fact at apart = of (struct_of form) refl
        where
          of : (o : Option ℕ) → struct_of form ≡ o → kept_size structs' form fact ≡ kept_size structs form fact
          of None is = ap (size_by structs' fact) is ∙ sym (ap (size_by structs fact) is)
          of (Some r) is = ap (size_by structs' fact) is ∙ ap (option_map (λ entry. entry.size)) (set_there structs s r entry' (λ same. apart (is ∙ ap Some (sym same)))) ∙ sym (ap (size_by structs fact) is)

  entry_sized : (r : ℕ) (entry : StructEntry) → slice_get structs' r ≡ Some entry → IsSized new entry
  entry_sized r entry at = elim (same_or s r) [
    | inl it ↦ subst (IsSized new) (same_Some entry' entry (sym (set_here structs s entry' within) ∙ ap (slice_get structs') it ∙ at)) (record {
      value = size_is ∙ sym fields_same;
      small = ap is_over size_is ∙ ok.small;
      parts = parts_same old new good completed_longer (types_of members) objects;
    })
    | inr apart ↦ sized_grown old new good completed_longer entry (kept.structs_sized r entry (sym (set_there structs s r entry' apart) ∙ at))
  ]

  pub kept_completed : AreKept types classes structs' new
  kept_completed = record {
    table_is = rest_table old (map (λ entry. entry.members) structs') parts good types_are;
    few_types = kept.few_types;
    few_structs = omega (arith, same_count, kept.few_structs);
    parts_are = parts_rest old (map (λ entry. entry.members) structs') parts kept.parts_are;
    holding = λ t form fact at. kept.holding t form fact at ∙ sym (holds_struct_same old new good completed_longer t (known_got types structs parts t form fact at));
    sized = sized_same;
    structs_sized = entry_sized;
    keyed = kept.keyed;
    keys = kept.keys;
    lesser = kept.lesser;
    ordered = ordered_completed old new s members refl members_here members_same ok (sized_closed old (sized_structs types classes structs parts kept)) good kept.ordered;
  }
