-- The fields of a struct so far, while the table of types grows.
use Rattle.std.proofs.Common.{◌≡◌, ◌∙◌, ◌++◌, ℕ, List, [], ◌∷◌, map, sym, ap, subst, arith, All}
use Rattle.std.proofs.lemmas.List.Elements.{All-head, All-push, All-tail}
use Rattle.std.proofs.lemmas.List.{map-append}
use Rattle.lk_types.proofs.ClosedLemmas.{closed_complete}
use Rattle.lk_types.proofs.GrowLemmas.{form_grown, parts_size_same}
use Rattle.lk_types.proofs.PartLemmas.{of_fields}
use Rattle.lk_types.specs.Building.{IsClosed, IsLonger, IsPartOfObjects, IsTable}
use Rattle.lk_types.specs.Sizes.{fields_size, is_too_large}
use Rattle.lk_types.specs.Table.{Table, IsKnown}
use Rattle.lk_types.specs.Walks.{fields}
use Rattle.lk_types.specs.declared.c_type.CType.TheVariants.{Array}
use Rattle.lk_types.specs.declared.size.TypeSize.{TypeSize}
use Rattle.lk_typed.specs.Told.{MemberTold}
use Rattle.lk_typed.specs.Typings.{field_in}
use Rattle.lk_typed.specs.declared.members.Field.{Field}
use Rattle.lk_found.proofs.Completing.{fields_stay}
use Rattle.lk_found.proofs.Forming.{all_cons}
use Rattle.lk_found.specs.MembersOf.{AreMembers, HasFields, IsSizeWith}
use Rattle.lk_found.specs.declared.fields.MembersFound.{MembersFound}

module _ (old new : Table) (good : IsTable old) (longer : IsLonger old new) where
  part_stays : (t : ℕ) → IsPartOfObjects old t → IsPartOfObjects new t
  part_stays t part = form_grown old new good longer (Array t 0) part

  parts_of : (xs : List Field) → All (λ field. IsPartOfObjects old field.ty) xs → All (λ u. IsKnown old u × IsClosed old u) (map (λ field. field.ty) xs)
  parts_of [] all = λ k d within. absurd (omega (arith, within))
  parts_of (x ∷ xs) all =
      let part = All-head (λ (field : Field). IsPartOfObjects old field.ty) x xs all in
      all_cons (λ u. IsKnown old u × IsClosed old u) x.ty (map (λ field. field.ty) xs) (part.known, closed_complete old x.ty part.complete)
      (parts_of xs (All-tail (λ (field : Field). IsPartOfObjects old field.ty) x xs all))

  size_stays : (xs : List Field) → All (λ field. IsPartOfObjects old field.ty) xs → fields_size new (map (λ field. field.ty) xs) ≡ fields_size old (map (λ field. field.ty) xs)
  size_stays xs all =
      parts_size_same old new good longer (fields 0 (map (λ field. field.ty) xs)) (of_fields (λ u. IsKnown old u × IsClosed old u) (map (λ field. field.ty) xs) 0 (parts_of xs all))

  pub fields_grow : (found : MembersFound) → HasFields old found → HasFields new found
  fields_grow found has = record {
    parts = λ k d within. part_stays _ (has.parts k d within);
    size = has.size ∙ sym (size_stays found.fields has.parts);
    small = has.small;
  }

  pub fields_known : (xs : List Field) → All (λ field. IsPartOfObjects old field.ty) xs → All (λ field. IsKnown old field.ty) xs
  fields_known xs all = λ k d within. (all k d within).known

  pub same_fields : (found : MembersFound) → HasFields old found → map (field_in new) found.fields ≡ map (field_in old) found.fields
  same_fields found has = fields_stay old new good longer found.fields (fields_known found.fields has.parts)

  pub members_grow : (found : MembersFound) (told : MemberTold) → HasFields old found → AreMembers old found told → AreMembers new found told
  members_grow found told has are = record { fields = same_fields found has ∙ are.fields; sound = are.sound; holds_sizeof = are.holds_sizeof }

-- one more field
pub fields_push : (table : Table) (before after : MembersFound) (field : Field) (size : TypeSize) → HasFields table before → IsPartOfObjects table field.ty →
    IsSizeWith table before.fields field.ty size → after.fields ≡ before.fields ++ field ∷ [] → after.size ≡ size → HasFields table after
fields_push table before after field size has part with_it items sized = record {
  parts = subst (All (λ (f : Field). IsPartOfObjects table f.ty)) (sym items) (All-push (λ (f : Field). IsPartOfObjects table f.ty) before.fields field has.parts part);
  size = sized ∙ with_it.size ∙ ap (fields_size table) (sym (map-append (λ (f : Field). f.ty) before.fields (field ∷ []))) ∙ ap (λ xs. fields_size table (map (λ (f : Field). f.ty) xs)) (sym items);
  small = ap is_too_large sized ∙ with_it.small;
}

-- the fields are the same
pub fields_same : (table : Table) (before after : MembersFound) → HasFields table before → after.fields ≡ before.fields → after.size ≡ before.size → HasFields table after
fields_same table before after has items size = record {
  parts = subst (All (λ (f : Field). IsPartOfObjects table f.ty)) (sym items) has.parts;
  size = size ∙ has.size ∙ ap (λ fs. fields_size table (map (λ (f : Field). f.ty) fs)) (sym items);
  small = ap is_too_large size ∙ has.small;
}
