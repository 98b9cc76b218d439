-- The types of a program, from those that were put.
use Rattle.std.proofs.Common.{◌≡◌, ◌∙◌, ◌↔◌, ◌<◌, ℕ, List, [], Option, Some, None, All, arith, length, refl, sym, ap, subst}
use Rattle.std.proofs.lemmas.Option.{none-some, same_Some, slice_get-map}
use Rattle.std.specs.List.{slice_get, AllZip}
use Rattle.std.specs.Option.{option_map}
use Rattle.std.specs.Prelude.{unwrap_or}
use Rattle.lk_join.specs.Joining.{AreTypes, HasFormHere, IsMemberHere, IsTypeHere}
use Rattle.lk_join.specs.Joining.HasFormHere.{void as void_here, integer as integer_here, thread as thread_here, mutex as mutex_here, condition as condition_here, opaque as opaque_here, pointer as pointer_here, array as array_here, struct as struct_here, function as function_here}
use Rattle.lk_link.specs.Sources.{IsStruct, Units}
use Rattle.lk_link.specs.Structs.{Becomes, members_in, struct_in, types_in}
use Rattle.lk_link.specs.declared.place.StructOf.{StructOf}
use Rattle.lk_typed.specs.declared.unit.TypedUnit.{TypedUnit}
use Rattle.lk_typed.specs.declared.whole.Linked.{Linked}
use Rattle.lk_typed.specs.declared.whole.Whole.{Whole}
use Rattle.lk_types.specs.Table.{members_of}
use Rattle.lk_types.specs.declared.c_type.CType.{CType}
use Rattle.lk_types.specs.declared.c_type.CType.TheVariants.{Struct}
use Rattle.lk_types.proofs.SizeLemmas.{all_read}
use Rattle.lk_join.specs.Classes.{AreOneStruct}
use Rattle.lk_join.specs.Forms.{AreRowsOf, HasForm, HasPointer, IsHere, IsMember, IsPutAt}
use Rattle.lk_join.specs.Forms.HasForm.{void, integer, thread, mutex, condition, opaque, pointer, array, struct, function}
use Rattle.lk_join.specs.Sources.{AreLinked, AreTypesOf, number_in}
use Rattle.lk_join.proofs.Members.{has_members, in_program, number_at, source_of}
use Rattle.lk_join.proofs.Zips.{zip_at, zip_weaker}

unit_at : (units : Units) (s t : ℕ) (form : CType) → slice_get (types_in units s) t ≡ Some form → (unit : TypedUnit) × (slice_get units s ≡ Some unit) × (slice_get unit.types.types t ≡ Some form)
unit_at units s t form at = of (slice_get units s) refl at
  where
    of : (o : Option TypedUnit) → slice_get units s ≡ o → slice_get (unwrap_or (option_map (λ unit. unit.types.types) o) []) t ≡ Some form →
        (unit : TypedUnit) × (slice_get units s ≡ Some unit) × (slice_get unit.types.types t ≡ Some form)
    of None is at = absurd (none-some form at)
    of (Some unit) is at = (unit, is, at)

module _ (whole : Whole) (units : Units) (rows entities : List (List ℕ)) (linked : AreLinked units rows entities whole.sources) where
  pub source_at : (s : ℕ) (unit : TypedUnit) → slice_get units s ≡ Some unit → (source : Linked) × (slice_get whole.sources s ≡ Some source)
  source_at s unit at = of (slice_get whole.sources s) refl (sym (slice_get-map (λ source. source.unit) whole.sources s) ∙ ap (λ us. slice_get us s) linked.units_are ∙ at)
    where
      of : (o : Option Linked) → slice_get whole.sources s ≡ o → option_map (λ source. source.unit) (slice_get whole.sources s) ≡ Some unit → (source : Linked) × (slice_get whole.sources s ≡ Some source)
      of None is mapped = absurd (none-some unit (ap (option_map (λ source. source.unit)) (sym is) ∙ mapped))
      of (Some source) is mapped = (source, is)

  pub row_at : (s : ℕ) (source : Linked) → slice_get whole.sources s ≡ Some source → slice_get rows s ≡ Some source.types
  row_at s source at =
      ap (λ rs. slice_get rs s) (sym linked.types_are) ∙ slice_get-map (λ source. source.types) whole.sources s ∙ ap (option_map (λ source. source.types)) at

  pub entities_at : (s : ℕ) (source : Linked) → slice_get whole.sources s ≡ Some source → slice_get entities s ≡ Some source.entities
  entities_at s source at =
      ap (λ rs. slice_get rs s) (sym linked.entities_are) ∙ slice_get-map (λ source. source.entities) whole.sources s ∙ ap (option_map (λ source. source.entities)) at

  module _ (structs : List (List ℕ)) (s : ℕ) (source : Linked) (at : slice_get whole.sources s ≡ Some source) (here : List ℕ) (there : slice_get structs s ≡ Some here) where
    type_is : (t n : ℕ) → IsHere source.types t n → IsTypeHere whole s t n
    type_is t n is = (source, at, is)

    number_is : (a b : ℕ) → IsHere here a b → b ≡ number_in structs (struct_in s a)
    number_is a b is = sym (ap (λ o. unwrap_or (slice_get (unwrap_or o []) a) 0) there ∙ ap (λ o. unwrap_or o 0) is)

    form_is : {a b : CType} → HasForm source.types here a b → HasFormHere whole (number_in structs) s a b
    form_is void = void_here
    form_is integer = integer_here
    form_is thread = thread_here
    form_is mutex = mutex_here
    form_is condition = condition_here
    form_is opaque = opaque_here
    form_is (pointer {a} {b} is) = pointer_here (type_is a b is)
    form_is (array {a} {b} is) = array_here (type_is a b is)
    form_is (struct {a} {b} is) = subst (λ n. HasFormHere whole (number_in structs) s (Struct a) (Struct n)) (sym (number_is a b is)) struct_here
    form_is (function {a} {b} {ps} {qs} is each) = function_here (type_is a b is) (zip_weaker (IsHere source.types) (IsTypeHere whole s) type_is ps qs each)

  has_forms : (structs : List (List ℕ)) → AreRowsOf units structs whole.types rows (length units) → (s t : ℕ) (form : CType) → slice_get (types_in units s) t ≡ Some form →
      (here : ℕ) × (form_here : CType) × IsTypeHere whole s t here × (slice_get whole.types.types here ≡ Some form_here) × HasFormHere whole (number_in structs) s form form_here
  has_forms structs put s t form at =
      let unit = unit_at units s t form at in
      let source = source_at s unit.0 unit.1 in
      let here = put.each s unit.0 source.0.types unit.1 (row_at s source.0 source.1) in
      let one = zip_at (IsPutAt whole.types source.0.types here.0) unit.0.types.types source.0.types here.2 t form unit.2 in
      (one.0, one.2.form_here, (source.0, source.1, one.1), one.2.at, form_is structs s source.0 source.1 here.0 here.1 one.2.is)

  module _ (h : AreTypesOf units whole.types rows) where
    struct_below : (s : StructOf) → IsStruct units s → number_in h.structs s < length whole.types.members
    struct_below s is =
        let x = source_of units h.structs rows whole.types h.count h.numbers h.put h.table_is s.source is.unit is.at in
        let below = h.numbers.below s (number_in h.structs s) (x.here, x.here_at, number_at units h.structs rows whole.types h.count h.numbers h.put h.table_is s x is) in
        let within = h.within in
        omega (arith, below, within)

    one_struct : (s z r q : StructOf) → IsStruct units s → IsStruct units z → Becomes units s r → Becomes units z q → (number_in h.structs s ≡ number_in h.structs z) ↔ AreOneStruct units r q
    one_struct s z r q is also becomes_r becomes_q =
        let x = source_of units h.structs rows whole.types h.count h.numbers h.put h.table_is s.source is.unit is.at in
        let y = source_of units h.structs rows whole.types h.count h.numbers h.put h.table_is z.source also.unit also.at in
        h.numbers.one s z r q (number_in h.structs s) (number_in h.structs z) (x.here, x.here_at, number_at units h.structs rows whole.types h.count h.numbers h.put h.table_is s x is)
        (y.here, y.here_at, number_at units h.structs rows whole.types h.count h.numbers h.put h.table_is z y also) becomes_r becomes_q

    struct_members : (s r : StructOf) → IsStruct units s → Becomes units s r → AllZip (IsMemberHere whole r.source) (members_in units r) (members_of whole.types (number_in h.structs s))
    struct_members s r is becomes =
        let there = in_program units s r is becomes in
        let x = source_of units h.structs rows whole.types h.count h.numbers h.put h.table_is r.source there.known.unit there.known.at in
        let source = source_at r.source x.unit x.at in
        let row = same_Some x.row source.0.types (sym x.row_at ∙ row_at r.source source.0 source.1) in
        let zip = has_members units h.structs rows whole.types h.count h.numbers h.put h.table_is h.members s r is becomes x in
        zip_weaker (IsMember x.row) (IsMemberHere whole r.source) (λ a b one. (one.0, (source.0, source.1, subst (λ types. IsHere types a.ty b.ty) row one.1))) (members_in units r)
        (members_of whole.types (number_in h.structs s)) zip

    pub are_types : AreTypes whole
    are_types = record {
      ready = record { table_is = h.table_is; predeclared = h.predeclared };
      struct_of = number_in h.structs;
      structs = record {
        known = subst (λ us. (s : StructOf) → IsStruct us s → number_in h.structs s < length whole.types.members) (sym linked.units_are) struct_below;
        one = subst (λ us. (s z r q : StructOf) → IsStruct us s → IsStruct us z → Becomes us s r → Becomes us z q → (number_in h.structs s ≡ number_in h.structs z) ↔ AreOneStruct us r q) (sym linked.units_are) one_struct;
        members = subst (λ us. (s r : StructOf) → IsStruct us s → Becomes us s r → AllZip (IsMemberHere whole r.source) (members_in us r) (members_of whole.types (number_in h.structs s))) (sym linked.units_are) struct_members;
      };
      has = subst (λ us. (s t : ℕ) (form : CType) → slice_get (types_in us s) t ≡ Some form → (here : ℕ) × (form_here : CType) × IsTypeHere whole s t here × (slice_get whole.types.types here ≡ Some form_here) × HasFormHere whole (number_in h.structs) s form form_here)
          (sym linked.units_are) (has_forms h.structs h.put);
      pointers = λ s t here is. all_read (HasPointer whole.types) is.0.types t here (all_read (All (HasPointer whole.types)) rows s is.0.types h.pointers (row_at s is.0 is.1)) is.2;
    }
