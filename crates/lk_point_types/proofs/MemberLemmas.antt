-- The types of the members of structs.
use Rattle.std.proofs.Common.{◌≡◌, ◌<◌, ◌∙◌, ℕ, List, length, get_or, map, ap, subst, sym}
use Rattle.std.specs.Option.{option_map}
use Rattle.std.specs.Prelude.{All}
use Rattle.std.proofs.lemmas.Option.{slice_get-map, slice_get-get_or}
use Rattle.lk_facts.proofs.Sets.{All-got}
use Rattle.lk_types.specs.Building.{IsMadeOf}
use Rattle.lk_types.specs.Table.{Table, IsKnown, members_of}
use Rattle.lk_types.specs.declared.c_type.CType.{CType}
use Rattle.lk_types.specs.declared.c_type.CType.TheVariants.{Struct}
use Rattle.lk_types.specs.declared.member.StructMember.{StructMember}

-- a member's type is in the table
pub member_known : (table : Table) (t number k : ℕ) (form : CType) (members : List StructMember) (d : StructMember) →
    IsMadeOf table t form → form ≡ Struct number → members ≡ members_of table number → k < length members → IsKnown table (get_or members k d).ty
member_known table t number k form members d made is same within =
    let made' : IsMadeOf table t (Struct number) = subst (IsMadeOf table t) is made in
    let all = subst (λ ms. All (IsKnown table) (map (λ m. m.ty) ms)) (sym same) made'.1 in
    All-got (IsKnown table) (map (λ (m : StructMember). m.ty) members) k (get_or members k d).ty all
    (slice_get-map (λ (m : StructMember). m.ty) members k ∙ ap (option_map (λ (m : StructMember). m.ty)) (slice_get-get_or members k d within))
