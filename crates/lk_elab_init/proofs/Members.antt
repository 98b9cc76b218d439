-- Members of structs in a table of types.
use Rattle.std.proofs.Common.{ℕ, ◌≡◌, ◌<◌, ◌≤◌, ◌∙◌, All, Some, List, ap, get_or, length, map, slice_get, subst, sym}
use Rattle.std.proofs.lemmas.List.{length-map}
use Rattle.std.proofs.lemmas.Option.{get_or_from_slice_get, slice_get-get_or, slice_get-map, slice_get_within}
use Rattle.std.specs.Option.{option_map}
use Rattle.lk_types.specs.Building.{types_of}
use Rattle.lk_types.specs.Table.{Table, members_of}
use Rattle.lk_types.specs.declared.member.StructMember.{StructMember}
use Rattle.lk_typed.specs.Meaning.{meaning}

-- the type of a member stands among those of the struct
pub member_at : (table : Table) (s k : ℕ) (members : List StructMember) (member : StructMember) → members ≡ members_of table s → k < length members → member ≡ get_or members k member →
    slice_get (types_of (members_of table s)) k ≡ Some member.ty
member_at table s k members member is within got =
    let at : slice_get members k ≡ Some member = slice_get-get_or members k member within ∙ ap Some (sym got) in
    slice_get-map (λ m. m.ty) (members_of table s) k ∙ ap (option_map (λ m. m.ty)) (ap (λ ms. slice_get ms k) (sym is) ∙ at)

-- what holds of each element holds of one that was got
pub all_got : {X : Type 0} (P : X → Type 0) (xs : List X) (k : ℕ) (x : X) → All P xs → slice_get xs k ≡ Some x → P x
all_got P xs k x all got = subst P (get_or_from_slice_get xs k x x got) (all k x (slice_get_within xs k x got))

-- the type that a member means stands among those of the members
pub member_meant : (table : Table) (members : List StructMember) (k : ℕ) (member : StructMember) → k < length members → member ≡ get_or members k member →
    slice_get (map (meaning table) (types_of members)) k ≡ Some (meaning table member.ty)
member_meant table members k member within got =
    let at : slice_get members k ≡ Some member = slice_get-get_or members k member within ∙ ap Some (sym got) in
    slice_get-map (meaning table) (types_of members) k ∙ ap (option_map (meaning table)) (slice_get-map (λ m. m.ty) members k ∙ ap (option_map (λ m. m.ty)) at)

pub all_past : (table : Table) (members : List StructMember) (k : ℕ) → length members ≤ k → length (map (meaning table) (types_of members)) ≤ k
all_past table members k past = subst (λ n. n ≤ k) (sym (length-map (types_of members) (meaning table) ∙ length-map members (λ m. m.ty))) past
