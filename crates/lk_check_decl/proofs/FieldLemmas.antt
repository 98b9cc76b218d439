-- The members of a struct as the code has them, and as the rules have them.
use Rattle.std.proofs.Common.{◌≡◌, ◌∙◌, ◌<◌, ◌≤◌, ℕ, List, [], ◌∷◌, Some, None, map, length, refl, sym, ap}
use Rattle.std.specs.List.{slice_get}
use Rattle.std.specs.Option.{option_map}
use Rattle.std.specs.Prelude.{unwrap_or}
use Rattle.std.proofs.lemmas.Option.{slice_get-map, slice_get-get_or, slice_get_past, slice_get_read}
use Rattle.std.specs.Prelude.{slice_index_or}
use Rattle.lk_types.specs.Table.{Table}
use Rattle.lk_typed.specs.Env as env
use Rattle.lk_typed.specs.Env.{members_of}
use Rattle.lk_typed.specs.Meaning.{meaning}
use Rattle.lk_typed.specs.Typings.{field_in, members_in, structs_in}
use Rattle.lk_typed.specs.declared.members.Field.{Field}
use Rattle.lk_typed.specs.declared.members.Members.{Members}

-- what is read of a struct is what is known of it
pub members_there : (table : Table) (structs : List Members) (s : ℕ) (m : Members) → s < length structs → m ≡ slice_index_or structs s m →
    members_of (structs_in table structs) s ≡ members_in table m
members_there table structs s m within is =
    ap (λ o. unwrap_or o env.NotYet) (slice_get-map (members_in table) structs s ∙ ap (option_map (members_in table)) (slice_get_read structs (length structs) s m refl within is))

pub members_gone : (table : Table) (structs : List Members) (s : ℕ) → length structs ≤ s → members_of (structs_in table structs) s ≡ env.NotYet
members_gone table structs s past =
    ap (λ o. unwrap_or o env.NotYet) (slice_get-map (members_in table) structs s ∙ ap (option_map (members_in table)) (slice_get_past structs s past))

pub types_same : (table : Table) (fields : List Field) → map (λ field. meaning table field.ty) fields ≡ map (λ (field : env.Field). field.type) (map (field_in table) fields)
types_same table [] = refl
types_same table (f ∷ fields) = ap (λ types. meaning table f.ty ∷ types) (types_same table fields)

-- the type of a field
pub type_there : (table : Table) (fields : List Field) (n : ℕ) (d : Field) → n < length fields →
    Some (meaning table (slice_index_or fields n d).ty) ≡ slice_get (map (λ field. meaning table field.ty) fields) n
type_there table fields n d within =
    sym (slice_get-map (λ field. meaning table field.ty) fields n ∙ ap (option_map (λ (field : Field). meaning table field.ty)) (slice_get-get_or fields n d within))

pub type_gone : (table : Table) (fields : List Field) (n : ℕ) → length fields ≤ n → None ≡ slice_get (map (λ (field : Field). meaning table field.ty) fields) n
type_gone table fields n past =
    sym (slice_get-map (λ (field : Field). meaning table field.ty) fields n ∙ ap (option_map (λ (field : Field). meaning table field.ty)) (slice_get_past fields n past))
