-- The structs of the table of types, and what is known of them by their names.
use Rattle.std.specs.Prelude.{◌≡◌, false, List, [], map, All, ⊤}
use Rattle.lk_types.specs.Table.{Table, is_empty}
use Rattle.lk_types.specs.declared.member.StructMember.{StructMember}
use Rattle.lk_typed.specs.declared.members.Field.{Field}
use Rattle.lk_typed.specs.declared.members.Members.{Members}
use Rattle.lk_typed.specs.declared.members.Members.TheVariants.{NotYet, Begun, Known, Faulty}

abbrev pub member_of : Field → StructMember
member_of field = record { name = field.name; ty = field.ty }

-- the members that the table has of a struct: none where it is incomplete or faulty
abbrev pub listed : Members → List StructMember
listed NotYet = []
listed Begun = []
listed (Known fields) = map member_of fields
listed Faulty = []

-- where they are known there is one at least
abbrev pub HasMembers : Members → Type 0
HasMembers NotYet = ⊤
HasMembers Begun = ⊤
HasMembers (Known fields) = is_empty fields ≡ false
HasMembers Faulty = ⊤

-- the table has the members of exactly the structs that are known, under the same numbers
pub record AreListed (table : Table) (structs : List Members) : Type 0 where
  pub members : table.members ≡ map listed structs
  pub some : All HasMembers structs
