-- What the code is told of an initialiser, in the words of the rules.
use Rattle.std.specs.Prelude.{◌≡◌, IfSome, option_map}
use Rattle.lk_types.specs.Table.{Table, IsKnown}
use Rattle.lk_typed.specs.InitialiserRules as spec
use Rattle.lk_typed.specs.Meaning.{meaning, meaning_of, IsKnownType}
use Rattle.lk_check_decl.specs.Breaches.{told}
use Rattle.lk_check_decl.specs.declared.initialisers.Braces.{Braces}
use Rattle.lk_check_decl.specs.declared.initialisers.Seen.{Seen}
use Rattle.lk_check_decl.specs.declared.initialisers.Target.{Target}

-- the types that it speaks of are in the table
pub record IsKnownSeen (table : Table) (seen : Seen) : Type 0 where
  pub type : IsKnownType table seen.ty
  pub word : IfSome seen.word (IsKnown table)

-- it tells of the same expression, with the code of its conversion
pub record IsSeen (table : Table) (seen : Seen) (x : spec.Seen) : Type 0 where
  pub type : meaning_of table seen.ty ≡ x.type
  pub text : seen.text ≡ x.text
  pub word : option_map (meaning table) seen.word ≡ x.word
  pub conversion : seen.conversion ≡ told x.conversion
  pub constant : seen.is_constant ≡ x.is_constant

abbrev pub object_in : Table → Target → spec.Object
object_in table target =
    record { type = meaning table target.ty; is_inner = target.is_inner; is_static = target.is_static }

abbrev pub braces_of : Braces → spec.Braces
braces_of braces =
    record { entries = braces.entries; has_designator = braces.has_designator; text = braces.text }
