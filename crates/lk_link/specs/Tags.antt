-- Which struct completes each tag at file scope: a table that is filled source by source.
use Rattle.std.specs.Prelude.{◌≡◌, ℕ, List, Option, Some, None, if◌then◌else◌, nat_eq}
use Rattle.std.specs.Cmp.Lexicographic.{pointwise}
use Rattle.std.specs.Map.{lookup}
use Rattle.std.specs.Option.{option_or}
use Rattle.lk_link.specs.Sources.{Units, IsStruct, ComesBefore}
use Rattle.lk_link.specs.Structs.{IsComplete, IsFirstComplete}
use Rattle.lk_link.specs.declared.place.StructOf.{StructOf}

-- the struct at a tag
abbrev pub struct_at : List (List ℕ × StructOf) → List ℕ → Option StructOf
struct_at entries name = lookup (pointwise nat_eq name) entries

-- a struct was put at a tag, unless one was there
abbrev pub IsPutAt : (old new : List (List ℕ × StructOf)) → List ℕ → StructOf → Type 0
IsPutAt old new name s =
    (other : List ℕ) → struct_at new other
    ≡ option_or (struct_at old other) (if pointwise nat_eq name other then Some s else None)

-- the table has of each tag the first struct that completes it, among the structs before this one
pub record AreFirsts (units : Units) (entries : List (List ℕ × StructOf)) (source number : ℕ) : Type 0 where
  pub found : (name : List ℕ) (t : StructOf) → struct_at entries name ≡ Some t →
      IsFirstComplete units t name × IsStruct units t
  pub none : (name : List ℕ) → struct_at entries name ≡ None → (u : StructOf) → IsComplete units u name →
      ComesBefore u.source u.number source number → ⊥
