-- What a typed tree is made of behind the last external declaration.
use Rattle.std.specs.Prelude.{◌≡◌, ⊤, All, List, [], length}
use Rattle.lk_types.specs.Building.{IsLonger}
use Rattle.lk_types.specs.Table.{Table}
use Rattle.lk_typed.specs.Meaning.{IsReady}
use Rattle.lk_typed.specs.declared.members.Members.{Members}
use Rattle.lk_typed.specs.declared.members.Members.TheVariants as members
use Rattle.lk_typed.specs.declared.initialiser.StaticObject.{StaticObject}
use Rattle.lk_typed.specs.declared.unit.Body.{Body}
use Rattle.lk_typed.specs.declared.unit.TypedUnit.{TypedUnit}
use Rattle.lk_found.specs.Recorded.{Recorded}
use Rattle.lk_checker.specs.declared.checker.Checked.{Checked}
use Rattle.lk_elaborator.specs.Gathering.{AreFinished}
use Rattle.lk_elaborator.specs.declared.elaborator.Elaborator.{Elaborator}
use Rattle.lk_elaborator.specs.declared.entities.Entities.{Entities}
use Rattle.lk_elaborate.specs.declared.unit.Finished.{Finished}

-- a struct is complete, or was never defined
abbrev pub IsWhole : Members → Type 0
IsWhole members.NotYet = ⊤
IsWhole members.Begun = ⊥
IsWhole (members.Known fields) = ⊤
IsWhole members.Faulty = ⊥

-- each struct has a tag of its own, and is one of these
pub record HasWholeStructs (checked : Checked) : Type 0 where
  pub counted : length checked.records.tags ≡ length checked.names.structs
  pub whole : All IsWhole checked.names.structs

-- the entities of a source and its types, with the composites of theirs
pub record IsFinishedOf (types : Table) (entities : Entities) (records : Recorded)
    (is : Finished) : Type 0 where
  pub longer : IsLonger types is.types
  pub members : is.types.members ≡ types.members
  pub ready : IsReady types → IsReady is.types
  pub parts : is.types.parts ≡ []
  pub finished : IsReady types →
      AreFinished is.types.types records.first_uses entities.list.items is.entities.items

-- a typed tree of these types, entities, objects and bodies
pub record IsUnitOf (types : Table) (entities : Entities) (records : Recorded) (given : List StaticObject)
    (made : List Body) (typed : TypedUnit) : Type 0 where
  pub longer : IsLonger types typed.types
  pub members : typed.types.members ≡ types.members
  pub ready : IsReady types → IsReady typed.types
  pub parts : typed.types.parts ≡ []
  pub finished : IsReady types →
      AreFinished typed.types.types records.first_uses entities.list.items typed.entities
  pub tags : typed.structs ≡ records.tags
  pub objects : typed.objects ≡ given
  pub bodies : typed.bodies ≡ made

-- the tree of what was made
abbrev pub IsTreeOf : Elaborator → TypedUnit → Type 0
IsTreeOf walk = IsUnitOf walk.types walk.entities walk.records walk.objects.items walk.bodies.items
