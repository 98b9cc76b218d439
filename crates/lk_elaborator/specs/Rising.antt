-- Names of entities that are declared in the order of their nodes.
use Rattle.std.specs.Prelude.{ℕ, ◌≤◌, ◌++◌, List, [], ◌∷◌}
use Rattle.std.specs.List.{Contains}
use Rattle.lk_elaborator.specs.Gathering.{Rise}
use Rattle.lk_elaborator.specs.declared.entities.Entities.{Entities}
use Rattle.lk_elaborator.specs.declared.entities.NamedEntity.{NamedEntity}

-- they stand in the order of their numbers, and none is declared behind the last one
pub record IsRising (ns : List NamedEntity) (entities : Entities) : Type 0 where
  pub rise : Rise ns
  pub last : (n : NamedEntity) → Contains ns n → n.ordinal ≤ entities.last

-- one name more
abbrev pub Rises : Entities → Entities → NamedEntity → Type 0
Rises old new n = (ns : List NamedEntity) → IsRising ns old → IsRising (ns ++ n ∷ []) new
