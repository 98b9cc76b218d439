-- The state before the typed tree of a source is made.
use Rattle.std.specs.Prelude.{◌≡◌, []}
use Rattle.lk_checker.specs.declared.checker.Checked.{Checked}
use Rattle.lk_elaborator.specs.Gathering.{IsGathered}
use Rattle.lk_elaborator.specs.Rising.{IsRising}
use Rattle.lk_elaborator.specs.declared.elaborator.Elaborator.{Elaborator}

-- what was found of a source, with nothing of its tree
pub record Begins (checked : Checked) (walk : Elaborator) : Type 0 where
  pub types : walk.types ≡ checked.types
  pub names : walk.names ≡ checked.names
  pub outside : walk.outside ≡ checked.outside
  pub records : walk.records ≡ checked.records
  pub entities : IsGathered [] walk.entities
  pub rise : IsRising [] walk.entities
  pub objects : walk.objects.items ≡ []
  pub bodies : walk.bodies.items ≡ []
