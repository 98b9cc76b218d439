-- Points that are asked to give pointers.
use Rattle.std.specs.Prelude.{◌<◌, ◌↔◌, length}
use Rattle.lk_facts.specs.declared.program.Program.{Program}
use Rattle.lk_point_statics.specs.Backwards.{Meets}
use Rattle.lk_point_statics.specs.Behind.{IsBehind}
use Rattle.lk_point_statics.specs.declared.addresses.Asked.{Asked}

-- the next point is there, and the one before it gives its pointer exactly where the next one does
pub record IsAskedFor (program : Program) (asked next : Asked) : Type 0 where
  pub within : next.point < length program.points
  pub behind : IsBehind program asked.point next.point
  pub leads : Meets program next.wanted next.point ↔ Meets program asked.wanted asked.point
