use Rattle.std.proofs.Common.{◌↔◌}
use Rattle.std.specs.List.{Contains}
use Rattle.lk_link.specs.declared.clash.Clash.{Clash}
use Rattle.lk_link.proofs.Gaining.{IsBelowSource}
use Rattle.lk_link.proofs.missing.missing_inside.Given as goal

abbrev pub invariant-loop-source : goal.invariant-loop-source
invariant-loop-source l = (clash : Clash) → Contains l.clashes.items clash ↔ IsBelowSource l.units l.source clash
