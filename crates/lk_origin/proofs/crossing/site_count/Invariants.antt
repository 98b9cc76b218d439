use Rattle.std.proofs.Common.{◌≤◌, ◌<◌, ◌^◌, All, take}
use Rattle.lk_match.specs.declared.passage.Passage.{Passage}
use Rattle.lk_origin.proofs.crossing.site_count.Given as goal

abbrev pub invariant-loop-entrance : goal.invariant-loop-entrance
invariant-loop-entrance l = record { bound : l.count ≤ 2 ^ 32; each : All (λ (x : Passage). x.site < l.count) (take l.entrance-index l.entrances) }
