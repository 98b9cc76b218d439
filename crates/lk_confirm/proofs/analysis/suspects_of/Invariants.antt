use Rattle.std.proofs.Common.{◌≡◌, take}
use Rattle.lk_confirm.specs.Analysis.{suspects_of}
use Rattle.lk_confirm.proofs.analysis.suspects_of.Given as goal

-- the suspect locations of the verdicts so far
abbrev pub invariant-loop-verdict : goal.invariant-loop-verdict
invariant-loop-verdict l = l.suspects.items ≡ suspects_of (take l.verdict-index l.verdicts)
