use Rattle.std.proofs.Common.{take}
use Rattle.lk_found.specs.Specified.{breaches_in}
use Rattle.lk_checker.specs.Moves.{IsSame, KeepsAt}
use Rattle.lk_checker.proofs.checker.Checker.keep_all.Given as goal

abbrev pub invariant-loop-breach : goal.invariant-loop-breach
invariant-loop-breach l = IsSame l.fn.self l.self × KeepsAt l.fn.self l.self l.at (breaches_in (take l.breach-index l.breaches))
