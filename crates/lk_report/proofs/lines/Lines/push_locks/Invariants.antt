use Rattle.std.proofs.Common.{◌≡◌, ◌++◌, take, flat_map, codes}
use Rattle.lk_report.specs.Names.{place_text}
use Rattle.lk_report.specs.Report.{AreLockPlaces}
use Rattle.lk_report.proofs.lines.Lines.push_locks.Given as goal

-- the others so far are appended
abbrev pub invariant-loop-lock : goal.invariant-loop-lock
invariant-loop-lock l =
    (l.out.items ≡ l.initial.out.items ++ flat_map (λ lock. codes ", " ++ place_text l.self.files.now l.self.points.now lock) (take l.lock-index l.others))
    × AreLockPlaces l.self.points.now l.others
