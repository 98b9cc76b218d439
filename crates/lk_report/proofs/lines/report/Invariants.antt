use Rattle.std.proofs.Common.{◌≡◌, take, flat_map}
use Rattle.lk_report.specs.Report.{location_text}
use Rattle.lk_report.proofs.lines.report.Given as goal

-- the locations so far are written
abbrev pub invariant-loop-verdict : goal.invariant-loop-verdict
invariant-loop-verdict l = l.text.items ≡ flat_map (location_text l.files l.points) (take l.verdict-index l.verdicts)
