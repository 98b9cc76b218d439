use Rattle.std.proofs.Common.{◌≡◌, ◌++◌, take, flat_map}
use Rattle.lk_report.specs.Report.{access_text}
use Rattle.lk_report.proofs.lines.Lines.push_all.Given as goal

-- the accesses so far are appended
abbrev pub invariant-loop-racing : goal.invariant-loop-racing
invariant-loop-racing l =
    l.out.items ≡ l.fn.out.items ++ flat_map (access_text l.self.files.now l.self.points.now) (take l.racing-index l.accesses)
