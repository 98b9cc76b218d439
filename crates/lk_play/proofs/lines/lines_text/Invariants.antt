use Rattle.std.proofs.Common.{◌≡◌, take}
use Rattle.lk_play.specs.Lines as spec
use Rattle.lk_play.proofs.lines.lines_text.Given as goal

-- the lines so far are written
abbrev pub invariant-loop-line : goal.invariant-loop-line
invariant-loop-line l = l.text.items ≡ spec.lines_text l.files l.points (take l.line-index l.lines)
