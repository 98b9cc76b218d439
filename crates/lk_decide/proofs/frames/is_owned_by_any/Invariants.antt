use Rattle.std.proofs.Common.{◌≡◌, drop}
use Rattle.std.specs.List.{list_any}
use Rattle.lk_decide.specs.Frames.{is_owned_by}
use Rattle.lk_decide.proofs.frames.is_owned_by_any.Given as goal

abbrev pub invariant-loop-frame : goal.invariant-loop-frame
invariant-loop-frame l = list_any (is_owned_by l.state) (drop l.frame-index l.frames) ≡ list_any (is_owned_by l.state) l.frames
