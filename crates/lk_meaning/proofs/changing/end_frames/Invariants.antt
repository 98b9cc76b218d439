use Rattle.std.proofs.Common.{◌≡◌, drop}
use Rattle.lk_meaning.specs.After.{after_frames}
use Rattle.lk_meaning.proofs.changing.end_frames.Given as goal

abbrev pub invariant-loop-frame : goal.invariant-loop-frame
invariant-loop-frame l = after_frames l.objects (drop l.frame-index l.frames) ≡ after_frames l.fn.objects l.frames
