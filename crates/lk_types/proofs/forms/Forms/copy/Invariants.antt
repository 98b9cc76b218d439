use Rattle.std.proofs.Common.{◌≡◌, take}
use Rattle.lk_types.proofs.forms.Forms.copy.Given as goal

abbrev pub invariant-loop-place : goal.invariant-loop-place
invariant-loop-place g l = l.forms ≡ take l.place l.self
