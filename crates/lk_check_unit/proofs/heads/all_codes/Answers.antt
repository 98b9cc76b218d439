use Rattle.std.proofs.Common.{◌++◌}
use Rattle.lk_check_decl.proofs.Told.{both_told}
use Rattle.lk_check_unit.proofs.heads.all_codes.Goals as goal

pub returns-then-third : goal.returns-then-third
returns-then-third c = λ x y z p q r. rw (c.if-first.true, c.if-second.true, c.if-third.true) (both_told (x ++ y) z (both_told x y p q c.lesser.ensures) r c.lesser-then-third.ensures)
