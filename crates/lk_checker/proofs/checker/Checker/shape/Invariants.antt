use Rattle.std.specs.Prelude.{length}
use Rattle.lk_checker.proofs.Shaping.{IsShaping}
use Rattle.lk_checker.proofs.checker.Checker.shape.Given as goal

abbrev pub invariant-loop-form : goal.invariant-loop-form
invariant-loop-form l = IsShaping l.fn.self l.self l.fn.forms.items l.fn.left l.fn.may_be_absent l.forms.items l.left

abbrev pub decreases-loop-form : goal.decreases-loop-form
decreases-loop-form l = length l.forms.items
