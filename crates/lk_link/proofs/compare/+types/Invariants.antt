use Rattle.std.proofs.Common.{◌+◌, ◌*◌, take}
use Rattle.lk_types.proofs.RedeclareLemmas.{above, above_all}
use Rattle.lk_link.specs.Comparing.{IsAnsweredHere, AreAllOneHere}
use Rattle.std.specs.Prelude.{true}
use Rattle.lk_link.proofs.compare.+types.Given as goal

abbrev pub decreases-compare_all : goal.decreases-compare_all
decreases-compare_all l = 3 * above_all l.ts.now

abbrev pub decreases-compare_forms : goal.decreases-compare_forms
decreases-compare_forms l = 3 * above l.form.now + 1

abbrev pub decreases-compare_types : goal.decreases-compare_types
decreases-compare_types l = 3 * l.t + 2

abbrev pub invariant-compare_all-loop-place : goal.invariant-compare_all-loop-place
invariant-compare_all-loop-place l = IsAnsweredHere l.first l.second l.initial.pairs l.pairs (λ ps. AreAllOneHere l.first l.second ps l.rule (take l.place l.ts) (take l.place l.us)) true
