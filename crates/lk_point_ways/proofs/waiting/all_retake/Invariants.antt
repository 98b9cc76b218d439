use Rattle.std.proofs.Common.{◌≡◌, Some, take}
use Rattle.std.specs.Prelude.{All}
use Rattle.lk_facts.specs.Program.{action_at}
use Rattle.lk_facts.specs.declared.action.Action.TheVariants.{Retake}
use Rattle.lk_point_ways.proofs.waiting.all_retake.Given as goal

abbrev pub invariant-loop-p : goal.invariant-loop-p
invariant-loop-p l = All (λ p. action_at l.points p ≡ Some (Retake l.mutex)) (take l.p-index l.list)
