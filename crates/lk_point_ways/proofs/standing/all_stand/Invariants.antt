use Rattle.std.proofs.Common.{◌≡◌, Some, take}
use Rattle.std.specs.Prelude.{All}
use Rattle.lk_facts.specs.Program.{function_at}
use Rattle.lk_point_ways.proofs.standing.all_stand.Given as goal

abbrev pub invariant-loop-p : goal.invariant-loop-p
invariant-loop-p l = All (λ p. function_at l.points p ≡ Some l.function) (take l.p-index l.list)
