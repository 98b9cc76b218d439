use Rattle.std.proofs.Common.{drop}
use Rattle.lk_elaborate.proofs.ParametersMore.{ArePutSoFar}
use Rattle.lk_elaborate.proofs.parameters.put_typed.Given as goal

-- the parameters before this place are put
abbrev pub invariant-loop-place : goal.invariant-loop-place
invariant-loop-place l = ArePutSoFar l.initial.walk l.walk l.list l.types (drop l.place l.list) (drop l.place l.types)
