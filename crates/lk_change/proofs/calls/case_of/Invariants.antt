use Rattle.std.proofs.Common.{◌≡◌, drop}
use Rattle.std.specs.List.{position_from}
use Rattle.std.specs.Ordering.{int_eq}
use Rattle.lk_change.proofs.calls.case_of.Given as goal

abbrev pub invariant-loop-place : goal.invariant-loop-place
invariant-loop-place l = position_from (int_eq l.number) l.place (drop l.place l.cases) ≡ position_from (int_eq l.number) 0 l.cases
