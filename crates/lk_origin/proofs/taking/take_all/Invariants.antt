use Rattle.std.specs.Prelude.{⊤}
use Rattle.lk_origin.proofs.TakeLemmas.{TakenBelow}
use Rattle.lk_origin.proofs.taking.take_all.Given as goal

abbrev pub invariant-loop-a : goal.invariant-loop-a
invariant-loop-a l = TakenBelow (λ _. ⊤) l.from l.initial.into l.into l.a l.changed
