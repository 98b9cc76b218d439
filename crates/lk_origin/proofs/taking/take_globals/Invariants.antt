use Rattle.std.proofs.Common.{◌≡◌, true}
use Rattle.lk_facts.specs.Labels.{is_global_at}
use Rattle.lk_origin.proofs.TakeLemmas.{TakenBelow}
use Rattle.lk_origin.proofs.taking.take_globals.Given as goal

abbrev pub invariant-loop-number : goal.invariant-loop-number
invariant-loop-number l = TakenBelow (λ x. is_global_at l.labels x ≡ true) l.from l.initial.into l.into l.number l.changed
