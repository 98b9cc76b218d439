use Rattle.lk_link.specs.Clashes.{HaveGained}
use Rattle.lk_link.proofs.Gaining.{IsBelow}
use Rattle.lk_link.proofs.missing.push_missing.Given as goal

abbrev pub invariant-loop-entity : goal.invariant-loop-entity
invariant-loop-entity l = HaveGained l.initial.clashes.items l.clashes.items (IsBelow l.source l.entities l.entity-index)
