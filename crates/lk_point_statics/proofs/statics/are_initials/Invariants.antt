use Rattle.lk_facts.specs.Lowered.{IsInitial}
use Rattle.lk_point_statics.proofs.Beginning.{AllBefore}
use Rattle.lk_point_statics.proofs.statics.are_initials.Given as goal

abbrev pub invariant-loop-initial : goal.invariant-loop-initial
invariant-loop-initial l = AllBefore (IsInitial l.points) l.points.initials l.initial-index
