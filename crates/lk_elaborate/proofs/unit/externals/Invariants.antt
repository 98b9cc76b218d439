use Rattle.std.proofs.Common.{drop}
use Rattle.lk_elaborate.proofs.InTurn.{AreLeft}
use Rattle.lk_elaborate.specs.Outside.{GoesOutside}
use Rattle.lk_elaborate.proofs.unit.externals.Given as goal

abbrev pub invariant-loop-d : goal.invariant-loop-d
invariant-loop-d l =
    record {
      goes : GoesOutside l.initial.walk l.walk;
      left : AreLeft l.initial.walk l.walk l.list (drop l.d-index l.list);
    }
