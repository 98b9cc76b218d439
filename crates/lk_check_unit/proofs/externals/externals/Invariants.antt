use Rattle.std.proofs.Common.{drop}
use Rattle.lk_check_unit.specs.Bodies.{Grows}
use Rattle.lk_check_unit.proofs.Sources.{AreLeft}
use Rattle.lk_check_unit.proofs.externals.externals.Given as goal

abbrev pub invariant-loop-d : goal.invariant-loop-d
invariant-loop-d l =
    record {
      grows : Grows l.initial.checker l.checker;
      left : AreLeft l.initial.checker l.checker l.initial.pending l.pending l.list (drop l.d-index l.list);
    }
