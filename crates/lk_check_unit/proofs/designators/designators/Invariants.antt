use Rattle.std.proofs.Common.{drop}
use Rattle.lk_check_unit.specs.Bodies.{Grows}
use Rattle.lk_check_unit.proofs.Designated.{AreLeft}
use Rattle.lk_check_unit.proofs.designators.designators.Given as goal

abbrev pub invariant-loop-d : goal.invariant-loop-d
invariant-loop-d l =
    record {
      grows : Grows l.initial.checker l.checker;
      left : AreLeft l.initial.checker l.checker l.are_typed l.ds (drop l.d-index l.ds);
    }
