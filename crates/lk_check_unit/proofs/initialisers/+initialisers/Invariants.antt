use Rattle.std.proofs.Common.{drop}
use Rattle.lk_check_unit.specs.Bodies.{Grows}
use Rattle.lk_check_unit.specs.Initialising.{IsKnownTarget}
use Rattle.lk_check_unit.proofs.Entries.{AreLeft}
use Rattle.lk_check_unit.proofs.initialisers.+initialisers.Given as goal

abbrev pub invariant-entries-loop-e : goal.invariant-entries-loop-e
invariant-entries-loop-e l =
    record {
      grows : Grows l.initial.checker l.checker;
      target : IsKnownTarget l.checker.types l.target;
      left : AreLeft l.target l.text l.initial.checker l.checker l.are_typed l.number l.list (drop l.e-index l.list);
    }
