use Rattle.std.proofs.Common.{drop}
use Rattle.std.specs.Prelude.{IfSome}
use Rattle.lk_types.specs.Table.{IsKnown}
use Rattle.lk_check_unit.specs.Bodies.{Grows}
use Rattle.lk_check_unit.proofs.Declares.{AreLeft}
use Rattle.lk_check_unit.proofs.declarations.init_declarators.Given as goal

abbrev pub invariant-loop-d : goal.invariant-loop-d
invariant-loop-d l =
    record {
      grows : Grows l.initial.checker l.checker;
      known : IfSome l.told.ty (IsKnown l.checker.types);
      left : AreLeft l.initial.checker l.checker l.scope l.told l.initial.pending l.pending l.is_hidden l.list (drop l.d-index l.list);
    }
