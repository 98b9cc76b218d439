use Rattle.std.proofs.Common.{drop}
use Rattle.lk_elaborator.specs.Leading.{GoesOn}
use Rattle.lk_elaborate.proofs.Declaring.{AreLeft}
use Rattle.lk_elaborate.proofs.PuttingDeclared.{AreDeclaratorsLeft}
use Rattle.lk_elaborate.proofs.declarations.declared.Given as goal

abbrev pub invariant-loop-d : goal.invariant-loop-d
invariant-loop-d l =
    record {
      goes_on : GoesOn l.initial.walk l.walk;
      left : AreLeft l.initial.walk l.walk l.node (drop l.d-index l.d-items) l.inits;
      put : AreDeclaratorsLeft l.scope l.initial.walk l.walk l.node (drop l.d-index l.d-items);
    }
