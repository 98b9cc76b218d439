use Rattle.std.proofs.Common.{drop}
use Rattle.lk_elaborator.specs.Leading.{Grows}
use Rattle.lk_elaborate.proofs.Telling.{AreLocalsPut}
use Rattle.lk_elaborate.proofs.local_inits.local_parts.Given as goal

abbrev pub invariant-loop-given : goal.invariant-loop-given
invariant-loop-given l =
    record {
      grows : Grows l.initial.walk l.walk;
      made : AreLocalsPut l.initial.walk l.walk l.givens (drop l.given-index l.givens) l.parts.items;
    }
