use Rattle.std.proofs.Common.{drop}
use Rattle.lk_elaborator.specs.Leading.{Grows}
use Rattle.lk_elaborate.proofs.MakingStatics.{AreStaticsPut}
use Rattle.lk_elaborate.proofs.statics.static_parts.Given as goal

abbrev pub invariant-loop-given : goal.invariant-loop-given
invariant-loop-given l =
    record {
      grows : Grows l.initial.walk l.walk;
      made : AreStaticsPut l.initial.walk l.walk l.givens (drop l.given-index l.givens) l.parts.items;
    }
