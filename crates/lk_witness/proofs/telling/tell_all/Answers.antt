use Rattle.std.proofs.Common.{[], sym, subst, arith}
use Rattle.lk_witness.specs.Searched.{AreTold, none}
use Rattle.lk_witness.proofs.telling.tell_all.Goals as goal

pub loop-at-init : goal.loop-at-init
loop-at-init c = record {
  told = subst (λ t. AreTold c.args.files.now c.args.points.now [] t 0) (sym c.new.ensures.items) none;
  few = omega arith;
}
