use Rattle.std.proofs.Common.{◌≡◌, ◌<◌, ◌∙◌, Some, get_or, length, refl, sym, ap, arith}
use Rattle.std.specs.Prelude.{slice_get}
use Rattle.std.proofs.lemmas.Option.{slice_get-get_or}
use Rattle.lk_graph.proofs.AgainLemmas.{growing_all, growing_more, growing_none}
use Rattle.lk_graph.proofs.again.grow.Goals as goal

pub loop-k-init : goal.loop-k-init
loop-k-init c = record { size = refl; growing = growing_none c.args.again.now.list c.args.enterings.now; small = omega arith }

pub returns-then-k-list : goal.returns-then-k-list
returns-then-k-list c =
    growing_all c.args.again.now.list c.args.enterings.now c.loop-k.again.list c.loop-k.k (omega (arith, c.if-k-list.true, ap length c.list.ensures.value)) c.loop-k.invariant.growing

pub loop-k-preserved : goal.loop-k-preserved
loop-k-preserved c =
    let k = c.loop-k.k in
    let list = c.list-in-loop-k.result.now in
    let within : k < length list = omega (arith, c.if-k-list.false, ap length c.list.ensures.value, ap length c.list-in-loop-k.ensures.value) in
    let at : slice_get c.loop-k.again.list k ≡ Some (get_or list k 0) = ap (λ xs. slice_get xs k) (sym c.list-in-loop-k.ensures.value) ∙ slice_get-get_or list k 0 within in
    record {
      size = c.in_ok-enter.ensures.size ∙ c.loop-k.invariant.size;
      growing = growing_more c.args.again.now.list c.args.enterings.now c.loop-k.again c.enter.new.again k (get_or list k 0) at c.in_ok-enter.ensures c.loop-k.invariant.growing;
      small = omega (arith, c.if-k-list.false, ap length c.list.ensures.value, c.list.ensures.small);
    }
