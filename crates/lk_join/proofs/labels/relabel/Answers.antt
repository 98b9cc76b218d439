use Rattle.std.proofs.Common.{◌+◌, ℕ, Vec, Global, arith, sym, subst}
use Rattle.lk_types.proofs.KeptLemmas.{read_got}
use Rattle.lk_join.proofs.Relabelling.{IsRelabelledBelow, below_hit, below_miss, relabelled_all}
use Rattle.lk_join.proofs.labels.relabel.Goals as goal
use Rattle.lk_join.proofs.labels.relabel.Goals.{then-index-other, else-index-other}

pub loop-place-preserved : goal.loop-place-preserved
loop-place-preserved c =
    let old = c.args.labels.now.items in
    let now = c.loop-place.labels.items in
    let n = c.loop-place.place in
    let x = c.index.result.now in
    let size = c.loop-place.invariant.size in
    let count = c.len-place-end.ensures in
    let test = c.loop-place-test.true in
    let at = read_got now n x (omega (arith, size, count, test)) c.index.ensures in
    let below = λ (labels : Vec ℕ Global). IsRelabelledBelow old labels.items c.args.kept c.args.other (n + 1) in
    elim c.if-index-other.branch [
      | then-index-other w ↦ subst below (sym w.labels-is) (below_hit old now c.args.kept c.args.other n c.loop-place.invariant x at w.if-index-other.true)
      | else-index-other w ↦ subst below (sym w.labels-is) (below_miss old now c.args.kept c.args.other n c.loop-place.invariant x at w.if-index-other.false)
    ]

pub returns : goal.returns
returns c =
    let count = c.len-place-end.ensures in
    let test = c.loop-place-test.false in
    relabelled_all c.args.labels.now.items c.loop-place.labels.items c.args.kept c.args.other c.loop-place.place (omega (arith, count, test)) c.loop-place.invariant
