use Rattle.std.proofs.Common.{◌≤◌, length, subst, arith}
use Rattle.lk_flow.proofs.RowLists.{min_ends, passes_none, passes_next, passes_all}
use Rattle.lk_flow.proofs.rows.put_arguments.Goals as goal

pub loop-k-init : goal.loop-k-init
loop-k-init c = passes_none c.args.points.now c.args.labels.now.names c.args.site c.args.f c.args.args.now c.args.found.now

pub loop-k-preserved : goal.loop-k-preserved
loop-k-preserved c =
    passes_next c.args.points.now c.args.labels.now.names c.args.site c.args.f c.args.args.now c.parameters-parameters.result.now c.loop-k.k _ _ c.args.found.now c.loop-k.found c.put_sub.new.found c.parameters-parameters.ensures.value
    (omega (arith, c.loop-k-test.true, c.min-k-end.ensures)) (omega (arith, c.loop-k-test.true, c.min-k-end.ensures)) c.loop-k.invariant c.in_ok-put_sub.ensures

pub returns : goal.returns
returns c =
    let args = c.args.args.now in
    let parameters = c.parameters-parameters.result.now in
    passes_all c.args.points.now c.args.labels.now.names c.args.site c.args.f args parameters c.loop-k.k c.args.found.now c.loop-k.found c.parameters-parameters.ensures.value
    (min_ends (length args) (length parameters) c.loop-k.k (subst (λ n. n ≤ c.loop-k.k) c.min-k-end.ensures c.loop-k-test.false)) c.loop-k.invariant
