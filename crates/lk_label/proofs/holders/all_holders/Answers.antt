use Rattle.std.proofs.Common.{◌≡◌, length, subst, arith}
use Rattle.lk_facts.specs.declared.root.Holder.TheVariants.{Root, Slot, Result, Point}
use Rattle.lk_label.specs.Holding.{AreBelow}
use Rattle.lk_label.proofs.HolderLists.{root_more, roots_all, functions_all, result_more, results_all, points_all}
use Rattle.lk_label.proofs.holders.all_holders.Goals as goal

pub loop-r-preserved : goal.loop-r-preserved
loop-r-preserved c = rw c.in_ok-push.ensures.items (root_more c.args.points.now c.loop-r.r (omega (arith, c.loop-r-test.true, c.roots-r-end.ensures)) c.loop-r.invariant)

pub loop-f-init : goal.loop-f-init
loop-f-init c =
    let last : c.loop-r.r ≡ length c.args.points.now.roots = omega (arith, c.loop-r-test.false, c.loop-r.auto.r-end, c.roots-r-end.ensures) in
    roots_all c.args.points.now (subst (λ n. AreBelow c.args.points.now (Root n) c.loop-r.holders.items) last c.loop-r.invariant)

pub loop-f-2-init : goal.loop-f-2-init
loop-f-2-init c =
    let last : c.loop-f.f ≡ length c.args.points.now.functions = omega (arith, c.loop-f-test.false, c.loop-f.auto.f-end, c.functions-f-end.ensures) in
    functions_all c.args.points.now (subst (λ n. AreBelow c.args.points.now (Slot n 0) c.loop-f.holders.items) last c.loop-f.invariant)

pub loop-f-2-preserved : goal.loop-f-2-preserved
loop-f-2-preserved c =
    rw c.in_ok-push-2.ensures.items (result_more c.args.points.now c.loop-f-2.f (omega (arith, c.loop-f-2-test.true, c.functions-f-end-2.ensures)) c.loop-f-2.invariant)

pub loop-p-init : goal.loop-p-init
loop-p-init c =
    let last : c.loop-f-2.f ≡ length c.args.points.now.functions = omega (arith, c.loop-f-2-test.false, c.loop-f-2.auto.f-end, c.functions-f-end-2.ensures) in
    results_all c.args.points.now (subst (λ n. AreBelow c.args.points.now (Result n) c.loop-f-2.holders.items) last c.loop-f-2.invariant)

pub returns : goal.returns
returns c =
    let last : c.loop-p.p ≡ length c.args.points.now.points = omega (arith, c.loop-p-test.false, c.loop-p.auto.p-end, c.count-p-end.ensures.value) in
    points_all c.args.points.now (subst (λ n. AreBelow c.args.points.now (Point n) c.loop-p.holders.items) last c.loop-p.invariant)
