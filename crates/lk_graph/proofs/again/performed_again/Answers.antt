use Rattle.std.proofs.Common.{◌≡◌, length, subst, arith}
use Rattle.lk_sets.specs.Ids.{has_id, IsSetOf}
use Rattle.lk_graph.proofs.AgainLemmas.{many_lists}
use Rattle.lk_graph.proofs.again.performed_again.Goals as goal

pub returns : goal.returns
returns c =
    let end : c.loop-point.point ≡ length c.args.points.now.points = omega (arith, c.loop-point.auto.point-end, c.loop-point-test.false, c.count-point-end.ensures.value) in
    many_lists c.args.points.now c.args.cycles.now c.args.again.now.list c.loop-point.ids.items c.in_ok-many.many c.loop-point.point end
    c.requires.cycles c.requires.again c.loop-point.invariant
    (subst (λ ids. IsSetOf (has_id ids) c.in_ok-many.many) c.deref.ensures.value c.in_ok-many.ensures)
