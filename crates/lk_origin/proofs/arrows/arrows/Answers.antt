use Rattle.std.proofs.Common.{inl, inr}
use Rattle.lk_sets.proofs.Adding.{adds_each_none, adds_each_read, adds_each_all}
use Rattle.lk_origin.specs.Arrows.{IsArrow}
use Rattle.lk_origin.proofs.arrows.arrows.Goals as goal

pub loop-edge-init : goal.loop-edge-init
loop-edge-init c = adds_each_none (IsArrow c.args.side) c.args.edges.now c.in_ok-arrows.arrows.items

pub loop-edge-preserved : goal.loop-edge-preserved
loop-edge-preserved c =
    adds_each_read (IsArrow c.args.side) c.args.edges.now c.loop-edge.edge-index c.edge-item.result c.loop-edge-test.true c.edge-item.is c.loop-edge.invariant c.in_ok-push_passing.ensures

pub returns : goal.returns
returns c = λ x.
    let adds = adds_each_all (IsArrow c.args.side) c.args.edges.now c.loop-edge.edge-index c.loop-edge-test.false c.loop-edge.invariant in
    let same = c.in_ok-ordered.ensures x in (
      λ h. elim ((adds.members x).0 (same.0 h)) [ inl along ↦ inl ((c.in_ok-arrows.ensures x).0 along) | inr passing ↦ inr passing ],
      λ h. same.1 ((adds.members x).1 (elim h [ inl along ↦ inl ((c.in_ok-arrows.ensures x).1 along) | inr passing ↦ inr passing ])),
    )
