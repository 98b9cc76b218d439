use Rattle.std.proofs.Common.{◌≡◌, ◌<◌, All, length, subst, sym, arith}
use Rattle.std.proofs.lemmas.List.Elements.{All-nil}
use Rattle.lk_graph.specs.Again.{AreEnterings, IsEnteringAt}
use Rattle.lk_graph.specs.declared.again.Entering.{Entering}
use Rattle.lk_graph.proofs.FoundLemmas.{below_more, below_none}
use Rattle.lk_graph.proofs.again.enterings.Goals as goal

pub loop-point-init : goal.loop-point-init
loop-point-init c = record {
  members = below_none (IsEnteringAt c.args.points.now) c.new-found.result.items c.new-found.ensures.items;
  in_range = subst (All (λ (e : Entering). e.below < length c.args.points.now.functions)) (sym c.new-found.ensures.items) (All-nil (λ (e : Entering). e.below < length c.args.points.now.functions));
}

pub loop-point-preserved : goal.loop-point-preserved
loop-point-preserved c = record {
  members = below_more (IsEnteringAt c.args.points.now) c.loop-point.point c.loop-point.found.items c.push_entering.new.found.items c.in_ok-push_entering.ensures.adds c.loop-point.invariant.members;
  in_range = c.in_ok-push_entering.ensures.in_range;
}

pub returns-clause-members : goal.returns-clause-members
returns-clause-members c =
    let end : c.loop-point.point ≡ length c.args.points.now.points = omega (arith, c.loop-point.auto.point-end, c.loop-point-test.false, c.count-point-end.ensures.value) in
    subst (λ n. AreEnterings c.args.points.now n c.loop-point.found.items) end c.loop-point.invariant.members
