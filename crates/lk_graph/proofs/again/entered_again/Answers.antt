use Rattle.std.proofs.Common.{◌<◌, All, length, subst, sym}
use Rattle.lk_graph.specs.Again.{AreEnterings}
use Rattle.lk_graph.specs.declared.again.Entering.{Entering}
use Rattle.lk_graph.proofs.AgainLemmas.{reached_is}
use Rattle.lk_graph.proofs.again.entered_again.Goals as goal

pub grow-requires : goal.grow-requires
grow-requires c =
    subst (λ n. All (λ (e : Entering). e.below < n) c.deref.result.now) (sym c.in_ok-put_sites.ensures.size)
    (subst (All (λ (e : Entering). e.below < length c.args.points.now.functions)) (sym c.deref.ensures.value) c.in_ok-enterings.ensures.in_range)

pub returns : goal.returns
returns c =
    let program = c.args.points.now in
    let are = subst (AreEnterings program (length program.points)) (sym c.deref.ensures.value) c.in_ok-enterings.ensures.members in
    let is = reached_is program c.put_sites.new.again.list c.in_ok-again.again.list c.deref.result.now c.in_ok-again.ensures.members c.in_ok-put_sites.ensures.sites are in
    λ f. (λ there. (is f).0 ((c.in_ok-grow.ensures f).0 there), λ h. (c.in_ok-grow.ensures f).1 ((is f).1 h))
