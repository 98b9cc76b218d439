use Rattle.std.proofs.Common.{sym, subst}
use Rattle.std.proofs.lemmas.Result.{IfOk-weaker}
use Rattle.lk_facts.specs.EdgeRules.{AreEdges}
use Rattle.lk_facts.specs.PathTables.{AreEdgesWithin}
use Rattle.lk_flow.proofs.ClosingLists.{edges_within}
use Rattle.lk_flow.proofs.all_edges.edges.Goals as goal

pub returns-clause-edges : goal.returns-clause-edges
returns-clause-edges c =
    IfOk-weaker c.listed.result _ _ (λ _ same. subst (AreEdges c.args.points.now c.args.labels.now.names) (sym same) c.in_ok-close.ensures) c.listed.ensures

pub returns-clause-within : goal.returns-clause-within
returns-clause-within c =
    let labels = c.args.labels.now in
    let within = edges_within c.args.points.now labels c.requires _ c.count-labels.ensures.in_range.named c.in_ok-close.ensures in
    IfOk-weaker c.listed.result _ _ (λ _ same. subst (AreEdgesWithin labels) (sym same) within) c.listed.ensures
