use Rattle.std.proofs.Common.{◌<◌, List, All, sym, subst}
use Rattle.lk_facts.specs.Labels.{is_global_at}
use Rattle.lk_facts.specs.PathTables.{IsEdgeWithin}
use Rattle.lk_sets.specs.Adding.{Adds}
use Rattle.lk_sets.proofs.Adding.{adds_each_read, adds_each_all}
use Rattle.lk_match.specs.Summaries.{GivesSummary}
use Rattle.lk_facts.specs.declared.edge.Edge.{Edge}
use Rattle.lk_match.specs.declared.summary.SummaryEdge.{SummaryEdge}
use Rattle.lk_match.specs.declared.passage.Passage.{Passage}
use Rattle.lk_match.proofs.SummaryLemmas.{summaries_are, summaries_within, leavings_within}
use Rattle.lk_match.proofs.summary.summaries.Goals as goal

pub push_summaries-requires-clause-within : goal.push_summaries-requires-clause-within
push_summaries-requires-clause-within c =
    let within = subst (λ count. All (IsEdgeWithin count) c.args.edges.now) (sym c.requires.size) c.requires.edges in
    subst (All (λ (leaving : Passage). leaving.from < c.args.levels.now.size)) (sym c.deref.ensures.value)
    (leavings_within c.args.edges.now (is_global_at c.args.labels.now) c.args.levels.now c.in_ok-leavings.leavings.items c.in_ok-leavings.ensures.each _ within)

pub loop-edge-preserved : goal.loop-edge-preserved
loop-edge-preserved c =
    let global = is_global_at c.args.labels.now in
    let e = c.edge-item.result in
    let Gives : List Passage → Edge → SummaryEdge → Type 0 = λ leavings e s. GivesSummary global c.args.levels.now leavings e.from e.to e.mark s in
    let adds = subst (λ leavings. Adds (Gives leavings e) c.loop-edge.found.items c.push_summaries.new.found.items) c.deref.ensures.value c.in_ok-push_summaries.ensures in
    adds_each_read (Gives c.in_ok-leavings.leavings.items) c.args.edges.now c.loop-edge.edge-index e c.loop-edge-test.true c.edge-item.is c.loop-edge.invariant adds

pub returns-clause-each : goal.returns-clause-each
returns-clause-each c =
    let global = is_global_at c.args.labels.now in
    let leavings = c.in_ok-leavings.leavings.items in
    let Gives : Edge → SummaryEdge → Type 0 = λ e s. GivesSummary global c.args.levels.now leavings e.from e.to e.mark s in
    summaries_are c.args.edges.now global c.args.levels.now leavings c.in_ok-leavings.ensures.each c.new-found.ensures.items
    (adds_each_all Gives c.args.edges.now c.loop-edge.edge-index c.loop-edge-test.false c.loop-edge.invariant)

pub returns-clause-within : goal.returns-clause-within
returns-clause-within c =
    let within = subst (λ count. All (IsEdgeWithin count) c.args.edges.now) (sym c.requires.size) c.requires.edges in
    summaries_within c.args.edges.now (is_global_at c.args.labels.now) c.args.levels.now c.in_ok-leavings.leavings.items c.in_ok-leavings.ensures.each _ within
    c.loop-edge.found.items (returns-clause-each c)
