use Rattle.std.proofs.Common.{◌<◌, sym, subst}
use Rattle.std.proofs.lemmas.List.Elements.{All-contains, All-contains_itself, All-weaker}
use Rattle.lk_facts.specs.Labels.{is_global_at}
use Rattle.lk_sets.specs.Adding.{Adds}
use Rattle.lk_sets.proofs.Adding.{adds_as}
use Rattle.lk_match.specs.Summaries.{GivesSummary}
use Rattle.lk_match.specs.declared.passage.Passage.{Passage}
use Rattle.lk_match.proofs.SummaryLemmas.{matched_gives}
use Rattle.lk_match.proofs.summary.push_summaries.Goals as goal

pub push_matched-requires-clause-within : goal.push_matched-requires-clause-within
push_matched-requires-clause-within c =
    All-weaker _ (λ (leaving : Passage). leaving.from < c.args.levels.now.size)
    (λ x h. All-contains (λ (leaving : Passage). leaving.from < c.args.levels.now.size) c.args.leavings.now x c.requires.within ((c.of_site.ensures x).0 h).0)
    c.of_site.result.now (All-contains_itself c.of_site.result.now)

pub returns-in_ok-push_matched-in-Enter : goal.returns-in_ok-push_matched-in-Enter
returns-in_ok-push_matched-in-Enter c =
    let edge = c.args.edge.now in
    let adds =
    adds_as (matched_gives (is_global_at c.args.labels.now) c.args.levels.now c.args.leavings.now c.of_site.result.now c.in-Enter.site edge.from edge.to c.of_site.ensures) c.in_ok-push_matched-in-Enter.ensures in
    subst (λ mark. Adds (GivesSummary (is_global_at c.args.labels.now) c.args.levels.now c.args.leavings.now edge.from edge.to mark) c.args.found.now.items c.push_matched.new.found.items) (sym c.in-Enter.is) adds
