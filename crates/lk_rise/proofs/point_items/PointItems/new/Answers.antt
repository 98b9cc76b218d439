use Rattle.std.proofs.Common.{◌≡◌, ◌<◌, ◌+◌, ◌∙◌, length, sym, ap, subst, All}
use Rattle.lk_facts.specs.declared.program.Program.{Program}
use Rattle.lk_rise.specs.Correlations.{AreInRange}
use Rattle.lk_rise.specs.Groups.{AreGroups}
use Rattle.lk_rise.specs.PointItems.{functions_of, point_functions}
use Rattle.lk_rise.proofs.EntryLemmas.{functions_within}
use Rattle.lk_rise.proofs.point_items.PointItems.new.Goals as goal

pub new-requires-2 : goal.new-requires-2
new-requires-2 c =
    let facts = c.args.facts.now in
    let count : length facts.program.functions ≡ c.functions-2.result = sym (c.functions-2.ensures ∙ ap (λ (q : Program). length q.functions) c.points-3.ensures.value) in
    let keys = c.deref-2.ensures.value ∙ c.in_ok-keys.ensures in
    subst (λ n. All (λ f. f < n) c.deref-2.result.now) count
    (subst (All (λ f. f < length facts.program.functions)) (sym keys)
    (functions_within facts (length facts.labels.entries) c.correlations-items.result.now (subst (AreInRange facts (length facts.labels.entries)) (sym c.correlations-items.ensures) c.requires.items)))

pub invariant_of-result : goal.invariant_of-result
invariant_of-result c =
    let facts = c.args.facts.now in
    let entries = c.correlations-items.result.now in
    let keys : c.deref.result.now ≡ point_functions facts.program.points = c.deref.ensures.value ∙ c.in_ok-functions.ensures.keys in
    let numbers : c.deref-2.result.now ≡ functions_of entries = c.deref-2.ensures.value ∙ c.in_ok-keys.ensures in
    record {
      held_points = c.requires.held_points;
      held_labels = c.requires.held_labels;
      links = c.requires.links;
      points = subst (λ ks. AreGroups ks c.in_ok-points.points) keys c.in_ok-points.ensures.groups;
      point_count = c.in_ok-points.ensures.length ∙ ap (λ n. n + 1) (c.functions.ensures ∙ ap (λ (q : Program). length q.functions) c.points.ensures.value);
      below = record {
        in_range = subst (AreInRange facts (length facts.labels.entries)) (sym c.correlations-items.ensures) c.requires.items;
        groups = subst (λ ks. AreGroups ks c.in_ok-numbers.numbers) numbers c.in_ok-numbers.ensures.groups;
        count = c.in_ok-numbers.ensures.length ∙ c.functions-2.ensures ∙ ap (λ (q : Program). length q.functions) c.points-3.ensures.value;
      };
    }
