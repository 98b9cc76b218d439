use Rattle.std.proofs.Common.{◌<◌, ◌∙◌, sym, ⊎_elim}
use Rattle.std.proofs.lemmas.Bool.{or_cases}
use Rattle.lk_links.proofs.SetLemmas.{All-from_has_id, All-has_id}
use Rattle.lk_sets.specs.Ids.{has_id}
use Rattle.lk_above.proofs.above.with_kept.Goals as goal

pub returns-clause-in_range : goal.returns-clause-in_range
returns-clause-in_range c =
    let n = c.args.held.now.labels in
    record {
      sorted = c.in_ok-all.ensures.sorted;
      below = All-from_has_id (λ y. y < n) c.in_ok-all.all
          (λ y there.
          ⊎_elim (All-has_id (λ z. z < n) c.args.risen.now y c.requires.risen.below) (All-has_id (λ z. z < n) c.keep.result.now y c.keep.ensures.in_range.below)
          (or_cases (has_id c.args.risen.now y) (has_id c.keep.result.now y) (sym (c.in_ok-all.ensures.members y) ∙ there)));
    }
