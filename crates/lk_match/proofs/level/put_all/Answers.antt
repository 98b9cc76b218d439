use Rattle.std.proofs.Common.{◌↔◌, ◌⊎◌, ◌≡◌, true, ℕ, Contains, subst}
use Rattle.std.proofs.lemmas.List.{take_all}
use Rattle.lk_sets.specs.Rows.{has}
use Rattle.lk_sets.proofs.Closing.{grows_twice}
use Rattle.lk_match.specs.Summaries.{summary_of}
use Rattle.lk_match.proofs.LevelLemmas.{put_more}
use Rattle.lk_match.proofs.level.put_all.Goals as goal

pub loop-summary-preserved : goal.loop-summary-preserved
loop-summary-preserved c = record {
  pairs = put_more c.args.rows.now c.loop-summary.rows c.put_summary-changed.new.rows c.args.found.now c.loop-summary.summary-index c.summary-item.result c.loop-summary-test.true c.summary-item.is c.put_summary-changed.ensures.pairs c.loop-summary.invariant.pairs;
  grows = grows_twice c.loop-summary.invariant.grows c.put_summary-changed.ensures.grows;
}

pub returns-clause-pairs : goal.returns-clause-pairs
returns-clause-pairs c =
    subst (λ xs. (a b : ℕ) → (has c.loop-summary.rows a b ≡ true) ↔ ((has c.args.rows.now a b ≡ true) ⊎ Contains xs (summary_of a b)))
    (take_all c.loop-summary.summary-index c.args.found.now c.loop-summary-test.false) c.loop-summary.invariant.pairs
