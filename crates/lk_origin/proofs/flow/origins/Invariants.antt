use Rattle.std.proofs.Common.{◌≡◌, ℕ, true, length}
use Rattle.lk_facts.specs.Labels.{is_origin_at}
use Rattle.lk_sets.specs.Closing.{absent}
use Rattle.lk_sets.specs.Rows.{has}
use Rattle.lk_origin.specs.Flowing.{AreSound}
use Rattle.lk_origin.proofs.flow.origins.Given as goal

abbrev pub invariant-loop-all : goal.invariant-loop-all
invariant-loop-all l = record {
  inner_size : l.inner.size ≡ length l.labels.entries;
  all_size : l.all.size ≡ length l.labels.entries;
  starts : (o : ℕ) → is_origin_at l.labels o ≡ true → has l.inner o o ≡ true;
  sound : AreSound l.edges l.labels l.inner l.all;
}

abbrev pub decreases-loop-all : goal.decreases-loop-all
decreases-loop-all l = absent l.inner
