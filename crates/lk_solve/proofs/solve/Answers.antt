use Rattle.std.proofs.Common.{subst, sym}
use Rattle.lk_facts.specs.Analysis.{IsOrder, IsLinearTest}
use Rattle.lk_graph.specs.Single.{ArePlaceNodes}
use Rattle.lk_rise.specs.Correlations.{has_of, locks_of}
use Rattle.lk_sets.specs.Ids.{has_id}
use Rattle.lk_sets.specs.Rows.{has}
use Rattle.lk_solve.proofs.solve.Goals as goal

pub linear-requires : goal.linear-requires
linear-requires c = record { many = c.in_ok-many.ensures.members; nodes = subst ArePlaceNodes (sym c.points-points.ensures.value) c.requires }

pub returns : goal.returns
returns c = record {
  held = c.in_ok-held.held;
  lock_sets = c.in_ok-held.ensures;
  after = has c.in_ok-after.after;
  order = subst (λ program. IsOrder program (has c.in_ok-after.after)) c.points-points.ensures.value c.in_ok-after.ensures.pairs;
  has = has_of c.in_ok-items.items.entries;
  item_locks = locks_of c.in_ok-items.items.entries;
  items = c.in_ok-items.ensures.items;
  races = has_of c.in_ok-races.races.entries;
  race_locks = locks_of c.in_ok-races.races.entries;
  racing = c.in_ok-races.ensures.races;
  linear = has_id c.in_ok-linear.linear;
  is_linear = subst (λ program. IsLinearTest program (has_id c.in_ok-linear.linear)) c.points-points.ensures.value c.in_ok-linear.ensures.members;
  verdicts = c.in_ok-found.ensures;
}
