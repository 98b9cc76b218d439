-- Tables of matched paths are closed under the rules.
use Rattle.std.proofs.Common.{◌≡◌, ℕ, Bool, true, List}
use Rattle.lk_facts.specs.declared.edge.Edge.{Edge}
use Rattle.lk_facts.specs.declared.edge.Mark.{Mark}
use Rattle.lk_facts.specs.Flow.{Flow}
use Rattle.lk_facts.specs.Labels.{LabelTable, is_global_at, is_origin_at}
use Rattle.lk_facts.specs.PathRules.{Summary, IsLevelClosed, IsFlowClosed}
use Rattle.lk_facts.specs.PathRules.Summary.{plain, call}
use Rattle.lk_facts.specs.Paths.{HasEdge, Level, InAll, InInner, InCross}
use Rattle.lk_facts.specs.PathTables.{IsFlowOf, IsClosed}
use Rattle.lk_facts.proofs.PathClosing.{flow_closed, level_least}

module _ {edge : ℕ → ℕ → Mark → Type 0} {global : ℕ → Bool} where
  -- where there are more levels there are more summary edges
  pub summary_more : {less more : ℕ → ℕ → Type 0} {a b : ℕ} → ((x y : ℕ) → less x y → more x y) → Summary edge global less a b → Summary edge global more a b
  summary_more are (plain h) = plain h
  summary_more are (call i x y enters at inside at' leaves) = call i x y enters at (are x y inside) at' leaves

  -- what is closed over a Level is closed over one that has fewer
  pub closed_over_less : {less more all inner : ℕ → ℕ → Type 0} {cross : ℕ → ℕ → ℕ → Type 0} (origin : ℕ → Bool) → ((x y : ℕ) → less x y → more x y) → IsFlowClosed edge global origin more all inner cross → IsFlowClosed edge global origin less all inner cross
  closed_over_less origin are closed = record {
    starts = closed.starts;
    inner_summary = λ b c o s. closed.inner_summary b c o (summary_more are s);
    leaves = closed.leaves;
    globals = closed.globals;
    inners = closed.inners;
    all_summary = λ b c o s. closed.all_summary b c o (summary_more are s);
    enters = closed.enters;
    crosses = λ i m l b h level. closed.crosses i m l b h (are l b level);
  }

module _ (es : List Edge) (labels : LabelTable) (flow : Flow) where
  pub flow_is_closed : IsFlowOf es labels flow → IsClosed es labels flow
  flow_is_closed is =
      let rules : IsFlowClosed (HasEdge es) (is_global_at labels) (is_origin_at labels) (Level (HasEdge es) (is_global_at labels)) (InAll (HasEdge es) (is_global_at labels) (is_origin_at labels)) (InInner (HasEdge es) (is_global_at labels) (is_origin_at labels)) (InCross (HasEdge es) (is_global_at labels)) =
      flow_closed {origin = is_origin_at labels} in
      record {
        starts = λ o h. (is.inner o o).1 (rules.starts o h);
        inner_summary = λ b c o s h. (is.inner c o).1 (rules.inner_summary b c o s ((is.inner b o).0 h));
        leaves = λ b c i o e h. (is.inner c o).1 (rules.leaves b c i o e ((is.inner b o).0 h));
        globals = λ g o at h. (is.inner g o).1 (rules.globals g o at ((is.all g o).0 h));
        inners = λ b o h. (is.all b o).1 (rules.inners b o ((is.inner b o).0 h));
        all_summary = λ b c o s h. (is.all c o).1 (rules.all_summary b c o s ((is.all b o).0 h));
        enters = λ b c i o e h. (is.all c o).1 (rules.enters b c i o e ((is.all b o).0 h));
        crosses = λ i m l b e level. (is.cross i b m).1 (rules.crosses i m l b e level);
      }

  -- a flow that is closed over a table of levels that is closed itself
  pub closed_over_levels : (level : ℕ → ℕ → Type 0) → IsLevelClosed (HasEdge es) (is_global_at labels) level → IsFlowClosed (HasEdge es) (is_global_at labels) (is_origin_at labels) level (λ b o. flow.all b o ≡ true) (λ b o. flow.inner b o ≡ true) (λ i b m. flow.cross i b m ≡ true) → IsClosed es labels flow
  closed_over_levels level levels closed = closed_over_less (is_origin_at labels) (level_least level levels) closed
