use Rattle.std.proofs.Common.{◌≡◌, ◌↔◌, ℕ, true, subst, sym, IsTrue}
use Rattle.lk_facts.specs.Origins.{flow_of}
use Rattle.lk_sets.specs.Rows.{Rows, has}
use Rattle.lk_links.proofs.OverLemmas.{only_over, not_only_over}
use Rattle.lk_links.proofs.over.is_only_over.Goals as goal

pub returns-then-has_no_other : goal.returns-then-has_no_other
returns-then-has_no_other c =
    let is : c.inner.result.now ≡ c.args.facts.now.origins.inner = (cc) in
    only_over (flow_of c.args.facts.now.origins) c.args.way.now c.args.x c.is_only_crossing.result c.args.m
    (λ o there. c.has_no_other.ensures.0 c.if-has_no_other.true o (subst (λ (rows : Rows). has rows c.args.x o ≡ true) (sym is) there))
    c.is_only_crossing.ensures

pub returns-else-has_no_other : goal.returns-else-has_no_other
returns-else-has_no_other c =
    let is : c.inner.result.now ≡ c.args.facts.now.origins.inner = (cc) in
    not_only_over (flow_of c.args.facts.now.origins) c.args.way.now c.args.x c.has_no_other.result c.args.m c.if-has_no_other.false
    (subst (λ (rows : Rows). IsTrue c.has_no_other.result ↔ ((o : ℕ) → has rows c.args.x o ≡ true → o ≡ c.args.m)) is c.has_no_other.ensures)
