use Rattle.std.proofs.Common.{◌≡◌, true, subst, sym}
use Rattle.lk_facts.specs.Origins.{flow_of}
use Rattle.lk_sets.specs.Rows.{Rows, has}
use Rattle.lk_links.proofs.OverLemmas.{empty_row, some_over}
use Rattle.lk_links.proofs.over.first_over.Goals as goal

pub returns-in-None-clause-value : goal.returns-in-None-clause-value
returns-in-None-clause-value c =
    let is : c.inner.result.now ≡ c.args.facts.now.origins.inner = (cc) in
    some_over (flow_of c.args.facts.now.origins) c.args.way.now c.args.x c.first_crossing.result
    (λ m there. empty_row c.inner.result.now c.args.x c.in-None.ensures.square c.in-None.ensures.next m (subst (λ (rows : Rows). has rows c.args.x m ≡ true) (sym is) there))
    c.first_crossing.ensures.value
