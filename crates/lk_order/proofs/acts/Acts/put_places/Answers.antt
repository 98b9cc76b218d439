use Rattle.std.proofs.Common.{◌≡◌, ◌∙◌, true, ap, sym, subst}
use Rattle.lk_facts.specs.Origins.{OriginTable}
use Rattle.lk_order.specs.Acts.{basis_in}
use Rattle.lk_order.specs.Finding.{AreTwoLocks, IsGivenBy, MayMeanInMain}
use Rattle.lk_order.proofs.FindingLemmas.{mean_is, not_main, puts_as}
use Rattle.lk_sets.specs.Ids.{has_id}
use Rattle.lk_sets.specs.Rows.{has, row_of}
use Rattle.lk_order.proofs.acts.Acts.put_places.Goals as goal

pub returns-then-pair-main : goal.returns-then-pair-main
returns-then-pair-main c = not_main (basis_in c.args.self.now) c.args.pair c.args.rows.now (λ same. c.if-pair-main.true (same ∙ sym c.main.ensures.value))

pub returns : goal.returns
unfolding has
returns c =
    let basis = basis_in c.args.self.now in
    let origins = c.args.self.now.facts.now.origins in
    let all : c.all-all.result.now ≡ origins.all = c.all-all.ensures.value ∙ ap (λ (o : OriginTable). o.all) c.origins.ensures.value in
    let held : c.deref.result.now ≡ row_of origins.all c.args.pair.held = c.deref.ensures.value ∙ c.in_ok-held.ensures ∙ ap (λ rows. row_of rows c.args.pair.held) all in
    let wanted : c.deref-2.result.now ≡ row_of origins.all c.args.pair.wanted = c.deref-2.ensures.value ∙ c.in_ok-wanted.ensures ∙ ap (λ rows. row_of rows c.args.pair.wanted) all in
    puts_as (IsGivenBy (λ q. IsGivenBy (AreTwoLocks basis q) c.deref-2.result.now) c.deref.result.now) (MayMeanInMain basis c.args.pair) c.args.rows.now c.put_each.new.rows
    (mean_is basis c.args.pair c.deref.result.now c.deref-2.result.now
    (λ q. (λ there. subst (λ ids. has_id ids q ≡ true) held there, λ is. subst (λ ids. has_id ids q ≡ true) (sym held) is))
    (λ r. (λ there. subst (λ ids. has_id ids r ≡ true) wanted there, λ is. subst (λ ids. has_id ids r ≡ true) (sym wanted) is))
    (c.if-pair-main.false ∙ c.main.ensures.value))
    c.put_each.ensures
