use Rattle.std.proofs.Common.{◌∙◌, sym, subst}
use Rattle.std.proofs.lemmas.Bool.{false≢true}
use Rattle.lk_sets.specs.Adding.{Adds}
use Rattle.lk_sets.proofs.Adding.{adds_as, adds_none, adds_push}
use Rattle.lk_graph.specs.Single.{IsLinearAt}
use Rattle.lk_graph.proofs.single.push_linear.Goals as goal

pub returns-then-not-is_linear : goal.returns-then-not-is_linear
returns-then-not-is_linear c =
    adds_none (IsLinearAt c.args.points.now c.args.place) c.args.ids.now.items (λ x at. false≢true (sym c.if-not-is_linear.true ∙ c.is_linear.ensures.1 at.1))

pub returns : goal.returns
returns c =
    let linear = c.is_linear.ensures.0 c.if-not-is_linear.false in
    subst (Adds (IsLinearAt c.args.points.now c.args.place) c.args.ids.now.items) (sym c.in_ok-push.ensures.items)
    (adds_as (λ x. (λ same. (same, linear), λ both. both.0)) (adds_push c.args.ids.now.items c.args.place))
