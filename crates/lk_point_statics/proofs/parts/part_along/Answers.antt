use Rattle.std.proofs.Common.{◌+◌, ◌∙◌, drop, refl, subst, sym, ap, Some, ◌∷◌}
use Rattle.std.proofs.lemmas.Option.{none-some, same_Some}
use Rattle.lk_facts.specs.Typed.{HasPartAt}
use Rattle.lk_point_statics.proofs.Steps.{next_left, nothing_left, part_behind, part_first, part_whole}
use Rattle.lk_point_statics.proofs.parts.part_along.Goals as goal

pub loop-step-preserved : goal.loop-step-preserved
loop-step-preserved c =
    let types = c.args.types.now in
    let path = c.args.path.now in
    let i = c.loop-step.step-index in
    let next = next_left path i _ c.loop-step-test.true in
    record {
      known = c.in-Some.ensures.known;
      leads = λ u. (
        (λ part. (c.loop-step.invariant.leads u).0
            (subst (λ left. HasPartAt types c.loop-step.reached left u) (sym next)
            (part_behind types c.loop-step.reached _ c.in-Some.part (drop (i + 1) path) u c.in-Some.ensures.leads part))),
        (λ part.
            let first = part_first types c.loop-step.reached _ (drop (i + 1) path) u (subst (λ left. HasPartAt types c.loop-step.reached left u) next ((c.loop-step.invariant.leads u).1 part)) in
            subst (λ t. HasPartAt types t (drop (i + 1) path) u) (same_Some _ _ (sym (c.in-Some.ensures.only first.0 first.1))) first.2),
      );
    }

pub returns-clause-part : goal.returns-clause-part
returns-clause-part c =
    let types = c.args.types.now in
    let reached = c.loop-step.reached in
    (c.loop-step.invariant.leads reached).0
    (subst (λ left. HasPartAt types reached left reached) (sym (nothing_left c.args.path.now c.loop-step.step-index c.loop-step-test.false)) (HasPartAt.whole reached))

pub returns-clause-only : goal.returns-clause-only
returns-clause-only c = λ u part.
    let types = c.args.types.now in
    let reached = c.loop-step.reached in
    ap Some (part_whole types reached u
    (subst (λ left. HasPartAt types reached left u) (nothing_left c.args.path.now c.loop-step.step-index c.loop-step-test.false) ((c.loop-step.invariant.leads u).1 part)))

pub returns-in-None-clause-only : goal.returns-in-None-clause-only
returns-in-None-clause-only c = λ u part.
    let types = c.args.types.now in
    let path = c.args.path.now in
    let i = c.loop-step.step-index in
    let next = next_left path i _ c.loop-step-test.true in
    let first = part_first types c.loop-step.reached _ (drop (i + 1) path) u (subst (λ left. HasPartAt types c.loop-step.reached left u) next ((c.loop-step.invariant.leads u).1 part)) in
    absurd (none-some first.0 (c.in-None.ensures.only first.0 first.1))
