use Rattle.std.proofs.Common.{ap, sym, subst, ◌∙◌, [], ◌∷◌, ◌++◌, take}
use Rattle.std.proofs.lemmas.List.{take_all, take_more}
use Rattle.lk_lower_unit.proofs.Counted.{Counted, all_counted, counted_more, none_counted}
use Rattle.lk_lower_unit.proofs.counts.counts_of.Goals as goal

pub loop-one-init : goal.loop-one-init
loop-one-init c = subst (λ counts. Counted [] counts) (sym c.new-counts.ensures.items) none_counted

pub loop-one-preserved : goal.loop-one-preserved
loop-one-preserved c =
    let steps = c.args.steps.now in
    let i = c.loop-one.one-index in
    let x = c.one-item.result in
    subst (λ xs. Counted xs c.raise.new.counts.items) (sym (take_more steps i x c.loop-one-test.true ∙ ap (λ y. take i steps ++ (y ∷ [])) (sym c.one-item.is)))
    (counted_more (take i steps) x c.loop-one.counts.items c.raise.new.counts.items c.loop-one.invariant c.in_ok-raise.ensures)

pub returns : goal.returns
returns c =
    all_counted c.args.steps.now (take c.loop-one.one-index c.args.steps.now) c.new.result (take_all c.loop-one.one-index c.args.steps.now c.loop-one-test.false)
    (subst (λ counts. Counted (take c.loop-one.one-index c.args.steps.now) counts) (sym c.new.ensures) c.loop-one.invariant)
