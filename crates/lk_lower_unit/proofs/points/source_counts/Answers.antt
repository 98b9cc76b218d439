use Rattle.std.proofs.Common.{◌≡◌, ◌++◌, ◌∷◌, [], ap, sym, subst, ◌∙◌, take, rules}
use Rattle.std.proofs.lemmas.List.{take_more}
use Rattle.lk_lower_unit.proofs.Numbering.{more_sources}
use Rattle.lk_lower_unit.specs.PointNumbers.{CountSources}
use Rattle.lk_lower_unit.proofs.points.source_counts.Goals as goal

pub loop-linked-preserved : goal.loop-linked-preserved
loop-linked-preserved c =
    let sources = c.args.sources.now in
    let i = c.loop-linked.linked-index in
    let x = c.linked-item.result in
    let pushed : c.push.new.self.items ≡ c.loop-linked.counts.items ++ (c.in_ok-row.row ∷ []) = search rules in
    subst (λ xs. CountSources xs c.push.new.self.items) (sym (take_more sources i x c.loop-linked-test.true ∙ ap (λ y. take i sources ++ (y ∷ [])) (sym c.linked-item.is)))
    (subst (λ cs. CountSources (take i sources ++ (x ∷ [])) cs) (sym pushed) (more_sources (take i sources) c.loop-linked.counts.items x c.in_ok-row.row c.loop-linked.invariant c.in_ok-row.ensures))
