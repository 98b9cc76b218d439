use Rattle.std.proofs.Common.{◌∙◌, ◌++◌, ◌∷◌, [], sym, ap, arith}
use Rattle.std.proofs.lemmas.List.{take_all}
use Rattle.lk_rise.specs.declared.correlations.Correlation.{Correlation}
use Rattle.lk_rise.proofs.NamingLemmas.{named_more}
use Rattle.lk_conflict.specs.Listing.{subjects_of}
use Rattle.lk_conflict.proofs.racing.subjects.Goals as goal

pub loop-i-preserved : goal.loop-i-preserved
loop-i-preserved c =
    c.in_ok-push.ensures.items ∙ ap (λ xs. xs ++ c.item.result.subject ∷ []) c.loop-i.invariant
    ∙ sym (named_more (λ (item : Correlation). item.subject) c.args.items.now c.loop-i.i c.item.result c.item.ensures)

pub returns : goal.returns
returns c = c.loop-i.invariant ∙ ap subjects_of (take_all c.loop-i.i c.args.items.now (omega (arith, c.loop-i-test.false, c.count-i-end.ensures.value)))
