use Rattle.std.proofs.Common.{◌∙◌, ◌++◌, ◌∷◌, [], map, sym, ap, arith}
use Rattle.std.proofs.lemmas.List.{take_all}
use Rattle.lk_rise.specs.Conflicts.{race_in, race_with}
use Rattle.lk_rise.proofs.NamingLemmas.{named_more}
use Rattle.lk_rise.proofs.conflicts.all_races.Goals as goal

pub loop-i-preserved : goal.loop-i-preserved
loop-i-preserved c =
    c.in_ok-push.ensures.items ∙ ap (λ x. c.loop-i.races.items ++ x ∷ []) c.race.ensures ∙ ap (λ xs. xs ++ race_with c.item.result ∷ []) c.loop-i.invariant
    ∙ sym (named_more race_with c.args.found.now c.loop-i.i c.item.result c.item.ensures)

pub returns : goal.returns
returns c = c.loop-i.invariant ∙ ap (map race_in) (take_all c.loop-i.i c.args.found.now (omega (arith, c.loop-i-test.false, c.count-i-end.ensures.value)))
