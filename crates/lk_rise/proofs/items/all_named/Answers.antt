use Rattle.std.proofs.Common.{◌∙◌, ◌++◌, ◌∷◌, [], length, map, sym, ap, arith}
use Rattle.std.proofs.lemmas.List.{take_all}
use Rattle.lk_rise.specs.Items.{item_in, item_with}
use Rattle.lk_rise.proofs.NamingLemmas.{named_more, subject_within}
use Rattle.lk_rise.proofs.items.all_named.Goals as goal

pub named-requires : goal.named-requires
named-requires c = subject_within c.args.facts.now (length c.args.facts.now.labels.entries) c.args.found.now c.loop-i.i c.item.result c.requires c.item.ensures

pub loop-i-preserved : goal.loop-i-preserved
loop-i-preserved c =
    c.in_ok-push.ensures.items ∙ ap (λ x. c.loop-i.items.items ++ x ∷ []) c.named.ensures ∙ ap (λ xs. xs ++ item_with c.args.facts.now.labels c.item.result ∷ []) c.loop-i.invariant
    ∙ sym (named_more (item_with c.args.facts.now.labels) c.args.found.now c.loop-i.i c.item.result c.item.ensures)

pub returns : goal.returns
returns c = c.loop-i.invariant ∙ ap (map (item_in c.args.facts.now.labels)) (take_all c.loop-i.i c.args.found.now (omega (arith, c.loop-i-test.false, c.count-i-end.ensures.value)))
