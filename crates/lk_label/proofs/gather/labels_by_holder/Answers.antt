use Rattle.std.proofs.Common.{[], subst, sym, take, arith}
use Rattle.std.proofs.lemmas.List.{take_all}
use Rattle.std.proofs.lemmas.List.Elements.{Contains-get_or}
use Rattle.lk_label.specs.Gathering.{AreLabelsOf}
use Rattle.lk_label.proofs.NameLists.{labels_none, labels_more, labels_over, labels_all}
use Rattle.lk_label.proofs.gather.labels_by_holder.Goals as goal

pub loop-holder-init : goal.loop-holder-init
loop-holder-init c = subst (AreLabelsOf c.args.points.now []) (sym c.new-names.ensures) (labels_none c.args.points.now)

pub put_labels-requires : goal.put_labels-requires
put_labels-requires c = (c.requires.each _).0 (Contains-get_or c.args.holders.now c.loop-holder.holder-index _ c.loop-holder-test.true)

pub returns-then-len-clause-too_many : goal.returns-then-len-clause-too_many
returns-then-len-clause-too_many c = λ _.
    labels_over c.args.points.now (take c.loop-holder.holder-index c.args.holders.now) _ c.loop-holder.names c.put_labels.new.names c.loop-holder.invariant c.in_ok-put_labels.ensures c.are_different.ensures
    (omega (arith, c.if-len.true, c.len.ensures.value))

pub loop-holder-preserved : goal.loop-holder-preserved
loop-holder-preserved c =
    labels_more c.args.points.now c.args.holders.now c.loop-holder.holder-index _ c.loop-holder.names c.put_labels.new.names c.requires c.loop-holder-test.true c.loop-holder.invariant c.in_ok-put_labels.ensures
    (omega (arith, c.if-len.false, c.len.ensures.value))

pub returns-clause-ok : goal.returns-clause-ok
returns-clause-ok c =
    labels_all c.args.points.now c.args.holders.now c.loop-holder.names c.requires
    (subst (λ hs. AreLabelsOf c.args.points.now hs c.loop-holder.names) (take_all c.loop-holder.holder-index c.args.holders.now c.loop-holder-test.false) c.loop-holder.invariant)
