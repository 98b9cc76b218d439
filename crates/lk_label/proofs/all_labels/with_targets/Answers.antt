use Rattle.std.proofs.Common.{subst, sym}
use Rattle.lk_facts.specs.LabelRules.{AreLabels}
use Rattle.lk_facts.specs.Labels.{AreLabelsInRange, labels_of}
use Rattle.lk_label.proofs.EntryLists.{labels_in_range, are_labels}
use Rattle.lk_label.proofs.NameLists.{labels_few}
use Rattle.lk_label.proofs.all_labels.with_targets.Goals as goal

pub new-requires : goal.new-requires
new-requires c =
    let targets = c.in_ok-targets.targets.items in
    subst (λ names. AreLabelsInRange (labels_of names c.args.entries.items targets)) (sym c.into_set.ensures)
    (labels_in_range c.args.points.now c.args.names c.args.entries.items targets c.requires.names c.are_different.ensures c.requires.entries c.in_ok-targets.ensures)

pub returns-clause-ok : goal.returns-clause-ok
returns-clause-ok c =
    let entries = c.args.entries.items in
    let targets = c.in_ok-targets.targets.items in
    subst (AreLabels c.args.points.now) (sym c.new.ensures) (subst (λ names. AreLabels c.args.points.now (labels_of names entries targets)) (sym c.into_set.ensures)
    (are_labels c.args.points.now c.args.names entries targets c.requires.names c.are_different.ensures c.requires.entries c.in_ok-targets.ensures))

pub returns-clause-few : goal.returns-clause-few
returns-clause-few c = labels_few c.args.points.now c.args.names c.requires.names
