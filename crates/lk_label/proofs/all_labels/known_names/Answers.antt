use Rattle.std.proofs.Common.{subst, sym}
use Rattle.lk_facts.specs.LabelRules.{AreHolders}
use Rattle.lk_label.proofs.all_labels.known_names.Goals as goal

pub ordered_names-requires : goal.ordered_names-requires
ordered_names-requires c = subst (AreHolders c.args.points.now) (sym c.deref.ensures.value) c.in_ok-holders.ensures

pub entries_by-requires-clause-holders : goal.entries_by-requires-clause-holders
entries_by-requires-clause-holders c = subst (AreHolders c.args.points.now) (sym c.deref-2.ensures.value) c.in_ok-holders.ensures
