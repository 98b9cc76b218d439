use Rattle.std.proofs.Common.{subst, sym}
use Rattle.lk_facts.specs.LabelRules.{AreHolders}
use Rattle.lk_label.proofs.HolderNumbers.{holders_different}
use Rattle.lk_label.proofs.all_labels.entries_by.Goals as goal

pub of-requires : goal.of-requires
of-requires c = holders_different c.args.points.now c.args.holders.now c.requires.holders

pub entries-requires-clause-holders : goal.entries-requires-clause-holders
entries-requires-clause-holders c = subst (AreHolders c.args.points.now) (sym c.in_ok-numbers.ensures) c.requires.holders
