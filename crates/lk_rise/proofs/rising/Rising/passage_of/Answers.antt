use Rattle.std.proofs.Common.{◌∙◌, Some, ap, sym}
use Rattle.lk_rise.specs.Tables.{setting}
use Rattle.lk_rise.proofs.PassLemmas.{entry_fits}
use Rattle.lk_rise.proofs.rising.Rising.passage_of.Goals as goal

pub passage-requires : goal.passage-requires
passage-requires c =
    entry_fits (setting c.args.self.now) c.args.item c.in_ok-locks.locks c.args.table.now c.requires.sound (sym c.in-Some.ensures ∙ ap Some (sym c.in_ok-locks.ensures))
