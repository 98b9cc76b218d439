use Rattle.std.proofs.Common.{◌∙◌, length, ap}
use Rattle.std.proofs.lemmas.List.{length-map}
use Rattle.lk_rise.specs.Conflicts.{race_in}
use Rattle.lk_rise.proofs.conflicts.Conflicts.new.Goals as goal

pub invariant_of-result : goal.invariant_of-result
invariant_of-result c = ap length c.in_ok-races.ensures ∙ length-map c.args.found race_in
