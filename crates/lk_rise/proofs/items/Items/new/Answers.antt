use Rattle.std.proofs.Common.{◌∙◌, length, ap}
use Rattle.std.proofs.lemmas.List.{length-map}
use Rattle.lk_rise.specs.Items.{item_in}
use Rattle.lk_rise.proofs.items.Items.new.Goals as goal

pub invariant_of-result : goal.invariant_of-result
invariant_of-result c = ap length c.in_ok-items.ensures ∙ length-map c.args.found (item_in c.args.facts.now.labels)
