use Rattle.std.proofs.Common.{◌∙◌}
use Rattle.lk_elaborator.proofs.Growing.{leads_before}
use Rattle.lk_elaborator.proofs.Numbers.{means_led}
use Rattle.lk_elaborate.proofs.local_inits.local_part.Goals as goal

pub returns-clause-part : goal.returns-clause-part
returns-clause-part c externs unit told tables leads part given =
    let old = c.args.walk.now in
    record {
      path = c.in_ok-path.ensures ∙ (c.list.ensures ∙ given.path);
      type = means_led old tables told.ready (leads_before old c.local_value.new.walk tables c.in_ok-value.ensures.grows leads) c.args.given.now.ty part.type given.known given.type;
      begins = c.in_ok-value.ensures.value externs unit told tables leads part given;
    }
