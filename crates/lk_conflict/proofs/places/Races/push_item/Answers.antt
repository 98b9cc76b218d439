use Rattle.std.proofs.Common.{◌∙◌, ◌++◌, [], Option, ap, sym}
use Rattle.std.specs.Option.{option_map_or}
use Rattle.lk_conflict.specs.Listing.{access_of}
use Rattle.lk_rise.specs.declared.correlations.Correlation.{Correlation}
use Rattle.lk_conflict.proofs.places.Races.push_item.Goals as goal

pub returns : goal.returns
returns c =
    c.in_ok-push_access.ensures ∙ ap (λ (o : Option Correlation). c.args.accesses.now.items ++ option_map_or (access_of c.args.function) o []) (sym c.item.ensures)
