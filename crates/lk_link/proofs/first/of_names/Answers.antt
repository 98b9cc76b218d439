use Rattle.lk_link.specs.Clashes.{IsDefinedTwice, DiffersFromLibrary}
use Rattle.lk_link.proofs.Gathering.{all_joined}
use Rattle.lk_link.proofs.first.of_names.Goals as goal

pub returns : goal.returns
returns c =
    let units = c.args.units.now in
    all_joined (IsDefinedTwice units) (DiffersFromLibrary units) c.in_ok-twice.twice.items c.in_ok-other.other.items c.in_ok-clashes.clashes.items c.in_ok-clashes.ensures c.in_ok-twice.ensures c.in_ok-other.ensures
