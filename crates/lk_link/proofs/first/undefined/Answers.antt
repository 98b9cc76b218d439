use Rattle.lk_link.specs.Clashes.{IsMissing, IsMissingInside}
use Rattle.lk_link.proofs.Gathering.{all_joined}
use Rattle.lk_link.proofs.first.undefined.Goals as goal

pub returns : goal.returns
returns c =
    let units = c.args.units.now in
    all_joined (IsMissing units c.args.externs.now) (IsMissingInside units) c.in_ok-everywhere.everywhere.items c.in_ok-inside.inside.items c.in_ok-clashes.clashes.items c.in_ok-clashes.ensures c.in_ok-everywhere.ensures c.in_ok-inside.ensures
