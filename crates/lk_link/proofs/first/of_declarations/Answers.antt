use Rattle.lk_link.specs.Clashes.{DiffersFrom}
use Rattle.lk_link.specs.First.{IsOfNames}
use Rattle.lk_link.proofs.Gathering.{all_joined}
use Rattle.lk_link.proofs.first.of_declarations.Goals as goal

pub returns : goal.returns
returns c =
    let units = c.args.units.now in
    all_joined (IsOfNames units) (DiffersFrom units) c.in_ok-by_name.by_name.items c.in_ok-by_type.by_type.items c.in_ok-clashes.clashes.items c.in_ok-clashes.ensures c.in_ok-by_name.ensures c.in_ok-by_type.ensures
