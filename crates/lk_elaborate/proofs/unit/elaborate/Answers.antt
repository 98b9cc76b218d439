use Rattle.std.proofs.Common.{subst}
use Rattle.lk_elaborate.proofs.WholeUnit.{is_typed}
use Rattle.lk_elaborate.specs.Externals.{MakesExternals}
use Rattle.lk_elaborate.proofs.unit.elaborate.Goals as goal

pub returns : goal.returns
returns c externs is =
    let first = c.in_ok-walk.walk in
    let last = c.in_ok-walk-2.walk in
    let told = c.in_ok-walk-2.ensures in
    let makes = subst (MakesExternals first last) c.list.ensures told.makes in
    is_typed externs c.args.unit.now c.args.checked is c.requires.ready c.in_ok-walk.ensures.whole first c.in_ok-walk.ensures.begins last told.goes makes c.in_ok-typed.typed
    c.in_ok-typed.ensures
