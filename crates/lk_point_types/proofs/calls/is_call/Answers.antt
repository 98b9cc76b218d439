use Rattle.std.proofs.Common.{subst, sym}
use Rattle.std.specs.Prelude.{All}
use Rattle.std.proofs.lemmas.List.Elements.{All-tail}
use Rattle.lk_types.specs.Table.{HasKnown, IsKnown}
use Rattle.lk_point_types.proofs.calls.is_call.Goals as goal

pub are_given-requires-clause-types : goal.are_given-requires-clause-types
are_given-requires-clause-types c =
    let types = c.args.points.now.types in
    let is = c.in-Function in
    subst (All (IsKnown types)) (sym c.list.ensures) (All-tail (IsKnown types) is.result is.params (subst (HasKnown types) is.is c.requires.function))
