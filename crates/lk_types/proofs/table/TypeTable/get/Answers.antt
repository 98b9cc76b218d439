use Rattle.std.proofs.Common.{◌≡◌, Some, slice_get, subst}
use Rattle.lk_types.specs.Building.{IsMadeOf}
use Rattle.lk_types.specs.Sizes.{HasLowerParts}
use Rattle.lk_types.proofs.KeptLemmas.{form_got, made_of_got, lower_got, at_number}
use Rattle.lk_types.proofs.table.TypeTable.get.Goals as goal

pub returns-clause-value : goal.returns-clause-value
returns-clause-value c =
    let inside = c.self.inside in
    let at = at_number inside.types c.index.ensures c.at.ensures in
    subst (λ table. slice_get table.types c.args.t ≡ Some c.at.result.0.now) c.self.view_is
    (form_got inside.types inside.structs.items inside.parts c.args.t c.at.result.0.now c.at.result.1.now at)

pub returns-clause-made_of : goal.returns-clause-made_of
returns-clause-made_of c =
    let inside = c.self.inside in
    let at = at_number inside.types c.index.ensures c.at.ensures in
    subst (λ table. IsMadeOf table c.args.t c.at.result.0.now) c.self.view_is
    (made_of_got _ c.self.invariant.table_is c.args.t c.at.result.0.now (form_got inside.types inside.structs.items inside.parts c.args.t c.at.result.0.now c.at.result.1.now at))

pub returns-clause-lower : goal.returns-clause-lower
returns-clause-lower c =
    let inside = c.self.inside in
    let at = at_number inside.types c.index.ensures c.at.ensures in
    subst (λ table. HasLowerParts table c.args.t c.at.result.0.now) c.self.view_is
    (lower_got _ c.self.invariant.table_is c.args.t c.at.result.0.now (form_got inside.types inside.structs.items inside.parts c.args.t c.at.result.0.now c.at.result.1.now at))
