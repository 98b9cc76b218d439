use Rattle.std.proofs.Common.{◌≡◌, Some, slice_get, refl, subst}
use Rattle.lk_types.specs.Building.IsPut.{found, added}
use Rattle.lk_types.specs.Table.{Table}
use Rattle.lk_types.proofs.AddLemmas.{absent_from, added_there}
use Rattle.lk_types.proofs.KeptLemmas.{form_got}
use Rattle.lk_types.proofs.table.TypeTable.put.Goals as goal

pub add-requires-clause-new : goal.add-requires-clause-new
add-requires-clause-new c =
    let inside = c.self.inside in
    absent_from inside.types inside.structs.items inside.parts c.args.self.now c.self.view_is c.args.form c.in-None.ensures

pub returns-in-Some-clause-put : goal.returns-in-Some-clause-put
returns-in-Some-clause-put c =
    let inside = c.self.inside in
    let at = subst (λ (table : Table). slice_get table.types c.in-Some.place ≡ Some c.args.form) c.self.view_is
    (form_got inside.types inside.structs.items inside.parts c.in-Some.place c.args.form c.in-Some.ensures.0 c.in-Some.ensures.1) in
    found at refl

pub returns-in-Some-clause-known : goal.returns-in-Some-clause-known
returns-in-Some-clause-known c =
    let inside = c.self.inside in
    let at = subst (λ (table : Table). slice_get table.types c.in-Some.place ≡ Some c.args.form) c.self.view_is
    (form_got inside.types inside.structs.items inside.parts c.in-Some.place c.args.form c.in-Some.ensures.0 c.in-Some.ensures.1) in
    at

pub returns-in_ok-t-in-None-clause-put : goal.returns-in_ok-t-in-None-clause-put
returns-in_ok-t-in-None-clause-put c =
    let inside = c.self.inside in
    added (absent_from inside.types inside.structs.items inside.parts c.args.self.now c.self.view_is c.args.form c.in-None.ensures) c.in_ok-t-in-None.ensures.ok.0 c.in_ok-t-in-None.ensures.ok.1

pub returns-in_ok-t-in-None-clause-known : goal.returns-in_ok-t-in-None-clause-known
returns-in_ok-t-in-None-clause-known c = added_there c.args.self.now c.add.new.self c.args.form c.in_ok-t-in-None.t c.in_ok-t-in-None.ensures.ok.0 c.in_ok-t-in-None.ensures.ok.1
