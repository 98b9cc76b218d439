use Rattle.std.proofs.Common.{◌≡◌, Some, sym, subst}
use Rattle.std.specs.List.{slice_get}
use Rattle.lk_types.specs.Building.{IsMadeOf}
use Rattle.lk_join.proofs.Carrying.{joining_later, joining_more, type_here}
use Rattle.lk_join.proofs.Completed.{gives_then, gives_unchanged}
use Rattle.lk_join.proofs.forms.Source.put_type.Goals as goal

pub form_here-requires : goal.form_here-requires
form_here-requires c = subst (λ n. IsMadeOf c.args.self.now.types.now n c.get.result.now) (sym c.requires.before) c.get.ensures.made_of

pub put-requires-clause-form : goal.put-requires-clause-form
put-requires-clause-form c =
    (type_here c.args.self.now.types.now c.args.row.now c.args.self.now.structs.now c.requires.joining.source c.complete_element.new.table c.in_ok-complete_element.ensures.joining
    c.args.t c.get.result.now c.in_ok-form.form c.get.ensures.value c.in_ok-form.ensures c.in_ok-complete_element.ensures.held).0

pub put-requires-clause-small : goal.put-requires-clause-small
put-requires-clause-small c =
    (type_here c.args.self.now.types.now c.args.row.now c.args.self.now.structs.now c.requires.joining.source c.complete_element.new.table c.in_ok-complete_element.ensures.joining
    c.args.t c.get.result.now c.in_ok-form.form c.get.ensures.value c.in_ok-form.ensures c.in_ok-complete_element.ensures.held).1

pub returns-clause-joining : goal.returns-clause-joining
returns-clause-joining c =
    let types = c.args.self.now.types.now in
    let structs = c.args.self.now.structs.now in
    let row = c.args.row.now in
    let form = c.get.result.now in
    let before = c.complete_element.new.table in
    let after = c.put.new.table in
    let is = c.requires.joining.source in
    let gives = gives_unchanged types structs row before after c.in_ok-here.ensures.longer c.in_ok-here.ensures.members in
    let joining = joining_later types row structs is c.args.self.now.as_large before after c.in_ok-complete_element.ensures.joining gives c.is_type_table.ensures in
    joining_more types row structs is after joining form c.in_ok-here.here (subst (λ n. slice_get types.types n ≡ Some form) (sym c.requires.before) c.get.ensures.value)
    (record { form_here = c.in_ok-form.form; at = c.in_ok-here.ensures.known; is = c.in_ok-form.ensures })

pub returns-clause-gives : goal.returns-clause-gives
returns-clause-gives c =
    let types = c.args.self.now.types.now in
    let structs = c.args.self.now.structs.now in
    let row = c.args.row.now in
    let before = c.complete_element.new.table in
    let after = c.put.new.table in
    gives_then types structs row c.args.table.now before after c.in_ok-complete_element.ensures.gives
    (gives_unchanged types structs row before after c.in_ok-here.ensures.longer c.in_ok-here.ensures.members)
