use Rattle.std.proofs.Common.{◌∙◌, sym, subst}
use Rattle.std.proofs.lemmas.Option.{IfSome_then}
use Rattle.lk_tree.specs.declared.expression.DeclaratorForm.TheOpen.{DeclaratorForm-F}
use Rattle.lk_tree.specs.declared.expression.DeclaratorForm.TheVariants as form
use Rattle.lk_found.proofs.FormsOf.{form_of}
use Rattle.lk_elaborate.specs.PuttingParameters.{HasBeside}
use Rattle.lk_elaborate.proofs.FunctionTypes.{beside_there, inside_array, inside_function, inside_group, inside_pointer}
use Rattle.lk_elaborate.proofs.parameters.+parameters_beside.Goals as goal

pub parameters_beside-returns-then-is_name_inside : goal.parameters_beside-returns-then-is_name_inside
parameters_beside-returns-then-is_name_inside t c =
    let f = c.in-FunctionOf in
    subst (HasBeside c.args.d.now) (sym c.list.ensures)
    (beside_there f.inner (form_of c.args.d.now _ (DeclaratorForm-F.FunctionOf f.inner f.list f.field-2) f.is (form.rolls-FunctionOf f.inner f.list f.field-2)) (sym c.is_name_inside.ensures ∙ c.if-is_name_inside.true))

pub parameters_beside-returns-else-is_name_inside : goal.parameters_beside-returns-else-is_name_inside
parameters_beside-returns-else-is_name_inside t c =
    let f = c.in-FunctionOf in
    let form = form_of c.args.d.now _ (DeclaratorForm-F.FunctionOf f.inner f.list f.field-2) f.is (form.rolls-FunctionOf f.inner f.list f.field-2) in
    IfSome_then c.parameters_inside.result c.parameters_inside.ensures (λ list has. inside_function f.inner form (sym c.is_name_inside.ensures ∙ c.if-is_name_inside.false) has)

pub parameters_beside-returns-in-Star : goal.parameters_beside-returns-in-Star
parameters_beside-returns-in-Star t c =
    let f = c.in-Star in
    let form = form_of c.args.d.now _ (DeclaratorForm-F.Star f.field-0 f.inner) f.is (form.rolls-Star f.field-0 f.inner) in
    IfSome_then c.parameters_inside-in-Star.result c.parameters_inside-in-Star.ensures (λ list has. inside_pointer f.inner form has)

pub parameters_beside-returns-in-ArrayOf : goal.parameters_beside-returns-in-ArrayOf
parameters_beside-returns-in-ArrayOf t c =
    let f = c.in-ArrayOf in
    let form = form_of c.args.d.now _ (DeclaratorForm-F.ArrayOf f.inner f.field-1) f.is (form.rolls-ArrayOf f.inner f.field-1) in
    IfSome_then c.parameters_inside-in-ArrayOf.result c.parameters_inside-in-ArrayOf.ensures (λ list has. inside_array f.inner form has)

pub parameters_beside-returns-in-Group : goal.parameters_beside-returns-in-Group
parameters_beside-returns-in-Group t c =
    let form = form_of c.args.d.now _ (DeclaratorForm-F.Group c.in-Group.inner) c.in-Group.is (form.rolls-Group c.in-Group.inner) in
    IfSome_then c.parameters_beside.result c.parameters_beside.ensures (λ list has. inside_group form (subst (λ d. HasBeside d list.now) c.get.ensures has))
