use Rattle.std.proofs.Common.{◌∙◌, ap}
use Rattle.lk_tree.specs.declared.expression.DeclaratorForm.TheOpen.{DeclaratorForm-F}
use Rattle.lk_tree.specs.declared.expression.DeclaratorForm.TheVariants as form
use Rattle.lk_typed.specs.Expressions.{declarator_layer}
use Rattle.lk_found.proofs.FormsOf.{form_of}
use Rattle.lk_elaborate.proofs.FunctionTypes.{name_by, never_name}
use Rattle.lk_elaborate.proofs.parameters.+is_name.Goals as goal

pub returns-in-Named : goal.returns-in-Named
returns-in-Named t c = name_by c.args.d.now _ (form_of c.args.d.now _ _ c.in-Named.is (form.rolls-Named _))

pub returns-in-Group : goal.returns-in-Group
returns-in-Group t c =
    c.is_name.ensures ∙ ap (λ d. (declarator_layer d).is_name) c.get.ensures ∙
    name_by c.args.d.now (DeclaratorForm-F.Group c.in-Group.inner) (form_of c.args.d.now _ _ c.in-Group.is (form.rolls-Group c.in-Group.inner))

pub returns-in-Star : goal.returns-in-Star
returns-in-Star t c = never_name c.args.d.now c.in-Star.is

pub returns-in-Star-2 : goal.returns-in-Star-2
returns-in-Star-2 t c = never_name c.args.d.now c.in-Star.is

pub returns-in-Star-3 : goal.returns-in-Star-3
returns-in-Star-3 t c = never_name c.args.d.now c.in-Star.is
