use Rattle.std.proofs.Common.{◌≡◌, ◌∙◌, ℕ, List, Some, ap}
use Rattle.lk_base.specs.declared.spot.Spot.{Spot}
use Rattle.lk_tree.specs.declared.expression.DeclaratorForm.TheOpen.{DeclaratorForm-F}
use Rattle.lk_tree.specs.declared.expression.DeclaratorForm.TheVariants as form
use Rattle.lk_typed.specs.Expressions.{declarator_found}
use Rattle.lk_typed.specs.Told.{Named}
use Rattle.lk_found.proofs.FormsOf.{form_of, name_found}
use Rattle.lk_found.proofs.declarators.+declared_name.Goals as goal

named_same : (name : List ℕ) {a b : Spot} {m n : ℕ} → a ≡ b → m ≡ n → ◌≡◌ {A = Named} (record { name = name; spot = a; ordinal = m }) (record { name = name; spot = b; ordinal = n })
named_same name p q = cc

pub declared_name-returns-in-Star : goal.declared_name-returns-in-Star
declared_name-returns-in-Star t c = c.inner_name.ensures ∙ name_found c.args.d.now (DeclaratorForm-F.Star _ c.in-Star.inner) (form_of c.args.d.now _ _ c.in-Star.is (form.rolls-Star _ c.in-Star.inner))

pub declared_name-returns-in-Named : goal.declared_name-returns-in-Named
declared_name-returns-in-Named t c =
    ap Some (named_same c.in-Named.name c.at_declarator.ensures.spot c.at_declarator.ensures.ordinal) ∙
    name_found c.args.d.now (DeclaratorForm-F.Named c.in-Named.name) (form_of c.args.d.now _ _ c.in-Named.is (form.rolls-Named c.in-Named.name))

pub declared_name-returns-in-Group : goal.declared_name-returns-in-Group
declared_name-returns-in-Group t c =
    c.declared_name.ensures ∙ ap (λ d. (declarator_found d).name) c.get.ensures ∙
    name_found c.args.d.now (DeclaratorForm-F.Group c.in-Group.inner) (form_of c.args.d.now _ _ c.in-Group.is (form.rolls-Group c.in-Group.inner))

pub declared_name-returns-in-ArrayOf : goal.declared_name-returns-in-ArrayOf
declared_name-returns-in-ArrayOf t c =
    c.inner_name-in-ArrayOf.ensures ∙ name_found c.args.d.now (DeclaratorForm-F.ArrayOf c.in-ArrayOf.inner _) (form_of c.args.d.now _ _ c.in-ArrayOf.is (form.rolls-ArrayOf c.in-ArrayOf.inner _))

pub declared_name-returns-in-FunctionOf : goal.declared_name-returns-in-FunctionOf
declared_name-returns-in-FunctionOf t c =
    c.inner_name-in-FunctionOf.ensures ∙
    name_found c.args.d.now (DeclaratorForm-F.FunctionOf c.in-FunctionOf.inner _ _) (form_of c.args.d.now _ _ c.in-FunctionOf.is (form.rolls-FunctionOf c.in-FunctionOf.inner _ _))
