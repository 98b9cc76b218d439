-- The steps of a node, of the forms that choose among several rules.
use Rattle.std.proofs.Common.{ap, ◌∙◌, ◌≡◌, ℕ, Bool, true, false, ◌||◌, Option, None, Some, List, [], nat_eq, refl}
use Rattle.std.specs.Prelude.{if◌then◌else◌}
use Rattle.lk_base.specs.declared.kind.Kind.TheVariants.{Int as IntKind}
use Rattle.lk_lower_expr.proofs.Forms.{as_form, of_Paren, of_Step}
use Rattle.lk_lower_expr.specs.Expressions.{part}
use Rattle.lk_lower_expr.specs.Names.{Names, Node}
use Rattle.lk_lower_expr.specs.Naming.{node_of}
use Rattle.lk_lower_expr.specs.Parts.{Part, paren_of}
use Rattle.lk_lower_expr.specs.Values.{step_part, is_pointer}
use Rattle.lk_lower_expr.specs.declared.step.Step.{Step}
use Rattle.lk_tree.specs.declared.operators.StepOperator.{StepOperator}
use Rattle.lk_typed.specs.declared.expression.Change.{Change}
use Rattle.lk_typed.specs.declared.expression.Change.TheVariants.{After}
use Rattle.lk_typed.specs.declared.expression.TypedExpr.{TypedExpr}
use Rattle.lk_typed.specs.declared.expression.TypedForm.TheVariants as form
use Rattle.lk_types.specs.Predeclared.{kind_id}

abbrev pub steps_in : ℕ → Part → List Step
steps_in on part = part.steps on

paren_steps_of : (names : Names) (slot : Option ℕ) (node : Node) (a : Part) (on : ℕ) → steps_in on (paren_of names slot node a) ≡ []
paren_steps_of names None node a on = refl
paren_steps_of names (Some slot) node a on = refl

pub paren_steps : (names : Names) (on : ℕ) (e a : TypedExpr) → e.form ≡ form.Paren a → steps_in on (part names e) ≡ []
paren_steps names on e a is = ap (steps_in on) (as_form names e (form.Paren a) _ is (of_Paren names a)) ∙ paren_steps_of names (part names a).slot _ _ on

sides : (test : Bool) (x y v w : Part) (on : ℕ) → steps_in on x ≡ steps_in on v → steps_in on y ≡ steps_in on w → steps_in on (if test then x else y) ≡ steps_in on (if test then v else w)
sides true x y v w on left right = left
sides false x y v w on left right = right

alike : (names : Names) (node : Node) (operator : StepOperator) (change : Change) (a : Part) (t on : ℕ) →
    steps_in on (step_part names node operator change a t) ≡ steps_in on (step_part names node operator After a t)
unfolding step_part
alike names node operator change a t on = sides (nat_eq a.node.type t) _ _ _ _ on (sides (is_pointer (names.form t) || nat_eq t (kind_id IntKind)) _ _ _ _ on refl refl) refl

-- the steps are the same whichever value it gives
pub change_steps : (names : Names) (on : ℕ) (e : TypedExpr) (operator : StepOperator) (change : Change) (a : TypedExpr) (t : ℕ) → e.form ≡ form.Step operator change a t →
    steps_in on (part names e) ≡ steps_in on (step_part names (node_of e) operator After (part names a) t)
change_steps names on e operator change a t is = ap (steps_in on) (as_form names e (form.Step operator change a t) _ is (of_Step names operator change a t)) ∙
    alike names (node_of e) operator change (part names a) t on
