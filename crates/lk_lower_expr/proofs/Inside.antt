-- What is inside an expression, of the forms that choose among several rules.
use Rattle.std.proofs.Common.{ap, ◌∙◌, ◌≡◌, ℕ, Bool, true, false, ◌||◌, Option, None, Some, List, [], ◌∷◌, ◌++◌, nat_eq, refl}
use Rattle.std.specs.Prelude.{if◌then◌else◌}
use Rattle.lk_arith.specs.declared.operators.Op.{Op}
use Rattle.lk_base.specs.declared.kind.Kind.TheVariants.{Int as IntKind}
use Rattle.lk_lower_expr.proofs.Forms.{as_form, of_Assign, of_Choice, of_Compound, of_Paren, of_Step}
use Rattle.lk_lower_expr.specs.Counts.{way_on}
use Rattle.lk_lower_expr.specs.Expressions.{part}
use Rattle.lk_lower_expr.specs.Laid.{laid}
use Rattle.lk_lower_expr.specs.Names.{Names, Node}
use Rattle.lk_lower_expr.specs.Naming.{node_of}
use Rattle.lk_lower_expr.specs.Parts.{Part, goes, in_turn, paren_of, place_of}
use Rattle.lk_lower_expr.specs.Values.{choice_part, choice_of, compound_part, step_part, is_pointer}
use Rattle.lk_lower_expr.specs.declared.step.NamedStep.{NamedStep}
use Rattle.lk_tree.specs.declared.operators.StepOperator.{StepOperator}
use Rattle.lk_typed.specs.declared.expression.Change.{Change}
use Rattle.lk_typed.specs.declared.expression.TypedExpr.{TypedExpr}
use Rattle.lk_typed.specs.declared.expression.TypedForm.TheVariants as form
use Rattle.lk_types.specs.Predeclared.{kind_id}
use Rattle.lk_types.specs.declared.c_type.CType.{CType}
use Rattle.lk_types.specs.declared.c_type.CType.TheVariants.{Void, Int, ThreadId, Mutex, Cond, Pointer, Array, Struct, Function, Opaque}

-- what is inside a part, at the end of others
abbrev pub laid_in : ℕ → List NamedStep → Part → List NamedStep
laid_in on others part = laid (part.inside on) others

sides : (test : Bool) (x y : Part) (on : ℕ) (others is : List NamedStep) → laid_in on others x ≡ is → laid_in on others y ≡ is → laid_in on others (if test then x else y) ≡ is
sides true x y on others is left right = left
sides false x y on others is left right = right

module _ (names : Names) (on : ℕ) (others : List NamedStep) where
  abbrev pub ways : CType → Node → Part → Part → Part → List NamedStep
  ways form node c a b = laid (goes c (names.at node.ordinal 0)) (laid (goes a (way_on form (names.at node.ordinal 1) on)) (laid (goes b (way_on form (names.at node.ordinal 2) on)) others))

  choice_of_in : (form : CType) (node : Node) (c a b : Part) → laid_in on others (choice_of names form node c a b) ≡ ways form node c a b
  choice_of_in Void node c a b = refl
  choice_of_in (Int k) node c a b = refl
  choice_of_in ThreadId node c a b = refl
  choice_of_in Mutex node c a b = refl
  choice_of_in Cond node c a b = refl
  choice_of_in (Pointer t) node c a b = refl
  choice_of_in (Array t n) node c a b = refl
  choice_of_in (Struct s) node c a b = refl
  choice_of_in (Function result params dots) node c a b = refl
  choice_of_in (Opaque n) node c a b = refl

  pub choice_in : (e c a b : TypedExpr) → e.form ≡ form.Choice c a b →
      laid_in on others (part names e) ≡ ways (names.form e.ty) (node_of e) (part names c) (part names a) (part names b)
  unfolding choice_part
  choice_in e c a b is = ap (laid_in on others) (as_form names e (form.Choice c a b) _ is (of_Choice names c a b)) ∙ choice_of_in (names.form e.ty) _ _ _ _

  abbrev pub place_in : Part → ℕ → List NamedStep → List NamedStep
  place_in a goes_on steps = laid (in_turn (place_of names a.slot a) goes_on) steps

  pub compound_in : (e : TypedExpr) (op : Op) (a b : TypedExpr) (t : ℕ) → e.form ≡ form.Compound op a b t →
      laid_in on others (part names e) ≡ place_in (part names a) (names.at e.ordinal 0) (laid (goes (part names b) (names.at e.ordinal 1)) others)
  unfolding compound_part
  compound_in e op a b t is = ap (laid_in on others) (as_form names e (form.Compound op a b t) _ is (of_Compound names op a b t)) ∙
      sides (nat_eq (part names a).node.type t) _ _ on others _ refl refl

  pub change_in : (e : TypedExpr) (operator : StepOperator) (change : Change) (a : TypedExpr) (t : ℕ) → e.form ≡ form.Step operator change a t →
      laid_in on others (part names e) ≡ place_in (part names a) (names.at e.ordinal 0) others
  unfolding step_part
  change_in e operator change a t is = ap (laid_in on others) (as_form names e (form.Step operator change a t) _ is (of_Step names operator change a t)) ∙
      sides (nat_eq (part names a).node.type t) _ _ on others _ (sides (is_pointer (names.form t) || nat_eq t (kind_id IntKind)) _ _ on others _ refl refl) refl

  paren_of_in : (slot : Option ℕ) (node : Node) (a : Part) → laid_in on others (paren_of names slot node a) ≡ laid (in_turn (place_of names slot a) on) others
  paren_of_in None node a = refl
  paren_of_in (Some slot) node a = refl

  pub paren_in : (e a : TypedExpr) → e.form ≡ form.Paren a → laid_in on others (part names e) ≡ place_in (part names a) on others
  paren_in e a is = ap (laid_in on others) (as_form names e (form.Paren a) _ is (of_Paren names a)) ∙ paren_of_in (part names a).slot _ _

  assign_of_in : (slot : Option ℕ) (a b : Part) (own : ℕ) →
      laid (in_turn (place_of names slot a ++ (b ∷ [])) own) others ≡ laid (in_turn (place_of names slot a) b.first) (laid (goes b own) others)
  assign_of_in None a b own = refl
  assign_of_in (Some slot) a b own = refl

  pub assign_in : (e a b : TypedExpr) → e.form ≡ form.Assign a b →
      laid_in on others (part names e) ≡ place_in (part names a) (part names b).first (laid (goes (part names b) (names.at e.ordinal 0)) others)
  assign_in e a b is = ap (laid_in on others) (as_form names e (form.Assign a b) _ is (of_Assign names a b)) ∙ assign_of_in (part names a).slot _ _ _
