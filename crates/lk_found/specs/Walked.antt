-- The nodes inside a declarator that are no declarators, in the order of the text, and
-- its forms so far (C99 6.7.5).
use Rattle.std.specs.Prelude.{◌≡◌, ◌++◌, ◌||◌, Bool, false, Option, Some, None, List, [], ◌∷◌, if◌then◌else◌, option_map}
use Rattle.lk_tree.specs.declared.expression.Declarator.{Declarator}
use Rattle.lk_tree.specs.declared.expression.Expr.{Expr}
use Rattle.lk_tree.specs.declared.expression.Parameter.{Parameter}
use Rattle.lk_typed.specs.Env.{Env, enter, extend}
use Rattle.lk_typed.specs.Expressions.{declarator_layer}
use Rattle.lk_typed.specs.Layers.{DeclaratorLayer, inner_of}
use Rattle.lk_typed.specs.Nodes.{AnExpression, Placed}
use Rattle.lk_typed.specs.Parts.{inner_adds, is_lone, parameters_in_turn, perhaps}
use Rattle.lk_found.specs.FormsOf.{HasForms, star_alone, star, named, group, array_alone, array, function_alone, function}
use Rattle.lk_found.specs.Shaped.{FormAt}
use Rattle.lk_found.specs.declared.found.At.{At}
use Rattle.lk_found.specs.declared.layers.Layer.TheVariants as code
use Rattle.lk_found.specs.declared.parameters.ParametersFound.{ParametersFound}
use Rattle.lk_found.specs.declared.shapes.LayerAt.{LayerAt}
use Rattle.lk_found.specs.declared.walked.Walked.{Walked}

-- ---- the nodes inside

abbrev pub size_part : Env → Option Declarator → Option Expr → List Placed
size_part e inner size = perhaps (extend e (inner_adds inner e)) AnExpression size

abbrev pub parameter_parts : Env → Option Declarator → List Parameter → Bool → List Placed
parameter_parts e inner ps dots =
    parameters_in_turn (is_lone ps dots) (enter (extend e (inner_adds inner e))) ps

-- sizes and parameters, in the order of the text
abbrev pub inside : {e : Env} {d : Declarator} {fs : List FormAt} → HasForms e d fs → List Placed
inside (star_alone is) = []
inside (star is has) = inside has
inside (named is) = []
inside (group is has) = inside has
inside (array_alone {e = e} {size = size} is) = size_part e None size
inside (array {e = e} {inner = inner} {size = size} is has) = inside has ++ size_part e (Some inner) size
inside (function_alone {e = e} {ps = ps} {dots = dots} is) = parameter_parts e None ps dots
inside (function {e = e} {inner = inner} {ps = ps} {dots = dots} is has) =
    inside has ++ parameter_parts e (Some inner) ps dots

-- ---- a declarator that may be missing

pub data HasInner : Env → Option Declarator → List FormAt → Type 0 where
  none : {e : Env} → HasInner e None []
  some : {e : Env} {d : Declarator} {fs : List FormAt} → HasForms e d fs → HasInner e (Some d) fs

abbrev pub inside_inner : {e : Env} {d : Option Declarator} {fs : List FormAt} → HasInner e d fs → List Placed
inside_inner none = []
inside_inner (some has) = inside has

abbrev pub layer_of : Option Declarator → DeclaratorLayer
layer_of d = inner_of (option_map declarator_layer d)

-- one more form around, in which a sizeof stands or not
pub record HasLayer (before after : Walked) (layer : LayerAt) (holds : Bool) : Type 0 where
  pub layers : after.layers.items ≡ before.layers.items ++ layer ∷ []
  pub is_name : after.is_name ≡ false
  pub holds_sizeof : after.holds_sizeof ≡ (before.holds_sizeof || holds)
  pub parameters : after.parameters ≡ before.parameters

-- a function with these parameters around: what they declare is kept where they stand beside the name
pub record HasFunction (before after : Walked) (at : At) (dots : Bool)
    (found : ParametersFound) : Type 0 where
  pub layers : after.layers.items ≡ before.layers.items ++ record { at = at; layer = code.Function found.types dots } ∷ []
  pub is_name : after.is_name ≡ false
  pub holds_sizeof : after.holds_sizeof ≡ (before.holds_sizeof || found.holds_sizeof)
  pub parameters : after.parameters ≡ (if before.is_name then Some found.scope else before.parameters)
