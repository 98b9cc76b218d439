-- Which forms a declarator has, the outermost first, in an environment (C99 6.7.5).
use Rattle.std.specs.Prelude.{◌≡◌, Bool, Option, Some, None, List, [], ◌∷◌}
use Rattle.lk_tree.specs.declared.expression.DeclaratorForm.TheOpen.{DeclaratorForm-F}
use Rattle.lk_tree.specs.declared.expression.DeclaratorForm.{out-DeclaratorForm}
use Rattle.lk_tree.specs.declared.expression.Declarator.{Declarator}
use Rattle.lk_tree.specs.declared.expression.Expr.{Expr}
use Rattle.lk_tree.specs.declared.expression.Parameter.{Parameter}
use Rattle.lk_tree.specs.declared.specifiers.Qualifier.{Qualifier}
use Rattle.lk_typed.specs.Env.{Env, enter, extend}
use Rattle.lk_typed.specs.Env as env
use Rattle.lk_typed.specs.Expressions.{declarator_found}
use Rattle.lk_typed.specs.Layers.{parameters_of}
use Rattle.lk_typed.specs.NodeRules.{mark}
use Rattle.lk_typed.specs.Parts.{inner_adds, size_in, tellers}
use Rattle.lk_typed.specs.Told.{Span}
use Rattle.lk_typed.specs.Ty.{Ty}
use Rattle.lk_found.specs.Shaped.{FormAt, shaped, is_large_shape}
use Rattle.lk_found.specs.Shapes.{Form, APointer, AnArray, AFunction}

abbrev pub formed : Declarator → Form → FormAt
formed d form = record { mark = mark d.spot d.ordinal; form = form }

-- the forms of a list of parameters and of a size, behind the declarator inside
abbrev pub sized : Env → Option Declarator → Option Expr → Form
sized e inner size = AnArray (size_in size (extend e (inner_adds inner e)))

abbrev pub with_parameters : Env → Option Declarator → List Parameter → Bool → Form
with_parameters e inner ps dots =
    AFunction (parameters_of (tellers ps) dots (enter (extend e (inner_adds inner e)))).types dots

pub data HasForms : Env → Declarator → List FormAt → Type 0 where
  star_alone : {e : Env} {d : Declarator} {qs : List Qualifier} →
      out-DeclaratorForm d.form ≡ DeclaratorForm-F.Star qs None → HasForms e d (formed d APointer ∷ [])
  star : {e : Env} {d : Declarator} {qs : List Qualifier} {inner : Declarator} {fs : List FormAt} →
      out-DeclaratorForm d.form ≡ DeclaratorForm-F.Star qs (Some inner) → HasForms e inner fs →
      HasForms e d (formed d APointer ∷ fs)
  named : {e : Env} {d : Declarator} {name : env.Name} →
      out-DeclaratorForm d.form ≡ DeclaratorForm-F.Named name → HasForms e d []
  group : {e : Env} {d : Declarator} {inner : Declarator} {fs : List FormAt} →
      out-DeclaratorForm d.form ≡ DeclaratorForm-F.Group inner → HasForms e inner fs → HasForms e d fs
  array_alone : {e : Env} {d : Declarator} {size : Option Expr} →
      out-DeclaratorForm d.form ≡ DeclaratorForm-F.ArrayOf None size →
      HasForms e d (formed d (sized e None size) ∷ [])
  array : {e : Env} {d : Declarator} {inner : Declarator} {size : Option Expr} {fs : List FormAt} →
      out-DeclaratorForm d.form ≡ DeclaratorForm-F.ArrayOf (Some inner) size → HasForms e inner fs →
      HasForms e d (formed d (sized e (Some inner) size) ∷ fs)
  function_alone : {e : Env} {d : Declarator} {ps : List Parameter} {dots : Bool} →
      out-DeclaratorForm d.form ≡ DeclaratorForm-F.FunctionOf None ps dots →
      HasForms e d (formed d (with_parameters e None ps dots) ∷ [])
  function : {e : Env} {d : Declarator} {inner : Declarator} {ps : List Parameter} {dots : Bool}
      {fs : List FormAt} → out-DeclaratorForm d.form ≡ DeclaratorForm-F.FunctionOf (Some inner) ps dots →
      HasForms e inner fs → HasForms e d (formed d (with_parameters e (Some inner) ps dots) ∷ fs)

-- the type that a declarator makes, and whether one on the way is over a bound, are those of its forms
abbrev pub TypesFollowForms : Type 0
TypesFollowForms = (span : Span) (d : Declarator) (fs : List FormAt) → HasForms span.env d fs →
    (t : Option Ty) → ((declarator_found d).type span t ≡ shaped span fs t)
    × ((declarator_found d).is_large span t ≡ is_large_shape span fs t)
