-- The start routine of a call of pthread_create (POSIX, pthread_create).
use Rattle.std.specs.Prelude.{ℕ, ◌≡◌, Some, List, [], ◌∷◌}
use Rattle.lk_tree.specs.declared.expression.Expr.{Expr}
use Rattle.lk_typed.specs.Elaborated.{InPlace}
use Rattle.lk_typed.specs.Env.{Env, Declared}
use Rattle.lk_typed.specs.Expressions.{expression}
use Rattle.lk_elaborator.specs.Leading.{entity_by}
use Rattle.lk_elaborator.specs.declared.elaborator.Elaborator.{Elaborator}
use Rattle.lk_elab_expr.specs.PassedArguments.{IsToldCall}
use Rattle.lk_elab_expr.specs.Walking.{IsToldOf}

-- the name that the expression is, perhaps with parentheses and & round it, is of this entity
pub record IsStarted (walk : Elaborator) (p : InPlace) (e : ℕ) : Type 0 where
  pub declared : Declared
  pub is : (expression p.1 p.0).look.routine ≡ Some declared
  pub entity : entity_by walk declared.ordinal ≡ Some e

abbrev pub StartsRoutine : Elaborator → Expr → ℕ → Type 0
StartsRoutine walk routine e = (at_end : Env) (p : InPlace) → p.1 ≡ routine → IsToldOf at_end walk p →
    IsStarted walk p e

-- the third of four arguments is
pub record StartsAt (walk : Elaborator) (ps : List InPlace) (e : ℕ) : Type 0 where
  pub id : InPlace
  pub attribute : InPlace
  pub routine : InPlace
  pub argument : InPlace
  pub are : ps ≡ id ∷ attribute ∷ routine ∷ argument ∷ []
  pub starts : IsStarted walk routine e

abbrev pub FindsRoutine : Elaborator → List Expr → ℕ → Type 0
FindsRoutine walk arguments e = (at_end : Env) (p f : InPlace) (ps : List InPlace) →
    IsToldCall at_end walk p f ps arguments → StartsAt walk ps e
