-- The names that the functions and the start routines of calls are (C99 6.5.2.2; POSIX, pthread_create).
use Rattle.std.specs.Prelude.{ℕ, ◌≡◌, Some}
use Rattle.lk_tree.specs.declared.expression.DeclaratorForm.TheOpen.{ExprForm-F}
use Rattle.lk_tree.specs.declared.expression.Expr.{Expr}
use Rattle.lk_typed.specs.Elaborated.{InPlace, StandsFor, form_of}
use Rattle.lk_typed.specs.Env.{Env, Name, Declared, look_up}
use Rattle.lk_typed.specs.Expressions.{expression}
use Rattle.lk_elaborator.specs.Leading.{entity_by}
use Rattle.lk_elaborator.specs.Telling.{IsTrueOf}
use Rattle.lk_elaborator.specs.declared.elaborator.Elaborator.{Elaborator}
use Rattle.lk_elab_expr.specs.Walking.{IsToldOf}

-- the expression with this number is this name, which stands in the other one for what it stands for there
pub record IsWordIn (walk : Elaborator) (f : InPlace) (name : Name) (n : ℕ) : Type 0 where
  pub word : InPlace
  pub ordinal : word.1.ordinal ≡ n
  pub form : form_of word ≡ ExprForm-F.Word name
  pub same : look_up word.0 name ≡ look_up f.0 name
  pub true_of : IsTrueOf walk word

abbrev pub HasWord : Expr → Name → ℕ → Type 0
HasWord e name n = (at_end : Env) (walk : Elaborator) (f : InPlace) → f.1 ≡ e → IsToldOf at_end walk f →
    IsWordIn walk f name n

-- the expression with this number is the name that the other one is, perhaps with parentheses and & round it
pub record IsRoutineIn (walk : Elaborator) (p : InPlace) (n : ℕ) : Type 0 where
  pub word : InPlace
  pub ordinal : word.1.ordinal ≡ n
  pub same : (expression p.1 p.0).look.routine ≡ (expression word.1 word.0).look.routine
  pub true_of : IsTrueOf walk word

abbrev pub HasRoutine : Expr → ℕ → Type 0
HasRoutine e n = (at_end : Env) (walk : Elaborator) (p : InPlace) → p.1 ≡ e → IsToldOf at_end walk p →
    IsRoutineIn walk p n

-- the entity for which an expression stands that is a name
abbrev pub IsEntityOf : Elaborator → InPlace → ℕ → Type 0
IsEntityOf walk p e = (d : Declared) × StandsFor p d × (entity_by walk d.ordinal ≡ Some e)
