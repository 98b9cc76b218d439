-- How a cast converts (C99 6.5.4).
use Rattle.std.specs.Prelude.{ℕ, ◌≡◌, Bool, true, false}
use Rattle.lk_tree.specs.declared.expression.DeclaratorForm.TheOpen.{ExprForm-F}
use Rattle.lk_tree.specs.declared.expression.TypeName.{TypeName, out-TypeName}
use Rattle.lk_typed.specs.Elaborated.{form_of}
use Rattle.lk_typed.specs.Env.{Env}
use Rattle.lk_elaborator.specs.Telling.{IsTrueOfName}
use Rattle.lk_elaborator.specs.declared.elaborator.Elaborator.{Elaborator}
use Rattle.lk_elaborator.specs.declared.forms.One.{One}
use Rattle.lk_elab_expr.specs.Deciding.{DecidesOne}
use Rattle.lk_elab_expr.specs.declared.casts.Casting.{Casting}
use Rattle.lk_elab_expr.specs.declared.casts.Casting.TheVariants as how

-- by whether the type is void, and whether a null pointer constant is cast to a pointer
abbrev pub casting : Bool → Bool → Casting
casting true is_null = how.Discard
casting false true = how.Null
casting false false = how.Convert

-- of each cast whose type name has this number and what was found of it is true
abbrev pub DecidesCast : Elaborator → Elaborator → (name operand : ℕ) → One → Type 0
DecidesCast old new name operand one =
    (n : Env × TypeName) → (out-TypeName n.1).ordinal ≡ name → IsTrueOfName old n →
    DecidesOne old new operand (λ p i. form_of p ≡ ExprForm-F.Cast n i) one
