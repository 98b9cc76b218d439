-- What is known of an expression where it stands, by what was found of the node with its number.
use Rattle.std.specs.Prelude.{ℕ, ◌≡◌, Some}
use Rattle.lk_types.specs.Table.{Table, IsKnown}
use Rattle.lk_tree.specs.declared.expression.TypeName.{TypeName, out-TypeName}
use Rattle.lk_typed.specs.Addresses.{value}
use Rattle.lk_typed.specs.Elaborated.{InPlace, type_named, typing_at}
use Rattle.lk_typed.specs.Env.{Env}
use Rattle.lk_typed.specs.Expressions.{expression}
use Rattle.lk_typed.specs.Meaning.{meaning, meaning_of}
use Rattle.lk_typed.specs.Operands.{node_type, promoted_type, step_type}
use Rattle.lk_typed.specs.Typing.{Typing}
use Rattle.lk_typed.specs.Typings.{IsTyping}
use Rattle.lk_typed.specs.declared.constant.Constant.{Constant}
use Rattle.lk_typed.specs.declared.typed.ExprType.{ExprType}
use Rattle.lk_typed.specs.declared.typed.Typed.{Typed}
use Rattle.lk_found.specs.Findings.{IsFound}
use Rattle.lk_found.specs.declared.found.Found.{Found}
use Rattle.lk_elaborator.specs.Telling.{IsTrueOf, IsTrueOfName}
use Rattle.lk_elaborator.specs.declared.elaborator.Elaborator.{Elaborator}

-- it says so of each expression with this number of which what was found is true
abbrev pub OfEach : Elaborator → ℕ → (InPlace → Type 0) → Type 0
OfEach walk n Says = (p : InPlace) → p.1.ordinal ≡ n → IsTrueOf walk p → Says p

-- the type of each type name with this number of which what was found is true
abbrev pub IsNamedAt : Elaborator → ℕ → ℕ → Type 0
IsNamedAt walk n t =
    (name : Env × TypeName) → (out-TypeName name.1).ordinal ≡ n → IsTrueOfName walk name →
    type_named name ≡ Some (meaning walk.types t)

-- ---- what is found of it, its typing, and that of its value

abbrev pub IsFoundAt : Table → InPlace → Found → Type 0
IsFoundAt table p found = IsFound table p.0 found (expression p.1 p.0)

pub record HasTyping (table : Table) (p : InPlace) (t : Typed) : Type 0 where
  pub typing : Typing
  pub found : typing_at p ≡ Some typing
  pub is : IsTyping table t typing

pub record HasValue (table : Table) (p : InPlace) (v : Typed) : Type 0 where
  pub typing : Typing
  pub found : typing_at p ≡ Some typing
  pub is : IsTyping table v (value typing)

-- the number is that of the type of its node
pub record HasNodeType (types : Table) (p : InPlace) (t : ℕ) : Type 0 where
  pub typing : Typing
  pub found : typing_at p ≡ Some typing
  pub known : IsKnown types t
  pub means : meaning types t ≡ node_type typing.type

-- it is the type to which its value is promoted
pub record IsPromotedAt (table : Table) (p : InPlace) (ty : ExprType) : Type 0 where
  pub typing : Typing
  pub found : typing_at p ≡ Some typing
  pub means : meaning_of table ty ≡ promoted_type (value typing).type

-- the number is that of the type at which ++ and -- of it compute
pub record HasStepType (types : Table) (p : InPlace) (t : ℕ) : Type 0 where
  pub typing : Typing
  pub found : typing_at p ≡ Some typing
  pub known : IsKnown types t
  pub means : meaning types t ≡ step_type typing.type

pub record HasConstant (p : InPlace) (constant : Constant) : Type 0 where
  pub typing : Typing
  pub found : typing_at p ≡ Some typing
  pub is : typing.constant ≡ constant
