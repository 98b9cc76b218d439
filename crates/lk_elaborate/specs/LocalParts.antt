-- The parts of a local that its initialiser names, as the typed tree has them.
use Rattle.std.specs.Prelude.{ℕ, ◌≡◌, Some, List}
use Rattle.lk_tree.specs.declared.declaration.Init.{Init}
use Rattle.lk_tree.specs.declared.expression.Expr.{Expr}
use Rattle.lk_tree.specs.declared.statement.Unit.{Unit}
use Rattle.lk_typed.specs.Env.{Env, Name, converted_to}
use Rattle.lk_typed.specs.Initialised as spec
use Rattle.lk_typed.specs.Initialised.{AValue, AreGiven}
use Rattle.lk_typed.specs.InitialiserRules.{Object}
use Rattle.lk_typed.specs.LocalInits.{AreLocalParts, IsLocalInit, IsLocalPart, IsLocalValue}
use Rattle.lk_typed.specs.Meaning.{meaning, IsReady}
use Rattle.lk_typed.specs.Nodes.{AnExpression, AnInitialiser, Node}
use Rattle.lk_typed.specs.Tables.{Tables}
use Rattle.lk_typed.specs.Ty.{Ty}
use Rattle.lk_typed.specs.Units.{IsNode, at_end}
use Rattle.lk_typed.specs.declared.initialiser.LocalPart.{LocalPart}
use Rattle.lk_typed.specs.declared.initialiser.LocalValue.{LocalValue}
use Rattle.lk_typed.specs.declared.statement.LocalInit.{LocalInit}
use Rattle.lk_elaborator.specs.Leading.{Leads}
use Rattle.lk_elaborator.specs.Telling.{IsTold}
use Rattle.lk_elaborator.specs.declared.elaborator.Elaborator.{Elaborator}
use Rattle.lk_elab_init.specs.Giving.{AreGivenAs, IsGivenAs}
use Rattle.lk_elab_init.specs.Source.{IsToldSource}
use Rattle.lk_elab_init.specs.declared.givens.PartGiven.{PartGiven}

-- what was found at the nodes of a source is true of them
pub record AreTold (externs : List Name) (unit : Unit) (walk : Elaborator) : Type 0 where
  pub ready : IsReady walk.types
  pub told : (env : Env) (node : Node) → IsNode externs unit env node →
      IsTold (at_end externs unit) walk env node

-- this holds of a source in tables to which the new state leads
abbrev pub OfTold : Elaborator → Elaborator → (List Name → Unit → Tables → Type 0) → Type 0
OfTold old new Says = (externs : List Name) (unit : Unit) → AreTold externs unit old → (tables : Tables) →
    Leads new tables → Says externs unit tables

-- the value of an expression, converted to the type of a part
abbrev pub GivesLocalValue : Elaborator → Elaborator → ℕ → Expr → LocalValue → Type 0
GivesLocalValue old new ty e is =
    OfTold old new (λ externs unit tables. (env : Env) (t : Ty) → meaning old.types ty ≡ t →
    IsNode externs unit (converted_to env t) (AnExpression e) →
    IsLocalValue tables t (AValue (converted_to env t, e)) is)

abbrev pub BeginsLocal : Elaborator → Elaborator → PartGiven → LocalValue → Type 0
BeginsLocal old new given is =
    OfTold old new (λ externs unit tables. (part : spec.PartGiven) →
    IsGivenAs externs unit old.types given part → IsLocalValue tables part.type part.begins is)

abbrev pub GivesLocalPart : Elaborator → Elaborator → PartGiven → LocalPart → Type 0
GivesLocalPart old new given is =
    OfTold old new (λ externs unit tables. (part : spec.PartGiven) →
    IsGivenAs externs unit old.types given part → IsLocalPart tables part is)

abbrev pub GivesLocalParts : Elaborator → Elaborator → List PartGiven → List LocalPart → Type 0
GivesLocalParts old new givens are =
    OfTold old new (λ externs unit tables. (parts : List spec.PartGiven) →
    AreGivenAs externs unit old.types givens parts → AreLocalParts tables parts are)

-- the initialiser of the local that a node declares, an object of this type
abbrev pub GivesLocalInit : Elaborator → Elaborator → ℕ → ℕ → Init → LocalInit → Type 0
GivesLocalInit old new ordinal ty init is =
    (externs : List Name) (unit : Unit) → IsToldSource externs unit old → (env : Env) (object : Object) →
    IsNode externs unit env (AnInitialiser (Some object) init) →
    object.type ≡ meaning old.types ty → (tables : Tables) → Leads new tables →
    IsLocalInit tables env object.type init ordinal is
