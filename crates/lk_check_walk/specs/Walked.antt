-- The walk over the forms of a declarator in the order of the text, and what is found of them (C99 6.7.5).
use Rattle.std.specs.Prelude.{◌≡◌, Bool, true, Option, List, [], option_map, reverse}
use Rattle.lk_tree.specs.declared.expression.Declarator.{Declarator}
use Rattle.lk_tree.specs.declared.expression.Expr.{Expr}
use Rattle.lk_typed.specs.Env.{Env, enter, nothing}
use Rattle.lk_typed.specs.Expressions.{declarator_layer, expression}
use Rattle.lk_typed.specs.Layers.{DeclaratorLayer}
use Rattle.lk_typed.specs.Nodes.{AnExpression, Placed}
use Rattle.lk_typed.specs.Parts.{added_by, perhaps, size_in}
use Rattle.lk_typed.specs.Telling.{size_holds}
use Rattle.lk_check_decl.specs.Arrays.{size_of}
use Rattle.lk_found.specs.Declarators.{scope_told}
use Rattle.lk_found.specs.FormsOf.{HasForms}
use Rattle.lk_found.specs.Shaped.{FormAt, forms_in}
use Rattle.lk_found.specs.declared.walked.SizeFound.{SizeFound}
use Rattle.lk_found.specs.declared.walked.Walked.{Walked}
use Rattle.lk_found.specs.Walked.{inside, HasInner, inside_inner, layer_of}
use Rattle.lk_checker.specs.States.{operand_in, StandsIn}
use Rattle.lk_checker.specs.declared.checker.Checker.{Checker}
use Rattle.lk_check_walk.specs.Walks.{Walks}

-- ---- what is found

-- these forms were walked, with these nodes inside
pub record IsWalked (at_end : Env) (old new : Checker) (env : Env) (l : DeclaratorLayer) (fs : List FormAt)
    (ps : List Placed) (walked : Walked) : Type 0 where
  pub walks : Walks at_end old new env (l.told.additions env) ps
  pub layers : forms_in new.types walked.layers.items ≡ reverse fs
  pub is_name : walked.is_name ≡ l.is_name
  -- a name alone adds nothing
  pub alone : l.is_name ≡ true → l.told.additions env ≡ nothing
  pub holds_sizeof : walked.holds_sizeof ≡ l.told.holds_sizeof env
  pub parameters : scope_told new.types walked.parameters
      ≡ record (l.told.parameters (enter env)) { structs = [] }

pub record HasWalked (at_end : Env) (old new : Checker) (env : Env) (d : Declarator)
    (w : Walked) : Type 0 where
  pub forms : List FormAt
  pub has : HasForms env d forms
  pub walked : IsWalked at_end old new env (declarator_layer d) forms (inside has) w

pub record HasWalkedInner (at_end : Env) (old new : Checker) (env : Env) (d : Option Declarator)
    (w : Walked) : Type 0 where
  pub forms : List FormAt
  pub has : HasInner env d forms
  pub walked : IsWalked at_end old new env (layer_of d) forms (inside_inner has) w

abbrev pub WalksForms : Checker → Checker → Bool → Declarator → Walked → Type 0
WalksForms old new in_size d walked = (at_end env : Env) → StandsIn old (operand_in in_size) env →
    HasWalked at_end old new env d walked

abbrev pub WalksInner : Checker → Checker → Bool → Option Declarator → Walked → Type 0
WalksInner old new in_size d walked = (at_end env : Env) → StandsIn old (operand_in in_size) env →
    HasWalkedInner at_end old new env d walked

-- ---- the size of an array, where one is written

pub record IsSizeFound (at_end : Env) (old new : Checker) (env : Env) (written : Option Expr)
    (found : SizeFound) : Type 0 where
  pub walks : Walks at_end old new env (added_by written env) (perhaps env AnExpression written)
  pub size : size_of found.size ≡ size_in written env
  pub holds_sizeof : found.holds_sizeof ≡ size_holds (option_map expression written) env

abbrev pub FindsSize : Checker → Checker → Bool → Option Expr → SizeFound → Type 0
FindsSize old new in_size size found = (at_end env : Env) → StandsIn old (operand_in in_size) env →
    IsSizeFound at_end old new env size found
