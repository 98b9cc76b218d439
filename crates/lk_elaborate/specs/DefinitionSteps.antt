-- The steps in which a definition of a function is put: its name, and behind its parameters and the items of
-- its body the body of them all (C99 6.9.1).
use Rattle.std.specs.Prelude.{ℕ, ◌≡◌, ◌++◌, Some, List, [], ◌∷◌, nat_eq}
use Rattle.std.specs.Map.{lookup}
use Rattle.lk_tree.specs.declared.statement.Function.{Function as Definition}
use Rattle.lk_typed.specs.Env.{Env}
use Rattle.lk_typed.specs.Expressions.{declarator_found}
use Rattle.lk_typed.specs.Labels.{labels}
use Rattle.lk_typed.specs.NodeParts.{body_items}
use Rattle.lk_typed.specs.Nodes.{Placed}
use Rattle.lk_typed.specs.Parts.{items_in_turn}
use Rattle.lk_typed.specs.StatementRules.{in_function}
use Rattle.lk_tree.specs.declared.statement.StmtForm.{out-StmtForm}
use Rattle.lk_typed.specs.declared.statement.TypedStmt.{TypedStmt}
use Rattle.lk_typed.specs.declared.unit.Body.{Body}
use Rattle.lk_check_decl.specs.declared.words.Scope.TheVariants.{File}
use Rattle.lk_found.specs.Named.{name_in}
use Rattle.lk_found.specs.declared.declarators.DeclaredName.{DeclaredName}
use Rattle.lk_found.specs.declared.records.DeclaredHere.{DeclaredHere}
use Rattle.lk_elaborator.specs.Leading.{entity_by}
use Rattle.lk_elaborator.specs.declared.elaborator.Elaborator.{Elaborator}
use Rattle.lk_elaborate.specs.Defining.{inside}
use Rattle.lk_elaborate.specs.PuttingDeclared.{PutsRecorded}
use Rattle.lk_elaborate.specs.declared.definitions.Head.{Head}

-- the items of the body, where they stand
abbrev pub items_of : Env → Definition → List Placed
items_of env node =
    items_in_turn (in_function (labels node.body)) (inside env node)
    (body_items (out-StmtForm node.body.form))

-- ---- the name

-- the type with this number was recorded of the name that the node with the number n declares
abbrev pub IsTypeRecorded : Elaborator → (n t : ℕ) → Type 0
IsTypeRecorded walk n t = (h : DeclaredHere) × (lookup (nat_eq n) walk.records.declared ≡ Some h) × (h.ty ≡ t)

-- the head of a definition, of its declared name
pub record IsHead (old new : Elaborator) (node : Definition) (head : Head) : Type 0 where
  pub named : DeclaredName
  pub has_name : (declarator_found node.declarator).name ≡ Some (name_in named)
  pub puts : PutsRecorded File old new named
  pub entity : entity_by new named.at.ordinal ≡ Some head.entity
  pub type : IsTypeRecorded new named.at.ordinal head.ty

-- ---- the body

-- the locals go into it
abbrev pub body_of : Elaborator → Definition → (entity parameters : ℕ) → TypedStmt → Body
body_of walk node entity parameters block = record {
  spot = node.spot;
  ordinal = node.ordinal;
  entity = entity;
  parameters = parameters;
  locals = walk.locals.list.items;
  block = block;
}

pub record PutsBodyOf (old new : Elaborator) (node : Definition) (entity parameters : ℕ)
    (block : TypedStmt) : Type 0 where
  pub same : new ≡ record old { locals = new.locals; bodies = new.bodies }
  pub bodies : new.bodies.items ≡ old.bodies.items ++ body_of old node entity parameters block ∷ []
