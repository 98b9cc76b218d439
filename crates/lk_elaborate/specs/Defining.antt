-- What is made of the body of a definition (C99 6.9.1), in tables to which the state leads.
use Rattle.std.specs.Prelude.{ℕ, ◌≡◌, false, Some, List, [], ◌∷◌}
use Rattle.lk_tree.specs.declared.statement.Function.{Function as Definition}
use Rattle.lk_tree.specs.declared.statement.StmtForm.{out-StmtForm}
use Rattle.lk_typed.specs.Entities.{defined_type}
use Rattle.lk_typed.specs.Env.{Env, AsOperand, extend}
use Rattle.lk_typed.specs.Expressions.{specifiers_found}
use Rattle.lk_typed.specs.Labels.{labels}
use Rattle.lk_typed.specs.Meaning.{meaning}
use Rattle.lk_typed.specs.NodeParts.{body_items, in_body}
use Rattle.lk_typed.specs.Nodes.{ADefinition, at}
use Rattle.lk_typed.specs.Parts.{items_in_turn}
use Rattle.lk_typed.specs.StatementRules.{in_function}
use Rattle.lk_typed.specs.Tables.{Tables}
use Rattle.lk_typed.specs.TypedStatements.{AreItems, MakesStmt}
use Rattle.lk_typed.specs.declared.statement.TypedItem.{TypedItem}
use Rattle.lk_typed.specs.declared.statement.TypedItem.TheOpen.{TypedStmtForm-F}
use Rattle.lk_typed.specs.declared.statement.TypedStmt.{TypedStmt}
use Rattle.lk_elaborator.specs.declared.elaborator.Elaborator.{Elaborator}
use Rattle.lk_elaborate.specs.Making.{IsRound, MakesOf}
use Rattle.lk_elaborate.specs.declared.statements.Around.{Around}

-- the environment of the body
abbrev pub inside : Env → Definition → Env
inside env node = let told = specifiers_found node.specifiers env false in
    in_body told (extend env told.additions) node

-- this stands round the statements of the body, where the function has the type with the number t
abbrev pub IsRoundIn : Elaborator → Definition → ℕ → Around → Type 0
IsRoundIn walk node t round =
    (env : Env) → env.role ≡ AsOperand → defined_type env node ≡ Some (meaning walk.types t) →
    IsRound walk round (inside env node) (in_function (labels node.body))

-- the block of the body, with the items in it
pub record IsBlockOf (tables : Tables) (env : Env) (node : Definition) (made : TypedStmt) : Type 0 where
  pub items : List TypedItem
  pub are_items : AreItems tables
      (items_in_turn (in_function (labels node.body)) (inside env node) (body_items (out-StmtForm node.body.form))) items
  pub block : MakesStmt node.body (TypedStmtForm-F.Block items) made

abbrev pub MakesBlock : Elaborator → Elaborator → Definition → ℕ → TypedStmt → Type 0
MakesBlock old new node t block =
    (env : Env) → env.role ≡ AsOperand → defined_type env node ≡ Some (meaning old.types t) →
    MakesOf old new (at env (ADefinition node) ∷ []) (λ tables. IsBlockOf tables env node block)
