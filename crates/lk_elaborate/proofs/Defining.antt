-- What is made of the items of a body makes its block.
use Rattle.std.proofs.Common.{◌≡◌, ◌∙◌, ℕ, false, Some, List, [], ◌∷◌, inl, inr, refl, ap, subst}
use Rattle.lk_tree.specs.declared.statement.BlockItem.{BlockItem}
use Rattle.lk_tree.specs.declared.statement.Function.{Function as Definition}
use Rattle.lk_tree.specs.declared.statement.StmtForm.{out-StmtForm}
use Rattle.lk_types.specs.Table.{IsKnown}
use Rattle.lk_typed.specs.Env.{Env}
use Rattle.lk_typed.specs.Labels.{labels}
use Rattle.lk_typed.specs.Meaning.{meaning}
use Rattle.lk_typed.specs.NodeParts.{body_items, result_of}
use Rattle.lk_typed.specs.Nodes.{ADefinition, at}
use Rattle.lk_typed.specs.Parts.{items_in_turn, specifiers_parts}
use Rattle.lk_typed.specs.StatementRules.{in_function}
use Rattle.lk_typed.specs.TypedStatements.{MakesStmt}
use Rattle.lk_typed.specs.declared.statement.TypedItem.{TypedItem}
use Rattle.lk_typed.specs.declared.statement.TypedItem.TheOpen.{TypedStmtForm-F}
use Rattle.lk_typed.specs.declared.statement.TypedStmt.{TypedStmt}
use Rattle.lk_labels.specs.Leasts.{AreLabels}
use Rattle.lk_elaborator.specs.declared.elaborator.Elaborator.{Elaborator}
use Rattle.lk_elaborate.proofs.Carried.{in_rest, node_part}
use Rattle.lk_elaborate.specs.Defining.{IsRoundIn, MakesBlock, inside}
use Rattle.lk_elaborate.specs.Making.{MakesItems, StandIn}
use Rattle.lk_elaborate.specs.declared.statements.Around.{Around}

pub round_in : (walk : Elaborator) (node : Definition) (t : ℕ) (round : Around) → AreLabels round.labels (labels node.body) → IsKnown walk.types round.returned →
    result_of (Some (meaning walk.types t)) ≡ Some (meaning walk.types round.returned) → IsRoundIn walk node t round
round_in walk node t round labelled known returned env role type = record { role = role; labels = labelled; known = known; result = ap result_of type ∙ returned }

items_stand : (walk : Elaborator) (env : Env) (node : Definition) → StandIn walk (at env (ADefinition node) ∷ []) →
    StandIn walk (items_in_turn (in_function (labels node.body)) (inside env node) (body_items (out-StmtForm node.body.form)))
items_stand walk env node is = record {
  externs = is.externs;
  unit = is.unit;
  told = is.told;
  each = λ part there.
      node_part is.externs is.unit env (ADefinition node) part (is.each (at env (ADefinition node)) (inl refl)) (in_rest part (specifiers_parts false env node.specifiers) _ (inr there));
}

pub block_made : (old new : Elaborator) (node : Definition) (t : ℕ) (round : Around) (items : List BlockItem) (made : List TypedItem) (block : TypedStmt) → items ≡ body_items (out-StmtForm node.body.form) →
    IsRoundIn old node t round → MakesItems old new round items made → MakesStmt node.body (TypedStmtForm-F.Block made) block → MakesBlock old new node t block
block_made old new node t round items made block same is makes is_block env role type stands tables leads = record {
  items = made;
  are_items =
      subst (λ list. MakesItems old new round list made) same makes (inside env node) (in_function (labels node.body)) (is env role type) (items_stand old env node stands) tables leads;
  block = is_block;
}
