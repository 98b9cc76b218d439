-- What statements and items of blocks tell, by their forms and what their parts tell (C99 6.8).
use Rattle.std.specs.Prelude.{ℕ, List, map, option_map}
use Rattle.lk_tree.specs.declared.statement.BlockItem.TheOpen.{BlockItem-F, StmtForm-F}
use Rattle.lk_tree.specs.declared.statement.BlockItem.{BlockItem, out-BlockItem}
use Rattle.lk_tree.specs.declared.statement.Stmt.{Stmt}
use Rattle.lk_tree.specs.declared.statement.StmtForm.{StmtForm}
use Rattle.lk_typed.specs.DeclarationRules.{InBlock}
use Rattle.lk_typed.specs.Declarations.{declaration_adds}
use Rattle.lk_typed.specs.Statements.{StmtTeller, adding, all_in_turn, of_form, statement}

-- an item of a block
abbrev pub item_told : BlockItem-F BlockItem StmtForm Stmt → StmtTeller
item_told (BlockItem-F.Declare node) = adding (λ env. declaration_adds InBlock env node)
item_told (BlockItem-F.Stmt inner) = statement inner

abbrev pub items_told : List BlockItem → StmtTeller
items_told items = all_in_turn (map (λ i. item_told (out-BlockItem i)) items)

-- a form with what its parts tell
abbrev pub form_told : StmtForm-F BlockItem StmtForm Stmt → StmtForm-F StmtTeller (ℕ → StmtTeller) StmtTeller
form_told (StmtForm-F.Label name inner) = StmtForm-F.Label name (statement inner)
form_told (StmtForm-F.Case value inner) = StmtForm-F.Case value (statement inner)
form_told (StmtForm-F.Default inner) = StmtForm-F.Default (statement inner)
form_told (StmtForm-F.Block items) = StmtForm-F.Block (map (λ i. item_told (out-BlockItem i)) items)
form_told (StmtForm-F.Do e) = StmtForm-F.Do e
form_told (StmtForm-F.If e taken other) = StmtForm-F.If e (statement taken) (option_map statement other)
form_told (StmtForm-F.Switch e inner) = StmtForm-F.Switch e (statement inner)
form_told (StmtForm-F.While e inner) = StmtForm-F.While e (statement inner)
form_told (StmtForm-F.Until inner e) = StmtForm-F.Until (statement inner) e
form_told (StmtForm-F.For start condition step inner) = StmtForm-F.For start condition step (statement inner)
form_told (StmtForm-F.Goto name) = StmtForm-F.Goto name
form_told StmtForm-F.Continue = StmtForm-F.Continue
form_told StmtForm-F.Break = StmtForm-F.Break
form_told (StmtForm-F.Return e) = StmtForm-F.Return e

abbrev pub told_of : StmtForm-F BlockItem StmtForm Stmt → ℕ → StmtTeller
told_of f n = of_form (form_told f) n
