-- What statements put (C99 6.8): what the declarations in them put, in the body that is made.
use Rattle.std.specs.Prelude.{Option, List, [], ◌∷◌}
use Rattle.lk_tree.specs.declared.declaration.Declare.{Declare}
use Rattle.lk_tree.specs.declared.statement.BlockItem.{BlockItem, out-BlockItem}
use Rattle.lk_tree.specs.declared.statement.BlockItem.TheOpen.{StmtForm-F}
use Rattle.lk_tree.specs.declared.statement.ForFirst.{ForFirst}
use Rattle.lk_tree.specs.declared.statement.Function.{Function as Definition}
use Rattle.lk_tree.specs.declared.statement.Stmt.{Stmt}
use Rattle.lk_tree.specs.declared.statement.StmtForm.{StmtForm, out-StmtForm}
use Rattle.lk_typed.specs.DeclarationRules.{InBlock}
use Rattle.lk_typed.specs.Env.{Env}
use Rattle.lk_typed.specs.Labels.{labels}
use Rattle.lk_typed.specs.NodeParts.{body_items}
use Rattle.lk_typed.specs.Nodes.{ADeclaration, AStatement, at}
use Rattle.lk_typed.specs.Parts.{first_part, item_part, items_in_turn, perhaps, statement_parts}
use Rattle.lk_typed.specs.StatementRules.{Around, in_function}
use Rattle.lk_elaborator.specs.declared.elaborator.Elaborator.{Elaborator}
use Rattle.lk_elaborate.specs.Defining.{inside}
use Rattle.lk_elaborate.specs.Putting.{PutsIn}

abbrev pub PutsInBlock : Elaborator → Elaborator → Declare → Type 0
PutsInBlock old new node = (env : Env) → PutsIn old new (at env (ADeclaration InBlock node) ∷ [])

abbrev pub PutsFirst : Elaborator → Elaborator → ForFirst → Type 0
PutsFirst old new first = (env : Env) → PutsIn old new (first_part env first)

abbrev pub PutsStatement : Elaborator → Elaborator → Stmt → Type 0
PutsStatement old new s = (env : Env) (around : Around) → PutsIn old new (at env (AStatement around s) ∷ [])

abbrev pub PutsElse : Elaborator → Elaborator → Option Stmt → Type 0
PutsElse old new s = (env : Env) (around : Around) → PutsIn old new (perhaps env (AStatement around) s)

abbrev pub PutsItems : Elaborator → Elaborator → List BlockItem → Type 0
PutsItems old new items = (env : Env) (around : Around) → PutsIn old new (items_in_turn around env items)

abbrev pub PutsItem : Elaborator → Elaborator → BlockItem → Type 0
PutsItem old new item =
    (env : Env) (around : Around) → PutsIn old new (item_part around env (out-BlockItem item) ∷ [])

-- a statement of this form
abbrev pub PutsForm : Elaborator → Elaborator → StmtForm-F BlockItem StmtForm Stmt → Type 0
PutsForm old new f = (env : Env) (around : Around) → PutsIn old new (statement_parts around env f)

-- the items of the body of a definition
abbrev pub PutsBlock : Elaborator → Elaborator → Definition → Type 0
PutsBlock old new node =
    (env : Env) → PutsIn old new
    (items_in_turn (in_function (labels node.body)) (inside env node) (body_items (out-StmtForm node.body.form)))
