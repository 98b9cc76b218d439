-- The nodes of a numbered statement and of a numbered source are laid in ranges.
use Rattle.std.proofs.Common.{◌≡◌, ◌∙◌, ◌+◌, ℕ, false, List, [], ◌∷◌, Option, Some, None, map, refl, sym, ap, subst, arith}
use Rattle.lk_tree.specs.declared.expression.Expr.{Expr}
use Rattle.lk_tree.specs.declared.statement.BlockItem.TheFolds.{fold-BlockItem, fold-StmtForm, fold-roll-BlockItem, fold-roll-StmtForm, fold-roll-Stmt, ind-Stmt, map-BlockItem, map-StmtForm, map-Stmt}
use Rattle.lk_tree.specs.declared.statement.BlockItem.TheOpen.{BlockItem-F, StmtForm-F, Stmt-F}
use Rattle.lk_tree.specs.declared.statement.BlockItem.{BlockItem, out-BlockItem, roll-BlockItem, out-roll-BlockItem}
use Rattle.lk_tree.specs.declared.statement.BlockItem.TheVariants as item
use Rattle.lk_tree.specs.declared.statement.Decl.{Decl}
use Rattle.lk_tree.specs.declared.statement.Decl.TheVariants as decl
use Rattle.lk_tree.specs.declared.statement.ForFirst.{ForFirst}
use Rattle.lk_tree.specs.declared.statement.ForFirst.TheVariants as first
use Rattle.lk_tree.specs.declared.statement.Function.{Function}
use Rattle.lk_tree.specs.declared.statement.Stmt.{Stmt, roll-Stmt}
use Rattle.lk_tree.specs.declared.statement.StmtForm.{StmtForm, out-StmtForm, roll-StmtForm, out-roll-StmtForm}
use Rattle.lk_tree.specs.declared.statement.StmtForm.TheVariants as stmt
use Rattle.lk_tree.specs.declared.statement.Unit as unit
use Rattle.lk_tree.specs.Numbers.{Numbered, list, optional_of, expr, specifier, statement, declare, of_first, of_block_item, in_stmt, of_stmt, of_decl, numbered, count}
use Rattle.lk_typed.specs.DeclarationRules.{AtFile}
use Rattle.lk_typed.specs.Env.{Env, enter}
use Rattle.lk_typed.specs.NodeParts.{body_items, externals_in_turn}
use Rattle.lk_typed.specs.Nodes.{AnExternal, ADefinition, AnExpression, AStatement, Placed}
use Rattle.lk_typed.specs.Parts.{first_part, item_part, items_in_turn, perhaps, statement_parts}
use Rattle.lk_typed.specs.StatementRules.{Around}
use Rattle.lk_nodes.proofs.Expressions.{ExprLies, DeclaratorLies, SpecifierLies, declarator_lies, expr_lies, no_parts, only, own, perhaps_lies, specifier_lies, specifiers_lie, two_parts}
use Rattle.lk_nodes.proofs.Initialisers.{declare_lies, from_its_number}
use Rattle.lk_nodes.proofs.Laid.{Laid, InTurn, both, from, rising, within}
use Rattle.lk_typed.specs.Stands.Stands.{here}
use Rattle.lk_nodes.proofs.Laid.InTurn.{nil, next}
use Rattle.lk_nodes.proofs.Laid.Laid.{laid}
use Rattle.lk_nodes.proofs.Lists.{With, Lays, ListLies, list_lies, list_of_lies, option_of_lies}
use Rattle.lk_nodes.proofs.Lists.ListLies.{no_more, one_more}

-- the numbers of an item of a block
abbrev block_item : BlockItem → Numbered BlockItem
block_item = fold-BlockItem (Numbered BlockItem) (Numbered StmtForm) (Numbered Stmt) of_block_item in_stmt of_stmt

-- the numbers of a form of a statement
abbrev stmt_form : StmtForm → Numbered StmtForm
stmt_form = fold-StmtForm (Numbered BlockItem) (Numbered StmtForm) (Numbered Stmt) of_block_item in_stmt of_stmt

-- ---- a layer, with its parts to be numbered

abbrev block_item_layer : BlockItem-F BlockItem StmtForm Stmt → BlockItem-F (Numbered BlockItem) (Numbered StmtForm) (Numbered Stmt)
block_item_layer = map-BlockItem BlockItem StmtForm Stmt (Numbered BlockItem) (Numbered StmtForm) (Numbered Stmt) block_item stmt_form statement

abbrev stmt_form_layer : StmtForm-F BlockItem StmtForm Stmt → StmtForm-F (Numbered BlockItem) (Numbered StmtForm) (Numbered Stmt)
stmt_form_layer = map-StmtForm BlockItem StmtForm Stmt (Numbered BlockItem) (Numbered StmtForm) (Numbered Stmt) block_item stmt_form statement

abbrev stmt_layer : Stmt-F BlockItem StmtForm Stmt → Stmt-F (Numbered BlockItem) (Numbered StmtForm) (Numbered Stmt)
stmt_layer = map-Stmt BlockItem StmtForm Stmt (Numbered BlockItem) (Numbered StmtForm) (Numbered Stmt) block_item stmt_form statement

-- the numbers of what a layer makes are by those of its parts
block_item_rolled : (x : BlockItem-F BlockItem StmtForm Stmt) → block_item (roll-BlockItem x) ≡ of_block_item (block_item_layer x)
unfolding statement
block_item_rolled x = fold-roll-BlockItem (Numbered BlockItem) (Numbered StmtForm) (Numbered Stmt) of_block_item in_stmt of_stmt x

stmt_form_rolled : (x : StmtForm-F BlockItem StmtForm Stmt) → stmt_form (roll-StmtForm x) ≡ in_stmt (stmt_form_layer x)
unfolding statement
stmt_form_rolled x = fold-roll-StmtForm (Numbered BlockItem) (Numbered StmtForm) (Numbered Stmt) of_block_item in_stmt of_stmt x

stmt_rolled : (x : Stmt-F BlockItem StmtForm Stmt) → statement (roll-Stmt x) ≡ of_stmt (stmt_layer x)
unfolding statement
stmt_rolled x = fold-roll-Stmt (Numbered BlockItem) (Numbered StmtForm) (Numbered Stmt) of_block_item in_stmt of_stmt x

module _ (at_end : Env) where
  -- ---- what lies in a range

  -- the parts of a form, and the items of the body that it is, in any environment
  record FormLies (x : StmtForm-F BlockItem StmtForm Stmt) (n m : ℕ) : Type 0 where
    parts : (around : Around) (env : Env) → InTurn at_end n (statement_parts around env x) m
    body : (around : Around) (env : Env) → InTurn at_end n (items_in_turn around env (body_items x)) m

  -- a form of a statement
  abbrev StmtFormLies : StmtForm → ℕ → ℕ → Type 0
  StmtFormLies one n m = FormLies (out-StmtForm one) n m

  -- a statement, and the items of the body that it is
  record StmtLies (one : Stmt) (n m : ℕ) : Type 0 where
    stands : (env : Env) (around : Around) → Laid at_end n env (AStatement around one) m
    body : (around : Around) (env : Env) → InTurn at_end (n + 1) (items_in_turn around env (body_items (out-StmtForm one.form))) m

  -- an item of a block
  abbrev BlockItemLies : BlockItem → ℕ → ℕ → Type 0
  BlockItemLies one n m = (around : Around) (env : Env) → (λ (part : Placed). Laid at_end n part.env part.node m) (item_part around env (out-BlockItem one))

  -- the first part of a for
  abbrev FirstLies : ForFirst → ℕ → ℕ → Type 0
  FirstLies one n m = (env : Env) → InTurn at_end n (first_part env one) m

  -- an external declaration
  abbrev DeclLies : Decl → ℕ → ℕ → Type 0
  DeclLies one n m = (env : Env) → Laid at_end n env (AnExternal one) m

  -- ---- parts in turn

  -- the items of a block
  block_items_lie : (is : List BlockItem) {n m : ℕ} → ListLies BlockItemLies is n m → (around : Around) (env : Env) → InTurn at_end n (items_in_turn around env is) m
  block_items_lie [] (no_more rises) around env = nil rises
  block_items_lie (x ∷ xs) (one_more first others) around env = next (first around env) (block_items_lie xs others _ _)

  -- external declarations
  externals_lie : (ds : List Decl) {n m : ℕ} → ListLies DeclLies ds n m → (env : Env) → InTurn at_end n (externals_in_turn env ds) m
  externals_lie [] (no_more rises) env = nil rises
  externals_lie (x ∷ xs) (one_more first others) env = next (first env) (externals_lie xs others _)

  -- an expression that may be missing
  optional_lies : (part : Option Expr) (n : ℕ) (env : Env) → InTurn at_end n (perhaps env AnExpression (optional_of expr part n).0) (optional_of expr part n).1
  optional_lies part n env = perhaps_lies at_end (optional_of expr part n).0 (option_of_lies (ExprLies at_end) expr (expr_lies at_end) part n) env

  -- the first part of a for
  first_lies : (one : ForFirst) → Lays FirstLies (of_first one)
  first_lies (first.Expr value) n env = optional_lies value n env
  first_lies (first.Declare node) n env = only at_end (declare_lies at_end node n env _)

  -- ---- statements, layer by layer

  -- an item, numbered from anywhere on, lies from there up to the number behind it; and so of forms and statements
  abbrev PBlockItem : BlockItem → Type 0
  PBlockItem one = Lays BlockItemLies (block_item one)

  abbrev PStmtForm : StmtForm → Type 0
  PStmtForm one = Lays StmtFormLies (stmt_form one)

  abbrev PStmt : Stmt → Type 0
  PStmt one = Lays StmtLies (statement one)

  abbrev block_item_below : BlockItem-F (With PBlockItem) (With PStmtForm) (With PStmt) → BlockItem-F BlockItem StmtForm Stmt
  block_item_below = map-BlockItem (With PBlockItem) (With PStmtForm) (With PStmt) BlockItem StmtForm Stmt (λ a. a.0) (λ a. a.0) (λ a. a.0)

  abbrev stmt_form_below : StmtForm-F (With PBlockItem) (With PStmtForm) (With PStmt) → StmtForm-F BlockItem StmtForm Stmt
  stmt_form_below = map-StmtForm (With PBlockItem) (With PStmtForm) (With PStmt) BlockItem StmtForm Stmt (λ a. a.0) (λ a. a.0) (λ a. a.0)

  abbrev stmt_below : Stmt-F (With PBlockItem) (With PStmtForm) (With PStmt) → Stmt-F BlockItem StmtForm Stmt
  stmt_below = map-Stmt (With PBlockItem) (With PStmtForm) (With PStmt) BlockItem StmtForm Stmt (λ a. a.0) (λ a. a.0) (λ a. a.0)

  -- a form, by its layer
  form_at : {one : StmtForm} {n m : ℕ} (x : StmtForm-F BlockItem StmtForm Stmt) → roll-StmtForm x ≡ one → FormLies x n m → StmtFormLies one n m
  form_at {n = n} {m = m} x is lies = subst (λ x. FormLies x n m) (sym (out-roll-StmtForm x) ∙ ap out-StmtForm is) lies

  -- a form that is no body
  plain_at : {one : StmtForm} {n m : ℕ} (x : StmtForm-F BlockItem StmtForm Stmt) → roll-StmtForm x ≡ one → body_items x ≡ [] → ((around : Around) (env : Env) → InTurn at_end n (statement_parts around env x) m) →
      StmtFormLies one n m
  plain_at {n = n} {m = m} x is no_body lies =
      form_at x is (record { parts = lies; body = λ around env. subst (λ items. InTurn at_end n (items_in_turn around env items) m) (sym no_body) (nil (rising at_end (lies around env))) })

  -- the parts of a form of a statement
  in_stmt_form : (y : StmtForm-F (With PBlockItem) (With PStmtForm) (With PStmt)) → Lays StmtFormLies (in_stmt (stmt_form_layer (stmt_form_below y)))
  in_stmt_form (StmtForm-F.Label name inner) n = plain_at (StmtForm-F.Label name (statement inner.0 n).0) (stmt.rolls-Label _ _) refl (λ around env. only at_end ((inner.1 n).stands _ _))
  in_stmt_form (StmtForm-F.Case value inner) n =
      let one = expr value n in
      plain_at (StmtForm-F.Case one.0 (statement inner.0 one.1).0) (stmt.rolls-Case _ _) refl (λ around env. two_parts at_end (expr_lies at_end value n _) ((inner.1 _).stands _ _))
  in_stmt_form (StmtForm-F.Default inner) n = plain_at (StmtForm-F.Default (statement inner.0 n).0) (stmt.rolls-Default _) refl (λ around env. only at_end ((inner.1 n).stands _ _))
  in_stmt_form (StmtForm-F.Block items) n =
      let all = list_lies BlockItemLies block_item items n in
      form_at (StmtForm-F.Block (list (map block_item (map (λ a. a.0) items)) n).0) (stmt.rolls-Block _)
      (record { parts = λ around env. block_items_lie _ all around (enter env); body = λ around env. block_items_lie _ all around env })
  in_stmt_form (StmtForm-F.Do value) n = plain_at (StmtForm-F.Do (optional_of expr value n).0) (stmt.rolls-Do _) refl (λ around env. optional_lies value n _)
  in_stmt_form (StmtForm-F.If value taken None) n =
      let one = expr value n in
      plain_at (StmtForm-F.If one.0 (statement taken.0 one.1).0 None) (stmt.rolls-If _ _ _) refl (λ around env. two_parts at_end (expr_lies at_end value n _) ((taken.1 _).stands _ _))
  in_stmt_form (StmtForm-F.If value taken (Some other)) n =
      let one = expr value n in
      let then = statement taken.0 one.1 in
      plain_at (StmtForm-F.If one.0 then.0 (Some (statement other.0 then.1).0)) (stmt.rolls-If _ _ _) refl
      (λ around env. next (expr_lies at_end value n _) (two_parts at_end ((taken.1 _).stands _ _) ((other.1 _).stands _ _)))
  in_stmt_form (StmtForm-F.Switch value inner) n =
      let one = expr value n in
      plain_at (StmtForm-F.Switch one.0 (statement inner.0 one.1).0) (stmt.rolls-Switch _ _) refl (λ around env. two_parts at_end (expr_lies at_end value n _) ((inner.1 _).stands _ _))
  in_stmt_form (StmtForm-F.While value inner) n =
      let one = expr value n in
      plain_at (StmtForm-F.While one.0 (statement inner.0 one.1).0) (stmt.rolls-While _ _) refl (λ around env. two_parts at_end (expr_lies at_end value n _) ((inner.1 _).stands _ _))
  in_stmt_form (StmtForm-F.Until inner value) n =
      let one = statement inner.0 n in
      plain_at (StmtForm-F.Until one.0 (expr value one.1).0) (stmt.rolls-Until _ _) refl (λ around env. two_parts at_end ((inner.1 n).stands _ _) (expr_lies at_end value _ _))
  in_stmt_form (StmtForm-F.For start value step inner) n =
      let one = of_first start n in
      let two = optional_of expr value one.1 in
      let three = optional_of expr step two.1 in
      plain_at (StmtForm-F.For one.0 two.0 three.0 (statement inner.0 three.1).0) (stmt.rolls-For _ _ _ _) refl
      (λ around env. both at_end (both at_end (both at_end (first_lies start n _) (optional_lies value one.1 _)) (optional_lies step two.1 _)) (only at_end ((inner.1 three.1).stands _ _)))
  in_stmt_form (StmtForm-F.Goto name) n = plain_at (StmtForm-F.Goto name) (stmt.rolls-Goto _) refl (λ around env. no_parts at_end)
  in_stmt_form StmtForm-F.Continue n = plain_at StmtForm-F.Continue stmt.rolls-Continue refl (λ around env. no_parts at_end)
  in_stmt_form StmtForm-F.Break n = plain_at StmtForm-F.Break stmt.rolls-Break refl (λ around env. no_parts at_end)
  in_stmt_form (StmtForm-F.Return value) n = plain_at (StmtForm-F.Return (optional_of expr value n).0) (stmt.rolls-Return _) refl (λ around env. optional_lies value n _)

  -- an item of a block, by its layer
  item_at : {one : BlockItem} {n m : ℕ} (x : BlockItem-F BlockItem StmtForm Stmt) → roll-BlockItem x ≡ one →
      ((around : Around) (env : Env) → (λ (part : Placed). Laid at_end n part.env part.node m) (item_part around env x)) → BlockItemLies one n m
  item_at {n = n} {m = m} x is lies around env =
      subst (λ x. (λ (part : Placed). Laid at_end n part.env part.node m) (item_part around env x)) (sym (out-roll-BlockItem x) ∙ ap out-BlockItem is) (lies around env)

  -- an item of a block, by its declaration or statement
  in_block_item : (y : BlockItem-F (With PBlockItem) (With PStmtForm) (With PStmt)) → Lays BlockItemLies (of_block_item (block_item_layer (block_item_below y)))
  in_block_item (BlockItem-F.Declare node) n = item_at (BlockItem-F.Declare (declare node n).0) (item.rolls-Declare _) (λ around env. declare_lies at_end node n env _)
  in_block_item (BlockItem-F.Stmt inner) n = item_at (BlockItem-F.Stmt (statement inner.0 n).0) (item.rolls-Stmt _) (λ around env. (inner.1 n).stands _ _)

  -- a statement, by its form
  in_stmt_node : (y : Stmt-F (With PBlockItem) (With PStmtForm) (With PStmt)) → Lays StmtLies (of_stmt (stmt_layer (stmt_below y)))
  in_stmt_node y n = let form = y.form.1 (n + 1) in record { stands = λ env around. own at_end refl refl (form.parts around env); body = form.body }

  -- of each kind: what a layer makes lies where its parts do
  block_item_step : (x : BlockItem-F BlockItem StmtForm Stmt) (y : BlockItem-F (With PBlockItem) (With PStmtForm) (With PStmt)) → block_item_below y ≡ x → PBlockItem (roll-BlockItem x)
  block_item_step x y is = subst (Lays BlockItemLies) (sym (block_item_rolled x)) (subst (λ x. Lays BlockItemLies (of_block_item (block_item_layer x))) is (in_block_item y))

  stmt_form_step : (x : StmtForm-F BlockItem StmtForm Stmt) (y : StmtForm-F (With PBlockItem) (With PStmtForm) (With PStmt)) → stmt_form_below y ≡ x → PStmtForm (roll-StmtForm x)
  stmt_form_step x y is = subst (Lays StmtFormLies) (sym (stmt_form_rolled x)) (subst (λ x. Lays StmtFormLies (in_stmt (stmt_form_layer x))) is (in_stmt_form y))

  stmt_step : (x : Stmt-F BlockItem StmtForm Stmt) (y : Stmt-F (With PBlockItem) (With PStmtForm) (With PStmt)) → stmt_below y ≡ x → PStmt (roll-Stmt x)
  stmt_step x y is = subst (Lays StmtLies) (sym (stmt_rolled x)) (subst (λ x. Lays StmtLies (of_stmt (stmt_layer x))) is (in_stmt_node y))

  -- a numbered statement lies from its number up to the one behind it
  stmt_lies : (one : Stmt) → Lays StmtLies (statement one)
  stmt_lies = ind-Stmt PBlockItem PStmtForm PStmt block_item_step stmt_form_step stmt_step

  -- ---- sources

  -- a definition, by its specifiers, its declarator and its body
  definition_lies : (one : Function) {k j m : ℕ} → ListLies (SpecifierLies at_end) one.specifiers (one.ordinal + 1) k → DeclaratorLies at_end one.declarator k j → StmtLies one.body j m →
      (env : Env) → Laid at_end one.ordinal env (ADefinition one) m
  definition_lies one {j = j} first second third env =
      own at_end refl refl (both at_end (specifiers_lie at_end one.specifiers first false env) (next (second _ _) (from at_end (omega arith) (third.body _ _))))

  -- a numbered external declaration lies from its number up to the one behind it
  decl_lies : (one : Decl) → Lays DeclLies (of_decl one)
  decl_lies (decl.Function node) n env =
      let specifiers = list_of_lies (SpecifierLies at_end) specifier (specifier_lies at_end) node.specifiers (n + 1) in
      let whole = definition_lies _ specifiers (declarator_lies at_end node.declarator _) (stmt_lies node.body _) env in
      let bounds = within at_end whole here in
      laid bounds.0 bounds.1 (only at_end whole)
  decl_lies (decl.Declare node) n env =
      let whole = declare_lies at_end node n env AtFile in
      let bounds = within at_end whole here in
      laid bounds.0 bounds.1 (only at_end (from_its_number at_end whole))
  decl_lies (decl.Empty node) n env = laid (omega arith) (omega arith) (nil (omega arith))

  -- the external declarations of a numbered source lie from 0 up to how many nodes it has
  pub source_lies : (before : unit.Unit) (env : Env) → InTurn at_end 0 (externals_in_turn env (numbered before).externals) (count before)
  source_lies before env = externals_lie (numbered before).externals (list_of_lies DeclLies of_decl decl_lies before.externals 0) env
