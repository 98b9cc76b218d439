-- What the nodes of an initialiser, a declaration, a statement and a definition add.
use Rattle.std.proofs.Common.{◌≡◌, ◌∙◌, ℕ, suc, Bool, false, List, [], ◌∷◌, ◌++◌, Option, Some, None, map, refl, sym, ap, subst}
use Rattle.std.proofs.lemmas.List.{append_assoc}
use Rattle.lk_tree.specs.declared.declaration.Declare.{Declare}
use Rattle.lk_tree.specs.declared.declaration.Designator.{Designator}
use Rattle.lk_tree.specs.declared.declaration.Designator.TheVariants as designator
use Rattle.lk_tree.specs.declared.declaration.Entry.{Entry, roll-Entry}
use Rattle.lk_tree.specs.declared.declaration.Init.TheFolds.{fold-Entry, fold-InitList, fold_out-Entry, fold_out-Init, fold_out-InitList, ind-Init, map-Init, map-Entry, map-InitList}
use Rattle.lk_tree.specs.declared.declaration.Init.TheOpen.{Init-F, Entry-F, InitList-F}
use Rattle.lk_tree.specs.declared.declaration.Init.{Init, out-Init, roll-Init, out-roll-Init}
use Rattle.lk_tree.specs.declared.declaration.InitDeclarator.{InitDeclarator}
use Rattle.lk_tree.specs.declared.declaration.InitList.{InitList, out-InitList, roll-InitList, out-roll-InitList}
use Rattle.lk_tree.specs.declared.expression.Declarator.{Declarator}
use Rattle.lk_tree.specs.declared.expression.Expr.{Expr}
use Rattle.lk_tree.specs.declared.expression.Specifier.{Specifier}
use Rattle.lk_tree.specs.declared.specifiers.Storage.{Storage}
use Rattle.lk_tree.specs.declared.statement.BlockItem.TheFolds.{fold-BlockItem, fold-StmtForm, fold_out-BlockItem, fold_out-Stmt, fold_out-StmtForm, ind-BlockItem, ind-Stmt, map-BlockItem, map-StmtForm, map-Stmt}
use Rattle.lk_tree.specs.declared.statement.BlockItem.TheOpen.{BlockItem-F, StmtForm-F, Stmt-F}
use Rattle.lk_tree.specs.declared.statement.BlockItem.{BlockItem, out-BlockItem, roll-BlockItem, out-roll-BlockItem}
use Rattle.lk_tree.specs.declared.statement.ForFirst.{ForFirst}
use Rattle.lk_tree.specs.declared.statement.ForFirst.TheVariants as first
use Rattle.lk_tree.specs.declared.statement.Function.{Function}
use Rattle.lk_tree.specs.declared.statement.Stmt.{Stmt, roll-Stmt}
use Rattle.lk_tree.specs.declared.statement.StmtForm.{StmtForm, out-StmtForm, roll-StmtForm, out-roll-StmtForm}
use Rattle.lk_typed.specs.DeclarationRules.{Given, Holder, InBlock, InDeclaration, InDefinition, Scope, AtFile, Defined, type_in}
use Rattle.lk_typed.specs.Declarations.{declarator_adds, declarators_add, given_by, initialiser_adds, is_alone, may_lack_size, name_adds, named_additions}
use Rattle.lk_typed.specs.Env.{Env, Additions, Members, Outside, both, converted_to, enter, extend, nothing, past_scope}
use Rattle.lk_typed.specs.Expressions.{declarator_found, expr_adds, expr_word, specifier_found, specifiers_found}
use Rattle.lk_typed.specs.InitialiserRules.{Object}
use Rattle.lk_typed.specs.Initialisers.{Adder, as_initialiser, designator_adds, designator_part, designator_parts, designators_add, entries_in_turn, entry_object, in_turn, init_adds, of_entry, of_init, of_list, parts_of_init, text_alone, unless_word}
use Rattle.lk_typed.specs.Labels.{labels}
use Rattle.lk_typed.specs.Layers.{span_of, type_made}
use Rattle.lk_typed.specs.NodeParts.{behind_declarator, body_items, declared_left, declarators_in_turn, defined_left, in_body, initialiser_part, type_left}
use Rattle.lk_typed.specs.Nodes.{ADeclaration, ADefinition, ADeclarator, AnInitialiser, AStatement, AnExpression, Placed, Unnamed, at}
use Rattle.lk_typed.specs.Parts.{added_by, behind, behind_inner, first_adds, first_part, item_adds, item_around, item_part, items_add, items_in_turn, perhaps, specifiers_parts, statement_parts, to_result}
use Rattle.lk_typed.specs.StatementRules.{Around, in_body_of_loop, in_function}
use Rattle.lk_typed.specs.Statements.{StmtTeller, adding, all_in_turn, of_form, of_item, of_stmt, optional_adds, scoped, statement, stmt_adds}
use Rattle.lk_typed.specs.Statements as statements
use Rattle.lk_typed.specs.Told.{DeclaratorTold, Named, SpecifierTold}
use Rattle.lk_typed.specs.Ty.{Ty}
use Rattle.lk_nodes.proofs.Adding.{NodeTells, Sound, Tells, extended, more, next, none, part, past, turn}
use Rattle.lk_nodes.proofs.Lists.{With}
use Rattle.lk_nodes.proofs.Elements.{TypesHaveElements, declared_elements, specifier_elements, told_elements, types_both, types_further}
use Rattle.lk_nodes.proofs.Making.{declarator_makes}
use Rattle.lk_nodes.proofs.Structs.{KeepsStructs, MayHaveElements, adds_further, after_both, known_behind, may_elements_stay, names_both, names_kept, nothing_kept, stays_then, structs_behind, tags_both}
use Rattle.lk_nodes.proofs.Trees.{each_of, Each, each_all, declarator_part, declarator_tells, expr_tells, operand_part, specifier_tells, specifiers_tell, PSpecifier}

-- ---- additions, then others

-- the additions of the last are added behind both
both_then : (a b c : Additions) → both (both a b) c ≡ both a (both b c)
both_then a b c =
    ap (λ xs. record { declared = xs; tags = (a.tags ++ b.tags) ++ c.tags; structs = (a.structs ++ b.structs) ++ c.structs }) (append_assoc a.declared b.declared c.declared) ∙
    ap (λ xs. record { declared = a.declared ++ (b.declared ++ c.declared); tags = xs; structs = (a.structs ++ b.structs) ++ c.structs }) (append_assoc a.tags b.tags c.tags) ∙
    ap (λ xs. record { declared = a.declared ++ (b.declared ++ c.declared); tags = a.tags ++ (b.tags ++ c.tags); structs = xs }) (append_assoc a.structs b.structs c.structs)

-- the environment behind both
extend_then : (env : Env) (a b : Additions) → extend (extend env a) b ≡ extend env (both a b)
extend_then env a b =
    ap (λ xs. record env { declared = xs; tags = (env.tags ++ a.tags) ++ b.tags; structs = structs_behind (structs_behind env.structs a) b }) (append_assoc env.declared a.declared b.declared) ∙
    ap (λ xs. record env { declared = env.declared ++ (a.declared ++ b.declared); tags = xs; structs = structs_behind (structs_behind env.structs a) b }) (append_assoc env.tags a.tags b.tags) ∙
    ap (λ xs. record env { declared = env.declared ++ (a.declared ++ b.declared); tags = env.tags ++ (a.tags ++ b.tags); structs = xs }) (sym (after_both env.structs a.structs b.structs))

-- a declared name
pub name_kept : (structs : List Members) (env : Env) (scope : Scope) (ss : List Storage) (given : Given) (init : Option Init) (name : Option Named) (t : Option Ty) → MayHaveElements structs t →
    KeepsStructs structs (named_additions env scope ss given init name t)
name_kept structs env scope ss given init None t complete = nothing_kept structs
name_kept structs env scope ss given init (Some named) t complete = names_kept structs _ (declared_elements structs env scope ss given init named t complete, tt)

-- ---- what an initialiser adds, by its form

-- what a list in braces adds
unfoldable list_folded : InitList → Adder
list_folded = fold-InitList Adder Adder Adder of_init of_entry of_list

-- what an entry adds, by the fold
unfoldable entry_folded : Entry → Adder
entry_folded = fold-Entry Adder Adder Adder of_init of_entry of_list

-- what the parts of a layer add
abbrev init_folded : Init-F Init Entry InitList → Init-F Adder Adder Adder
init_folded = map-Init Init Entry InitList Adder Adder Adder init_adds entry_folded list_folded

-- an initialiser, by its layer
init_by_form : (i : Init) → init_adds i ≡ of_init (init_folded (out-Init i))
unfolding init_adds entry_folded list_folded
init_by_form i = fold_out-Init Adder Adder Adder of_init of_entry of_list i

-- a list in braces, by its entries
list_by_entries : (list : InitList) → list_folded list ≡ in_turn (map entry_folded (out-InitList list).entries)
unfolding list_folded entry_folded init_adds
list_by_entries list = fold_out-InitList Adder Adder Adder of_init of_entry of_list list

-- what an entry adds: its designators, and then its initialiser
abbrev entry_adds : Entry → Adder
entry_adds e env = let a = designators_add env e.designators in both a (init_adds e.init (extend env a))

-- an entry, by its parts
entry_by_parts : (e : Entry) → entry_folded e ≡ entry_adds e
unfolding entry_folded init_adds list_folded
entry_by_parts e = fold_out-Entry Adder Adder Adder of_init of_entry of_list e

-- ---- what a statement adds, by its form

-- what an item of a block adds
unfoldable item_folded : BlockItem → StmtTeller
item_folded = fold-BlockItem StmtTeller (ℕ → StmtTeller) StmtTeller of_item of_form of_stmt

-- what a form adds, by the number of its statement
unfoldable form_folded : StmtForm → ℕ → StmtTeller
form_folded = fold-StmtForm StmtTeller (ℕ → StmtTeller) StmtTeller of_item of_form of_stmt

-- what the parts of a layer of a statement add
abbrev folded : StmtForm-F BlockItem StmtForm Stmt → StmtForm-F StmtTeller (ℕ → StmtTeller) StmtTeller
folded = map-StmtForm BlockItem StmtForm Stmt StmtTeller (ℕ → StmtTeller) StmtTeller item_folded form_folded statement

-- a statement, by its layer
stmt_by_form : (s : Stmt) → statement s ≡ of_form (folded (out-StmtForm s.form)) s.ordinal
unfolding statement form_folded item_folded
stmt_by_form s =
    fold_out-Stmt StmtTeller (ℕ → StmtTeller) StmtTeller of_item of_form of_stmt s ∙
    ap (λ (f : ℕ → StmtTeller). f s.ordinal) (fold_out-StmtForm StmtTeller (ℕ → StmtTeller) StmtTeller of_item of_form of_stmt s.form)

-- an item of a block, by its declaration or statement
item_by_form : (i : BlockItem) (env : Env) → (item_folded i env).additions ≡ item_adds (out-BlockItem i) env
unfolding item_folded statement form_folded
item_by_form i env = ap (λ f. (f env).additions) (fold_out-BlockItem StmtTeller (ℕ → StmtTeller) StmtTeller of_item of_form of_stmt i) ∙ by_form (out-BlockItem i)
  where
    by_form : (f : BlockItem-F BlockItem StmtForm Stmt) →
        (of_item (map-BlockItem BlockItem StmtForm Stmt StmtTeller (ℕ → StmtTeller) StmtTeller item_folded form_folded statement f) env).additions ≡ item_adds f env
    by_form (BlockItem-F.Declare node) = refl
    by_form (BlockItem-F.Stmt inner) = refl

-- the items of a block in turn
items_by_form : (is : List BlockItem) (env : Env) → (all_in_turn (map item_folded is) env).additions ≡ items_add env is
items_by_form [] env = refl
items_by_form (i ∷ is) env =
    let a = item_adds (out-BlockItem i) env in
    ap (λ a. both a (all_in_turn (map item_folded is) (extend env a)).additions) (item_by_form i env) ∙ ap (both a) (items_by_form is (extend env a))

-- what the parts of a for add
abbrev for_adds : ForFirst → Option Expr → Option Expr → Stmt → Env → Additions
for_adds start condition step inner env =
    let a = first_adds start env in
    let b = added_by condition (extend env a) in
    let c = added_by step (extend (extend env a) b) in
    both a (both b (both c (both (past_scope (stmt_adds inner (enter (extend (extend (extend env a) b) c)))) nothing)))

-- the parts of a for in turn
for_by_parts : (start : ForFirst) (condition step : Option Expr) (inner : Stmt) (env : Env) →
    (all_in_turn (adding (statements.of_first start) ∷ adding (optional_adds condition) ∷ adding (optional_adds step) ∷ scoped (statement inner) ∷ []) env).additions ≡ for_adds start condition step inner env
for_by_parts (first.Expr None) None None inner env = refl
for_by_parts (first.Expr None) None (Some d) inner env = refl
for_by_parts (first.Expr None) (Some c) None inner env = refl
for_by_parts (first.Expr None) (Some c) (Some d) inner env = refl
for_by_parts (first.Expr (Some e)) None None inner env = refl
for_by_parts (first.Expr (Some e)) None (Some d) inner env = refl
for_by_parts (first.Expr (Some e)) (Some c) None inner env = refl
for_by_parts (first.Expr (Some e)) (Some c) (Some d) inner env = refl
for_by_parts (first.Declare node) None None inner env = refl
for_by_parts (first.Declare node) None (Some d) inner env = refl
for_by_parts (first.Declare node) (Some c) None inner env = refl
for_by_parts (first.Declare node) (Some c) (Some d) inner env = refl

module _ (outside : Outside) (at_end : Env) where
  -- ---- expressions as parts

  -- an expression
  value_part : (e : Expr) (env : Env) → Sound outside env → Tells outside env.structs (expr_adds e env) (at env (AnExpression e) ∷ [])
  value_part e env sound = operand_part outside at_end e (expr_tells outside at_end e) env sound

  -- an expression that may be missing
  optional_tells : (e : Option Expr) (env : Env) → Sound outside env → Tells outside env.structs (optional_adds e env) (perhaps env AnExpression e)
  optional_tells None env sound = none outside env.structs
  optional_tells (Some e) env sound = value_part e env sound

  -- the same of what it is said to add as a part
  added_tells : (e : Option Expr) (env : Env) → Sound outside env → Tells outside env.structs (added_by e env) (perhaps env AnExpression e)
  added_tells None env sound = none outside env.structs
  added_tells (Some e) env sound = value_part e env sound

  -- ---- initialisers

  -- an initialiser, of any object
  abbrev PInit : Init → Type 0
  PInit i = (env : Env) (object : Option Object) → NodeTells outside at_end env (AnInitialiser object i)

  -- the initialiser of an entry
  abbrev PEntry : Entry → Type 0
  PEntry e = PInit e.init

  -- the entries of a list
  abbrev PInitList : InitList → Type 0
  PInitList list = Each PEntry (out-InitList list).entries

  -- a designator
  designator_tells : (d : Designator) (env : Env) → Sound outside env → Tells outside env.structs (designator_adds env d) (designator_part env d)
  designator_tells (designator.Member name) env sound = none outside env.structs
  designator_tells (designator.Index e) env sound = value_part e env sound

  -- designators
  designators_tell : (ds : List Designator) (env : Env) → Sound outside env → Tells outside env.structs (designators_add env ds) (designator_parts env ds)
  designators_tell [] env sound = none outside env.structs
  designators_tell (d ∷ ds) env sound =
      let one = designator_tells d env sound in turn outside one (designators_tell ds (extend env (designator_adds env d)) (extended outside env sound one.kept))

  -- the entries of a list
  entries_tell : (es : List Entry) → Each PEntry es → (object : Option Object) (text : Option ℕ) (env : Env) (k : ℕ) → Sound outside env →
      Tells outside env.structs (in_turn (map entry_folded es) env) (entries_in_turn object text env k es)
  entries_tell [] all object text env k sound = none outside env.structs
  entries_tell (e ∷ es) all object text env k sound =
      let a = designators_add env e.designators in
      let behind = extend env a in
      let b = init_adds e.init behind in
      let node = AnInitialiser (entry_object behind object text k) e.init in
      let one = designators_tell e.designators env sound in
      let stays = extended outside env sound one.kept in
      let two = part outside at_end behind node stays (all.0 behind (entry_object behind object text k)) in
      let three = entries_tell es all.1 object text (extend behind b) (suc k) (extended outside behind stays two.kept) in
      let ps = designator_parts env e.designators ++ at behind node ∷ entries_in_turn object text (extend behind b) (suc k) es in
      subst (λ f. Tells outside env.structs (both (f env) (in_turn (map entry_folded es) (extend env (f env)))) ps) (sym (entry_by_parts e))
      (subst (λ after. Tells outside env.structs (both (both a b) (in_turn (map entry_folded es) after)) ps) (extend_then env a b)
      (subst (λ c. Tells outside env.structs c ps) (sym (both_then a b _)) (turn outside one (next outside two three))))

  -- an expression that is the value of an object
  object_tells : (e : Expr) (object : Option Object) (env : Env) → Sound outside env → Tells outside env.structs (expr_adds e env) (at (as_initialiser object env) (AnExpression e) ∷ [])
  object_tells e None env sound = value_part e env sound
  object_tells e (Some object) env sound = value_part e (converted_to env object.type) sound

  -- unless it is an initialiser word, which is no part
  word_tells : (word : Option Ty) (e : Expr) (object : Option Object) (env : Env) → Sound outside env →
      Tells outside env.structs (expr_adds e env) (unless_word word (at (as_initialiser object env) (AnExpression e) ∷ []))
  word_tells None e object env sound = object_tells e object env sound
  word_tells (Some lock) e object env sound = record { kept = (object_tells e object env sound).kept; parts = tt }

  -- a layer of an initialiser
  abbrev InitTells : Init-F Init Entry InitList → Type 0
  InitTells form = (env : Env) (object : Option Object) → Sound outside env → Tells outside env.structs (of_init (init_folded form) env) (parts_of_init object env form)

  abbrev init_below : Init-F (With PInit) (With PEntry) (With PInitList) → Init-F Init Entry InitList
  init_below = map-Init (With PInit) (With PEntry) (With PInitList) Init Entry InitList (λ a. a.0) (λ a. a.0) (λ a. a.0)

  abbrev entry_below : Entry-F (With PInit) (With PEntry) (With PInitList) → Entry-F Init Entry InitList
  entry_below = map-Entry (With PInit) (With PEntry) (With PInitList) Init Entry InitList (λ a. a.0) (λ a. a.0) (λ a. a.0)

  abbrev list_below : InitList-F (With PInit) (With PEntry) (With PInitList) → InitList-F Init Entry InitList
  list_below = map-InitList (With PInit) (With PEntry) (With PInitList) Init Entry InitList (λ a. a.0) (λ a. a.0) (λ a. a.0)

  -- an initialiser, by its expression or list
  in_init : (y : Init-F (With PInit) (With PEntry) (With PInitList)) → InitTells (init_below y)
  in_init (Init-F.Expr e) env object sound = word_tells (expr_word e env) e object env sound
  in_init (Init-F.List list) env object sound =
      let entries = (out-InitList list.0).entries in
      subst (λ f. Tells outside env.structs (f env) (entries_in_turn object (text_alone entries) env 0 entries)) (sym (list_by_entries list.0)) (entries_tell entries list.1 object (text_alone entries) env 0 sound)

  -- of each kind: a layer tells where its parts do
  init_step : (x : Init-F Init Entry InitList) (y : Init-F (With PInit) (With PEntry) (With PInitList)) → init_below y ≡ x → PInit (roll-Init x)
  init_step x y is env object sound =
      subst (λ f. Tells outside env.structs (f env) (parts_of_init object env (out-Init (roll-Init x)))) (sym (init_by_form (roll-Init x)))
      (subst InitTells (sym (out-roll-Init x)) (subst InitTells is (in_init y)) env object sound)

  entry_step : (x : Entry-F Init Entry InitList) (y : Entry-F (With PInit) (With PEntry) (With PInitList)) → entry_below y ≡ x → PEntry (roll-Entry x)
  entry_step x y is = subst (λ (x : Entry-F Init Entry InitList). PInit x.init) is y.init.1

  list_step : (x : InitList-F Init Entry InitList) (y : InitList-F (With PInit) (With PEntry) (With PInitList)) → list_below y ≡ x → PInitList (roll-InitList x)
  list_step x y is = subst (λ (x : InitList-F Init Entry InitList). Each PEntry x.entries) (is ∙ sym (out-roll-InitList x)) (each_of PEntry y.entries)

  -- each initialiser
  pub init_tells : (i : Init) → PInit i
  init_tells = ind-Init PInit PEntry PInitList init_step entry_step list_step

  -- ---- declarations

  -- an initialiser that may be missing
  initialiser_tells : (init : Option Init) (object : Option Object) (env : Env) → Sound outside env → Tells outside env.structs (initialiser_adds env init) (perhaps env (AnInitialiser object) init)
  initialiser_tells None object env sound = none outside env.structs
  initialiser_tells (Some i) object env sound = part outside at_end env (AnInitialiser object i) sound (init_tells i env object)

  -- the type that a declarator makes behind it
  pub made_elements : (d : Declarator) (env : Env) (may_be_absent : Bool) (holder : Holder) (told : SpecifierTold) → Sound outside env → TypesHaveElements env.structs told.types →
      MayHaveElements (structs_behind env.structs ((declarator_found d).additions env)) (type_made env may_be_absent (type_in holder told) (declarator_found d))
  made_elements d env may_be_absent holder told sound types =
      let one = declarator_part outside at_end d (declarator_tells outside at_end d) env (type_left env told false Unnamed d) sound in
      may_elements_stay _ _ (known_behind one.kept) _ ((declarator_makes at_end d).elements (span_of env may_be_absent (declarator_found d)) _ (told_elements env.structs holder told types))

  -- a declarator with its name
  name_tells : (scope : Scope) (told : SpecifierTold) (d : InitDeclarator) (env : Env) → Sound outside env → TypesHaveElements env.structs told.types →
      Tells outside env.structs (name_adds scope told env d) (at env (ADeclarator (declared_left scope told at_end env d) d.declarator) ∷ [])
  name_tells scope told d env sound types =
      let inner = declarator_found d.declarator in
      let a = inner.additions env in
      let t = type_made env (may_lack_size told.storages d.init) (type_in InDeclaration told) inner in
      more outside (declarator_part outside at_end d.declarator (declarator_tells outside at_end d.declarator) env (declared_left scope told at_end env d) sound)
      (name_kept (structs_behind env.structs a) (extend env a) scope told.storages (given_by d.init) d.init inner.name t
      (made_elements d.declarator env (may_lack_size told.storages d.init) InDeclaration told sound types))

  -- a declarator with its initialiser
  pub one_declarator : (scope : Scope) (told : SpecifierTold) (d : InitDeclarator) (env : Env) → Sound outside env → TypesHaveElements env.structs told.types →
      Tells outside env.structs (declarator_adds scope told env d) (at env (ADeclarator (declared_left scope told at_end env d) d.declarator) ∷ initialiser_part scope told env d)
  one_declarator scope told d env sound types =
      let name = name_tells scope told d env sound types in
      next outside name (initialiser_tells d.init _ (extend env (name_adds scope told env d)) (extended outside env sound name.kept))

  -- the declarators of a declaration
  pub declarators_tell : (ds : List InitDeclarator) (scope : Scope) (told : SpecifierTold) (env : Env) → Sound outside env → TypesHaveElements env.structs told.types →
      Tells outside env.structs (declarators_add scope told env ds) (declarators_in_turn at_end scope told env ds)
  declarators_tell [] scope told env sound types = none outside env.structs
  declarators_tell (d ∷ ds) scope told env sound types =
      let one = one_declarator scope told d env sound types in
      turn outside one
      (declarators_tell ds scope told (extend env (declarator_adds scope told env d)) (extended outside env sound one.kept) (types_further _ _ (known_behind one.kept) told.types types))

  -- specifiers
  pub all_specifiers : (ss : List Specifier) (env : Env) (alone : Bool) → Sound outside env → Tells outside env.structs (specifiers_found ss env alone).additions (specifiers_parts alone env ss)
  all_specifiers ss env alone sound = specifiers_tell outside at_end ss (each_all (PSpecifier outside at_end) (specifier_tells outside at_end) ss) env alone sound

  -- the types that they tell, behind them
  pub specifiers_types : (ss : List Specifier) (env : Env) (alone : Bool) → Sound outside env →
      TypesHaveElements (structs_behind env.structs (specifiers_found ss env alone).additions) (specifiers_found ss env alone).types
  specifiers_types [] env alone sound = tt
  specifiers_types (s ∷ ss) env alone sound =
      let first = specifier_found s env alone in
      let after = extend env first.additions in
      let others = specifiers_found ss after alone in
      let one = specifier_tells outside at_end s env alone sound in
      let stays = extended outside env sound one.kept in
      let two = all_specifiers ss after alone stays in
      subst (λ xs. TypesHaveElements xs (first.types ++ others.types)) (sym (after_both env.structs first.additions.structs others.additions.structs))
      (types_both _ first.types others.types
      (types_further env.structs _ (stays_then env.structs after.structs _ (known_behind one.kept) (known_behind two.kept)) first.types (specifier_elements s env alone sound.3))
      (specifiers_types ss after alone stays))

  -- a declaration
  pub declaration_tells : (node : Declare) (scope : Scope) (env : Env) → NodeTells outside at_end env (ADeclaration scope node)
  declaration_tells node scope env sound =
      let alone = is_alone node.declarators in
      let told = specifiers_found node.specifiers env alone in
      let one = all_specifiers node.specifiers env alone sound in
      turn outside one
      (declarators_tell node.declarators scope told (extend env told.additions) (extended outside env sound one.kept) (specifiers_types node.specifiers env alone sound))

  -- ---- statements

  -- a statement, whatever stands round it
  abbrev pub PStmt : Stmt → Type 0
  PStmt s = (env : Env) (around : Around) → NodeTells outside at_end env (AStatement around s)

  -- an item of a block
  abbrev PBlockItem : BlockItem → Type 0
  PBlockItem i = (env : Env) (around : Around) → Sound outside env → Tells outside env.structs (item_adds (out-BlockItem i) env) (item_part around env (out-BlockItem i) ∷ [])

  -- a layer of a statement
  abbrev StmtTells : StmtForm-F BlockItem StmtForm Stmt → Type 0
  StmtTells form = (env : Env) (around : Around) (n : ℕ) → Sound outside env → Tells outside env.structs (of_form (folded form) n env).additions (statement_parts around env form)

  abbrev PStmtForm : StmtForm → Type 0
  PStmtForm form = StmtTells (out-StmtForm form)

  -- a statement
  stmt_part : (s : Stmt) → PStmt s → (env : Env) (around : Around) → Sound outside env → Tells outside env.structs (stmt_adds s env) (at env (AStatement around s) ∷ [])
  stmt_part s tells env around sound = part outside at_end env (AStatement around s) sound (tells env around)

  -- a statement in a scope of its own
  inner_part : (s : Stmt) → PStmt s → (env : Env) (around : Around) → Sound outside env → Tells outside env.structs (past_scope (stmt_adds s (enter env))) (at (enter env) (AStatement around s) ∷ [])
  inner_part s tells env around sound = past outside (stmt_part s tells (enter env) around sound)

  -- the items of a block
  items_tell : (is : List BlockItem) → Each PBlockItem is → (env : Env) (around : Around) → Sound outside env → Tells outside env.structs (items_add env is) (items_in_turn around env is)
  items_tell [] all env around sound = none outside env.structs
  items_tell (i ∷ is) all env around sound =
      let one = all.0 env around sound in
      next outside one (items_tell is all.1 (extend env (item_adds (out-BlockItem i) env)) (item_around around env (out-BlockItem i)) (extended outside env sound one.kept))

  -- the first part of a for
  first_tells : (start : ForFirst) (env : Env) → Sound outside env → Tells outside env.structs (first_adds start env) (first_part env start)
  first_tells (first.Expr e) env sound = added_tells e env sound
  first_tells (first.Declare node) env sound = part outside at_end env (ADeclaration InBlock node) sound (declaration_tells node InBlock env)

  -- the value of a return
  result_tells : (e : Option Expr) (result : Option Ty) (env : Env) → Sound outside env → Tells outside env.structs (optional_adds e env) (perhaps (to_result env result) AnExpression e)
  result_tells None result env sound = none outside env.structs
  result_tells (Some e) None env sound = value_part e env sound
  result_tells (Some e) (Some t) env sound = value_part e (converted_to env t) sound

  abbrev block_item_below : BlockItem-F (With PBlockItem) (With PStmtForm) (With PStmt) → BlockItem-F BlockItem StmtForm Stmt
  block_item_below = map-BlockItem (With PBlockItem) (With PStmtForm) (With PStmt) BlockItem StmtForm Stmt (λ a. a.0) (λ a. a.0) (λ a. a.0)

  abbrev stmt_form_below : StmtForm-F (With PBlockItem) (With PStmtForm) (With PStmt) → StmtForm-F BlockItem StmtForm Stmt
  stmt_form_below = map-StmtForm (With PBlockItem) (With PStmtForm) (With PStmt) BlockItem StmtForm Stmt (λ a. a.0) (λ a. a.0) (λ a. a.0)

  abbrev stmt_below : Stmt-F (With PBlockItem) (With PStmtForm) (With PStmt) → Stmt-F BlockItem StmtForm Stmt
  stmt_below = map-Stmt (With PBlockItem) (With PStmtForm) (With PStmt) BlockItem StmtForm Stmt (λ a. a.0) (λ a. a.0) (λ a. a.0)

  -- a controlling expression, and a statement behind it in a scope of its own
  controlled : (e : Expr) (s : Stmt) → PStmt s → (env : Env) (around : Around) → Sound outside env →
      Tells outside env.structs (both (expr_adds e (enter env)) (past_scope (stmt_adds s (enter (behind e env))))) (at (enter env) (AnExpression e) ∷ at (enter (behind e env)) (AStatement around s) ∷ [])
  controlled e s tells env around sound =
      let one = value_part e (enter env) sound in next outside one (inner_part s tells (behind e env) around (extended outside (enter env) sound one.kept))

  -- what a condition and the statement that is taken add, and the statement that is taken otherwise
  choice : (e : Expr) (taken : Stmt) → PStmt taken → (env : Env) (around : Around) → Sound outside env → (a : Additions) (ps : List Placed) →
      (Sound outside (behind_inner taken (behind e env)) → Tells outside (behind_inner taken (behind e env)).structs a ps) →
      Tells outside env.structs (past_scope (both (expr_adds e (enter env)) (both (past_scope (stmt_adds taken (enter (behind e env)))) (both a nothing))))
      (at (enter env) (AnExpression e) ∷ at (enter (behind e env)) (AStatement around taken) ∷ ps)
  choice e taken tells env around sound a ps other =
      let one = value_part e (enter env) sound in
      let stays = extended outside (enter env) sound one.kept in
      let two = inner_part taken tells (behind e env) around stays in
      past outside (next outside one (next outside two (more outside (other (extended outside (behind e env) stays two.kept)) (nothing_kept _))))

  -- the parts of a for
  for_tells : (start : ForFirst) (condition step : Option Expr) (inner : Stmt) → PStmt inner → (env : Env) (around : Around) → Sound outside env →
      Tells outside env.structs (for_adds start condition step inner env)
      (let a = extend env (first_adds start env) in
      let b = extend a (added_by condition a) in
      let c = extend b (added_by step b) in
      first_part env start ++ perhaps a AnExpression condition ++ perhaps b AnExpression step ++ at (enter c) (AStatement (in_body_of_loop around) inner) ∷ [])
  for_tells start condition step inner tells env around sound =
      let a = extend env (first_adds start env) in
      let b = extend a (added_by condition a) in
      let one = first_tells start env sound in
      let in_a = extended outside env sound one.kept in
      let two = added_tells condition a in_a in
      let in_b = extended outside a in_a two.kept in
      let three = added_tells step b in_b in
      let c = extend b (added_by step b) in
      let last = at (enter c) (AStatement (in_body_of_loop around) inner) ∷ [] in
      subst (λ ps. Tells outside env.structs (for_adds start condition step inner env) ps)
      (sym (append_assoc (first_part env start ++ perhaps a AnExpression condition) (perhaps b AnExpression step) last ∙
      append_assoc (first_part env start) (perhaps a AnExpression condition) (perhaps b AnExpression step ++ last)))
      (turn outside one (turn outside two (turn outside three (more outside (inner_part inner tells c (in_body_of_loop around) (extended outside b in_b three.kept)) (nothing_kept _)))))

  -- a statement, by its form
  in_stmt_form : (y : StmtForm-F (With PBlockItem) (With PStmtForm) (With PStmt)) → StmtTells (stmt_form_below y)
  in_stmt_form (StmtForm-F.Label name inner) env around n sound = stmt_part inner.0 inner.1 env around sound
  in_stmt_form (StmtForm-F.Case e inner) env around n sound =
      let one = value_part e env sound in next outside one (stmt_part inner.0 inner.1 (extend env (expr_adds e env)) _ (extended outside env sound one.kept))
  in_stmt_form (StmtForm-F.Default inner) env around n sound = stmt_part inner.0 inner.1 env _ sound
  in_stmt_form (StmtForm-F.Block items) env around n sound =
      let is = map (λ a. a.0) items in
      past outside (subst (λ a. Tells outside env.structs a (items_in_turn around (enter env) is)) (sym (items_by_form is (enter env))) (items_tell is (each_of PBlockItem items) (enter env) around sound))
  in_stmt_form (StmtForm-F.Do e) env around n sound = optional_tells e env sound
  in_stmt_form (StmtForm-F.If e taken None) env around n sound = choice e taken.0 taken.1 env around sound nothing [] (λ stays. none outside _)
  in_stmt_form (StmtForm-F.If e taken (Some other)) env around n sound =
      choice e taken.0 taken.1 env around sound _ _ (λ stays. inner_part other.0 other.1 (behind_inner taken.0 (behind e env)) _ stays)
  in_stmt_form (StmtForm-F.Switch e inner) env around n sound = past outside (controlled e inner.0 inner.1 env _ sound)
  in_stmt_form (StmtForm-F.While e inner) env around n sound = past outside (controlled e inner.0 inner.1 env _ sound)
  in_stmt_form (StmtForm-F.Until inner e) env around n sound =
      let one = inner_part inner.0 inner.1 (enter env) (in_body_of_loop around) sound in
      past outside (next outside one (value_part e (behind_inner inner.0 (enter env)) (extended outside (enter env) sound one.kept)))
  in_stmt_form (StmtForm-F.For start condition step inner) env around n sound =
      past outside (subst (λ a. Tells outside env.structs a (statement_parts around env (StmtForm-F.For start condition step inner.0))) (sym (for_by_parts start condition step inner.0 (enter env)))
      (for_tells start condition step inner.0 inner.1 (enter env) around sound))
  in_stmt_form (StmtForm-F.Goto name) env around n sound = none outside env.structs
  in_stmt_form StmtForm-F.Continue env around n sound = none outside env.structs
  in_stmt_form StmtForm-F.Break env around n sound = none outside env.structs
  in_stmt_form (StmtForm-F.Return e) env around n sound = result_tells e env.result env sound

  -- a layer of an item of a block
  abbrev ItemTells : BlockItem-F BlockItem StmtForm Stmt → Type 0
  ItemTells form = (env : Env) (around : Around) → Sound outside env → Tells outside env.structs (item_adds form env) (item_part around env form ∷ [])

  -- an item of a block, by its layer
  in_block_item : (y : BlockItem-F (With PBlockItem) (With PStmtForm) (With PStmt)) → ItemTells (block_item_below y)
  in_block_item (BlockItem-F.Declare node) env around sound = part outside at_end env (ADeclaration InBlock node) sound (declaration_tells node InBlock env)
  in_block_item (BlockItem-F.Stmt inner) env around sound = stmt_part inner.0 inner.1 env around sound

  -- of each kind: a layer tells where its parts do
  block_item_step : (x : BlockItem-F BlockItem StmtForm Stmt) (y : BlockItem-F (With PBlockItem) (With PStmtForm) (With PStmt)) → block_item_below y ≡ x → PBlockItem (roll-BlockItem x)
  block_item_step x y is = subst ItemTells (sym (out-roll-BlockItem x)) (subst ItemTells is (in_block_item y))

  stmt_form_step : (x : StmtForm-F BlockItem StmtForm Stmt) (y : StmtForm-F (With PBlockItem) (With PStmtForm) (With PStmt)) → stmt_form_below y ≡ x → PStmtForm (roll-StmtForm x)
  stmt_form_step x y is = subst StmtTells (sym (out-roll-StmtForm x)) (subst StmtTells is (in_stmt_form y))

  -- a statement, by its layer
  stmt_tells_by : (s : Stmt) → PStmtForm s.form → PStmt s
  stmt_tells_by s form env around sound =
      subst (λ f. Tells outside env.structs (f env).additions (statement_parts around env (out-StmtForm s.form))) (sym (stmt_by_form s)) (form env around s.ordinal sound)

  stmt_step : (x : Stmt-F BlockItem StmtForm Stmt) (y : Stmt-F (With PBlockItem) (With PStmtForm) (With PStmt)) → stmt_below y ≡ x → PStmt (roll-Stmt x)
  stmt_step x y is = stmt_tells_by (roll-Stmt x) (subst (λ (x : Stmt-F BlockItem StmtForm Stmt). PStmtForm x.form) is y.form.1)

  -- each statement
  pub stmt_tells : (s : Stmt) → PStmt s
  stmt_tells = ind-Stmt PBlockItem PStmtForm PStmt block_item_step stmt_form_step stmt_step

  -- each item of a block
  block_item_tells : (i : BlockItem) → PBlockItem i
  block_item_tells = ind-BlockItem PBlockItem PStmtForm PStmt block_item_step stmt_form_step stmt_step

  -- ---- definitions

  -- the name that a definition declares
  defined_name : (node : Function) (told : SpecifierTold) (env : Env) → Sound outside env → TypesHaveElements env.structs told.types →
      (λ (inner : DeclaratorTold). let a = inner.additions env in KeepsStructs (structs_behind env.structs a)
      (named_additions (extend env a) AtFile told.storages Defined None inner.name (type_made env false (type_in InDefinition told) inner))) (declarator_found node.declarator)
  defined_name node told env sound types =
      let inner = declarator_found node.declarator in
      let a = inner.additions env in
      name_kept (structs_behind env.structs a) (extend env a) AtFile told.storages Defined None inner.name (type_made env false (type_in InDefinition told) inner)
      (made_elements node.declarator env false InDefinition told sound types)

  -- a body stands in a sound environment
  body_sound : (node : Function) (told : SpecifierTold) (env : Env) → Sound outside env → TypesHaveElements env.structs told.types → Sound outside (in_body told env node)
  body_sound node told env sound types =
      let inner = declarator_found node.declarator in
      let a = inner.additions env in
      let one = declarator_part outside at_end node.declarator (declarator_tells outside at_end node.declarator) env (defined_left told at_end env node) sound in
      let name = defined_name node told env sound types in
      let behind = extended outside (extend env a) (extended outside env sound one.kept) name in
      let parameters = adds_further _ _ (inner.parameters (enter env)) name ((declarator_tells outside at_end node.declarator).parameters env sound) in (
        behind.0,
        tags_both (behind_declarator told env node).tags (inner.parameters (enter env)).tags _ behind.1 parameters.0,
        behind.2,
        names_both _ (behind_declarator told env node).declared (inner.parameters (enter env)).declared behind.3 parameters.1,
      )

  -- a definition
  pub definition_tells : (node : Function) (env : Env) → NodeTells outside at_end env (ADefinition node)
  definition_tells node env sound =
      let told = specifiers_found node.specifiers env false in
      let after = extend env told.additions in
      let items = body_items (out-StmtForm node.body.form) in
      let one = all_specifiers node.specifiers env false sound in
      let stays = extended outside env sound one.kept in
      let two = declarator_part outside at_end node.declarator (declarator_tells outside at_end node.declarator) after (defined_left told at_end after node) stays in
      let types = specifiers_types node.specifiers env false sound in
      turn outside one (next outside two (named_then (defined_name node told after stays types)
      (past outside (items_tell items (each_all PBlockItem block_item_tells items) (in_body told after node) (in_function (labels node.body)) (body_sound node told after stays types)))))
    where
      named_then : {structs : List Members} {a b : Additions} {ps : List Placed} → KeepsStructs structs a → Tells outside (structs_behind structs a) b ps → Tells outside structs (both a b) ps
      named_then {structs} {a} {b} {ps} kept others = turn outside {ps = []} {qs = ps} (record { kept = kept; parts = tt }) others
