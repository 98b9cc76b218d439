-- The nodes of a numbered initialiser and of a numbered declaration are laid in ranges.
use Rattle.std.proofs.Common.{◌≡◌, ◌∙◌, ◌≤◌, ◌<◌, ◌+◌, ℕ, suc, List, [], ◌∷◌, Option, Some, None, map, refl, sym, ap, subst, arith}
use Rattle.lk_tree.specs.declared.declaration.Declare.{Declare}
use Rattle.lk_tree.specs.declared.declaration.Designator.{Designator}
use Rattle.lk_tree.specs.declared.declaration.Designator.TheVariants as designator
use Rattle.lk_tree.specs.declared.declaration.Entry.{Entry, roll-Entry}
use Rattle.lk_tree.specs.declared.declaration.Init.TheFolds.{fold-Entry, fold-InitList, fold-roll-Init, fold-roll-Entry, fold-roll-InitList, ind-Init, map-Init, map-Entry, map-InitList}
use Rattle.lk_tree.specs.declared.declaration.Init.TheOpen.{Init-F, Entry-F, InitList-F}
use Rattle.lk_tree.specs.declared.declaration.Init.{Init, out-Init, roll-Init, out-roll-Init}
use Rattle.lk_tree.specs.declared.declaration.Init.TheVariants as init
use Rattle.lk_tree.specs.declared.declaration.InitDeclarator.{InitDeclarator}
use Rattle.lk_tree.specs.declared.declaration.InitList.{InitList, out-InitList, roll-InitList, out-roll-InitList}
use Rattle.lk_tree.specs.declared.expression.Expr.{Expr}
use Rattle.lk_tree.specs.Numbers.{Numbered, list, expr, specifier, initialiser, declare, of_designator, of_init, of_entry, of_list, of_init_declarator}
use Rattle.lk_typed.specs.DeclarationRules.{Scope}
use Rattle.lk_typed.specs.Declarations.{is_alone}
use Rattle.lk_typed.specs.Env.{Env, extend}
use Rattle.lk_typed.specs.Expressions.{expr_word, specifiers_found}
use Rattle.lk_typed.specs.InitialiserRules.{Object}
use Rattle.lk_typed.specs.Initialisers.{as_initialiser, designators_add, designator_part, designator_parts, entries_in_turn, entry_object, init_adds, parts_of_init, unless_word}
use Rattle.lk_typed.specs.NodeParts.{declarators_in_turn}
use Rattle.lk_typed.specs.NodeRules.{init_mark}
use Rattle.lk_typed.specs.Parts.{perhaps}
use Rattle.lk_typed.specs.Nodes.{Node, ADeclaration, AnInitialiser, AnExpression, at}
use Rattle.lk_typed.specs.Told.{SpecifierTold}
use Rattle.lk_typed.specs.Ty.{Ty}
use Rattle.lk_nodes.specs.Kinds.{number_of}
use Rattle.lk_nodes.proofs.Expressions.{DeclaratorLies, SpecifierLies, declarator_lies, expr_lies, no_parts, only, own, specifier_lies, specifiers_lie}
use Rattle.lk_nodes.proofs.Laid.{Laid, InTurn, both, init_inner_from, rising, within}
use Rattle.lk_nodes.proofs.Laid.InTurn.{nil, next}
use Rattle.lk_nodes.proofs.Laid.Laid.{laid}
use Rattle.lk_nodes.proofs.Lists.{With, Lays, ListLies, OptionLies, list_lies, list_of_lies, option_of_lies}
use Rattle.lk_nodes.proofs.Lists.ListLies.{no_more, one_more}
use Rattle.lk_nodes.proofs.Lists.OptionLies.{missing, present}
use Rattle.lk_typed.specs.Stands.Stands.{here}

-- the numbers of an entry
abbrev entry : Entry → Numbered Entry
entry = fold-Entry (Numbered Init) (Numbered Entry) (Numbered InitList) of_init of_entry of_list

-- the numbers of a list in braces
abbrev init_list : InitList → Numbered InitList
init_list = fold-InitList (Numbered Init) (Numbered Entry) (Numbered InitList) of_init of_entry of_list

-- ---- a layer, with its parts to be numbered

abbrev init_layer : Init-F Init Entry InitList → Init-F (Numbered Init) (Numbered Entry) (Numbered InitList)
init_layer = map-Init Init Entry InitList (Numbered Init) (Numbered Entry) (Numbered InitList) initialiser entry init_list

abbrev entry_layer : Entry-F Init Entry InitList → Entry-F (Numbered Init) (Numbered Entry) (Numbered InitList)
entry_layer = map-Entry Init Entry InitList (Numbered Init) (Numbered Entry) (Numbered InitList) initialiser entry init_list

abbrev list_layer : InitList-F Init Entry InitList → InitList-F (Numbered Init) (Numbered Entry) (Numbered InitList)
list_layer = map-InitList Init Entry InitList (Numbered Init) (Numbered Entry) (Numbered InitList) initialiser entry init_list

-- the numbers of what a layer makes are by those of its parts
init_rolled : (x : Init-F Init Entry InitList) → initialiser (roll-Init x) ≡ of_init (init_layer x)
unfolding initialiser
init_rolled x = fold-roll-Init (Numbered Init) (Numbered Entry) (Numbered InitList) of_init of_entry of_list x

entry_rolled : (x : Entry-F Init Entry InitList) → entry (roll-Entry x) ≡ of_entry (entry_layer x)
unfolding initialiser
entry_rolled x = fold-roll-Entry (Numbered Init) (Numbered Entry) (Numbered InitList) of_init of_entry of_list x

list_rolled : (x : InitList-F Init Entry InitList) → init_list (roll-InitList x) ≡ of_list (list_layer x)
unfolding initialiser
list_rolled x = fold-roll-InitList (Numbered Init) (Numbered Entry) (Numbered InitList) of_init of_entry of_list x

module _ (at_end : Env) where
  -- ---- what lies in a range

  -- an initialiser, of any object
  abbrev pub InitLies : Init → ℕ → ℕ → Type 0
  InitLies one n m = (env : Env) (object : Option Object) → Laid at_end n env (AnInitialiser object one) m

  -- the parts of a designator
  abbrev DesignatorLies : Designator → ℕ → ℕ → Type 0
  DesignatorLies one n m = (env : Env) → InTurn at_end n (designator_part env one) m

  -- an entry: its designators, then its initialiser
  data EntryLies : Entry → ℕ → ℕ → Type 0 where
    entry_lies : {n k m : ℕ} {one : Entry} → ListLies DesignatorLies one.designators n k → InitLies one.init k m → EntryLies one n m

  -- a list in braces: its number, and its entries
  data InitListLies : InitList → ℕ → ℕ → Type 0 where
    init_list_lies : {n m : ℕ} {one : InitList} → (out-InitList one).ordinal ≡ n → ListLies EntryLies (out-InitList one).entries (n + 1) m → InitListLies one n m

  -- a declarator of a declaration, then its initialiser
  pub data InitDeclaratorLies : InitDeclarator → ℕ → ℕ → Type 0 where
    init_declarator_lies : {n k m : ℕ} {one : InitDeclarator} → DeclaratorLies at_end one.declarator n k → OptionLies InitLies one.init k m → InitDeclaratorLies one n m

  -- a declaration, in any scope
  abbrev pub DeclareLies : Declare → ℕ → ℕ → Type 0
  DeclareLies one n m = (env : Env) (scope : Scope) → Laid at_end n env (ADeclaration scope one) m

  -- ---- parts in turn

  -- the parts of designators
  designators_lie : (ds : List Designator) {n m : ℕ} → ListLies DesignatorLies ds n m → (env : Env) → InTurn at_end n (designator_parts env ds) m
  designators_lie [] (no_more rises) env = nil rises
  designators_lie (x ∷ xs) (one_more first others) env = both at_end (first env) (designators_lie xs others _)

  -- the parts of a list in braces
  entries_lie : (es : List Entry) {n m : ℕ} → ListLies EntryLies es n m → (object : Option Object) (text : Option ℕ) (env : Env) (k : ℕ) → InTurn at_end n (entries_in_turn object text env k es) m
  entries_lie [] (no_more rises) object text env k = nil rises
  entries_lie (x ∷ xs) (one_more (entry_lies first value) others) object text env k =
      let behind = extend env (designators_add env x.designators) in
      both at_end (designators_lie x.designators first env)
      (next (value behind (entry_object behind object text k)) (entries_lie xs others object text (extend behind (init_adds x.init behind)) (suc k)))

  -- an initialiser that may be missing
  initialiser_lies : (part : Option Init) {n m : ℕ} → OptionLies InitLies part n m → (env : Env) (object : Option Object) → InTurn at_end n (perhaps env (AnInitialiser object) part) m
  initialiser_lies None (missing rises) env object = nil rises
  initialiser_lies (Some one) (present is) env object = only at_end (is env object)

  -- the parts of the declarators of a declaration
  declarators_lie : (ds : List InitDeclarator) {n m : ℕ} → ListLies InitDeclaratorLies ds n m → (scope : Scope) (told : SpecifierTold) (env : Env) →
      InTurn at_end n (declarators_in_turn at_end scope told env ds) m
  declarators_lie [] (no_more rises) scope told env = nil rises
  declarators_lie (x ∷ xs) (one_more (init_declarator_lies first value) others) scope told env =
      next (first env _) (both at_end (initialiser_lies x.init value _ _) (declarators_lie xs others scope told _))

  -- ---- initialisers, layer by layer

  -- an initialiser, numbered from anywhere on, lies from there up to the number behind it; and so of entries and lists
  abbrev PInit : Init → Type 0
  PInit one = Lays InitLies (initialiser one)

  abbrev PEntry : Entry → Type 0
  PEntry one = Lays EntryLies (entry one)

  abbrev PInitList : InitList → Type 0
  PInitList one = Lays InitListLies (init_list one)

  abbrev init_below : Init-F (With PInit) (With PEntry) (With PInitList) → Init-F Init Entry InitList
  init_below = map-Init (With PInit) (With PEntry) (With PInitList) Init Entry InitList (λ a. a.0) (λ a. a.0) (λ a. a.0)

  abbrev entry_below : Entry-F (With PInit) (With PEntry) (With PInitList) → Entry-F Init Entry InitList
  entry_below = map-Entry (With PInit) (With PEntry) (With PInitList) Init Entry InitList (λ a. a.0) (λ a. a.0) (λ a. a.0)

  abbrev list_below : InitList-F (With PInit) (With PEntry) (With PInitList) → InitList-F Init Entry InitList
  list_below = map-InitList (With PInit) (With PEntry) (With PInitList) Init Entry InitList (λ a. a.0) (λ a. a.0) (λ a. a.0)

  -- the number and the parts of a layer of an initialiser
  record LayerLies (x : Init-F Init Entry InitList) (object : Option Object) (env : Env) (n m : ℕ) : Type 0 where
    low : n ≤ (init_mark x).ordinal
    high : (init_mark x).ordinal < m
    inner : InTurn at_end (init_inner_from x) (parts_of_init object env x) m

  -- an initialiser, by its layer
  init_at : {one : Init} {n m : ℕ} (x : Init-F Init Entry InitList) → roll-Init x ≡ one → ((env : Env) (object : Option Object) → LayerLies x object env n m) → InitLies one n m
  init_at {one} {n} {m} x is lies env object = let so = subst (λ x. LayerLies x object env n m) (sym (out-roll-Init x) ∙ ap out-Init is) (lies env object) in laid so.low so.high so.inner

  -- a node lies from its own number on
  pub from_its_number : {n m : ℕ} {env : Env} {node : Node} → Laid at_end n env node m → Laid at_end (number_of node) env node m
  from_its_number (laid low high inner) = laid (omega arith) high inner

  -- the part of an initialiser that is an expression, which is none where that is an initialiser word
  value_lies : (word : Option Ty) {n m : ℕ} {env : Env} {one : Expr} → Laid at_end n env (AnExpression one) m → InTurn at_end one.ordinal (unless_word word (at env (AnExpression one) ∷ [])) m
  value_lies None is = only at_end (from_its_number is)
  value_lies (Some lock) is = let bounds = within at_end is here in nil (omega (arith, bounds.1))

  -- an initialiser, by its expression or list
  in_init : (y : Init-F (With PInit) (With PEntry) (With PInitList)) → Lays InitLies (of_init (init_layer (init_below y)))
  in_init (Init-F.Expr value) n =
      let one = (expr value n).0 in
      init_at (Init-F.Expr one) (init.rolls-Expr _)
      (λ env object. let is = expr_lies at_end value n (as_initialiser object env) in let bounds = within at_end is here in record { low = bounds.0; high = bounds.1; inner = value_lies (expr_word one env) is })
  in_init (Init-F.List entries) n = init_at (Init-F.List (init_list entries.0 n).0) (init.rolls-List _) (λ env object. list_parts (init_list entries.0 n).0 (entries.1 n) env object)
    where
      list_parts : (one : InitList) {n m : ℕ} → InitListLies one n m → (env : Env) (object : Option Object) → LayerLies (Init-F.List one) object env n m
      list_parts one {n} {m} (init_list_lies is entries) env object =
          let rises = rising at_end (entries_lie (out-InitList one).entries entries object None env 0) in
          record {
            low = omega (arith, is);
            high = omega (arith, is, rises);
            inner = subst (λ k. InTurn at_end k (parts_of_init object env (Init-F.List one)) m) (ap (λ k. k + 1) (sym is)) (entries_lie (out-InitList one).entries entries object _ env 0);
          }

  -- a designator
  designator_lies : (one : Designator) → Lays DesignatorLies (of_designator one)
  designator_lies (designator.Member name) n env = no_parts at_end
  designator_lies (designator.Index value) n env = only at_end (expr_lies at_end value n env)

  -- an entry, by its designators and initialiser
  in_entry : (y : Entry-F (With PInit) (With PEntry) (With PInitList)) → Lays EntryLies (of_entry (entry_layer (entry_below y)))
  in_entry y n = entry_lies (list_of_lies DesignatorLies of_designator designator_lies y.designators n) (y.init.1 _)

  -- a list in braces, by its entries
  list_at : {m : ℕ} (x : InitList-F Init Entry InitList) → ListLies EntryLies x.entries (x.ordinal + 1) m → InitListLies (roll-InitList x) x.ordinal m
  list_at {m} x lies =
      let is = out-roll-InitList x in
      init_list_lies (ap (λ (x : InitList-F Init Entry InitList). x.ordinal) is) (subst (λ (z : InitList-F Init Entry InitList). ListLies EntryLies z.entries (x.ordinal + 1) m) (sym is) lies)

  -- a list in braces, by its layer
  in_list : (y : InitList-F (With PInit) (With PEntry) (With PInitList)) → Lays InitListLies (of_list (list_layer (list_below y)))
  in_list y n = list_at (record { spot = y.spot; ordinal = n; entries = (list (map entry (map (λ a. a.0) y.entries)) (n + 1)).0 }) (list_lies EntryLies entry y.entries (n + 1))

  -- of each kind: what a layer makes lies where its parts do
  init_step : (x : Init-F Init Entry InitList) (y : Init-F (With PInit) (With PEntry) (With PInitList)) → init_below y ≡ x → PInit (roll-Init x)
  init_step x y is = subst (Lays InitLies) (sym (init_rolled x)) (subst (λ x. Lays InitLies (of_init (init_layer x))) is (in_init y))

  entry_step : (x : Entry-F Init Entry InitList) (y : Entry-F (With PInit) (With PEntry) (With PInitList)) → entry_below y ≡ x → PEntry (roll-Entry x)
  entry_step x y is = subst (Lays EntryLies) (sym (entry_rolled x)) (subst (λ x. Lays EntryLies (of_entry (entry_layer x))) is (in_entry y))

  list_step : (x : InitList-F Init Entry InitList) (y : InitList-F (With PInit) (With PEntry) (With PInitList)) → list_below y ≡ x → PInitList (roll-InitList x)
  list_step x y is = subst (Lays InitListLies) (sym (list_rolled x)) (subst (λ x. Lays InitListLies (of_list (list_layer x))) is (in_list y))

  -- a numbered initialiser lies from its number up to the one behind it
  pub init_lies : (one : Init) → Lays InitLies (initialiser one)
  init_lies = ind-Init PInit PEntry PInitList init_step entry_step list_step

  -- ---- declarations

  -- a declarator with its initialiser
  init_declarator_lies_by : (one : InitDeclarator) → Lays InitDeclaratorLies (of_init_declarator one)
  init_declarator_lies_by one n = init_declarator_lies (declarator_lies at_end one.declarator n) (option_of_lies InitLies initialiser init_lies one.init _)

  -- a declaration, by its specifiers and declarators
  declare_by : (one : Declare) {k m : ℕ} → ListLies (SpecifierLies at_end) one.specifiers (one.ordinal + 1) k → ListLies InitDeclaratorLies one.declarators k m → DeclareLies one one.ordinal m
  declare_by one first others env scope =
      let alone = is_alone one.declarators in
      let told = specifiers_found one.specifiers env alone in
      own at_end refl refl (both at_end (specifiers_lie at_end one.specifiers first alone env) (declarators_lie one.declarators others scope told (extend env told.additions)))

  -- a numbered declaration lies from its number up to the one behind it
  pub declare_lies : (one : Declare) → Lays DeclareLies (declare one)
  declare_lies one n =
      declare_by (declare one n).0 (list_of_lies (SpecifierLies at_end) specifier (specifier_lies at_end) one.specifiers (n + 1)) (list_of_lies InitDeclaratorLies of_init_declarator init_declarator_lies_by one.declarators _)
