-- The ordinals of declarations, statements and whole sources leave their places as they are.
use Rattle.std.proofs.Common.{◌≡◌, ℕ, ◌+◌, Option, Some, None, map, refl, sym, ap, subst}
use Rattle.std.specs.Option.{option_map}
use Rattle.lk_base.specs.declared.spot.Spot.{Spot}
use Rattle.lk_tree.specs.declared.declaration.Declare.{Declare}
use Rattle.lk_tree.specs.declared.declaration.Designator.{Designator}
use Rattle.lk_tree.specs.declared.declaration.Entry.{Entry}
use Rattle.lk_tree.specs.declared.declaration.Init.TheFolds.{fold_out-Init, fold_out-Entry, fold_out-InitList, map-Init}
use Rattle.lk_tree.specs.declared.declaration.Init.TheOpen.{Init-F}
use Rattle.lk_tree.specs.declared.declaration.Init.{Init, out-Init}
use Rattle.lk_tree.specs.declared.declaration.Init.TheVariants as init
use Rattle.lk_tree.specs.declared.declaration.InitDeclarator.{InitDeclarator}
use Rattle.lk_tree.specs.declared.declaration.InitList.{InitList, out-InitList, roll-InitList}
use Rattle.lk_tree.specs.declared.expression.Expr.{Expr}
use Rattle.lk_tree.specs.declared.statement.BlockItem.TheFolds.{fold_out-BlockItem, fold_out-StmtForm, fold_out-Stmt, map-BlockItem, map-StmtForm}
use Rattle.lk_tree.specs.declared.statement.BlockItem.TheOpen.{BlockItem-F, StmtForm-F}
use Rattle.lk_tree.specs.declared.statement.BlockItem.{BlockItem, out-BlockItem}
use Rattle.lk_tree.specs.declared.statement.BlockItem.TheVariants as item
use Rattle.lk_tree.specs.declared.statement.Decl.{Decl}
use Rattle.lk_tree.specs.declared.statement.ForFirst.{ForFirst}
use Rattle.lk_tree.specs.declared.statement.Stmt.{Stmt}
use Rattle.lk_tree.specs.declared.statement.StmtForm.{StmtForm, out-StmtForm}
use Rattle.lk_tree.specs.declared.statement.StmtForm.TheVariants as stmt
use Rattle.lk_tree.specs.declared.statement.Unit as unit
use Rattle.lk_tree.specs.Numbers.{Numbered, list, list_of, expr, declarator, specifier, initialiser, statement, declare, of_designator, of_init, of_entry, of_list, of_init_declarator, of_first, of_block_item, in_stmt, of_stmt, of_decl, numbered}
use Rattle.lk_ordinals.specs.Parts as f
use Rattle.lk_spots.specs.Places.{ExprSpots, SpecifierSpots}
use Rattle.lk_spots.specs.StatementPlaces as t
use Rattle.lk_spots.specs.StatementPlaces.{DesignatorSpots, InitSpots, InitFormSpots, EntrySpots, InitDeclaratorSpots, DeclareSpots, FirstSpots, StmtSpots, StmtFormSpots, BlockItemSpots, BlockItemFormSpots, DeclSpots, UnitSpots}
use Rattle.lk_spots.proofs.Lists.{each_numbered, each_of_numbered, optional_numbered, optional_of_numbered}
use Rattle.lk_spots.proofs.Numbering.{number-expr, number-declarator, number-specifier}
use Rattle.lk_spots.proofs.Variants.{init_at, init_list_at, stmt_form_at, block_item_at}

-- ---- layers

abbrev init_layer : Init-F Init Entry InitList → Init-F (Numbered Init) (Numbered Entry) (Numbered InitList)
init_layer = map-Init Init Entry InitList (Numbered Init) (Numbered Entry) (Numbered InitList) initialiser f.entry f.init_list

abbrev stmt_layer : StmtForm-F BlockItem StmtForm Stmt → StmtForm-F (Numbered BlockItem) (Numbered StmtForm) (Numbered Stmt)
stmt_layer = map-StmtForm BlockItem StmtForm Stmt (Numbered BlockItem) (Numbered StmtForm) (Numbered Stmt) f.block_item f.stmt_form statement

abbrev block_item_layer : BlockItem-F BlockItem StmtForm Stmt → BlockItem-F (Numbered BlockItem) (Numbered StmtForm) (Numbered Stmt)
block_item_layer = map-BlockItem BlockItem StmtForm Stmt (Numbered BlockItem) (Numbered StmtForm) (Numbered Stmt) f.block_item f.stmt_form statement

if_layer : (value : Expr) (taken : Stmt) (other : Option Stmt) → stmt_layer (StmtForm-F.If value taken other) ≡ StmtForm-F.If value (statement taken) (option_map statement other)
if_layer value taken None = refl
if_layer value taken (Some other) = refl

-- ---- nodes

init_is : (one : Init) (n : ℕ) → (initialiser one n).0 ≡ (of_init (init_layer (out-Init one)) n).0
unfolding initialiser
init_is one n = ap (λ number. (number n).0) (fold_out-Init (Numbered Init) (Numbered Entry) (Numbered InitList) of_init of_entry of_list one)

entry_is : (one : Entry) (n : ℕ)
    → (f.entry one n).0 ≡ record { designators = (list_of of_designator one.designators n).0; init = (initialiser one.init (list_of of_designator one.designators n).1).0 }
unfolding initialiser
entry_is one n = ap (λ number. (number n).0) (fold_out-Entry (Numbered Init) (Numbered Entry) (Numbered InitList) of_init of_entry of_list one)

init_list_is : (one : InitList) (n : ℕ)
    → (f.init_list one n).0 ≡ roll-InitList (record { spot = (out-InitList one).spot; ordinal = n; entries = (list (map f.entry (out-InitList one).entries) (n + 1)).0 })
unfolding initialiser
init_list_is one n = ap (λ number. (number n).0) (fold_out-InitList (Numbered Init) (Numbered Entry) (Numbered InitList) of_init of_entry of_list one)

stmt_form_is : (one : StmtForm) (n : ℕ) → (f.stmt_form one n).0 ≡ (in_stmt (stmt_layer (out-StmtForm one)) n).0
unfolding statement
stmt_form_is one n = ap (λ number. (number n).0) (fold_out-StmtForm (Numbered BlockItem) (Numbered StmtForm) (Numbered Stmt) of_block_item in_stmt of_stmt one)

stmt_is : (one : Stmt) (n : ℕ) → (statement one n).0 ≡ record { spot = one.spot; ordinal = n; form = (f.stmt_form one.form (n + 1)).0 }
unfolding statement
stmt_is one n = ap (λ number. (number n).0) (fold_out-Stmt (Numbered BlockItem) (Numbered StmtForm) (Numbered Stmt) of_block_item in_stmt of_stmt one)

block_item_is : (one : BlockItem) (n : ℕ) → (f.block_item one n).0 ≡ (of_block_item (block_item_layer (out-BlockItem one)) n).0
unfolding statement
block_item_is one n = ap (λ number. (number n).0) (fold_out-BlockItem (Numbered BlockItem) (Numbered StmtForm) (Numbered Stmt) of_block_item in_stmt of_stmt one)

module _ (P : Spot → Type 0) where
  -- ---- declarations

  number-designator : {one : Designator} → DesignatorSpots P one → (n : ℕ) → DesignatorSpots P (of_designator one n).0
  number-designator t.member n = t.member
  number-designator (t.index value) n = t.index (number-expr P value n)

  mutual
    number-init : {one : Init} → InitSpots P one → (n : ℕ) → InitSpots P (initialiser one n).0
    number-init (t.init {i = one} form) n = subst (InitSpots P) (sym (init_is one n)) (number-init_form form n)

    number-init_form : {x : Init-F Init Entry InitList} → InitFormSpots P x → (n : ℕ) → InitSpots P (of_init (init_layer x) n).0
    number-init_form (t.value value) n = init_at P _ (init.rolls-Expr _) (t.value (number-expr P value n))
    number-init_form (t.list {node = one} here entries) n =
        init_at P _ (init.rolls-List _) (subst (λ node. InitFormSpots P (Init-F.List node)) (sym (init_list_is one n)) (init_list_at P _ _ _ here
        (each_numbered (EntrySpots P) f.entry _ (λ a is. number-entry (entries a is)) (n + 1))))

    number-entry : {one : Entry} → EntrySpots P one → (n : ℕ) → EntrySpots P (f.entry one n).0
    number-entry (t.entry {e = one} designators value) n =
        subst (EntrySpots P) (sym (entry_is one n)) (t.entry
        (each_of_numbered (DesignatorSpots P) of_designator _ (λ a is. number-designator (designators a is)) n) (number-init value _))

  number-init_declarator : {one : InitDeclarator} → InitDeclaratorSpots P one → (n : ℕ) → InitDeclaratorSpots P (of_init_declarator one n).0
  number-init_declarator {one} spots n =
      record {
        declarator = number-declarator P spots.declarator n;
        init = optional_of_numbered (InitSpots P) initialiser one.init (λ a is. number-init (spots.init a is)) (declarator one.declarator n).1;
      }

  number-declare : {one : Declare} → DeclareSpots P one → (n : ℕ) → DeclareSpots P (declare one n).0
  number-declare {one} spots n =
      record {
        spot = spots.spot;
        specifiers = each_of_numbered (SpecifierSpots P) specifier one.specifiers (λ a is. number-specifier P (spots.specifiers a is)) (n + 1);
        declarators = each_of_numbered (InitDeclaratorSpots P) of_init_declarator one.declarators (λ a is. number-init_declarator (spots.declarators a is)) (list_of specifier one.specifiers (n + 1)).1;
      }

  -- ---- statements

  number-first : {one : ForFirst} → FirstSpots P one → (n : ℕ) → FirstSpots P (of_first one n).0
  number-first (t.first_value value) n = t.first_value (optional_of_numbered (ExprSpots P) expr _ (λ a is. number-expr P (value a is)) n)
  number-first (t.first_declare node) n = t.first_declare (number-declare node n)

  mutual
    number-stmt : {one : Stmt} → StmtSpots P one → (n : ℕ) → StmtSpots P (statement one n).0
    number-stmt (t.stmt {s = one} here form) n =
        subst (StmtSpots P) (sym (stmt_is one n)) (t.stmt here (subst (λ form. StmtFormSpots P (out-StmtForm form)) (sym (stmt_form_is one.form (n + 1))) (number-stmt_form form (n + 1))))

    number-stmt_form : {x : StmtForm-F BlockItem StmtForm Stmt} → StmtFormSpots P x → (n : ℕ) → StmtFormSpots P (out-StmtForm (in_stmt (stmt_layer x) n).0)
    number-stmt_form (t.label inner) n = stmt_form_at P _ (stmt.rolls-Label _ _) (t.label (number-stmt inner _))
    number-stmt_form (t.case value inner) n = stmt_form_at P _ (stmt.rolls-Case _ _) (t.case (number-expr P value _) (number-stmt inner _))
    number-stmt_form (t.default inner) n = stmt_form_at P _ (stmt.rolls-Default _) (t.default (number-stmt inner _))
    number-stmt_form (t.block items) n = stmt_form_at P _ (stmt.rolls-Block _) (t.block (each_numbered (BlockItemSpots P) f.block_item _ (λ a is. number-block_item (items a is)) _))
    number-stmt_form (t.do_expr value) n = stmt_form_at P _ (stmt.rolls-Do _) (t.do_expr (optional_of_numbered (ExprSpots P) expr _ (λ a is. number-expr P (value a is)) _))
    number-stmt_form (t.if_else {value = condition} {yes = inner} {no = part} value taken other) n =
        subst (λ x. StmtFormSpots P (out-StmtForm (in_stmt x n).0)) (sym (if_layer condition inner part)) (stmt_form_at P _ (stmt.rolls-If _ _ _)
        (t.if_else (number-expr P value _) (number-stmt taken _) (optional_numbered (StmtSpots P) statement _ (λ a is. number-stmt (other a is)) _)))
    number-stmt_form (t.switch value inner) n = stmt_form_at P _ (stmt.rolls-Switch _ _) (t.switch (number-expr P value _) (number-stmt inner _))
    number-stmt_form (t.while value inner) n = stmt_form_at P _ (stmt.rolls-While _ _) (t.while (number-expr P value _) (number-stmt inner _))
    number-stmt_form (t.until inner value) n = stmt_form_at P _ (stmt.rolls-Until _ _) (t.until (number-stmt inner _) (number-expr P value _))
    number-stmt_form (t.for start value step inner) n =
        stmt_form_at P _ (stmt.rolls-For _ _ _ _) (t.for (number-first start _) (optional_of_numbered (ExprSpots P) expr _ (λ a is. number-expr P (value a is)) _)
        (optional_of_numbered (ExprSpots P) expr _ (λ a is. number-expr P (step a is)) _) (number-stmt inner _))
    number-stmt_form t.goto n = stmt_form_at P _ (stmt.rolls-Goto _) t.goto
    number-stmt_form t.continue n = stmt_form_at P _ stmt.rolls-Continue t.continue
    number-stmt_form t.break n = stmt_form_at P _ stmt.rolls-Break t.break
    number-stmt_form (t.return value) n = stmt_form_at P _ (stmt.rolls-Return _) (t.return (optional_of_numbered (ExprSpots P) expr _ (λ a is. number-expr P (value a is)) _))

    number-block_item : {one : BlockItem} → BlockItemSpots P one → (n : ℕ) → BlockItemSpots P (f.block_item one n).0
    number-block_item (t.block_item {i = one} form) n = subst (BlockItemSpots P) (sym (block_item_is one n)) (number-block_item_form form n)

    number-block_item_form : {x : BlockItem-F BlockItem StmtForm Stmt} → BlockItemFormSpots P x → (n : ℕ) → BlockItemSpots P (of_block_item (block_item_layer x) n).0
    number-block_item_form (t.item_declare node) n = block_item_at P _ (item.rolls-Declare _) (t.item_declare (number-declare node _))
    number-block_item_form (t.item_stmt inner) n = block_item_at P _ (item.rolls-Stmt _) (t.item_stmt (number-stmt inner _))

  -- ---- whole sources

  number-decl : {one : Decl} → DeclSpots P one → (n : ℕ) → DeclSpots P (of_decl one n).0
  number-decl (t.function {node = one} spots) n =
      t.function (record {
        spot = spots.spot;
        specifiers = each_of_numbered (SpecifierSpots P) specifier one.specifiers (λ a is. number-specifier P (spots.specifiers a is)) (n + 1);
        declarator = number-declarator P spots.declarator _;
        body = number-stmt spots.body _;
      })
  number-decl (t.declare node) n = t.declare (number-declare node n)
  number-decl (t.empty here) n = t.empty here

  pub number-unit : (one : unit.Unit) → UnitSpots P one → UnitSpots P (numbered one)
  number-unit one all = each_of_numbered (DeclSpots P) of_decl one.externals (λ a is. number-decl (all a is)) 0
