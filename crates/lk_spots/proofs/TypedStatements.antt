-- Typed statements stand at places of the statements that they are made of.
use Rattle.std.proofs.Common.{◌≡◌, inl, inr, ℕ, false, List, [], ◌∷◌, ◌++◌, Option, refl, sym, subst}
use Rattle.std.specs.List.{AllByRecursion}
use Rattle.lk_base.specs.declared.cell.CellStep.{CellStep}
use Rattle.lk_base.specs.declared.spot.Spot.{Spot}
use Rattle.lk_tree.specs.declared.declaration.Entry.{Entry}
use Rattle.lk_tree.specs.declared.declaration.Init.TheOpen.{Init-F}
use Rattle.lk_tree.specs.declared.declaration.Init.{Init, out-Init}
use Rattle.lk_tree.specs.declared.declaration.InitDeclarator.{InitDeclarator}
use Rattle.lk_tree.specs.declared.declaration.InitList.{InitList, out-InitList}
use Rattle.lk_tree.specs.declared.expression.Expr.{Expr}
use Rattle.lk_tree.specs.declared.statement.BlockItem.TheOpen.{StmtForm-F}
use Rattle.lk_tree.specs.declared.statement.ForFirst.{ForFirst}
use Rattle.lk_tree.specs.declared.statement.Stmt.{Stmt}
use Rattle.lk_typed.specs.DeclarationRules.{InBlock}
use Rattle.lk_typed.specs.Env.{Env}
use Rattle.lk_typed.specs.Initialised as given
use Rattle.lk_typed.specs.Initialised.{Beginning, AValue, TheBytes, TheWord, PartGiven, AreGiven, AreGivenByEntries}
use Rattle.lk_typed.specs.LocalInits as inits
use Rattle.lk_typed.specs.LocalInits.{IsLocalValue, IsLocalPart, AreLocalParts, IsLocalInit, AreLocalInits}
use Rattle.lk_typed.specs.Nodes.{Placed, at}
use Rattle.lk_typed.specs.StatementRules.{Around}
use Rattle.lk_typed.specs.Tables.{Tables}
use Rattle.lk_typed.specs.Told.{SpecifierTold}
use Rattle.lk_typed.specs.Ty.{Ty}
use Rattle.lk_typed.specs.TypedStatements as ts
use Rattle.lk_typed.specs.TypedStatements.{MakesStmt, IsPerhaps, IsFirst, IsStmt, IsElse, AreItems, parts_in}
use Rattle.lk_typed.specs.declared.expression.TypedExpr.{TypedExpr}
use Rattle.lk_typed.specs.declared.initialiser.LocalPart.{LocalPart}
use Rattle.lk_typed.specs.declared.initialiser.LocalValue.{LocalValue}
use Rattle.lk_typed.specs.declared.statement.LocalInit.{LocalInit}
use Rattle.lk_typed.specs.declared.statement.TypedFirst.{TypedFirst}
use Rattle.lk_typed.specs.declared.statement.TypedItem.TheOpen.{TypedStmtForm-F}
use Rattle.lk_typed.specs.declared.statement.TypedItem.{TypedItem}
use Rattle.lk_typed.specs.declared.statement.TypedStmt.{TypedStmt}
use Rattle.lk_typed.specs.declared.statement.TypedStmtForm.{TypedStmtForm}
use Rattle.lk_spots.specs.Places.{Each, IfThere, ExprSpots}
use Rattle.lk_spots.specs.StatementPlaces as p
use Rattle.lk_spots.specs.StatementPlaces.{InitSpots, InitFormSpots, EntrySpots, InitDeclaratorSpots, DeclareSpots, FirstSpots, StmtSpots, StmtFormSpots}
use Rattle.lk_spots.specs.TypedPlaces as t
use Rattle.lk_spots.specs.TypedPlaces.{TypedExprSpots, LocalValueSpots, LocalInitSpots, TypedFirstSpots, TypedStmtSpots, TypedStmtFormSpots, TypedItemSpots, TypedItemFormSpots}
use Rattle.lk_spots.proofs.Lists.{each_none, each_more, if_missing, if_there}
use Rattle.lk_spots.proofs.Parts.{PartsSpots, in_initialiser, in_statement}
use Rattle.lk_spots.proofs.TypedExpressions.{place_of, value, converted}

module _ (P : Spot → Type 0) where
  -- ---- what initialisers give

  pub data BeginningSpots : Beginning → Type 0 where
    of_value : {p : Env × Expr} → ExprSpots P p.1 → BeginningSpots (AValue p)
    of_bytes : {spot : Spot} {ordinal : ℕ} {bytes : List ℕ} → P spot → BeginningSpots (TheBytes spot ordinal bytes)
    of_word : BeginningSpots TheWord

  abbrev pub GivenSpots : List PartGiven → Type 0
  GivenSpots parts = AllByRecursion (λ (part : PartGiven). BeginningSpots part.begins) parts

  both_given : (xs ys : List PartGiven) → GivenSpots xs → GivenSpots ys → GivenSpots (xs ++ ys)
  both_given [] ys first others = others
  both_given (x ∷ xs) ys first others = (first.0, both_given xs ys first.1 others)

  -- the form of an initialiser
  init_form : {i : Init} {x : Init-F Init Entry InitList} → out-Init i ≡ x → InitSpots P i → InitFormSpots P x
  init_form is (p.init form) = subst (InitFormSpots P) is form

  value_in : {e : Expr} → InitFormSpots P (Init-F.Expr e) → ExprSpots P e
  value_in (p.value spots) = spots

  entries_in : {list : InitList} → InitFormSpots P (Init-F.List list) → Each (EntrySpots P) (out-InitList list).entries
  entries_in (p.list here entries) = entries

  init_of : {e : Entry} → EntrySpots P e → InitSpots P e.init
  init_of (p.entry designators spots) = spots

  mutual
    pub given_spots : {env : Env} {t : Ty} {path : List CellStep} {init : Init} {parts : List PartGiven} → AreGiven env t path init parts → InitSpots P init → GivenSpots parts
    given_spots (given.word is word) spots = (of_word, tt)
    given_spots (given.value is no_word no_array) spots = (of_value (value_in (init_form is spots)), tt)
    given_spots (given.text is written) spots = (of_bytes (place_of P (value_in (init_form is spots))), tt)
    given_spots (given.braced_text {entry = entry} is alone text inner) spots =
        given_spots inner (init_of (subst (Each (EntrySpots P)) alone (entries_in (init_form is spots)) entry (inl refl)))
    given_spots (given.list is no_text entries) spots = given_by_entries entries (entries_in (init_form is spots))

    given_by_entries : {env : Env} {t : Ty} {path : List CellStep} {k : ℕ} {entries : List Entry} {parts : List PartGiven} → AreGivenByEntries env t path k entries parts
        → Each (EntrySpots P) entries → GivenSpots parts
    given_by_entries given.no_more each = tt
    given_by_entries (given.next {entry = entry} step type one others) each =
        both_given _ _ (given_spots one (init_of (each entry (inl refl)))) (given_by_entries others (λ a is. each a (inr is)))

  -- ---- the parts of a statement of a form

  of_label : {name : List ℕ} {inner : Stmt} → StmtFormSpots P (StmtForm-F.Label name inner) → StmtSpots P inner
  of_label (p.label inner) = inner

  of_case : {e : Expr} {inner : Stmt} → StmtFormSpots P (StmtForm-F.Case e inner) → StmtSpots P inner
  of_case (p.case value inner) = inner

  of_default : {inner : Stmt} → StmtFormSpots P (StmtForm-F.Default inner) → StmtSpots P inner
  of_default (p.default inner) = inner

  of_do : {e : Option Expr} → StmtFormSpots P (StmtForm-F.Do e) → IfThere (ExprSpots P) e
  of_do (p.do_expr value) = value

  of_if : {e : Expr} {inner : Stmt} {other : Option Stmt} → StmtFormSpots P (StmtForm-F.If e inner other) → ExprSpots P e × StmtSpots P inner × IfThere (StmtSpots P) other
  of_if (p.if_else value inner other) = (value, inner, other)

  of_switch : {e : Expr} {inner : Stmt} → StmtFormSpots P (StmtForm-F.Switch e inner) → ExprSpots P e × StmtSpots P inner
  of_switch (p.switch value inner) = (value, inner)

  of_while : {e : Expr} {inner : Stmt} → StmtFormSpots P (StmtForm-F.While e inner) → ExprSpots P e × StmtSpots P inner
  of_while (p.while value inner) = (value, inner)

  of_until : {e : Expr} {inner : Stmt} → StmtFormSpots P (StmtForm-F.Until inner e) → ExprSpots P e × StmtSpots P inner
  of_until (p.until inner value) = (value, inner)

  of_for : {start : ForFirst} {condition step : Option Expr} {inner : Stmt} → StmtFormSpots P (StmtForm-F.For start condition step inner)
      → FirstSpots P start × IfThere (ExprSpots P) condition × IfThere (ExprSpots P) step × StmtSpots P inner
  of_for (p.for start value step inner) = (start, value, step, inner)

  of_return : {e : Option Expr} → StmtFormSpots P (StmtForm-F.Return e) → IfThere (ExprSpots P) e
  of_return (p.return value) = value

  pub stmt_made : {s : Stmt} {form : TypedStmtForm-F TypedItem TypedStmtForm TypedStmt} {t : TypedStmt} → MakesStmt s form t → P s.spot → TypedStmtFormSpots P form → TypedStmtSpots P t
  stmt_made makes here form = t.typed_stmt (subst P (sym makes.spot) here) (subst (TypedStmtFormSpots P) (sym makes.made) form)

  module _ (tables : Tables) where
    -- ---- locals that a declaration gives a value

    local_value : {t : Ty} {begins : Beginning} {is : LocalValue} → IsLocalValue tables t begins is → BeginningSpots begins → LocalValueSpots P is
    local_value (inits.expression a) (of_value spots) = t.given (converted P tables false a spots)
    local_value inits.bytes (of_bytes here) = t.bytes here
    local_value inits.word of_word = t.ready

    local_parts : {parts : List PartGiven} {are : List LocalPart} → AreLocalParts tables parts are → GivenSpots parts → Each (λ (part : LocalPart). LocalValueSpots P part.value) are
    local_parts inits.no_more spots = each_none (λ (part : LocalPart). LocalValueSpots P part.value)
    local_parts (inits.next one others) spots =
        each_more (λ (part : LocalPart). LocalValueSpots P part.value) _ _ (local_value one.begins spots.0) (local_parts others spots.1)

    local_init : {env : Env} {t : Ty} {by : Init} {ordinal : ℕ} {is : LocalInit} → IsLocalInit tables env t by ordinal is → InitSpots P by → LocalInitSpots P is
    local_init one spots = local_parts one.named (given_spots one.gives spots)

    local_inits : {told : SpecifierTold} {env : Env} {ds : List InitDeclarator} {are : List LocalInit} → AreLocalInits tables told env ds are → Each (InitDeclaratorSpots P) ds → Each (LocalInitSpots P) are
    local_inits inits.no_more each = each_none (LocalInitSpots P)
    local_inits {told} (inits.given {env = env} {d = d} automatic named is one others) each =
        each_more (LocalInitSpots P) _ _ (local_init one (subst (PartsSpots P) is (in_initialiser P InBlock told env d (each d (inl refl)).init)).0) (local_inits others (λ a is. each a (inr is)))
    local_inits (inits.not_given none others) each = local_inits others (λ a is. each a (inr is))

    -- ---- statements

    perhaps : {e : Option Expr} {parts : List Placed} {t : Option TypedExpr} → IsPerhaps tables e parts t → IfThere (ExprSpots P) e → IfThere (TypedExprSpots P) t
    perhaps ts.missing spots = if_missing (TypedExprSpots P)
    perhaps (ts.there {e = e} a) spots = if_there (TypedExprSpots P) _ (value P tables false a (spots e refl))

    first : {start : ForFirst} {parts : List Placed} {t : TypedFirst} → IsFirst tables start parts t → FirstSpots P start → TypedFirstSpots P t
    first (ts.expression a) (p.first_value spots) = t.first_value (perhaps a spots)
    first (ts.declaration are) (p.first_declare spots) = t.first_declare (local_inits are spots.declarators)

    mutual
      pub stmt : {env : Env} {around : Around} {s : Stmt} {t : TypedStmt} → IsStmt tables env around s t → StmtSpots P s → TypedStmtSpots P t
      stmt (ts.label is parts inner makes) (p.stmt here form) = stmt_made makes here (t.label (stmt inner (of_label (subst (StmtFormSpots P) is form))))
      stmt (ts.case is parts inner makes) (p.stmt here form) = stmt_made makes here (t.case (stmt inner (of_case (subst (StmtFormSpots P) is form))))
      stmt (ts.default is parts inner makes) (p.stmt here form) = stmt_made makes here (t.default (stmt inner (of_default (subst (StmtFormSpots P) is form))))
      stmt {env} {around} (ts.block is are makes) (p.stmt here form) = stmt_made makes here (t.block (items are (in_statement P form around env)))
      stmt (ts.do_ is a makes) (p.stmt here form) = stmt_made makes here (t.do_expr (perhaps a (of_do (subst (StmtFormSpots P) is form))))
      stmt (ts.if_ is parts c inner other makes) (p.stmt here form) =
          let spots = of_if (subst (StmtFormSpots P) is form) in
          stmt_made makes here (t.if_else (value P tables false c spots.0) (stmt inner spots.1) (otherwise other spots.2))
      stmt (ts.switch is parts at v found cases defaults inner makes) (p.stmt here form) =
          let spots = of_switch (subst (StmtFormSpots P) is form) in stmt_made makes here (t.switch (converted P tables false v spots.0) (stmt inner spots.1))
      stmt (ts.while is parts c inner makes) (p.stmt here form) =
          let spots = of_while (subst (StmtFormSpots P) is form) in stmt_made makes here (t.while (value P tables false c spots.0) (stmt inner spots.1))
      stmt (ts.until is parts inner c makes) (p.stmt here form) =
          let spots = of_until (subst (StmtFormSpots P) is form) in stmt_made makes here (t.until (stmt inner spots.1) (value P tables false c spots.0))
      stmt (ts.for_ firsts conditions steps is parts start condition step inner makes) (p.stmt here form) =
          let spots = of_for (subst (StmtFormSpots P) is form) in
          stmt_made makes here (t.for (first start spots.0) (perhaps condition spots.1) (perhaps step spots.2) (stmt inner spots.3))
      stmt (ts.goto is among named makes) (p.stmt here form) = stmt_made makes here t.goto
      stmt (ts.continue is makes) (p.stmt here form) = stmt_made makes here t.continue
      stmt (ts.break is makes) (p.stmt here form) = stmt_made makes here t.break
      stmt (ts.return_nothing is makes) (p.stmt here form) = stmt_made makes here (t.return (if_missing (TypedExprSpots P)))
      stmt (ts.return {e = e} is parts result a makes) (p.stmt here form) =
          stmt_made makes here (t.return (if_there (TypedExprSpots P) _ (converted P tables false a (of_return (subst (StmtFormSpots P) is form) e refl))))

      otherwise : {s : Option Stmt} {parts : List Placed} {t : Option TypedStmt} → IsElse tables s parts t → IfThere (StmtSpots P) s → IfThere (TypedStmtSpots P) t
      otherwise ts.missing spots = if_missing (TypedStmtSpots P)
      otherwise (ts.there {s = s} inner) spots = if_there (TypedStmtSpots P) _ (stmt inner (spots s refl))

      pub items : {parts : List Placed} {are : List TypedItem} → AreItems tables parts are → PartsSpots P parts → Each (TypedItemSpots P) are
      items ts.no_more spots = each_none (TypedItemSpots P)
      items (ts.declaration are is others) spots =
          each_more (TypedItemSpots P) _ _ (t.typed_item (subst (TypedItemFormSpots P) (sym is) (t.item_declare (local_inits are spots.0.declarators)))) (items others spots.1)
      items (ts.statement inner is others) spots =
          each_more (TypedItemSpots P) _ _ (t.typed_item (subst (TypedItemFormSpots P) (sym is) (t.item_stmt (stmt inner spots.0)))) (items others spots.1)
