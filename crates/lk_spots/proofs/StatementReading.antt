-- Each place in a declaration, a statement or a whole source that is read is that of a token which is read.
use Rattle.std.proofs.Common.{◌≡◌, ◌∙◌, ℕ, Bool, List, Option, None, sym}
use Rattle.lk_base.specs.declared.spot.Spot.{Spot}
use Rattle.lk_lex.specs.declared.token.TokenKind.{TokenKind}
use Rattle.lk_lex.specs.declared.token.TokenKind.TheVariants as k
use Rattle.lk_tree.specs.declared.declaration.Declare.{Declare}
use Rattle.lk_tree.specs.declared.declaration.Designator.{Designator}
use Rattle.lk_tree.specs.declared.declaration.Entry.{Entry}
use Rattle.lk_tree.specs.declared.declaration.Init.{Init}
use Rattle.lk_tree.specs.declared.declaration.Init.TheVariants as init
use Rattle.lk_tree.specs.declared.declaration.InitDeclarator.{InitDeclarator}
use Rattle.lk_tree.specs.declared.expression.Expr.{Expr}
use Rattle.lk_tree.specs.declared.statement.BlockItem.{BlockItem}
use Rattle.lk_tree.specs.declared.statement.BlockItem.TheVariants as item
use Rattle.lk_tree.specs.declared.statement.Decl.{Decl}
use Rattle.lk_tree.specs.declared.statement.ForFirst.{ForFirst}
use Rattle.lk_tree.specs.declared.statement.Stmt.{Stmt}
use Rattle.lk_tree.specs.declared.statement.StmtForm.{StmtForm, out-StmtForm}
use Rattle.lk_tree.specs.declared.statement.StmtForm.TheVariants as stmt
use Rattle.lk_parse_expr.specs.Declarations as gd
use Rattle.lk_parse_expr.specs.Declarations.{ReadsDesignator, ReadsDesignators, ReadsInit, ReadsEntries, ReadsEntry, ReadsInitDeclarator, ReadsInitDeclarators, ReadsDeclare}
use Rattle.lk_parse_expr.specs.Heads.{declare_head}
use Rattle.lk_parse_expr.specs.Input.{Input, Names, declare, here, next, with_names}
use Rattle.lk_parse_expr.specs.Statements as gs
use Rattle.lk_parse_expr.specs.Statements.{stmt_at, ReadsOptional, ReadsCondition, ReadsForFirst, ReadsStmt, ReadsScope, ReadsBlockItems, ReadsBlockItem, ReadsDecl, ReadsUnit}
use Rattle.lk_spots.specs.Places.{Each, IfThere, ExprSpots}
use Rattle.lk_spots.specs.StatementPlaces as t
use Rattle.lk_spots.specs.StatementPlaces.{DesignatorSpots, InitSpots, EntrySpots, InitDeclaratorSpots, DeclareSpots, FirstSpots, StmtSpots, StmtFormSpots, BlockItemSpots, DeclSpots}
use Rattle.lk_spots.proofs.Lists.{each_none, each_more, each_one, if_missing, if_there}
use Rattle.lk_spots.proofs.Reading.{Along, along-next, along-declare, along-leave, along-head, front, Reading, Perhaps, reads, perhaps, at-expr, at-specifiers, at-declarator}
use Rattle.lk_spots.proofs.Variants.{init_at, init_list_at, stmt_form_at, block_item_at}

module _ (P : Spot → Type 0) where
  along-with_names : (names : Names) (i : Input) → Along P i → Along P (with_names names i)
  unfolding with_names
  along-with_names names i along = record { each = along.each }

  -- ---- declarations

  at-designator : {h : ℕ} {one : Designator} {from rest : Input} → ReadsDesignator h one from rest → Along P from → Perhaps P (DesignatorSpots P one) rest
  at-designator (gd.designator_member {from = from} is so) along = perhaps P t.member (along-next P (next from) (along-next P from along))
  at-designator (gd.designator_index {from = from} {close = close} is value so) along =
      let first = at-expr P value (along-next P from along) in perhaps P (t.index first.part) (along-next P close first.behind)

  at-designators : {h : ℕ} {xs : List Designator} {from rest : Input} → ReadsDesignators h xs from rest → Along P from → Perhaps P (Each (DesignatorSpots P) xs) rest
  at-designators (gd.designators_last one) along = let first = at-designator one along in perhaps P (each_one (DesignatorSpots P) _ first.part) first.behind
  at-designators (gd.designators_more one others) along =
      let first = at-designator one along in
      let all = at-designators others first.behind in
      perhaps P (each_more (DesignatorSpots P) _ _ first.part all.part) all.behind

  mutual
    at-init : {h : ℕ} {one : Init} {from rest : Input} → ReadsInit h one from rest → Along P from → Perhaps P (InitSpots P one) rest
    at-init (gd.init_expr value) along = let first = at-expr P value along in perhaps P (init_at P _ (init.rolls-Expr _) (t.value first.part)) first.behind
    at-init (gd.init_list {from = from} {close = close} is entries so) along =
        let all = at-entries entries (along-next P from along) in
        perhaps P (init_at P _ (init.rolls-List _) (init_list_at P _ _ _ (front P from along (λ end. cc)) all.part)) (along-next P close all.behind)

    at-entries : {h : ℕ} {xs : List Entry} {from rest : Input} → ReadsEntries h xs from rest → Along P from → Perhaps P (Each (EntrySpots P) xs) rest
    at-entries (gd.entries_last one) along = let first = at-entry one along in perhaps P (each_one (EntrySpots P) _ first.part) first.behind
    at-entries (gd.entries_comma {rest = rest} one is so) along =
        let first = at-entry one along in perhaps P (each_one (EntrySpots P) _ first.part) (along-next P rest first.behind)
    at-entries (gd.entries_more {mid = mid} one is others) along =
        let first = at-entry one along in
        let all = at-entries others (along-next P mid first.behind) in
        perhaps P (each_more (EntrySpots P) _ _ first.part all.part) all.behind

    at-entry : {h : ℕ} {one : Entry} {from rest : Input} → ReadsEntry h one from rest → Along P from → Perhaps P (EntrySpots P one) rest
    at-entry (gd.entry_plain value) along = let first = at-init value along in perhaps P (t.entry (each_none (DesignatorSpots P)) first.part) first.behind
    at-entry (gd.entry_designated {mid = mid} list is value) along =
        let all = at-designators list along in
        let first = at-init value (along-next P mid all.behind) in
        perhaps P (t.entry all.part first.part) first.behind

  at-init_declarator : {typedef : Bool} {h : ℕ} {one : InitDeclarator} {from rest : Input} → ReadsInitDeclarator typedef h one from rest → Along P from → Perhaps P (InitDeclaratorSpots P one) rest
  at-init_declarator {typedef} (gd.plain {head = head} {rest = rest} inner) along =
      let first = at-declarator P inner along in
      perhaps P (record { declarator = first.part; init = if_missing (InitSpots P) }) (along-head P head typedef rest first.behind)
  at-init_declarator {typedef} (gd.initialised {head = head} {mid = mid} inner is value) along =
      let first = at-declarator P inner along in
      let second = at-init value (along-next P (declare_head head typedef mid) (along-head P head typedef mid first.behind)) in
      perhaps P (record { declarator = first.part; init = if_there (InitSpots P) _ second.part }) second.behind

  at-init_declarators : {typedef : Bool} {h : ℕ} {xs : List InitDeclarator} {from rest : Input} → ReadsInitDeclarators typedef h xs from rest → Along P from
      → Perhaps P (Each (InitDeclaratorSpots P) xs) rest
  at-init_declarators (gd.declarators_last one) along = let first = at-init_declarator one along in perhaps P (each_one (InitDeclaratorSpots P) _ first.part) first.behind
  at-init_declarators (gd.declarators_more {mid = mid} one is others) along =
      let first = at-init_declarator one along in
      let all = at-init_declarators others (along-next P mid first.behind) in
      perhaps P (each_more (InitDeclaratorSpots P) _ _ first.part all.part) all.behind

  at-declare : {h : ℕ} {one : Declare} {from rest : Input} → ReadsDeclare h one from rest → Along P from → Perhaps P (DeclareSpots P one) rest
  at-declare (gd.declare_none {rest = rest} list is) along =
      let first = at-specifiers P list along in
      perhaps P (record { spot = first.front; specifiers = first.part; declarators = each_none (InitDeclaratorSpots P) }) (along-next P rest first.behind)
  at-declare (gd.declare_some {rest = rest} list declarators is) along =
      let first = at-specifiers P list along in
      let all = at-init_declarators declarators first.behind in
      perhaps P (record { spot = first.front; specifiers = first.part; declarators = all.part }) (along-next P rest all.behind)

  -- ---- statements

  -- before a token that is not the end
  at-optional : {end : TokenKind} {h : ℕ} {value : Option Expr} {from rest : Input} → (end ≡ k.End → ⊥) → ReadsOptional end h value from rest → Along P from
      → Reading P (IfThere (ExprSpots P) value) from rest
  at-optional some (gs.optional_none {from = from} is) along = reads P (front P from along (λ end. some (sym is ∙ end))) (if_missing (ExprSpots P)) (along-next P from along)
  at-optional some (gs.optional_some {rest = rest} value is) along =
      let first = at-expr P value along in reads P first.front (if_there (ExprSpots P) _ first.part) (along-next P rest first.behind)

  at-condition : {h : ℕ} {value : Expr} {from rest : Input} → ReadsCondition h value from rest → Along P from → Perhaps P (ExprSpots P value) rest
  at-condition (gs.condition {from = from} {rest = rest} is value so) along =
      let first = at-expr P value (along-next P from along) in perhaps P first.part (along-next P rest first.behind)

  at-first : {h : ℕ} {start : ForFirst} {from rest : Input} → ReadsForFirst h start from rest → Along P from → Perhaps P (FirstSpots P start) rest
  at-first (gs.first_expr is value) along = let first = at-optional (λ end. cc) value along in perhaps P (t.first_value first.part) first.behind
  at-first (gs.first_declare is one) along = let first = at-declare one along in perhaps P (t.first_declare first.part) first.behind

  stmt_reads : {form : StmtForm} {from rest : Input} → P (here from) → StmtFormSpots P (out-StmtForm form) → Along P rest → Reading P (StmtSpots P (stmt_at from form)) from rest
  stmt_reads place form along = reads P place (t.stmt place form) along

  mutual
    at-stmt : {h : ℕ} {one : Stmt} {from rest : Input} → ReadsStmt h one from rest → Along P from → Reading P (StmtSpots P one) from rest
    at-stmt (gs.label {from = from} is so inner) along =
        let first = at-stmt inner (along-next P (next from) (along-next P from along)) in
        stmt_reads (front P from along (λ end. cc)) (stmt_form_at P _ (stmt.rolls-Label _ _) (t.label first.part)) first.behind
    at-stmt (gs.case {from = from} {mid = mid} is value so inner) along =
        let first = at-expr P value (along-next P from along) in
        let second = at-stmt inner (along-next P mid first.behind) in
        stmt_reads (front P from along (λ end. cc)) (stmt_form_at P _ (stmt.rolls-Case _ _) (t.case first.part second.part)) second.behind
    at-stmt (gs.default {from = from} is so inner) along =
        let first = at-stmt inner (along-next P (next from) (along-next P from along)) in
        stmt_reads (front P from along (λ end. cc)) (stmt_form_at P _ (stmt.rolls-Default _) (t.default first.part)) first.behind
    at-stmt (gs.block {from = from} {close = close} is items so) along =
        let all = at-block_items items (along-next P from along) in
        stmt_reads (front P from along (λ end. cc)) (stmt_form_at P _ (stmt.rolls-Block _) (t.block all.part)) (along-leave P from (next close) (along-next P close all.behind))
    at-stmt (gs.do_expr value) along =
        let first = at-optional (λ end. cc) value along in stmt_reads first.front (stmt_form_at P _ (stmt.rolls-Do _) (t.do_expr first.part)) first.behind
    at-stmt (gs.if_alone {from = from} {rest = rest} is value inner no_else) along =
        let first = at-condition value (along-next P from along) in
        let second = at-scope inner first.behind in
        stmt_reads (front P from along (λ end. cc)) (stmt_form_at P _ (stmt.rolls-If _ _ None) (t.if_else first.part second.part (if_missing (StmtSpots P))))
        (along-leave P from rest second.behind)
    at-stmt (gs.if_else {from = from} {other = other} {rest = rest} is value inner so last) along =
        let first = at-condition value (along-next P from along) in
        let second = at-scope inner first.behind in
        let third = at-scope last (along-next P other second.behind) in
        stmt_reads (front P from along (λ end. cc)) (stmt_form_at P _ (stmt.rolls-If _ _ _) (t.if_else first.part second.part (if_there (StmtSpots P) _ third.part)))
        (along-leave P from rest third.behind)
    at-stmt (gs.switch {from = from} {rest = rest} is value inner) along =
        let first = at-condition value (along-next P from along) in
        let second = at-scope inner first.behind in
        stmt_reads (front P from along (λ end. cc)) (stmt_form_at P _ (stmt.rolls-Switch _ _) (t.switch first.part second.part)) (along-leave P from rest second.behind)
    at-stmt (gs.while {from = from} {rest = rest} is value inner) along =
        let first = at-condition value (along-next P from along) in
        let second = at-scope inner first.behind in
        stmt_reads (front P from along (λ end. cc)) (stmt_form_at P _ (stmt.rolls-While _ _) (t.while first.part second.part)) (along-leave P from rest second.behind)
    at-stmt (gs.until {from = from} {mid = mid} {rest = rest} is inner so value last) along =
        let first = at-scope inner (along-next P from along) in
        let second = at-condition value (along-next P mid first.behind) in
        stmt_reads (front P from along (λ end. cc)) (stmt_form_at P _ (stmt.rolls-Until _ _) (t.until first.part second.part))
        (along-leave P from (next rest) (along-next P rest second.behind))
    at-stmt (gs.for {from = from} {rest = rest} is so start value step inner) along =
        let first = at-first start (along-next P (next from) (along-next P from along)) in
        let second = at-optional (λ end. cc) value first.behind in
        let third = at-optional (λ end. cc) step second.behind in
        let body = at-scope inner third.behind in
        stmt_reads (front P from along (λ end. cc)) (stmt_form_at P _ (stmt.rolls-For _ _ _ _) (t.for first.part second.part third.part body.part)) (along-leave P from rest body.behind)
    at-stmt (gs.goto {from = from} is so last) along =
        stmt_reads (front P from along (λ end. cc)) (stmt_form_at P _ (stmt.rolls-Goto _) t.goto) (along-next P (next (next from)) (along-next P (next from) (along-next P from along)))
    at-stmt (gs.continue {from = from} is so) along =
        stmt_reads (front P from along (λ end. cc)) (stmt_form_at P _ stmt.rolls-Continue t.continue) (along-next P (next from) (along-next P from along))
    at-stmt (gs.break {from = from} is so) along =
        stmt_reads (front P from along (λ end. cc)) (stmt_form_at P _ stmt.rolls-Break t.break) (along-next P (next from) (along-next P from along))
    at-stmt (gs.return {from = from} is value) along =
        let first = at-optional (λ end. cc) value (along-next P from along) in
        stmt_reads (front P from along (λ end. cc)) (stmt_form_at P _ (stmt.rolls-Return _) (t.return first.part)) first.behind

    at-scope : {h : ℕ} {one : Stmt} {from rest : Input} → ReadsScope h one from rest → Along P from → Perhaps P (StmtSpots P one) rest
    at-scope (gs.scope {from = from} {rest = rest} inner) along = let first = at-stmt inner along in perhaps P first.part (along-leave P from rest first.behind)

    at-block_items : {h : ℕ} {xs : List BlockItem} {from rest : Input} → ReadsBlockItems h xs from rest → Along P from → Perhaps P (Each (BlockItemSpots P) xs) rest
    at-block_items (gs.items_none is) along = perhaps P (each_none (BlockItemSpots P)) along
    at-block_items (gs.items_more one others) along =
        let first = at-block_item one along in
        let all = at-block_items others first.behind in
        perhaps P (each_more (BlockItemSpots P) _ _ first.part all.part) all.behind

    at-block_item : {h : ℕ} {one : BlockItem} {from rest : Input} → ReadsBlockItem h one from rest → Along P from → Perhaps P (BlockItemSpots P one) rest
    at-block_item (gs.item_declare is one) along = let first = at-declare one along in perhaps P (block_item_at P _ (item.rolls-Declare _) (t.item_declare first.part)) first.behind
    at-block_item (gs.item_stmt is inner) along = let first = at-stmt inner along in perhaps P (block_item_at P _ (item.rolls-Stmt _) (t.item_stmt first.part)) first.behind

  -- ---- whole sources

  at-decl : {h : ℕ} {one : Decl} {from rest : Input} → ReadsDecl h one from rest → Along P from → Perhaps P (DeclSpots P one) rest
  at-decl (gs.empty {from = from} is) along = perhaps P (t.empty (front P from along (λ end. cc))) (along-next P from along)
  at-decl (gs.declared one) along = let first = at-declare one along in perhaps P (t.declare first.part) first.behind
  at-decl (gs.function {typedef = typedef} {name = name} {parameters = parameters} {body = body} {close = close} list inner is block so) along =
      let first = at-specifiers P list along in
      let second = at-declarator P inner first.behind in
      let outside : Input = declare name typedef body in
      let inside = along-with_names parameters outside (along-declare P name typedef body second.behind) in
      let all = at-block_items block (along-next P (with_names parameters outside) inside) in
      perhaps P
      (t.function (record {
        spot = first.front;
        specifiers = first.part;
        declarator = second.part;
        body = t.stmt (front P body second.behind (λ end. cc)) (stmt_form_at P _ (stmt.rolls-Block _) (t.block all.part));
      }))
      (along-leave P outside (next close) (along-next P close all.behind))

  pub at-unit : {h : ℕ} {xs : List Decl} {from : Input} → ReadsUnit h xs from → Along P from → Each (DeclSpots P) xs
  at-unit (gs.unit_end is) along = each_none (DeclSpots P)
  at-unit (gs.unit_more one others) along = let first = at-decl one along in each_more (DeclSpots P) _ _ first.part (at-unit others first.behind)
