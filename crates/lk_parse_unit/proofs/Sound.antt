-- What the readers of statements and units read is of their form.
use Rattle.std.proofs.Common.{◌≡◌, ℕ, zero, suc, ◌+◌, ◌≤◌, min, max, Bool, true, false, List, [], Option, refl, arith}
use Rattle.lk_lex.specs.declared.token.TokenKind.{TokenKind}
use Rattle.lk_lex.specs.declared.token.TokenKind.TheVariants as k
use Rattle.lk_lex.specs.declared.punct.Punct.{Punct}
use Rattle.lk_lex.specs.declared.punct.Punct.TheVariants as p
use Rattle.lk_lex.specs.declared.keyword.Keyword.TheVariants as w
use Rattle.lk_tree.specs.declared.expression.Specifier.{Specifier}
use Rattle.lk_tree.specs.declared.expression.Declarator.{Declarator}
use Rattle.lk_tree.specs.declared.expression.Expr.{Expr}
use Rattle.lk_tree.specs.declared.statement.Stmt.{Stmt}
use Rattle.lk_tree.specs.declared.statement.StmtForm.TheVariants as s
use Rattle.lk_tree.specs.declared.statement.ForFirst.{ForFirst}
use Rattle.lk_tree.specs.declared.statement.BlockItem.{BlockItem}
use Rattle.lk_tree.specs.declared.statement.Decl.{Decl}
use Rattle.lk_parse_expr.specs.declared.found.Found.{Found}
use Rattle.lk_parse_expr.specs.declared.naming.Naming.TheVariants as naming
use Rattle.lk_parse_expr.specs.declared.naming.Head.{Head}
use Rattle.lk_parse_expr.specs.declared.naming.Head.TheVariants as head
use Rattle.lk_parse_expr.specs.Input.{Input, Names, peek, here, next, declare, leave, with_names}
use Rattle.lk_parse_expr.specs.Words.{begins_specifiers}
use Rattle.lk_parse_expr.specs.Readers.{same_keyword, Parser, exhausted, is_key, sees, sees_key, found, repeat}
use Rattle.lk_parse_expr.specs.Grammar.{ReadsExpr, ReadsDeclarator}
use Rattle.lk_parse_expr.specs.Declarations as d
use Rattle.lk_parse_expr.specs.Statements as g
use Rattle.lk_parse_expr.specs.Statements.{ReadsOptional, ReadsCondition, ReadsForFirst, ReadsStmt, ReadsScope, ReadsBlockItems, ReadsBlockItem, ReadsDecl, ReadsUnit, is_else, is_colon, begins_declaration, stmt_at}
use Rattle.lk_parse_expr.specs.Reading.{readers, specifiers}
use Rattle.lk_parse_expr.proofs.Steps.{seen, seen_key}
use Rattle.lk_parse_expr.proofs.Lists.{Run, run_none, run_more}
use Rattle.lk_parse_expr.proofs.Yielding.{Yields, and_yields, weaker, by_test, after_need, after_expect, after_key, after_word, Has}
use Rattle.lk_parse_expr.proofs.Sound.{repeat_has, run_on}
use Rattle.lk_parse_expr.proofs.SoundExpr.{one_expr}
use Rattle.lk_parse_expr.proofs.SoundParts.{IsList, specifiers_has}
use Rattle.lk_parse_expr.proofs.Sounds.{sounds}
use Rattle.lk_parse_decl.specs.Reading.{declaration, declarators_behind}
use Rattle.lk_parse_decl.proofs.Sound.{declarations_have, behind_has}
use Rattle.lk_lex.specs.TokenList.{is_end}
use Rattle.lk_parse_unit.specs.Leads.{lead_of}
use Rattle.lk_parse_unit.specs.Reading.{optional, condition, scope, labelled, case_of, default_of, is_late_label, block_item, block_items, block, expression, if_behind, if_of, switch_of, while_of, until_of, for_first, for_head, for_of, goto_of, return_of, stmt_by, stmt_from, stmt, body_items, function_body, function_by, declared_behind, declared, external_from, external, unit}

no_else : (i : Input) → sees_key w.Else i ≡ false → is_else (peek i) ≡ false
unfolding sees_key same_keyword
no_else i e = by (peek i) e
  where
    by : (kind : TokenKind) → is_key w.Else kind ≡ false → is_else kind ≡ false
    by (k.Key w.Else) e = absurd cc
    by _ e = refl

run_items : {h : ℕ} {list : List BlockItem} {from rest : Input} → Run ReadsBlockItem h list from rest → peek rest ≡ k.Punct p.CloseBrace → ReadsBlockItems h list from rest
run_items run_none so = g.items_none so
run_items (run_more one others) so = g.items_more one (run_items others so)

-- what stands in the parentheses of a `for`
data ReadsHead : ℕ → ForFirst × Option Expr × Option Expr → Input → Input → Type 0 where
  in_head : {g h l : ℕ} {start : ForFirst} {value step : Option Expr} {from second third body : Input} → peek from ≡ k.Punct p.OpenParen → ReadsForFirst g start (next from) second
      → ReadsOptional (k.Punct p.Semicolon) h value second third → ReadsOptional (k.Punct p.CloseParen) l step third body → ReadsHead (max g (max h l)) (start, value, step) from body

pub record StmtsHave (m : ℕ) (below : Parser (Found Stmt)) : Type 0 where
  pub has : (from : Input) → Yields (Has m (λ h one rest. ReadsStmt h one from rest)) (below from)

module _ (m : ℕ) (below : Parser (Found Stmt)) (sound : StmtsHave m below) where
  one : (level : ℕ) (i : Input) → level ≤ 14 → Yields (Has m (λ h e rest. ReadsExpr level h e i rest)) ((readers m).expr level i)
  one level i small = one_expr m (readers m) (sounds m) level i small

  optional_has : (q : Punct) (from : Input) → Yields (Has m (λ h value rest. ReadsOptional (k.Punct q) h value from rest)) (optional m below q from)
  unfolding optional
  optional_has q from = by_test _ (sees q from) _ _
      (λ e. record { depth = 0; reads = g.optional_none (seen q from e); all = omega arith })
      (λ e. and_yields _ _ ((readers m).expr 0 from) _ (one 0 from (omega arith)) (λ value i has. after_expect _ q i _ (λ so. record { depth = has.depth; reads = g.optional_some has.reads so; all = has.all })))

  condition_has : (from : Input) → Yields (Has m (λ h value rest. ReadsCondition h value from rest)) (condition m below from)
  unfolding condition
  condition_has from = after_expect _ p.OpenParen from _ (λ is. and_yields _ _ ((readers m).expr 0 (next from)) _ (one 0 (next from) (omega arith)) (λ value i has.
      after_expect _ p.CloseParen i _ (λ so. record { depth = has.depth; reads = g.condition is has.reads so; all = has.all })))

  scope_has : (from : Input) → Yields (Has m (λ h one rest. ReadsScope h one from rest)) (scope m below from)
  unfolding scope
  scope_has from = and_yields _ _ (below from) _ (sound.has from) (λ inner i has. record { depth = has.depth; reads = g.scope has.reads; all = has.all })

  item_has : (i : Input) → Yields (Has m (λ h one rest. ReadsBlockItem h one i rest)) (block_item m below i)
  unfolding block_item
  item_has i = by_test _ (begins_declaration i) _ _
      (λ e. and_yields _ _ (declaration m i) _ (declarations_have m i) (λ one j has. record { depth = has.depth; reads = g.item_declare e has.reads; all = has.all }))
      (λ e. by_test _ (is_late_label m i) _ _ (λ late. tt)
      (λ early. and_yields _ _ (below i) _ (sound.has i) (λ one j has. record { depth = has.depth; reads = g.item_stmt e has.reads; all = has.all })))

  pub items_has : (from : Input) → Yields (Has m (λ d list i. Run ReadsBlockItem d list from i)) (block_items m below from)
  unfolding block_items
  items_has from = repeat_has m ReadsBlockItem (λ d list i. Run ReadsBlockItem d list from i) (sees p.CloseBrace) (block_item m below) item_has (λ d h list one i j run next_. run_on run next_)
      from 0 m [] run_none (omega arith)

  first_has : (i : Input) → Yields (Has m (λ h start rest. ReadsForFirst h start i rest)) (for_first m below i)
  unfolding for_first
  first_has i = by_test _ (begins_specifiers i) _ _
      (λ e. and_yields _ _ (declaration m i) _ (declarations_have m i) (λ one j has. record { depth = has.depth; reads = g.first_declare e has.reads; all = has.all }))
      (λ e. and_yields _ _ (optional m below p.Semicolon i) _ (optional_has p.Semicolon i) (λ value j has. record { depth = has.depth; reads = g.first_expr e has.reads; all = has.all }))

  abbrev IsStmt : Input → Found Stmt → Input → Type 0
  IsStmt from f rest = Has (suc m) (λ h one rest. ReadsStmt h one from rest) f rest

  expression_has : (from : Input) → Yields (IsStmt from) (expression m below from from)
  unfolding expression
  expression_has from = and_yields _ _ (optional m below p.Semicolon from) _ (optional_has p.Semicolon from) (λ value i has.
      record { depth = _; reads = g.do_expr has.reads; all = (let a = has.all in omega arith) })

  labelled_has : (from : Input) → peek from ≡ k.Word → peek (next from) ≡ k.Punct p.Colon → Yields (IsStmt from) (labelled m below from from)
  unfolding labelled
  labelled_has from is so = after_need _ 1 m from _ (λ some. after_word _ from _ (λ _. after_expect _ p.Colon (next from) _ (λ _. and_yields _ _ (below (next (next from))) _ (sound.has (next (next from))) (λ inner i has.
      record { depth = _; reads = g.label is so has.reads; all = (let a = has.all in omega arith) }))))

  case_has : (from : Input) → peek from ≡ k.Key w.Case → Yields (IsStmt from) (case_of m below from from)
  unfolding case_of
  case_has from is = after_need _ 1 m from _ (λ some. and_yields _ _ ((readers m).expr 2 (next from)) _ (one 2 (next from) (omega arith)) (λ value i has. after_expect _ p.Colon i _ (λ so.
      and_yields _ _ (below (next i)) _ (sound.has (next i)) (λ inner j more. record { depth = _; reads = g.case is has.reads so more.reads; all = (let a = has.all in let b = more.all in omega arith) }))))

  default_has : (from : Input) → peek from ≡ k.Key w.Default → Yields (IsStmt from) (default_of m below from from)
  unfolding default_of
  default_has from is = after_need _ 1 m from _ (λ some. after_expect _ p.Colon (next from) _ (λ so. and_yields _ _ (below (next (next from))) _ (sound.has (next (next from))) (λ inner i has.
      record { depth = _; reads = g.default is so has.reads; all = (let a = has.all in omega arith) })))

  block_has : (from : Input) → peek from ≡ k.Punct p.OpenBrace → Yields (IsStmt from) (block m below from from)
  unfolding block
  block_has from is = and_yields _ _ (block_items m below (next from)) _ (items_has (next from)) (λ items i has. after_expect _ p.CloseBrace i _ (λ so.
      record { depth = _; reads = g.block is (run_items has.reads so) so; all = (let a = has.all in omega arith) }))

  if_made : (from i j : Input) (value : Found Expr) (taken : Found Stmt) → peek from ≡ k.Key w.If → Has m (λ h value rest. ReadsCondition h value (next from) rest) value i
      → Has m (λ h one rest. ReadsScope h one i rest) taken j → Yields (λ form rest. IsStmt from (found (stmt_at from form.tree) form.room) (leave from rest)) (if_behind m below value taken j)
  unfolding if_behind
  if_made from i j value taken is has more = by_test _ (sees_key w.Else j) _ _
      (λ e. and_yields _ _ (scope m below (next j)) _ (scope_has (next j)) (λ other l last.
      record { depth = _; reads = g.if_else is has.reads more.reads (seen_key w.Else j e) last.reads; all = (let a = has.all in let b = more.all in let c = last.all in omega arith) }))
      (λ e. record { depth = _; reads = g.if_alone is has.reads more.reads (no_else j e); all = (let a = has.all in let b = more.all in omega arith) })

  if_has : (from : Input) → peek from ≡ k.Key w.If → Yields (IsStmt from) (if_of m below from from)
  unfolding if_of
  if_has from is = after_need _ 1 m from _ (λ some. and_yields _ _ (condition m below (next from)) _ (condition_has (next from)) (λ value i has.
      and_yields _ _ (scope m below i) _ (scope_has i) (λ taken j more. and_yields _ _ (if_behind m below value taken j) _ (if_made from i j value taken is has more) (λ form rest made. made))))

  switch_has : (from : Input) → peek from ≡ k.Key w.Switch → Yields (IsStmt from) (switch_of m below from from)
  unfolding switch_of
  switch_has from is = after_need _ 1 m from _ (λ some. and_yields _ _ (condition m below (next from)) _ (condition_has (next from)) (λ value i has.
      and_yields _ _ (scope m below i) _ (scope_has i) (λ inner j more. record { depth = _; reads = g.switch is has.reads more.reads; all = (let a = has.all in let b = more.all in omega arith) })))

  while_has : (from : Input) → peek from ≡ k.Key w.While → Yields (IsStmt from) (while_of m below from from)
  unfolding while_of
  while_has from is = after_need _ 1 m from _ (λ some. and_yields _ _ (condition m below (next from)) _ (condition_has (next from)) (λ value i has.
      and_yields _ _ (scope m below i) _ (scope_has i) (λ inner j more. record { depth = _; reads = g.while is has.reads more.reads; all = (let a = has.all in let b = more.all in omega arith) })))

  until_has : (from : Input) → peek from ≡ k.Key w.Do → Yields (IsStmt from) (until_of m below from from)
  unfolding until_of
  until_has from is = after_need _ 1 m from _ (λ some. and_yields _ _ (scope m below (next from)) _ (scope_has (next from)) (λ inner i has. after_key _ w.While i _ (λ so.
      and_yields _ _ (condition m below (next i)) _ (condition_has (next i)) (λ value j more. after_expect _ p.Semicolon j _ (λ last.
      record { depth = _; reads = g.until is has.reads so more.reads last; all = (let a = has.all in let b = more.all in omega arith) })))))

  head_has : (from : Input) → Yields (Has m (λ h parts rest. ReadsHead h parts from rest)) (for_head m below from)
  unfolding for_head
  head_has from = after_expect _ p.OpenParen from _ (λ so. and_yields _ _ (for_first m below (next from)) _ (first_has (next from)) (λ start i a.
      and_yields _ _ (optional m below p.Semicolon i) _ (optional_has p.Semicolon i) (λ value j b. and_yields _ _ (optional m below p.CloseParen j) _ (optional_has p.CloseParen j) (λ step l c.
      record { depth = _; reads = in_head so a.reads b.reads c.reads; all = (let e = a.all in let f = b.all in let g = c.all in omega arith) }))))

  for_made : (from i rest : Input) (parts : ForFirst × Option Expr × Option Expr) (inner : Stmt) (room more : ℕ) (d e : ℕ) → peek from ≡ k.Key w.For → ReadsHead d parts (next from) i → d + room ≡ m
      → ReadsScope e inner i rest → e + more ≡ m → IsStmt from (found (stmt_at from (s.For parts.0 parts.1 parts.2 inner)) (min room more)) (leave from rest)
  for_made from i rest _ inner room more _ e is (in_head so a b c) same d also = record { depth = _; reads = g.for is so a b c d; all = omega arith }

  for_has : (from : Input) → peek from ≡ k.Key w.For → Yields (IsStmt from) (for_of m below from from)
  unfolding for_of
  for_has from is = after_need _ 1 m from _ (λ some. and_yields _ _ (for_head m below (next from)) _ (head_has (next from)) (λ parts i a.
      and_yields _ _ (scope m below i) _ (scope_has i) (λ inner rest d. for_made from i rest parts.tree inner.tree parts.room inner.room a.depth d.depth is a.reads a.all d.reads d.all)))

  goto_has : (from : Input) → peek from ≡ k.Key w.Goto → Yields (IsStmt from) (goto_of m below from from)
  unfolding goto_of
  goto_has from is = after_word _ (next from) _ (λ so. after_expect _ p.Semicolon (next (next from)) _ (λ last. record { depth = 1; reads = g.goto is so last; all = omega arith }))

  return_has : (from : Input) → peek from ≡ k.Key w.Return → Yields (IsStmt from) (return_of m below from from)
  unfolding return_of
  return_has from is = and_yields _ _ (optional m below p.Semicolon (next from)) _ (optional_has p.Semicolon (next from)) (λ value i has.
      record { depth = _; reads = g.return is has.reads; all = (let a = has.all in omega arith) })

  colon_there : (kind : TokenKind) → is_colon kind ≡ true → kind ≡ k.Punct p.Colon
  colon_there (k.Punct p.Colon) e = refl
  colon_there _ e = absurd cc

  by_kind : (from : Input) (kind : TokenKind) → peek from ≡ kind → Yields (IsStmt from) (stmt_by m below from (lead_of kind) from)
  by_kind from k.Word is = by_test _ (is_colon (peek (next from))) _ _ (λ e. labelled_has from is (colon_there (peek (next from)) e)) (λ e. expression_has from)
  by_kind from (k.Key w.Case) is = case_has from is
  by_kind from (k.Key w.Default) is = default_has from is
  by_kind from (k.Key w.If) is = if_has from is
  by_kind from (k.Key w.Switch) is = switch_has from is
  by_kind from (k.Key w.While) is = while_has from is
  by_kind from (k.Key w.Do) is = until_has from is
  by_kind from (k.Key w.For) is = for_has from is
  by_kind from (k.Key w.Goto) is = goto_has from is
  by_kind from (k.Key w.Continue) is = after_expect _ p.Semicolon (next from) _ (λ so. record { depth = 1; reads = g.continue is so; all = omega arith })
  by_kind from (k.Key w.Break) is = after_expect _ p.Semicolon (next from) _ (λ so. record { depth = 1; reads = g.break is so; all = omega arith })
  by_kind from (k.Key w.Return) is = return_has from is
  by_kind from (k.Punct p.OpenBrace) is = block_has from is
  by_kind from _ is = expression_has from

  stmt_has : (from : Input) → Yields (IsStmt from) (stmt_from m below from from)
  unfolding stmt_from
  stmt_has from = by_kind from (peek from) refl

nothing : {A : Type 0} (Q : A → Input → Type 0) (begins : Bool) (i : Input) → Yields Q (exhausted begins i)
nothing Q true i = tt
nothing Q false i = tt

pub stmts_have : (m : ℕ) → StmtsHave m (stmt m)
unfolding stmt
stmts_have zero = record { has = λ from. nothing _ _ from }
stmts_have (suc m) = record { has = stmt_has m (stmt m) (stmts_have m) }

-- ---- external declarations

-- the items of a body, whose block has one level more
body_has : (m : ℕ) (from : Input) → Yields (λ f i. (l : ℕ) × Run ReadsBlockItem l f.tree from i × (1 + l + f.room ≡ m)) (body_items m from)
body_has zero from = tt
body_has (suc n) from = weaker _ _ (block_items n (stmt n) from) (λ f i has. (has.depth, has.reads, (let a = has.all in omega arith))) (items_has n (stmt n) (stmts_have n) from)

module _ (m : ℕ) where
  abbrev IsDecl : Input → Found Decl → Input → Type 0
  IsDecl from f rest = Has (suc m) (λ h one rest. ReadsDecl h one from rest) f rest

  abbrev Heads : Input → Found (Declarator × Head) → Input → Type 0
  Heads mid f rest = Has m (λ h one rest. ReadsDeclarator naming.Named 0 h one.0 one.1 mid rest) f rest

  -- the body of a function is a block of what is read between its braces
  record HasBody (name : List ℕ) (typedef : Bool) (parameters : Names) (brace : Input) (body : Found Stmt) (rest : Input) : Type 0 where
    level : ℕ
    items : List BlockItem
    close : Input
    is : body.tree ≡ stmt_at brace (s.Block items)
    reads : ReadsBlockItems level items (next (with_names parameters (declare name typedef brace))) close
    shut : peek close ≡ k.Punct p.CloseBrace
    behind : rest ≡ leave (declare name typedef brace) (next close)
    all : 1 + level + body.room ≡ m

  function_body_has : (name : List ℕ) (typedef : Bool) (parameters : Names) (brace : Input)
      → Yields (HasBody name typedef parameters brace) (function_body m name typedef parameters brace)
  unfolding function_body
  function_body_has name typedef parameters brace =
      let inside = next (with_names parameters (declare name typedef brace)) in
      and_yields _ _ (body_items m inside) _ (body_has m inside) (λ items i has. after_expect _ p.CloseBrace i _ (λ so.
      record { level = _; items = items.tree; close = i; is = refl; reads = run_items has.1 so; shut = so; behind = refl; all = has.2 }))

  function_has : (from mid brace : Input) (first : Found (List Specifier × Bool)) (room : ℕ) (inner : Declarator) (h : ℕ) (which : Head) → IsList m (readers m) (sounds m) from first mid
      → ReadsDeclarator naming.Named 0 h inner which mid brace → h + room ≡ m → peek brace ≡ k.Punct p.OpenBrace
      → Yields (IsDecl from) (function_by m (here from) first (found (inner, which) room) which brace)
  function_has from mid brace first room inner h head.Abstract list reads all is = tt
  function_has from mid brace first room inner h (head.Bare name) list reads all is = tt
  function_has from mid brace first room inner h (head.Function name parameters) list reads all is =
      and_yields _ _ (function_body m name first.tree.1 parameters brace) _ (function_body_has name first.tree.1 parameters brace) (λ body i has.
      record {
        depth = 1 + max list.depth (max h (1 + has.level));
        reads = rw (has.is, has.behind) (g.function list.reads reads is has.reads has.shut);
        all = (let a = list.all in let b = has.all in omega arith);
      })
  function_has from mid brace first room inner h (head.Other name) list reads all is = tt

  declared_has : (from mid : Input) (first : Found (List Specifier × Bool)) → IsList m (readers m) (sounds m) from first mid → Yields (IsDecl from) (declared m (here from) first mid)
  unfolding declared declared_behind
  declared_has from mid first list = by_test _ (sees p.Semicolon mid) _ _
      (λ e. record { depth = _; reads = g.declared (d.declare_none list.reads (seen p.Semicolon mid e)); all = (let a = list.all in omega arith) })
      (λ e. and_yields (Heads mid) _ ((readers m).declarator naming.Named mid) _ ((sounds m).declarator naming.Named mid) (λ inner i has. by_test _ (sees p.OpenBrace i) _ _
      (λ f. function_has from mid i first inner.room inner.tree.0 has.depth inner.tree.1 list has.reads has.all (seen p.OpenBrace i f))
      (λ f. and_yields _ _ (declarators_behind m first.tree.1 inner i) _ (behind_has m first.tree.1 mid i inner has) (λ all j more. after_expect _ p.Semicolon j _ (λ so.
      record { depth = _; reads = g.declared (d.declare_some list.reads more.reads so); all = (let a = list.all in let b = more.all in omega arith) })))))

  external_has : (from : Input) → Yields (IsDecl from) (external_from m (here from) from)
  unfolding external_from
  external_has from = by_test _ (sees p.Semicolon from) _ _
      (λ e. record { depth = 1; reads = g.empty (seen p.Semicolon from e); all = omega arith })
      (λ e. and_yields (IsList m (readers m) (sounds m) from) _ (specifiers m (readers m) from) _ (specifiers_has m (readers m) (sounds m) from) (λ first mid list. declared_has from mid first list))

pub decls_have : (m : ℕ) (from : Input) → Yields (Has m (λ h one rest. ReadsDecl h one from rest)) (external m from)
unfolding external
decls_have zero from = nothing _ _ from
decls_have (suc m) from = external_has m from

-- ---- units

end_there : (kind : TokenKind) → is_end kind ≡ true → kind ≡ k.End
end_there k.End e = refl
end_there k.Word e = absurd cc
end_there (k.Key v) e = absurd cc
end_there (k.Number a b) e = absurd cc
end_there (k.Char a) e = absurd cc
end_there (k.Punct q) e = absurd cc
end_there k.Text e = absurd cc

run_unit : {h : ℕ} {list : List Decl} {from rest : Input} → Run ReadsDecl h list from rest → peek rest ≡ k.End → ReadsUnit h list from
run_unit run_none so = g.unit_end so
run_unit (run_more one others) so = g.unit_more one (run_unit others so)

-- what is read is a unit
pub unit_has : (most : ℕ) (from : Input) → Yields (Has most (λ h list rest. ReadsUnit h list from)) (unit most from)
unfolding unit
unit_has most from = and_yields (Has most (λ d list i. Run ReadsDecl d list from i)) _ (repeat (λ i. is_end (peek i)) (external most) (found [] most) from) _
    (repeat_has most ReadsDecl (λ d list i. Run ReadsDecl d list from i) (λ i. is_end (peek i)) (external most) (decls_have most) (λ d h list one i j run next_. run_on run next_) from 0 most [] run_none (omega arith))
    (λ list i has. by_test _ (is_end (peek i)) _ _ (λ e. record { depth = has.depth; reads = run_unit has.reads (end_there (peek i) e); all = has.all }) (λ e. tt))
