-- The readers of statements and units read each of them, of whatever depth.
use Rattle.std.proofs.Common.{◌≡◌, ℕ, zero, suc, ◌+◌, ◌<◌, ◌≤◌, ◌==◌, min, max, Bool, true, false, not, ◌&&◌, List, [], Option, Ok, refl, arith}
use Rattle.std.proofs.lemmas.Bool.Decides.{nat_tests}
use Rattle.lk_lex.specs.declared.token.TokenKind.{TokenKind}
use Rattle.lk_lex.specs.declared.token.TokenKind.TheVariants as k
use Rattle.lk_lex.specs.declared.punct.Punct.{Punct}
use Rattle.lk_lex.specs.declared.punct.Punct.TheVariants as p
use Rattle.lk_lex.specs.declared.keyword.Keyword.{Keyword}
use Rattle.lk_lex.specs.declared.keyword.Keyword.TheVariants as w
use Rattle.lk_tree.specs.declared.expression.Expr.{Expr}
use Rattle.lk_tree.specs.declared.expression.Specifier.{Specifier}
use Rattle.lk_tree.specs.declared.expression.Declarator.{Declarator}
use Rattle.lk_tree.specs.declared.statement.Stmt.{Stmt}
use Rattle.lk_tree.specs.declared.statement.StmtForm.{StmtForm}
use Rattle.lk_tree.specs.declared.statement.StmtForm.TheVariants as s
use Rattle.lk_tree.specs.declared.statement.BlockItem.{BlockItem}
use Rattle.lk_tree.specs.declared.statement.BlockItem.TheVariants as item
use Rattle.lk_tree.specs.declared.statement.ForFirst.{ForFirst}
use Rattle.lk_tree.specs.declared.statement.Decl.{Decl}
use Rattle.lk_tree.specs.declared.statement.Decl.TheVariants as decl
use Rattle.lk_parse_expr.specs.Grammar.{ReadsExpr, ReadsSpecifiers, ReadsDeclarator}
use Rattle.lk_parse_expr.specs.declared.found.Found.{Found}
use Rattle.lk_parse_expr.specs.declared.naming.Head.TheVariants as head
use Rattle.lk_parse_expr.specs.Input.{Input, Names, peek, here, next, declare, leave, with_names}
use Rattle.lk_parse_expr.specs.Words.{is_word, begins_specifiers}
use Rattle.lk_parse_expr.specs.Front.{start_of, is_start}
use Rattle.lk_parse_expr.specs.Readers.{same_punct, same_keyword, Outcome, Parser, and_then, found, ◌>>◌, exhausted, expect_key, is_key, sees, sees_key}
use Rattle.lk_parse_expr.specs.Statements as g
use Rattle.lk_parse_expr.specs.Statements.{ReadsOptional, ReadsCondition, ReadsForFirst, ReadsStmt, ReadsScope, ReadsBlockItems, ReadsBlockItem, ReadsDecl, ReadsUnit, is_else, is_colon, begins_declaration, stmt_at}
use Rattle.lk_parse_expr.specs.Reading.{readers}
use Rattle.lk_parse_expr.proofs.Steps.{Answers, fits, deep, as_same, as_deep, and_so, around, needs, expects, reads_word, word-same, sees-same, sees_key-same}
use Rattle.lk_parse_expr.proofs.Tables.{IsEnd, stops_end, paren, colon, semicolon}
use Rattle.lk_parse_expr.proofs.Firsts.{positive, starts, unseen}
use Rattle.lk_parse_expr.proofs.Lists.{Run, run_none, run_more, Members, repeat_read}
use Rattle.lk_parse_expr.proofs.Good.{ends_declarator}
use Rattle.lk_parse_expr.proofs.Specifying.{specifiers_read, specifiers_begin, declarator_one, no_punct}
use Rattle.lk_parse_expr.proofs.Declaring.{declarator_begins}
use Rattle.lk_parse_expr.proofs.Complete.{complete}
use Rattle.lk_parse_decl.proofs.Complete.{declarations, first_of_list, semicolon_no_declarator}
use Rattle.lk_parse_expr.specs.declared.naming.Naming.TheVariants as naming
use Rattle.lk_parse_expr.specs.Declarations as d
use Rattle.lk_lex.specs.TokenList.{is_end}
use Rattle.lk_parse_unit.specs.Leads.{lead_of}
use Rattle.lk_parse_unit.specs.Reading.{optional, condition, scope, labelled, case_of, default_of, is_late_label, block_item, block_items, block, expression, if_behind, if_of, switch_of, while_of, until_of, for_first, for_head, for_of, goto_of, return_of, stmt_by, stmt_from, stmt, body_items, function_body, declared_behind, declared, external_from, external, unit}
use Rattle.lk_parse_unit.proofs.Left.{shorter-item, shorter-decl, stmt_begins, stmt_one, scope_one, item_begins, decl_begins, decl_one, decl_no_end, word_alone}

-- reading a keyword that is there
expects_key : {A : Type 0} {m h : ℕ} {tree : A} {rest : Input} {w : Keyword} (i : Input) (q : Parser (Found A)) → peek i ≡ k.Key w → Answers m h tree rest (q (next i))
    → Answers m h tree rest ((expect_key w >> q) i)
unfolding expect_key
expects_key {w = w} i q is a = rw (sees_key-same w i is) a

no_else : (i : Input) → is_else (peek i) ≡ false → sees_key w.Else i ≡ false
unfolding sees_key same_keyword
no_else i e = by (peek i) e
  where
    by : (kind : TokenKind) → is_else kind ≡ false → is_key w.Else kind ≡ false
    by (k.Key w.Else) e = absurd cc
    by _ e = refl

items_run : {h : ℕ} {list : List BlockItem} {from rest : Input} → ReadsBlockItems h list from rest → Run ReadsBlockItem h list from rest
items_run (g.items_none is) = run_none
items_run (g.items_more one others) = run_more one (items_run others)

split : (a b c d : Bool) → a && b ≡ true → b && not (c && d) ≡ false → (a ≡ true) × (c ≡ true) × (d ≡ true)
split true true true true e f = (refl, refl, refl)
split true true true false e f = absurd cc
split true true false d e f = absurd cc
split true false c d e f = absurd cc
split false b c d e f = absurd cc

pub record StmtsRead (m : ℕ) (below : Parser (Found Stmt)) : Type 0 where
  pub reads : {h : ℕ} {one : Stmt} {from rest : Input} → ReadsStmt h one from rest → Answers m h one rest (below from)

module _ (m : ℕ) (below : Parser (Found Stmt)) (good : StmtsRead m below) where
  optional_read : {q : Punct} {h : ℕ} {value : Option Expr} {from rest : Input} → IsEnd (k.Punct q) → is_start (start_of (k.Punct q)) ≡ false → ReadsOptional (k.Punct q) h value from rest
      → Answers m h value rest (optional m below q from)
  unfolding optional
  optional_read {q} end none (g.optional_none {from} is) = rw (sees-same q from is) (fits m (omega arith) refl)
  optional_read {q} end none (g.optional_some {rest = mid} value is) =
      rw (unseen q value none) (and_so _ ((complete m).expr value (stops_end 0 (peek mid) end is)) (omega arith) (λ room same. expects mid _ is (fits room same refl)))

  condition_read : {h : ℕ} {value : Expr} {from rest : Input} → ReadsCondition h value from rest → Answers m h value rest (condition m below from)
  unfolding condition
  condition_read (g.condition {from = from} {rest = mid} is value so) =
      expects from _ is (and_so _ ((complete m).expr value (stops_end 0 (peek mid) paren so)) (omega arith) (λ room same. expects mid _ so (fits room same refl)))

  scope_read : {h : ℕ} {one : Stmt} {from rest : Input} → ReadsScope h one from rest → Answers m h one rest (scope m below from)
  unfolding scope
  scope_read (g.scope inner) = and_so _ (good.reads inner) (omega arith) (λ room same. fits room same refl)

  no_label : {h : ℕ} {value : Expr} {from rest : Input} → ReadsExpr 0 h value from rest → peek rest ≡ k.Punct p.Semicolon → peek from ≡ k.Word → is_colon (peek (next from)) ≡ false
  no_label {from = from} value is word = by (peek (next from)) refl
    where
      by : (kind : TokenKind) → peek (next from) ≡ kind → is_colon kind ≡ false
      by (k.Punct p.Colon) e = let c = word_alone value word e in absurd cc
      by _ e = refl

  -- a label has a statement behind it
  two_deep : {h : ℕ} {one : Stmt} {from rest : Input} → ReadsStmt h one from rest → peek from ≡ k.Word → is_colon (peek (next from)) ≡ true → 2 ≤ h
  two_deep (g.label is so inner) word labels = omega (arith, stmt_one inner)
  two_deep (g.case is value so inner) word labels = absurd cc
  two_deep (g.default is so inner) word labels = absurd cc
  two_deep (g.block is items so) word labels = absurd cc
  two_deep (g.do_expr (g.optional_none is)) word labels = absurd cc
  two_deep (g.do_expr (g.optional_some value is)) word labels = let none = no_label value is word in absurd cc
  two_deep (g.if_alone is value inner shut) word labels = absurd cc
  two_deep (g.if_else is value inner so last) word labels = absurd cc
  two_deep (g.switch is value inner) word labels = absurd cc
  two_deep (g.while is value inner) word labels = absurd cc
  two_deep (g.until is inner so value last) word labels = absurd cc
  two_deep (g.for is so start value step inner) word labels = absurd cc
  two_deep (g.goto is so last) word labels = absurd cc
  two_deep (g.continue is so) word labels = absurd cc
  two_deep (g.break is so) word labels = absurd cc
  two_deep (g.return is value) word labels = absurd cc

  late_deep : {h : ℕ} {one : Stmt} {from rest : Input} → is_late_label m from ≡ true → begins_declaration from ≡ false → ReadsStmt h one from rest → m < h
  late_deep {from = from} late is one =
      let all = split (m == 1) (begins_specifiers from) (is_word (peek from)) (is_colon (peek (next from))) late is in
      let least = two_deep one (word-same (peek from) all.1) all.2 in
      let level : (m == 1) ≡ true = all.0 in
      let so : m ≡ 1 = grind (arith, nat_tests) in
      omega arith

  item_read : {h : ℕ} {one : BlockItem} {from rest : Input} → ReadsBlockItem h one from rest → Answers m h one rest (block_item m below from)
  unfolding block_item
  item_read (g.item_declare is one) = rw is (and_so _ (declarations m one) (omega arith) (λ room same. fits room same refl))
  item_read (g.item_stmt {h = h} {inner} {from} {rest} is one) = by (is_late_label m from) refl
    where
      by : (b : Bool) → is_late_label m from ≡ b → Answers m h (item.Stmt inner) rest (block_item m below from)
      by true late = rw (is, late) (deep (late_deep late is one) (next from) refl)
      by false early = rw (is, early) (and_so _ (good.reads one) (omega arith) (λ room same. fits room same refl))

  each_item : Members m ReadsBlockItem (sees p.CloseBrace) (block_item m below)
  each_item = record { reads = item_read; begins = item_begins; shorter = shorter-item }

  pub items_read : {h : ℕ} {list : List BlockItem} {from close : Input} → ReadsBlockItems h list from close → peek close ≡ k.Punct p.CloseBrace → Answers m h list close (block_items m below from)
  unfolding block_items
  items_read {close = close} list so = as_deep (omega arith) (repeat_read each_item 0 m [] (omega arith) (items_run list) (sees-same p.CloseBrace close so))

  first_read : {h : ℕ} {start : ForFirst} {from rest : Input} → ReadsForFirst h start from rest → Answers m h start rest (for_first m below from)
  unfolding for_first
  first_read (g.first_expr is value) = rw is (and_so _ (optional_read semicolon refl value) (omega arith) (λ room same. fits room same refl))
  first_read (g.first_declare is one) = rw is (and_so _ (declarations m one) (omega arith) (λ room same. fits room same refl))

  -- where an expression begins that is no label, the statement is an expression
  expression_by : (from i : Input) (kind : TokenKind) → is_start (start_of kind) ≡ true → (kind ≡ k.Word → is_colon (peek (next i)) ≡ false) → stmt_by m below from (lead_of kind) i ≡ expression m below from i
  expression_by from i k.Word start word = rw (word refl) refl
  expression_by from i (k.Key w.Case) start word = absurd cc
  expression_by from i (k.Key w.Default) start word = absurd cc
  expression_by from i (k.Key w.If) start word = absurd cc
  expression_by from i (k.Key w.Switch) start word = absurd cc
  expression_by from i (k.Key w.While) start word = absurd cc
  expression_by from i (k.Key w.Do) start word = absurd cc
  expression_by from i (k.Key w.For) start word = absurd cc
  expression_by from i (k.Key w.Goto) start word = absurd cc
  expression_by from i (k.Key w.Continue) start word = absurd cc
  expression_by from i (k.Key w.Break) start word = absurd cc
  expression_by from i (k.Key w.Return) start word = absurd cc
  expression_by from i (k.Punct p.OpenBrace) start word = absurd cc
  expression_by from i _ start word = refl

  formed : {h : ℕ} {form : StmtForm} {rest : Input} {o : Outcome (Found StmtForm)} (from : Input) → Answers m h form rest o
      → Answers m h (stmt_at from form) (leave from rest) (and_then o (λ one. λ i. Ok (found (stmt_at from one.tree) one.room, leave from i)))
  formed from read = and_so _ read (omega arith) (λ room same. fits room same refl)

  head_read : (from : Input) {g h l : ℕ} {start : ForFirst} {value step : Option Expr} {second third body : Input} → peek from ≡ k.Punct p.OpenParen → ReadsForFirst g start (next from) second
      → ReadsOptional (k.Punct p.Semicolon) h value second third → ReadsOptional (k.Punct p.CloseParen) l step third body
      → Answers m (max g (max h l)) (start, value, step) body (for_head m below from)
  unfolding for_head
  head_read from so start value step =
      expects from _ so (and_so _ (first_read start) (omega arith) (λ a same. and_so _ (optional_read semicolon refl value) (omega arith) (λ b also.
      and_so _ (optional_read paren refl step) (omega arith) (λ c too. fits (min a (min b c)) (omega arith) refl))))

  expression_read : {h : ℕ} {value : Option Expr} (from : Input) {rest : Input} → ReadsOptional (k.Punct p.Semicolon) h value from rest
      → Answers (suc m) (1 + h) (stmt_at from (s.Do value)) rest (expression m below from from)
  unfolding expression
  expression_read from value = around (and_so _ (optional_read semicolon refl value) (omega arith) (λ room same. fits room same refl))

  stmt_read : {h : ℕ} {one : Stmt} {from rest : Input} → ReadsStmt h one from rest → Answers (suc m) h one rest (stmt_from m below from from)
  unfolding stmt_from labelled case_of default_of block if_of if_behind switch_of while_of until_of for_of goto_of return_of
  stmt_read (g.label {from = from} is so inner) =
      rw (is, so) (around (needs 1 from _ (stmt_one inner) (λ some. reads_word from _ is (expects (next from) _ so (and_so _ (good.reads inner) (omega arith) (λ room same. fits room same refl))))))
  stmt_read (g.case {from = from} {mid} is value so inner) =
      rw is (around (needs 1 from _ (omega (arith, positive value)) (λ some. and_so _ ((complete m).expr value (stops_end 2 (peek mid) colon so)) (omega arith) (λ room same. expects mid _ so
      (and_so _ (good.reads inner) (omega arith) (λ more also. fits (min room more) (omega arith) refl))))))
  stmt_read (g.default {from = from} is so inner) =
      rw is (around (needs 1 from _ (stmt_one inner) (λ some. expects (next from) _ so (and_so _ (good.reads inner) (omega arith) (λ room same. fits room same refl)))))
  stmt_read (g.block {from = from} {close} is items so) =
      rw is (around (and_so _ (items_read items so) (omega arith) (λ room same. expects close _ so (fits room same refl))))
  stmt_read (g.do_expr {from = from} (g.optional_none is)) = rw is (expression_read from (g.optional_none is))
  stmt_read (g.do_expr {from = from} (g.optional_some value is)) = as_same (expression_by from from (peek from) (starts value) (no_label value is)) (expression_read from (g.optional_some value is))
  stmt_read (g.if_alone {from = from} {mid} {rest} is value inner shut) =
      rw is (around (needs 1 from _ (omega (arith, scope_one inner)) (λ some. and_so _ (condition_read value) (omega arith) (λ room same. and_so _ (scope_read inner) (omega arith) (λ more also.
      rw (no_else rest shut) (fits (min room more) (omega arith) refl))))))
  stmt_read (g.if_else {from = from} {mid} {other} is value inner so last) =
      rw is (around (needs 1 from _ (omega (arith, scope_one inner)) (λ some. and_so _ (condition_read value) (omega arith) (λ room same. and_so _ (scope_read inner) (omega arith) (λ more also.
      rw (sees_key-same w.Else other so) (formed from (and_so _ (scope_read last) (omega arith) (λ left_ too. fits (min room (min more left_)) (omega arith) refl))))))))
  stmt_read (g.switch {from = from} is value inner) =
      rw is (around (needs 1 from _ (omega (arith, scope_one inner)) (λ some. and_so _ (condition_read value) (omega arith) (λ room same. and_so _ (scope_read inner) (omega arith) (λ more also.
      fits (min room more) (omega arith) refl)))))
  stmt_read (g.while {from = from} is value inner) =
      rw is (around (needs 1 from _ (omega (arith, scope_one inner)) (λ some. and_so _ (condition_read value) (omega arith) (λ room same. and_so _ (scope_read inner) (omega arith) (λ more also.
      fits (min room more) (omega arith) refl)))))
  stmt_read (g.until {from = from} {mid} {rest} is inner so value last) =
      rw is (around (needs 1 from _ (omega (arith, scope_one inner)) (λ some. and_so _ (scope_read inner) (omega arith) (λ room same. expects_key mid _ so
      (and_so _ (condition_read value) (omega arith) (λ more also. expects rest _ last (fits (min room more) (omega arith) refl)))))))
  stmt_read (g.for {from = from} is so start value step inner) =
      rw is (around (needs 1 from _ (omega (arith, scope_one inner)) (λ some. and_so _ (head_read (next from) so start value step) (omega arith) (λ room same. and_so _ (scope_read inner) (omega arith) (λ more also.
      fits (min room more) (omega arith) refl)))))
  stmt_read (g.goto {from} is so last) = rw is (around {h = 0} (reads_word (next from) _ so (expects (next (next from)) _ last (fits m (omega arith) refl))))
  stmt_read (g.continue {from} is so) = rw is (around {h = 0} (expects (next from) _ so (fits m (omega arith) refl)))
  stmt_read (g.break {from} is so) = rw is (around {h = 0} (expects (next from) _ so (fits m (omega arith) refl)))
  stmt_read (g.return {from = from} is value) = rw is (around (and_so _ (optional_read semicolon refl value) (omega arith) (λ room same. fits room same refl)))

none_left : {A : Type 0} {h : ℕ} {tree : A} {rest : Input} (begins : Bool) (i : Input) → begins ≡ true → 1 ≤ h → Answers zero h tree rest (exhausted begins i)
none_left begins i e some = rw e (deep (omega arith) i refl)

pub stmts : (m : ℕ) → StmtsRead m (stmt m)
unfolding stmt
stmts zero = record { reads = λ {from = from} is. none_left _ from (stmt_begins is) (stmt_one is) }
stmts (suc m) = record { reads = λ is. stmt_read m (stmt m) (stmts m) is }

-- ---- external declarations

brace_no_declarator : (i : Input) → peek i ≡ k.Punct p.OpenBrace → ends_declarator (peek i) ≡ true
unfolding same_punct
brace_no_declarator i is = rw is refl

body_read : (m : ℕ) {h : ℕ} {list : List BlockItem} {from close : Input} → 1 ≤ m → ReadsBlockItems h list from close → peek close ≡ k.Punct p.CloseBrace → Answers m (1 + h) list close (body_items m from)
body_read zero some list so = absurd (omega arith)
body_read (suc n) some list so = around (items_read n (stmt n) (stmts n) list so)

module _ (m : ℕ) where
  function_body_read : {l : ℕ} {items : List BlockItem} (name : List ℕ) (typedef : Bool) (parameters : Names) (brace : Input) {close : Input} → 1 ≤ m
      → ReadsBlockItems l items (next (with_names parameters (declare name typedef brace))) close → peek close ≡ k.Punct p.CloseBrace
      → Answers m (1 + l) (stmt_at brace (s.Block items)) (leave (declare name typedef brace) (next close)) (function_body m name typedef parameters brace)
  unfolding function_body
  function_body_read name typedef parameters brace {close} some items so = and_so _ (body_read m some items so) (omega arith) (λ c same. expects close _ so (fits c same refl))

  function_read : {g h l : ℕ} {typedef : Bool} {specifiers : List Specifier} {inner : Declarator} {name : List ℕ} {parameters : Names} {items : List BlockItem} (from mid brace : Input) {close : Input}
      → ReadsSpecifiers false g typedef specifiers from mid → ReadsDeclarator naming.Named 0 h inner (head.Function name parameters) mid brace → peek brace ≡ k.Punct p.OpenBrace
      → ReadsBlockItems l items (next (with_names parameters (declare name typedef brace))) close → peek close ≡ k.Punct p.CloseBrace
      → Answers (suc m) (1 + max g (max h (1 + l)))
      (decl.Function (record { spot = here from; ordinal = 0; specifiers = specifiers; declarator = inner; body = stmt_at brace (s.Block items) }))
      (leave (declare name typedef brace) (next close)) (external_from m (here from) from)
  unfolding external_from declared
  function_read {g} {h} {l} from mid brace {close} list inner is items so =
      rw (no_punct false p.Semicolon from (specifiers_begin list)) (around (and_so _ (specifiers_read m (readers m) (complete m) list) (omega arith) (λ a same.
      rw (semicolon_no_declarator naming.Named mid (declarator_begins inner)) (and_so _ ((complete m).declarator inner (brace_no_declarator brace is)) (omega arith) (λ b also.
      rw (sees-same p.OpenBrace brace is) (and_so _ (function_body_read _ _ _ brace (omega (arith, declarator_one inner)) items so) (omega arith) (λ c too.
      fits (min a (min b c)) (omega arith) refl)))))))

  decl_read : {h : ℕ} {one : Decl} {from rest : Input} → ReadsDecl h one from rest → Answers (suc m) h one rest (external_from m (here from) from)
  unfolding external_from declared declared_behind
  decl_read (g.empty {from} is) = rw (sees-same p.Semicolon from is) (fits m (omega arith) refl)
  decl_read (g.declared {from = from} (d.declare_none {rest = rest} list is)) =
      rw (no_punct false p.Semicolon from (specifiers_begin list)) (around (and_so _ (specifiers_read m (readers m) (complete m) list) (omega arith) (λ room same.
      rw (sees-same p.Semicolon rest is) (fits room same refl))))
  decl_read (g.declared {from = from} (d.declare_some {typedef = typedef} {mid = mid} {rest} list all is)) =
      let first = first_of_list m typedef all is in
      rw (no_punct false p.Semicolon from (specifiers_begin list)) (around (and_so _ (specifiers_read m (readers m) (complete m) list) (omega arith) (λ room same.
      rw (semicolon_no_declarator naming.Named mid (declarator_begins first.reads)) (and_so _ ((complete m).declarator first.reads first.follow) (let w = first.within in omega arith) (λ more also.
      rw first.shut (and_so _ (first.behind more also) (omega arith) (λ last too. expects rest _ is (fits (min room last) (omega arith) refl))))))))
  decl_read (g.function {from = from} {mid} {body = brace} list inner is items so) = function_read from mid brace list inner is items so

pub decls : (m : ℕ) {h : ℕ} {one : Decl} {from rest : Input} → ReadsDecl h one from rest → Answers m h one rest (external m from)
unfolding external
decls zero {from = from} is = none_left _ from (decl_begins is) (decl_one is)
decls (suc m) is = decl_read m is

-- ---- units

record UnitRun (h : ℕ) (list : List Decl) (from : Input) : Type 0 where
  rest : Input
  run : Run ReadsDecl h list from rest
  end : is_end (peek rest) ≡ true

unit_run : {h : ℕ} {list : List Decl} {from : Input} → ReadsUnit h list from → UnitRun h list from
unit_run (g.unit_end {from} is) = record { rest = from; run = run_none; end = rw is refl }
unit_run (g.unit_more one others) = let e = unit_run others in record { rest = e.rest; run = run_more one e.run; end = e.end }

each_decl : (most : ℕ) → Members most ReadsDecl (λ i. is_end (peek i)) (external most)
each_decl most = record { reads = decls most; begins = decl_no_end; shorter = shorter-decl }

-- a unit is read, of whatever depth
pub unit_read : (most : ℕ) {h : ℕ} {list : List Decl} {from : Input} → ReadsUnit h list from → (rest : Input) × Answers most h list rest (unit most from)
unfolding unit
unit_read most is = let e = unit_run is in
    (e.rest, and_so _ (as_deep (omega arith) (repeat_read (each_decl most) 0 most [] (omega arith) e.run e.end)) (omega arith) (λ room same. rw e.end (fits room same refl)))
