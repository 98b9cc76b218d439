-- Statements and external declarations: each takes a token, begins with a token of its form, and has a level at least.
use Rattle.std.proofs.Common.{◌≡◌, ℕ, ◌+◌, ◌≤◌, Bool, true, false, ◌||◌, List, Option, None, refl, arith}
use Rattle.lk_lex.specs.declared.token.TokenKind.{TokenKind}
use Rattle.lk_lex.specs.declared.token.TokenKind.TheVariants as k
use Rattle.lk_lex.specs.declared.punct.Punct.TheVariants as p
use Rattle.lk_lex.specs.declared.keyword.Keyword.TheVariants as w
use Rattle.lk_tree.specs.declared.expression.Expr.{Expr}
use Rattle.lk_tree.specs.declared.statement.Stmt.{Stmt}
use Rattle.lk_tree.specs.declared.statement.BlockItem.{BlockItem}
use Rattle.lk_tree.specs.declared.statement.ForFirst.{ForFirst}
use Rattle.lk_tree.specs.declared.statement.Decl.{Decl}
use Rattle.lk_parse_expr.specs.Input.{Input, Names, peek, next, declare, with_names}
use Rattle.lk_parse_expr.specs.Words.{continues_specifiers, begins_specifiers, step_of, prefix_of, binary_of, assign_of}
use Rattle.lk_parse_expr.specs.Front.{start_of, is_start}
use Rattle.lk_parse_expr.specs.Readers.{same_punct, left, sees}
use Rattle.lk_parse_expr.specs.Grammar as e
use Rattle.lk_parse_expr.specs.Grammar.{ReadsExpr}
use Rattle.lk_parse_expr.specs.Statements as g
use Rattle.lk_parse_expr.specs.Statements.{ReadsOptional, ReadsCondition, ReadsForFirst, ReadsStmt, ReadsScope, ReadsBlockItems, ReadsBlockItem, ReadsDecl, is_else, begins_declaration}
use Rattle.lk_parse_expr.proofs.Steps.{seen}
use Rattle.lk_parse_expr.proofs.Left.{left-next, left-took, left-expr, left-specifiers, left-declarator, left-leave, left-declare}
use Rattle.lk_parse_expr.proofs.Firsts.{starts, texts_first}
use Rattle.lk_parse_expr.proofs.Specifying.{specifiers_begin, no_punct}
use Rattle.lk_parse_decl.proofs.Left as declares
use Rattle.lk_parse_decl.proofs.Left.{shorter-declare, declare_begins, declare_one}
use Rattle.lk_lex.specs.TokenList.{is_end}
use Rattle.lk_parse_unit.specs.Leads.{begins_stmt}

pub left-with_names : (names : Names) (i : Input) → left (with_names names i) ≡ left i
unfolding left with_names
left-with_names names i = refl

or_true : (a : Bool) {b : Bool} → b ≡ true → a || b ≡ true
or_true true e = refl
or_true false e = e

left-optional : {end : TokenKind} {h : ℕ} {value : Option Expr} {from rest : Input} → ReadsOptional end h value from rest → left rest ≤ left from
left-optional (g.optional_none {from} is) = left-next from
left-optional (g.optional_some {rest = rest} value is) = omega (arith, left-expr value, left-next rest)

left-condition : {h : ℕ} {value : Expr} {from rest : Input} → ReadsCondition h value from rest → left rest ≤ left from
left-condition (g.condition {from = from} {rest} is value so) = omega (arith, left-next from, left-expr value, left-next rest)

left-first : {h : ℕ} {start : ForFirst} {from rest : Input} → ReadsForFirst h start from rest → left rest ≤ left from
left-first (g.first_expr is value) = left-optional value
left-first (g.first_declare is one) = declares.left-declare one

-- the optional expression before a `;` takes a token
shorter-optional : {h : ℕ} {value : Option Expr} {from rest : Input} → ReadsOptional (k.Punct p.Semicolon) h value from rest → left rest + 1 ≤ left from
shorter-optional (g.optional_none {from} is) = omega (arith, left-took from (λ end. cc))
shorter-optional (g.optional_some {rest = rest} value is) = omega (arith, left-expr value, left-took rest (λ end. cc))

mutual
  pub shorter-stmt : {h : ℕ} {one : Stmt} {from rest : Input} → ReadsStmt h one from rest → left rest + 1 ≤ left from
  shorter-stmt (g.label {from = from} is so inner) = omega (arith, left-next from, left-next (next from), shorter-stmt inner)
  shorter-stmt (g.case {from = from} {mid} is value so inner) = omega (arith, left-next from, left-expr value, left-next mid, shorter-stmt inner)
  shorter-stmt (g.default {from = from} is so inner) = omega (arith, left-next from, left-next (next from), shorter-stmt inner)
  shorter-stmt (g.block {from = from} {close} is items so) = omega (arith, left-took from (λ end. cc), left-items items, left-next close, left-leave from (next close))
  shorter-stmt (g.do_expr value) = shorter-optional value
  shorter-stmt (g.if_alone {from = from} {rest = rest} is value inner no_else) = omega (arith, left-next from, left-condition value, shorter-scope inner, left-leave from rest)
  shorter-stmt (g.if_else {from = from} {other = other} {rest} is value inner so last) =
      omega (arith, left-next from, left-condition value, shorter-scope inner, left-next other, shorter-scope last, left-leave from rest)
  shorter-stmt (g.switch {from = from} {rest = rest} is value inner) = omega (arith, left-next from, left-condition value, shorter-scope inner, left-leave from rest)
  shorter-stmt (g.while {from = from} {rest = rest} is value inner) = omega (arith, left-next from, left-condition value, shorter-scope inner, left-leave from rest)
  shorter-stmt (g.until {from = from} {mid} {rest} is inner so value last) =
      omega (arith, left-next from, shorter-scope inner, left-next mid, left-condition value, left-next rest, left-leave from (next rest))
  shorter-stmt (g.for {from = from} {rest = rest} is so start value step inner) =
      omega (arith, left-next from, left-next (next from), left-first start, left-optional value, left-optional step, shorter-scope inner, left-leave from rest)
  shorter-stmt (g.goto {from} is so last) = omega (arith, left-took from (λ end. cc), left-next (next from), left-next (next (next from)))
  shorter-stmt (g.continue {from} is so) = omega (arith, left-took from (λ end. cc), left-next (next from))
  shorter-stmt (g.break {from} is so) = omega (arith, left-took from (λ end. cc), left-next (next from))
  shorter-stmt (g.return {from = from} is value) = omega (arith, left-next from, shorter-optional value)

  pub shorter-scope : {h : ℕ} {one : Stmt} {from rest : Input} → ReadsScope h one from rest → left rest + 1 ≤ left from
  shorter-scope (g.scope {from = from} {rest} inner) = omega (arith, shorter-stmt inner, left-leave from rest)

  pub left-items : {h : ℕ} {list : List BlockItem} {from rest : Input} → ReadsBlockItems h list from rest → left rest ≤ left from
  left-items (g.items_none is) = omega arith
  left-items (g.items_more one others) = omega (arith, shorter-item one, left-items others)

  pub shorter-item : {h : ℕ} {one : BlockItem} {from rest : Input} → ReadsBlockItem h one from rest → left rest + 1 ≤ left from
  shorter-item (g.item_declare is one) = shorter-declare one
  shorter-item (g.item_stmt is inner) = shorter-stmt inner

pub shorter-decl : {h : ℕ} {one : Decl} {from rest : Input} → ReadsDecl h one from rest → left rest + 1 ≤ left from
shorter-decl (g.empty {from} is) = omega (arith, left-took from (λ end. cc))
shorter-decl (g.declared one) = shorter-declare one
shorter-decl (g.function {typedef = typedef} {name = name} {parameters} {body = body} {close} list inner is items so) =
    omega (
      arith,
      left-specifiers list,
      left-declarator inner,
      left-took body (λ end. cc),
      left-declare name typedef body,
      left-with_names parameters (declare name typedef body),
      left-next (with_names parameters (declare name typedef body)),
      left-items items,
      left-next body,
      left-took close (λ end. cc),
      left-leave (declare name typedef body) (next close),
    )

-- ---- what a statement begins with

pub start_begins : (kind : TokenKind) → is_start (start_of kind) ≡ true → begins_stmt kind ≡ true
start_begins (k.Key w.Case) e = refl
start_begins (k.Key w.Default) e = refl
start_begins (k.Key w.If) e = refl
start_begins (k.Key w.Switch) e = refl
start_begins (k.Key w.While) e = refl
start_begins (k.Key w.Do) e = refl
start_begins (k.Key w.For) e = refl
start_begins (k.Key w.Goto) e = refl
start_begins (k.Key w.Continue) e = refl
start_begins (k.Key w.Break) e = refl
start_begins (k.Key w.Return) e = refl
start_begins (k.Punct p.OpenBrace) e = refl
start_begins (k.Punct p.Semicolon) e = refl
start_begins kind e = e

pub stmt_begins : {h : ℕ} {one : Stmt} {from rest : Input} → ReadsStmt h one from rest → begins_stmt (peek from) ≡ true
stmt_begins (g.label is so inner) = rw is refl
stmt_begins (g.case is value so inner) = rw is refl
stmt_begins (g.default is so inner) = rw is refl
stmt_begins (g.block is items so) = rw is refl
stmt_begins (g.do_expr (g.optional_none is)) = rw is refl
stmt_begins (g.do_expr (g.optional_some {from = from} value is)) = start_begins (peek from) (starts value)
stmt_begins (g.if_alone is value inner no_else) = rw is refl
stmt_begins (g.if_else is value inner so last) = rw is refl
stmt_begins (g.switch is value inner) = rw is refl
stmt_begins (g.while is value inner) = rw is refl
stmt_begins (g.until is inner so value last) = rw is refl
stmt_begins (g.for is so start value step inner) = rw is refl
stmt_begins (g.goto is so last) = rw is refl
stmt_begins (g.continue is so) = rw is refl
stmt_begins (g.break is so) = rw is refl
stmt_begins (g.return is value) = rw is refl

pub stmt_one : {h : ℕ} {one : Stmt} {from rest : Input} → ReadsStmt h one from rest → 1 ≤ h
stmt_one (g.label is so inner) = omega arith
stmt_one (g.case is value so inner) = omega arith
stmt_one (g.default is so inner) = omega arith
stmt_one (g.block is items so) = omega arith
stmt_one (g.do_expr value) = omega arith
stmt_one (g.if_alone is value inner no_else) = omega arith
stmt_one (g.if_else is value inner so last) = omega arith
stmt_one (g.switch is value inner) = omega arith
stmt_one (g.while is value inner) = omega arith
stmt_one (g.until is inner so value last) = omega arith
stmt_one (g.for is so start value step inner) = omega arith
stmt_one (g.goto is so last) = omega arith
stmt_one (g.continue is so) = omega arith
stmt_one (g.break is so) = omega arith
stmt_one (g.return is value) = omega arith

pub scope_one : {h : ℕ} {one : Stmt} {from rest : Input} → ReadsScope h one from rest → 1 ≤ h
scope_one (g.scope inner) = stmt_one inner

-- no statement begins with `}`
no_brace_stmt : (i : Input) → begins_stmt (peek i) ≡ true → sees p.CloseBrace i ≡ false
no_brace_stmt i e = by (sees p.CloseBrace i) refl
  where
    by : (b : Bool) → sees p.CloseBrace i ≡ b → sees p.CloseBrace i ≡ false
    by true f = let g : begins_stmt (peek i) ≡ false = rw (seen p.CloseBrace i f) refl in absurd cc
    by false f = f

pub item_begins : {h : ℕ} {one : BlockItem} {from rest : Input} → ReadsBlockItem h one from rest → sees p.CloseBrace from ≡ false
item_begins (g.item_declare {from = from} is one) = no_punct false p.CloseBrace from (declare_begins one)
item_begins (g.item_stmt {from = from} is inner) = no_brace_stmt from (stmt_begins inner)

pub decl_begins : {h : ℕ} {one : Decl} {from rest : Input} → ReadsDecl h one from rest → sees p.Semicolon from || begins_specifiers from ≡ true
unfolding sees same_punct
decl_begins (g.empty is) = rw is refl
decl_begins (g.declared {from = from} one) = or_true (sees p.Semicolon from) (declare_begins one)
decl_begins (g.function {from = from} list inner is items so) = or_true (sees p.Semicolon from) (specifiers_begin list)

pub decl_one : {h : ℕ} {one : Decl} {from rest : Input} → ReadsDecl h one from rest → 1 ≤ h
decl_one (g.empty is) = omega arith
decl_one (g.declared one) = declare_one one
decl_one (g.function list inner is items so) = omega arith

pub decl_no_end : {h : ℕ} {one : Decl} {from rest : Input} → ReadsDecl h one from rest → is_end (peek from) ≡ false
unfolding sees same_punct continues_specifiers
decl_no_end {from = from} one = by (peek from) refl
  where
    by : (kind : TokenKind) → peek from ≡ kind → is_end kind ≡ false
    by k.End e = let f : sees p.Semicolon from || begins_specifiers from ≡ false = rw e refl in let g = decl_begins one in absurd cc
    by k.Word e = refl
    by (k.Key w) e = refl
    by (k.Number a b) e = refl
    by (k.Char a) e = refl
    by (k.Punct q) e = refl
    by k.Text e = refl

-- ---- a label is no expression: where a name and `:` are in front, an expression is the name alone

pub word_alone : {level h : ℕ} {tree : Expr} {from rest : Input} → ReadsExpr level h tree from rest → peek from ≡ k.Word → peek (next from) ≡ k.Punct p.Colon → peek rest ≡ k.Punct p.Colon
word_alone (e.comma l a is b) word colon = let c = word_alone a word colon in absurd cc
word_alone (e.assign {mid = mid} op l a is b) word colon = let c = word_alone a word colon in let f : assign_of (peek mid) ≡ None = rw c refl in absurd cc
word_alone (e.choice l a is b so c) word colon = let d = word_alone a word colon in absurd cc
word_alone (e.binary {mid = mid} op l a is b) word colon = let c = word_alone a word colon in let f : binary_of (peek mid) ≡ None = rw c refl in absurd cc
word_alone (e.cast l is begins name so inner) word colon = absurd cc
word_alone (e.pre {from = from} op l is inner) word colon = let f : step_of (peek from) ≡ None = rw word refl in absurd cc
word_alone (e.prefix {from = from} op l is inner) word colon = let f : prefix_of (peek from) ≡ None = rw word refl in absurd cc
word_alone (e.sizeof_expr l is opens inner) word colon = absurd cc
word_alone (e.sizeof_type l is opens name so) word colon = absurd cc
word_alone (e.index l a is b so) word colon = let c = word_alone a word colon in absurd cc
word_alone (e.call l a is b so) word colon = let c = word_alone a word colon in absurd cc
word_alone (e.member l a is so) word colon = let c = word_alone a word colon in absurd cc
word_alone (e.arrow l a is so) word colon = let c = word_alone a word colon in absurd cc
word_alone (e.post {mid = mid} op l a is) word colon = let c = word_alone a word colon in let f : step_of (peek mid) ≡ None = rw c refl in absurd cc
word_alone (e.word l is) word colon = colon
word_alone (e.number l is) word colon = absurd cc
word_alone (e.char l is) word colon = absurd cc
word_alone (e.texts l is) word colon = let f = texts_first is in absurd cc
word_alone (e.paren l is shut inner so) word colon = absurd cc
