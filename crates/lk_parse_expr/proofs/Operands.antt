-- The readers of primary and postfix expressions read each of them.
use Rattle.std.proofs.Common.{◌≡◌, ℕ, zero, suc, ◌+◌, ◌-◌, ◌≤◌, min, Bool, true, false, List, [], ◌++◌, Some, None, Ok, refl, ap, ◌∙◌, append_assoc, arith}
use Rattle.lk_lex.specs.declared.token.TokenKind.TheVariants as k
use Rattle.lk_lex.specs.declared.punct.Punct.TheVariants as p
use Rattle.lk_tree.specs.declared.expression.Expr.{Expr}
use Rattle.lk_tree.specs.declared.expression.ExprForm.TheVariants as form
use Rattle.lk_parse_expr.specs.declared.front.Suffix.{Suffix}
use Rattle.lk_parse_expr.specs.declared.front.Suffix.TheVariants as suffix
use Rattle.lk_parse_expr.specs.Input.{Input, peek, here, next}
use Rattle.lk_parse_expr.specs.Words.{step_of}
use Rattle.lk_parse_expr.specs.declared.front.Infix.TheVariants as between
use Rattle.lk_parse_expr.specs.Front.{suffix_of}
use Rattle.lk_parse_expr.specs.Readers.{same_punct, ◌>>◌, ◌>>=◌, need, take, found, left, sees}
use Rattle.lk_parse_expr.specs.Grammar as g
use Rattle.lk_parse_expr.specs.Grammar.{ReadsTexts, ReadsExpr, ReadsArguments, ReadsExprs, expr_at}
use Rattle.lk_parse_expr.specs.Reading.{Readers, is_text, texts, texts_from, primary, parens, postfix, suffixes, suffixes_from, suffixed, index, call, arguments, operand, opened}
use Rattle.lk_parse_expr.proofs.Steps.{Answers, fits, and_so, around, needs, expects, reads_word, as_same, sees-same}
use Rattle.lk_parse_expr.proofs.Tables.{stops, stops_end, paren, bracket, stops_comma, stops_suffix, stops_text, suffix_of_step, step_no_text, no_step, levels_small}
use Rattle.lk_parse_expr.proofs.Left.{left-expr, left-arguments, left-next, left-took}
use Rattle.lk_parse_expr.proofs.Firsts.{positive, texts_first, some_left, unseen, no_comma}
use Rattle.lk_parse_expr.proofs.Loops.{Reaches, begins, goes, ends}
use Rattle.lk_parse_expr.proofs.Lists.{Row, row_last, row_more, Items, separated_read}
use Rattle.lk_parse_expr.proofs.Good.{Good}

texts_on : (n : ℕ) (before : List ℕ) {bytes : List ℕ} {from rest : Input} → ReadsTexts bytes from rest → is_text (peek rest) ≡ false → left from ≤ n
    → texts_from n before from ≡ Ok (before ++ bytes, rest)
unfolding texts_from
texts_on zero before {from = from} (g.text_last is) no_text enough = absurd (omega (arith, left-took from (λ end. cc)))
texts_on zero before {from = from} (g.text_more is others) no_text enough = absurd (omega (arith, left-took from (λ end. cc)))
texts_on (suc zero) before (g.text_last is) no_text enough = rw is refl
texts_on (suc (suc n)) before (g.text_last is) no_text enough = rw (is, no_text) refl
texts_on (suc n) before {from = from} (g.text_more {bytes} {rest = rest} is others) no_text enough =
    rw is (texts_on n _ others no_text (omega (arith, left-took from (λ end. cc))) ∙ ap (λ b. Ok (b, rest)) (append_assoc before _ bytes))

texts_read : {bytes : List ℕ} {from rest : Input} → ReadsTexts bytes from rest → is_text (peek rest) ≡ false → texts from ≡ Ok (bytes, rest)
unfolding texts
texts_read {from = from} is no_text = texts_on (left from) [] is no_text (omega arith)

module _ (m : ℕ) (below : Readers) (good : Good m below) where
  paren_read : {h : ℕ} {inner : Expr} (from : Input) {close : Input} → ReadsExpr 0 h inner (next from) close → peek close ≡ k.Punct p.CloseParen
      → Answers (suc m) (1 + h) (expr_at from (form.Paren inner)) (next close) (parens m below (here from) from)
  unfolding parens
  paren_read from {close} inner so = around (needs 1 from _ (positive inner) (λ some.
      and_so _ (good.expr inner (stops_end 0 (peek close) paren so)) (omega arith) (λ room same. expects close _ so (fits room same refl))))

  -- ---- arguments

  exprs_row : {h : ℕ} {list : List Expr} {from rest : Input} → ReadsExprs h list from rest → Row (ReadsExpr 1) h list from rest
  exprs_row (g.exprs_last one) = row_last one
  exprs_row (g.exprs_more one is others) = row_more one is (exprs_row others)

  each_expr : Items m (ReadsExpr 1) (λ _. false) (stops 1) (below.expr 1)
  each_expr = record { reads = good.expr; comma = stops_comma 1 (k.Punct p.Comma) (omega arith) refl; begins = λ one. refl; some = some_left; behind = left-expr }

  arguments_read : {h : ℕ} {list : List Expr} {from close : Input} → ReadsArguments h list from close → peek close ≡ k.Punct p.CloseParen
      → Answers m h list close (arguments m below from)
  unfolding arguments same_punct
  arguments_read {from = from} (g.arguments_none is) so = rw (sees-same p.CloseParen from is) (fits m (omega arith) refl)
  arguments_read {from = from} {close} (g.arguments_some list) so =
      rw (row_no_close (exprs_row list)) (separated_read each_expr (exprs_row list) (stops_end 1 (peek close) paren so) (no_comma (λ _. false) close p.CloseParen so refl))
    where
      row_no_close : {h : ℕ} {list : List Expr} {from rest : Input} → Row (ReadsExpr 1) h list from rest → sees p.CloseParen from ≡ false
      row_no_close (row_last one) = unseen p.CloseParen one refl
      row_no_close (row_more one is others) = unseen p.CloseParen one refl

  -- ---- what goes on behind an operand

  suffixes_end : (tree : Expr) (from rest : Input) (n room : ℕ) → suffix_of (peek rest) ≡ None → suffixes_from m below (here from) n (found tree room) rest ≡ Ok (found tree room, rest)
  unfolding suffixes_from
  suffixes_end tree from rest zero room none = refl
  suffixes_end tree from rest (suc n) room none = rw none refl

  suffix_turn : (from mid : Input) (kind : Suffix) → suffix_of (peek mid) ≡ Some kind → (a : Expr) (n room : ℕ)
      → suffixes_from m below (here from) (suc n) (found a room) mid ≡ (need 1 room >> take >> (suffixed m below (here from) (found a room) kind >>= suffixes_from m below (here from) n)) mid
  unfolding suffixes_from
  suffix_turn from mid kind is a n room = rw is refl

  abbrev Reached : ℕ → Expr → Input → Input → Type 0
  Reached h tree from rest = Reaches m h tree rest (suffixes_from m below (here from)) (postfix m below (here from) from)

  primary_reached : {h : ℕ} {tree : Expr} (from : Input) {rest : Input} → Answers (suc m) h tree rest (primary m below (here from) from) → Reached h tree from rest
  unfolding postfix suffixes
  primary_reached from a = begins (suffixes_from m below (here from)) a

  suffix_reached : {g h : ℕ} (a : Expr) {tree : Expr} (from mid : Input) {rest : Input} (kind : Suffix) → suffix_of (peek mid) ≡ Some kind → left (next mid) + 1 ≡ left mid → left rest ≤ left (next mid) → g ≤ h
      → ((room : ℕ) → g + (room - 1) ≡ m → Answers m h tree rest (suffixed m below (here from) (found a room) kind (next mid))) → Reached g a from mid → Reached (1 + h) tree from rest
  suffix_reached a from mid kind is took behind within so before =
      goes {loop = suffixes_from m below (here from)} (λ before. suffixed m below (here from) before kind) (suffix_turn from mid kind is a) took behind within so before

  postfix_reached : {level h : ℕ} {tree : Expr} {from rest : Input} → ReadsExpr level h tree from rest → 15 ≤ level → is_text (peek rest) ≡ false → Reached h tree from rest
  unfolding primary index call
  postfix_reached (g.comma l a is b) high text = absurd (omega arith)
  postfix_reached (g.assign op l a is b) high text = absurd (omega arith)
  postfix_reached (g.choice l a is b so c) high text = absurd (omega arith)
  postfix_reached (g.binary op l a is b) high text = absurd (omega (arith, levels_small (between.Binary op)))
  postfix_reached (g.cast l is so name close inner) high text = absurd (omega arith)
  postfix_reached (g.pre op l is inner) high text = absurd (omega arith)
  postfix_reached (g.prefix op l is inner) high text = absurd (omega arith)
  postfix_reached (g.sizeof_expr l is so inner) high text = absurd (omega arith)
  postfix_reached (g.sizeof_type l is so name close) high text = absurd (omega arith)
  postfix_reached (g.index {from = from} {mid} {close} l a is b so) high text =
      suffix_reached _ from mid suffix.Index (rw is refl) (left-took mid (λ end. cc)) (omega (arith, left-next close, left-expr b)) (omega arith)
      (λ room same. and_so _ (good.expr b (stops_end 0 (peek close) bracket so)) (omega arith) (λ more also. expects close _ so (fits (min (room - 1) more) (omega arith) refl)))
      (postfix_reached a (omega arith) (rw is refl))
  postfix_reached (g.call {from = from} {mid} {close} l a is b so) high text =
      suffix_reached _ from mid suffix.Call (rw is refl) (left-took mid (λ end. cc)) (omega (arith, left-next close, left-arguments b)) (omega arith)
      (λ room same. and_so _ (arguments_read b so) (omega arith) (λ more also. expects close _ so (fits (min (room - 1) more) (omega arith) refl)))
      (postfix_reached a (omega arith) (rw is refl))
  postfix_reached (g.member {from = from} {mid} l a is so) high text =
      suffix_reached _ from mid suffix.Member (rw is refl) (left-took mid (λ end. cc)) (left-next (next mid)) (omega arith)
      (λ room same. reads_word (next mid) _ so (fits (room - 1) same refl)) (postfix_reached a (omega arith) (rw is refl))
  postfix_reached (g.arrow {from = from} {mid} l a is so) high text =
      suffix_reached _ from mid suffix.Arrow (rw is refl) (left-took mid (λ end. cc)) (left-next (next mid)) (omega arith)
      (λ room same. reads_word (next mid) _ so (fits (room - 1) same refl)) (postfix_reached a (omega arith) (rw is refl))
  postfix_reached (g.post {from = from} {mid} op l a is) high text =
      suffix_reached _ from mid (suffix.Post op) (suffix_of_step (peek mid) op is) (left-took mid (λ end. no_step (peek mid) op (ap step_of end) is)) (omega arith) (omega arith)
      (λ room same. fits (room - 1) same refl) (postfix_reached a (omega arith) (step_no_text (peek mid) op is))
  postfix_reached (g.word {from = from} l is) high text =
      primary_reached from (as_same (rw is refl) (around {h = 0} (reads_word from (λ name i. Ok (found (expr_at from (form.Word name)) m, i)) is (fits m (omega arith) refl))))
  postfix_reached (g.number {from = from} l is) high text = primary_reached from (around {h = 0} (fits m (omega arith) (rw is refl)))
  postfix_reached (g.char {from = from} l is) high text = primary_reached from (around {h = 0} (fits m (omega arith) (rw is refl)))
  postfix_reached (g.texts {from = from} l is) high text = primary_reached from (around {h = 0} (fits m (omega arith) (rw (texts_first is, texts_read is text) refl)))
  postfix_reached (g.paren {from = from} l is not inner so) high text = primary_reached from (as_same (rw is refl) (paren_read from inner so))

  pub postfix_read : {level h : ℕ} {tree : Expr} {from rest : Input} (b : ℕ) → ReadsExpr level h tree from rest → 15 ≤ level → stops b (peek rest) ≡ true
      → Answers (suc m) h tree rest (postfix m below (here from) from)
  postfix_read {tree = tree} {from} {rest} b is high stop =
      ends (λ n room. suffixes_end tree from rest n room (stops_suffix b (peek rest) stop)) (postfix_reached is high (stops_text b (peek rest) stop))

  -- a postfix expression is read as one where an operand is wanted
  pub operand_postfix : (casts : Bool) {level h : ℕ} {tree : Expr} {from rest : Input} → ReadsExpr level h tree from rest → 15 ≤ level
      → operand m below casts (here from) from ≡ postfix m below (here from) from
  unfolding operand opened
  operand_postfix casts (g.comma l a is b) high = absurd (omega arith)
  operand_postfix casts (g.assign op l a is b) high = absurd (omega arith)
  operand_postfix casts (g.choice l a is b so c) high = absurd (omega arith)
  operand_postfix casts (g.binary op l a is b) high = absurd (omega (arith, levels_small (between.Binary op)))
  operand_postfix casts (g.cast l is so name close inner) high = absurd (omega arith)
  operand_postfix casts (g.pre op l is inner) high = absurd (omega arith)
  operand_postfix casts (g.prefix op l is inner) high = absurd (omega arith)
  operand_postfix casts (g.sizeof_expr l is so inner) high = absurd (omega arith)
  operand_postfix casts (g.sizeof_type l is so name close) high = absurd (omega arith)
  operand_postfix casts (g.index l a is b so) high = operand_postfix casts a (omega arith)
  operand_postfix casts (g.call l a is b so) high = operand_postfix casts a (omega arith)
  operand_postfix casts (g.member l a is so) high = operand_postfix casts a (omega arith)
  operand_postfix casts (g.arrow l a is so) high = operand_postfix casts a (omega arith)
  operand_postfix casts (g.post op l a is) high = operand_postfix casts a (omega arith)
  operand_postfix casts (g.word l is) high = rw is refl
  operand_postfix casts (g.number l is) high = rw is refl
  operand_postfix casts (g.char l is) high = rw is refl
  operand_postfix casts (g.texts l is) high = rw (texts_first is) refl
  operand_postfix casts (g.paren l is not inner so) high = rw (is, not) refl
