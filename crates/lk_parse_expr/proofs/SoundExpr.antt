-- What the reader of expressions reads is an expression.
use Rattle.std.proofs.Common.{◌≡◌, ℕ, zero, suc, ◌+◌, ◌<◌, ◌≤◌, nat_le, nat_lt, Bool, true, false, ◌&&◌, List, [], ◌++◌, Option, Some, None, refl, sym, subst, append_assoc, arith}
use Rattle.std.proofs.lemmas.Bool.Decides.{nat_tests}
use Rattle.lk_lex.specs.declared.token.TokenKind.TheVariants as k
use Rattle.lk_lex.specs.declared.punct.Punct.TheVariants as p
use Rattle.lk_lex.specs.declared.keyword.Keyword.TheVariants as w
use Rattle.lk_tree.specs.declared.expression.Expr.{Expr}
use Rattle.lk_parse_expr.specs.declared.found.Found.{Found}
use Rattle.lk_parse_expr.specs.declared.front.Start.{Start}
use Rattle.lk_parse_expr.specs.declared.front.Start.TheVariants as start
use Rattle.lk_parse_expr.specs.declared.front.Suffix.{Suffix}
use Rattle.lk_parse_expr.specs.declared.front.Suffix.TheVariants as suffix
use Rattle.lk_parse_expr.specs.declared.front.Infix.{Infix}
use Rattle.lk_parse_expr.specs.declared.front.Infix.TheVariants as between
use Rattle.lk_parse_expr.specs.Input.{Input, peek, here, next, text}
use Rattle.lk_lex.specs.Texts.{text_value}
use Rattle.lk_parse_expr.specs.Words.{level_of, begins_specifiers, opens_type_name}
use Rattle.lk_parse_expr.specs.Front.{start_of, is_start, suffix_of, infix_of, infix_level}
use Rattle.lk_parse_expr.specs.Readers.{Outcome, left, sees, separated}
use Rattle.lk_parse_expr.specs.Grammar as g
use Rattle.lk_parse_expr.specs.Grammar.{ReadsTexts, ReadsExpr, ReadsArguments, ReadsExprs, expr_at}
use Rattle.lk_parse_expr.specs.Reading.{Readers, is_text, texts, texts_from, parens, primary, primary_by, arguments, index, call, suffixed, suffixes_by, suffixes_from, suffixes, postfix, cast, sizeof, sizeof_operand, opened, operand, operand_by, combined, climb_by, climb_from, climb, expr}
use Rattle.lk_parse_expr.proofs.Steps.{seen}
use Rattle.lk_parse_expr.proofs.Tables.{is_none_below, levels_small, levels_great}
use Rattle.lk_parse_expr.proofs.Left.{left-expr, left-next, left-took}
use Rattle.lk_parse_expr.proofs.Climbing.{right_level, left_level}
use Rattle.lk_parse_expr.proofs.Lists.{Row, row_last, row_more}
use Rattle.lk_parse_expr.proofs.Yielding.{Yields, and_yields, weaker, by_test, by_test_at, after_need, after_expect, after_word, Has, at_end}
use Rattle.lk_parse_expr.proofs.Weakening.{looser}
use Rattle.lk_parse_expr.proofs.Sound.{HasExpr, Sound, HasRow, separated_has}
use Rattle.lk_parse_expr.proofs.Inverse as of

texts_more : {bytes : List ℕ} {from mid : Input} → ReadsTexts bytes from mid → peek mid ≡ k.Text → ReadsTexts (bytes ++ text_value (text mid)) from (next mid)
texts_more (g.text_last is) so = g.text_more is (g.text_last so)
texts_more {from = from} {mid} (g.text_more {bytes} is others) so =
    subst (λ b. ReadsTexts b from (next mid)) (sym (append_assoc (text_value (text from)) bytes (text_value (text mid)))) (g.text_more is (texts_more others so))

texts_has_on : (n : ℕ) (from mid : Input) (bytes : List ℕ) → ReadsTexts bytes from mid → Yields (λ bytes rest. ReadsTexts bytes from rest) (texts_from n bytes mid)
unfolding texts_from
texts_has_on zero from mid bytes so = so
texts_has_on (suc n) from mid bytes so = by_test _ (is_text (peek mid)) _ _ (λ e. texts_has_on n from (next mid) _ (texts_more so (of.texts_there (peek mid) e))) (λ e. so)

texts_has : (from : Input) → peek from ≡ k.Text → Yields (λ bytes rest. ReadsTexts bytes from rest) (texts from)
unfolding texts texts_from
texts_has from is = by (left from) (omega (arith, left-took from (λ end. cc)))
  where
    by : (n : ℕ) → 1 ≤ n → Yields (λ bytes rest. ReadsTexts bytes from rest) (texts_from n [] from)
    by zero some = absurd (omega arith)
    by (suc n) some = rw is (texts_has_on n from (next from) _ (g.text_last is))

next_fits : (op other : Infix) → infix_level other < right_level op → left_level other ≤ infix_level op
next_fits between.Comma between.Comma h = omega arith
next_fits between.Comma (between.Assign b) h = absurd (omega arith)
next_fits between.Comma between.Choice h = absurd (omega arith)
next_fits between.Comma (between.Binary b) h = absurd (omega (arith, levels_great b))
next_fits (between.Assign a) between.Comma h = omega arith
next_fits (between.Assign a) (between.Assign b) h = absurd (omega arith)
next_fits (between.Assign a) between.Choice h = absurd (omega arith)
next_fits (between.Assign a) (between.Binary b) h = absurd (omega (arith, levels_great b))
next_fits between.Choice between.Comma h = omega arith
next_fits between.Choice (between.Assign b) h = omega arith
next_fits between.Choice between.Choice h = absurd (omega arith)
next_fits between.Choice (between.Binary b) h = absurd (omega (arith, levels_great b))
next_fits (between.Binary a) between.Comma h = omega arith
next_fits (between.Binary a) (between.Assign b) h = omega (arith, levels_great a)
next_fits (between.Binary a) between.Choice h = omega (arith, levels_great a)
next_fits (between.Binary a) (between.Binary b) h = omega arith

left_small : (op : Infix) → left_level op ≤ 13
left_small between.Comma = omega arith
left_small (between.Assign op) = omega arith
left_small between.Choice = omega arith
left_small (between.Binary op) = omega (arith, levels_small (between.Binary op))

below_level : (level : ℕ) (op : Infix) (o : Option Infix) → is_none_below level o ≡ true → o ≡ Some op → infix_level op < level
below_level level op None none is = absurd cc
below_level level op (Some other) none is = let same : other ≡ op = cc in let h : infix_level other < level = grind (arith, nat_tests) in subst (λ o. infix_level o < level) same h

row_exprs : {h : ℕ} {list : List Expr} {from rest : Input} → Row (ReadsExpr 1) h list from rest → ReadsExprs h list from rest
row_exprs (row_last one) = g.exprs_last one
row_exprs (row_more one is others) = g.exprs_more one is (row_exprs others)

module _ (m : ℕ) (below : Readers) (sound : Sound m below) where
  pub one_expr : (level : ℕ) (i : Input) → level ≤ 14 → Yields (Has m (λ h one rest. ReadsExpr level h one i rest)) (below.expr level i)
  one_expr level i small = weaker _ _ (below.expr level i) (λ f rest has. record { depth = has.depth; reads = has.reads; all = has.all }) (sound.expr level i small)

  abbrev IsExpr : ℕ → Input → Found Expr → Input → Type 0
  IsExpr level from f rest = Has (suc m) (λ h tree rest. ReadsExpr level h tree from rest) f rest

  paren_has : (from : Input) → peek from ≡ k.Punct p.OpenParen → begins_specifiers (next from) ≡ false → Yields (IsExpr 16 from) (parens m below (here from) from)
  unfolding parens
  paren_has from is shut = after_need _ 1 m from _ (λ some. and_yields _ _ (below.expr 0 (next from)) _ (one_expr 0 (next from) (omega arith)) (λ inner i has.
      after_expect _ p.CloseParen i _ (λ so. record { depth = 1 + has.depth; reads = g.paren (omega arith) is shut has.reads so; all = (let a = has.all in omega arith) })))

  primary_has : (from : Input) → (peek from ≡ k.Punct p.OpenParen → begins_specifiers (next from) ≡ false) → Yields (IsExpr 16 from) (primary m below (here from) from)
  unfolding primary
  primary_has from shut = by (start_of (peek from)) refl
    where
      by : (s : Start) → start_of (peek from) ≡ s → Yields (IsExpr 16 from) (primary_by m below (here from) s from)
      by start.Word e = after_word _ from _ (λ so. record { depth = 1; reads = g.word (omega arith) so; all = omega arith })
      by (start.Number kind value) e = record { depth = 1; reads = g.number (omega arith) (of.of_number (peek from) kind value e); all = omega arith }
      by (start.Char value) e = record { depth = 1; reads = g.char (omega arith) (of.of_char (peek from) value e); all = omega arith }
      by start.Text e = and_yields _ _ (texts from) _ (texts_has from (of.of_text (peek from) e)) (λ bytes i so. record { depth = 1; reads = g.texts (omega arith) so; all = omega arith })
      by start.Open e = paren_has from (of.of_open (peek from) e) (shut (of.of_open (peek from) e))
      by (start.Step op) e = tt
      by (start.Prefix op) e = tt
      by start.Sizeof e = tt
      by start.Nothing e = tt

  arguments_has : (i : Input) → Yields (Has m (λ h list rest. ReadsArguments h list i rest)) (arguments m below i)
  unfolding arguments
  arguments_has i = by_test _ (sees p.CloseParen i) _ _
      (λ e. record { depth = 0; reads = g.arguments_none (seen p.CloseParen i e); all = omega arith })
      (λ e. weaker (HasRow m (ReadsExpr 1) (λ _. false) i) _ (separated (λ _. false) (below.expr 1) m i)
      (λ f rest has. record { depth = has.depth; reads = g.arguments_some (row_exprs has.row); all = has.all })
      (separated_has m (ReadsExpr 1) (λ _. false) (below.expr 1) (λ i. one_expr 1 i (omega arith)) i))

  suffixed_has : {d : ℕ} (from mid : Input) (before : Found Expr) (kind : Suffix) → suffix_of (peek mid) ≡ Some kind → ReadsExpr 15 d before.tree from mid → d + before.room ≡ suc m → 1 ≤ before.room
      → Yields (IsExpr 15 from) (suffixed m below (here from) before kind (next mid))
  unfolding index call
  suffixed_has from mid before suffix.Index is a all some =
      and_yields _ _ (below.expr 0 (next mid)) _ (one_expr 0 (next mid) (omega arith)) (λ inner i has. after_expect _ p.CloseBracket i _ (λ so.
      record { depth = _; reads = g.index (omega arith) a (of.of_index (peek mid) is) has.reads so; all = (let b = has.all in omega arith) }))
  suffixed_has from mid before suffix.Call is a all some =
      and_yields _ _ (arguments m below (next mid)) _ (arguments_has (next mid)) (λ inner i has. after_expect _ p.CloseParen i _ (λ so.
      record { depth = _; reads = g.call (omega arith) a (of.of_call (peek mid) is) has.reads so; all = (let b = has.all in omega arith) }))
  suffixed_has from mid before suffix.Member is a all some =
      after_word _ (next mid) _ (λ so. record { depth = _; reads = g.member (omega arith) a (of.of_member (peek mid) is) so; all = omega arith })
  suffixed_has from mid before suffix.Arrow is a all some =
      after_word _ (next mid) _ (λ so. record { depth = _; reads = g.arrow (omega arith) a (of.of_arrow (peek mid) is) so; all = omega arith })
  suffixed_has from mid before (suffix.Post op) is a all some =
      record { depth = _; reads = g.post op (omega arith) a (of.of_post (peek mid) op is); all = omega arith }

  suffixes_has : (n : ℕ) (from mid : Input) (before : Found Expr) → IsExpr 15 from before mid → Yields (IsExpr 15 from) (suffixes_from m below (here from) n before mid)
  unfolding suffixes_from
  suffixes_has zero from mid before has = has
  suffixes_has (suc n) from mid before has = by (λ longer i more. suffixes_has n from i longer more) (suffix_of (peek mid)) refl
    where
      by : ((longer : Found Expr) (i : Input) → IsExpr 15 from longer i → Yields (IsExpr 15 from) (suffixes_from m below (here from) n longer i)) → (o : Option Suffix) → suffix_of (peek mid) ≡ o → Yields (IsExpr 15 from) (suffixes_by m below (here from) (suffixes_from m below (here from) n) before o mid)
      by again None e = has
      by again (Some kind) e = after_need _ 1 before.room mid _ (λ some. and_yields _ _ (suffixed m below (here from) before kind (next mid)) _
          (suffixed_has from mid before kind e has.reads has.all some) again)

  postfix_has : (from : Input) → (peek from ≡ k.Punct p.OpenParen → begins_specifiers (next from) ≡ false) → Yields (IsExpr 15 from) (postfix m below (here from) from)
  unfolding postfix suffixes
  postfix_has from shut = and_yields _ _ (primary m below (here from) from) _ (primary_has from shut) (λ first i has.
      suffixes_has (left i) from i first (record { depth = has.depth; reads = looser 15 has.reads (omega arith); all = has.all }))

  -- ---- operands

  operand_level : Bool → ℕ
  operand_level true = 13
  operand_level false = 14

  cast_has : (from : Input) → peek from ≡ k.Punct p.OpenParen → begins_specifiers (next from) ≡ true → Yields (IsExpr 13 from) (cast m below (here from) (next from))
  unfolding cast
  cast_has from is begins = and_yields _ _ (below.type_name (next from)) _ (sound.type_name (next from)) (λ name i has. after_expect _ p.CloseParen i _ (λ so.
      and_yields _ _ (below.expr 13 (next i)) _ (one_expr 13 (next i) (omega arith)) (λ inner j more.
      record { depth = _; reads = g.cast (omega arith) is begins has.reads so more.reads; all = (let a = has.all in let b = more.all in omega arith) })))

  sizeof_operand_has : (i : Input) → Yields (Has m (λ h one rest. ReadsExpr 14 h one i rest)) (sizeof_operand m below i)
  unfolding sizeof_operand
  sizeof_operand_has i = by_test _ (sees p.OpenParen i && nat_le m 1) _ _ (λ e. by_test _ (is_start (start_of (peek (next i)))) _ _ (λ f. tt) (λ f. tt)) (λ e. one_expr 14 i (omega arith))

  sizeof_has : (from : Input) → peek from ≡ k.Key w.Sizeof → Yields (IsExpr 14 from) (sizeof m below (here from) (next from))
  unfolding sizeof
  sizeof_has from is = by_test _ (opens_type_name (next from)) _ _
      (λ e. and_yields _ _ (below.type_name (next (next from))) _ (sound.type_name (next (next from))) (λ name i has. after_expect _ p.CloseParen i _ (λ so.
      record { depth = _; reads = g.sizeof_type (omega arith) is e has.reads so; all = (let a = has.all in omega arith) })))
      (λ e. and_yields _ _ (sizeof_operand m below (next from)) _ (sizeof_operand_has (next from)) (λ inner i has.
      record { depth = _; reads = g.sizeof_expr (omega arith) is e has.reads; all = (let a = has.all in omega arith) }))

  as_operand : {level : ℕ} (casts : Bool) (from : Input) (o : Outcome (Found Expr)) → 14 ≤ level → Yields (IsExpr level from) o → Yields (IsExpr (operand_level casts) from) o
  unfolding operand_level
  as_operand true from o high so = weaker _ _ o (λ f rest has. record { depth = has.depth; reads = looser 13 has.reads (omega arith); all = has.all }) so
  as_operand false from o high so = weaker _ _ o (λ f rest has. record { depth = has.depth; reads = looser 14 has.reads (omega arith); all = has.all }) so

  opened_has : (casts : Bool) (from : Input) → peek from ≡ k.Punct p.OpenParen → Yields (IsExpr (operand_level casts) from) (opened m below casts (here from) from)
  unfolding opened operand_level
  opened_has true from is = by_test _ (begins_specifiers (next from)) _ _ (λ e. after_need _ 1 m from _ (λ some. cast_has from is e))
      (λ e. as_operand true from _ (omega arith) (postfix_has from (λ _. e)))
  opened_has false from is = by_test _ (begins_specifiers (next from)) _ _ (λ e. after_need _ 1 m from _ (λ some. tt))
      (λ e. as_operand false from _ (omega arith) (postfix_has from (λ _. e)))

  operand_has : (casts : Bool) (from : Input) → Yields (IsExpr (operand_level casts) from) (operand m below casts (here from) from)
  unfolding operand
  operand_has casts from = by (start_of (peek from)) refl
    where
      by : (s : Start) → start_of (peek from) ≡ s → Yields (IsExpr (operand_level casts) from) (operand_by m below casts (here from) s from)
      by start.Word e = as_operand casts from _ (omega arith) (postfix_has from (λ open_. let f : start_of (peek from) ≡ start.Open = rw open_ refl in absurd cc))
      by (start.Number kind value) e = as_operand casts from _ (omega arith) (postfix_has from (λ open_. let f : start_of (peek from) ≡ start.Open = rw open_ refl in absurd cc))
      by (start.Char value) e = as_operand casts from _ (omega arith) (postfix_has from (λ open_. let f : start_of (peek from) ≡ start.Open = rw open_ refl in absurd cc))
      by start.Text e = as_operand casts from _ (omega arith) (postfix_has from (λ open_. let f : start_of (peek from) ≡ start.Open = rw open_ refl in absurd cc))
      by start.Open e = opened_has casts from (of.of_open (peek from) e)
      by (start.Step op) e = as_operand casts from _ (omega arith) (after_need _ 1 m from _ (λ some. and_yields _ _ (below.expr 14 (next from)) _ (one_expr 14 (next from) (omega arith)) (λ inner i has.
          record { depth = _; reads = g.pre {level = 14} op (omega arith) (of.of_step (peek from) op e) has.reads; all = (let a = has.all in omega arith) })))
      by (start.Prefix op) e = as_operand casts from _ (omega arith) (after_need _ 1 m from _ (λ some. and_yields _ _ (below.expr 13 (next from)) _ (one_expr 13 (next from) (omega arith)) (λ inner i has.
          record { depth = _; reads = g.prefix {level = 14} op (omega arith) (of.of_prefix (peek from) op e) has.reads; all = (let a = has.all in omega arith) })))
      by start.Sizeof e = as_operand casts from _ (omega arith) (after_need _ 1 m from _ (λ some. sizeof_has from (of.of_sizeof (peek from) e)))
      by start.Nothing e = tt

  -- ---- operators of two

  record Climbing (least : ℕ) (from mid : Input) (before : Found Expr) : Type 0 where
    level : ℕ
    depth : ℕ
    reads : ReadsExpr level depth before.tree from mid
    all : depth + before.room ≡ suc m
    high : least ≤ level
    fits : (op : Infix) → infix_of (peek mid) ≡ Some op → left_level op ≤ level

  record Combined (op : Infix) (from mid : Input) (f : Found Expr) (rest : Input) : Type 0 where
    depth : ℕ
    reads : ReadsExpr (infix_level op) depth f.tree from rest
    all : depth + f.room ≡ suc m
    stops : is_none_below (right_level op) (infix_of (peek rest)) ≡ true
    behind : left rest ≤ left (next mid)

  combined_has : (least : ℕ) (from mid : Input) (before : Found Expr) (op : Infix) → infix_of (peek mid) ≡ Some op → 1 ≤ before.room → Climbing least from mid before
      → Yields (Combined op from mid) (combined m below (here from) before op (next mid))
  combined_has least from mid before between.Comma is some c =
      and_yields _ _ (below.expr 1 (next mid)) _ (sound.expr 1 (next mid) (omega arith)) (λ right i has.
      record {
        depth = _;
        reads = g.comma (omega arith) (looser 0 c.reads (c.fits between.Comma is)) (of.of_comma (peek mid) is) has.reads;
        all = (let a = c.all in let b = has.all in omega arith);
        stops = has.stops;
        behind = left-expr has.reads;
      })
  combined_has least from mid before (between.Assign op) is some c =
      and_yields _ _ (below.expr 1 (next mid)) _ (sound.expr 1 (next mid) (omega arith)) (λ right i has.
      record {
        depth = _;
        reads = g.assign op (omega arith) (looser 2 c.reads (c.fits (between.Assign op) is)) (of.of_assign (peek mid) op is) has.reads;
        all = (let a = c.all in let b = has.all in omega arith);
        stops = has.stops;
        behind = left-expr has.reads;
      })
  combined_has least from mid before between.Choice is some c =
      and_yields _ _ (below.expr 0 (next mid)) _ (one_expr 0 (next mid) (omega arith)) (λ middle i has. after_expect _ p.Colon i _ (λ so.
      and_yields _ _ (below.expr 2 (next i)) _ (sound.expr 2 (next i) (omega arith)) (λ right j more.
      record {
        depth = _;
        reads = g.choice (omega arith) (looser 3 c.reads (c.fits between.Choice is)) (of.of_choice (peek mid) is) has.reads so more.reads;
        all = (let a = c.all in let b = has.all in let d = more.all in omega arith);
        stops = more.stops;
        behind = omega (arith, left-expr has.reads, left-next i, left-expr more.reads);
      })))
  combined_has least from mid before (between.Binary op) is some c =
      and_yields _ _ (below.expr (level_of op + 1) (next mid)) _ (sound.expr (level_of op + 1) (next mid) (omega (arith, levels_small (between.Binary op)))) (λ right i has.
      record {
        depth = _;
        reads = g.binary op (omega arith) (looser (level_of op) c.reads (c.fits (between.Binary op) is)) (of.of_binary (peek mid) op is) has.reads;
        all = (let a = c.all in let b = has.all in omega arith);
        stops = has.stops;
        behind = left-expr has.reads;
      })

  done : (least : ℕ) (from mid : Input) (before : Found Expr) → Climbing least from mid before → is_none_below least (infix_of (peek mid)) ≡ true → HasExpr (suc m) least from before mid
  done least from mid before c none = record { depth = c.depth; reads = looser least c.reads c.high; all = c.all; stops = none }

  climb_has : (n least : ℕ) (from mid : Input) (before : Found Expr) → Climbing least from mid before → left mid ≤ n → Yields (HasExpr (suc m) least from) (climb_from m below least (here from) n before mid)
  unfolding climb_from
  climb_has zero least from mid before c enough = done least from mid before c (rw (at_end mid enough) refl)
  climb_has (suc n) least from mid before c enough = by (λ longer i c enough. climb_has n least from i longer c enough) (infix_of (peek mid)) refl
    where
      by : ((longer : Found Expr) (i : Input) → Climbing least from i longer → left i ≤ n → Yields (HasExpr (suc m) least from) (climb_from m below least (here from) n longer i)) → (o : Option Infix) → infix_of (peek mid) ≡ o → Yields (HasExpr (suc m) least from) (climb_by m below least (here from) (climb_from m below least (here from) n) before o mid)
      by again None e = done least from mid before c (rw e refl)
      by again (Some op) e = by_test_at _ (nat_le least (infix_level op)) _ _ mid
          (λ low. after_need _ 1 before.room mid _ (λ some. and_yields _ _ (combined m below (here from) before op (next mid)) _ (combined_has least from mid before op e some c) (λ longer i has.
          again longer i
          (record {
            level = infix_level op;
            depth = has.depth;
            reads = has.reads;
            all = has.all;
            high = grind (arith, nat_tests);
            fits = λ other is. next_fits op other (below_level (right_level op) other (infix_of (peek i)) has.stops is);
          })
          (let b = has.behind in omega (arith, left-took mid (λ end. let f : infix_of (peek mid) ≡ None = rw end refl in absurd cc))))))
          (λ high. done least from mid before c (let f : nat_lt (infix_level op) least ≡ true = grind (arith, nat_tests) in rw (e, f) refl))

  pub expr_has : (least : ℕ) (from : Input) → least ≤ 14 → Yields (HasExpr (suc m) least from) (expr m below least from)
  unfolding expr climb operand_level
  expr_has least from small = and_yields _ _ (operand m below (nat_le least 13) (here from) from) _ (operand_has (nat_le least 13) from) (λ first i has.
      climb_has (left i) least from i first
      (record { level = operand_level (nat_le least 13); depth = has.depth; reads = has.reads; all = has.all; high = high (nat_le least 13) refl; fits = λ op is. enough (nat_le least 13) op })
      (omega arith))
    where
      high : (b : Bool) → nat_le least 13 ≡ b → least ≤ operand_level b
      high true e = grind (arith, nat_tests)
      high false e = small

      enough : (b : Bool) (op : Infix) → left_level op ≤ operand_level b
      enough true op = left_small op
      enough false op = omega (arith, left_small op)
