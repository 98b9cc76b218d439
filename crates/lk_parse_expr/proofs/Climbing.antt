-- The reader of expressions reads each of them.
use Rattle.std.proofs.Common.{◌≡◌, inl, inr, ℕ, zero, suc, ◌+◌, ◌-◌, ◌≤◌, min, max, nat_le, Bool, true, false, ◌&&◌, Option, Some, None, Ok, refl, sym, ap, ◌∙◌, arith}
use Rattle.std.proofs.lemmas.Bool.Decides.{nat_tests}
use Rattle.lk_lex.specs.declared.token.TokenKind.TheVariants as k
use Rattle.lk_lex.specs.declared.punct.Punct.TheVariants as p
use Rattle.lk_lex.specs.declared.keyword.Keyword.TheVariants as w
use Rattle.lk_tree.specs.declared.operators.StepOperator.{StepOperator}
use Rattle.lk_tree.specs.declared.operators.PrefixOperator.{PrefixOperator}
use Rattle.lk_tree.specs.declared.expression.Expr.{Expr}
use Rattle.lk_tree.specs.declared.expression.TypeName.{TypeName}
use Rattle.lk_tree.specs.declared.expression.ExprForm.TheVariants as form
use Rattle.lk_parse_expr.specs.declared.front.Infix.{Infix}
use Rattle.lk_parse_expr.specs.declared.front.Infix.TheVariants as between
use Rattle.lk_parse_expr.specs.Input.{Input, peek, here, next}
use Rattle.lk_parse_expr.specs.Words.{level_of, step_of, prefix_of, begins_specifiers, opens_type_name}
use Rattle.lk_parse_expr.specs.Front.{infix_of, infix_level}
use Rattle.lk_parse_expr.specs.Readers.{◌>>◌, ◌>>=◌, need, take, found, left, sees}
use Rattle.lk_parse_expr.specs.Grammar as g
use Rattle.lk_parse_expr.specs.Grammar.{ReadsExpr, ReadsTypeName, expr_at}
use Rattle.lk_parse_expr.specs.Reading.{Readers, operand, opened, cast, sizeof, sizeof_operand, combined, climb, climb_from, expr}
use Rattle.lk_parse_expr.proofs.Steps.{Answers, fits, deep, and_so, around, needs, expects, as_same, seen}
use Rattle.lk_parse_expr.proofs.Tables.{stops, stops_end, paren, stops_more, stops_infix, stops_below, is_none_below, start_of_step, start_of_prefix, infix_of_binary, infix_of_assign, levels_small, levels_great}
use Rattle.lk_parse_expr.proofs.Tables as Tables
use Rattle.lk_parse_expr.proofs.Left.{left-expr, left-next, left-took}
use Rattle.lk_parse_expr.proofs.Firsts.{positive, inside_starts, two_levels}
use Rattle.lk_parse_expr.proofs.Loops.{Reaches, begins, goes, ends}
use Rattle.lk_parse_expr.proofs.Good.{Good}
use Rattle.lk_parse_expr.proofs.Operands.{postfix_read, operand_postfix}

-- how tightly the operand behind an operator binds
abbrev pub right_level : Infix → ℕ
right_level between.Comma = 1
right_level (between.Assign op) = 1
right_level between.Choice = 2
right_level (between.Binary op) = level_of op + 1

-- how tightly the operand before it binds
abbrev pub left_level : Infix → ℕ
left_level between.Comma = 0
left_level (between.Assign op) = 2
left_level between.Choice = 3
left_level (between.Binary op) = level_of op

-- what stops level b stops what is behind each operator of an expression of the level
abbrev Under : ℕ → ℕ → Type 0
Under level b = (op : Infix) → level ≤ infix_level op → b ≤ right_level op

under_same : (level : ℕ) → Under level level
under_same level between.Comma h = omega arith
under_same level (between.Assign op) h = omega arith
under_same level between.Choice h = omega arith
under_same level (between.Binary op) h = omega arith

under_left : (op : Infix) → Under (left_level op) (infix_level op + 1)
under_left between.Comma between.Comma h = omega arith
under_left between.Comma (between.Assign b) h = omega arith
under_left between.Comma between.Choice h = omega arith
under_left between.Comma (between.Binary b) h = omega (arith, levels_great b)
under_left (between.Assign a) between.Comma h = omega arith
under_left (between.Assign a) (between.Assign b) h = omega arith
under_left (between.Assign a) between.Choice h = omega arith
under_left (between.Assign a) (between.Binary b) h = omega (arith, levels_great b)
under_left between.Choice between.Comma h = omega arith
under_left between.Choice (between.Assign b) h = omega arith
under_left between.Choice between.Choice h = omega arith
under_left between.Choice (between.Binary b) h = omega (arith, levels_great b)
under_left (between.Binary a) between.Comma h = omega (arith, levels_great a)
under_left (between.Binary a) (between.Assign b) h = omega (arith, levels_great a)
under_left (between.Binary a) between.Choice h = omega (arith, levels_great a)
under_left (between.Binary a) (between.Binary b) h = omega arith

no_parens : (i : Input) (b : Bool) → sees p.OpenParen i ≡ false → sees p.OpenParen i && b ≡ false
no_parens i b e = rw e refl

module _ (m : ℕ) (below : Readers) (good : Good m below) where
  -- ---- operands

  cast_read : {g h : ℕ} {name : TypeName} {inner : Expr} (from : Input) {close rest : Input} → peek from ≡ k.Punct p.OpenParen → begins_specifiers (next from) ≡ true
      → ReadsTypeName g name (next from) close → peek close ≡ k.Punct p.CloseParen → ReadsExpr 13 h inner (next close) rest → stops 13 (peek rest) ≡ true
      → Answers (suc m) (1 + max g h) (expr_at from (form.Cast name inner)) rest (operand m below true (here from) from)
  unfolding operand opened cast
  cast_read from {close} is so name ends inner stop =
      rw (is, so) (around (needs 1 from _ (omega (arith, positive inner)) (λ some. and_so _ (good.type_name name ends) (omega arith) (λ a same.
      expects close _ ends (and_so _ (good.expr inner stop) (omega arith) (λ b also. fits (min a b) (omega arith) refl))))))

  pre_read : {h : ℕ} {inner : Expr} (casts : Bool) (from : Input) {rest : Input} (op : StepOperator) → step_of (peek from) ≡ Some op → ReadsExpr 14 h inner (next from) rest → stops 14 (peek rest) ≡ true
      → Answers (suc m) (1 + h) (expr_at from (form.Pre op inner)) rest (operand m below casts (here from) from)
  unfolding operand
  pre_read casts from op is inner stop =
      rw (start_of_step (peek from) op is) (around (needs 1 from _ (positive inner) (λ some. and_so _ (good.expr inner stop) (omega arith) (λ a same. fits a same refl))))

  prefix_read : {h : ℕ} {inner : Expr} (casts : Bool) (from : Input) {rest : Input} (op : PrefixOperator) → prefix_of (peek from) ≡ Some op → ReadsExpr 13 h inner (next from) rest
      → stops 13 (peek rest) ≡ true → Answers (suc m) (1 + h) (expr_at from (form.Prefix op inner)) rest (operand m below casts (here from) from)
  unfolding operand
  prefix_read casts from op is inner stop =
      rw (start_of_prefix (peek from) op is) (around (needs 1 from _ (positive inner) (λ some. and_so _ (good.expr inner stop) (omega arith) (λ a same. fits a same refl))))

  sizeof_operand_read : {h : ℕ} {inner : Expr} (i : Input) {rest : Input} → opens_type_name i ≡ false → ReadsExpr 14 h inner i rest → stops 14 (peek rest) ≡ true
      → Answers m h inner rest (sizeof_operand m below i)
  unfolding sizeof_operand
  sizeof_operand_read {h} {inner} i {rest} opens is stop = by (sees p.OpenParen i) (nat_le m 1) refl refl
    where
      untyped : peek i ≡ k.Punct p.OpenParen → begins_specifiers (next i) ≡ false
      untyped open_ = let e : opens_type_name i ≡ begins_specifiers (next i) = rw open_ refl in sym e ∙ opens

      by : (a b : Bool) → sees p.OpenParen i ≡ a → nat_le m 1 ≡ b → Answers m h inner rest (sizeof_operand m below i)
      by true true e f = let small : m ≤ 1 = grind (arith, nat_tests) in
          rw (e, f, inside_starts is (seen p.OpenParen i e) (untyped (seen p.OpenParen i e))) (deep (omega (arith, two_levels is (seen p.OpenParen i e))) (next i) refl)
      by true false e f = rw (e, f) (good.expr is stop)
      by false b e f = rw e (good.expr is stop)

  sizeof_expr_read : {h : ℕ} {inner : Expr} (casts : Bool) (from : Input) {rest : Input} → peek from ≡ k.Key w.Sizeof → opens_type_name (next from) ≡ false → ReadsExpr 14 h inner (next from) rest
      → stops 14 (peek rest) ≡ true → Answers (suc m) (1 + h) (expr_at from (form.SizeofExpr inner)) rest (operand m below casts (here from) from)
  unfolding operand sizeof
  sizeof_expr_read casts from is opens inner stop =
      rw is (around (needs 1 from _ (positive inner) (λ some. rw opens (and_so _ (sizeof_operand_read (next from) opens inner stop) (omega arith) (λ a same. fits a same refl)))))

  sizeof_type_read : {h : ℕ} {name : TypeName} (casts : Bool) (from : Input) {close : Input} → peek from ≡ k.Key w.Sizeof → opens_type_name (next from) ≡ true
      → ReadsTypeName h name (next (next from)) close → peek close ≡ k.Punct p.CloseParen
      → Answers (suc m) (1 + h) (expr_at from (form.SizeofType name)) (next close) (operand m below casts (here from) from)
  unfolding operand sizeof
  sizeof_type_read casts from {close} is opens name so =
      rw is (around (needs 1 from _ (some_level name) (λ some. rw opens (and_so _ (good.type_name name so) (omega arith) (λ a same. expects close _ so (fits a same refl))))))
    where
      some_level : {h : ℕ} {name : TypeName} {from rest : Input} → ReadsTypeName h name from rest → 1 ≤ h
      some_level (g.name_plain list) = omega arith
      some_level (g.name_declared list inner) = omega arith

  -- ---- operators of two

  module _ (least : ℕ) where
    abbrev Climbed : ℕ → Expr → Input → Input → Type 0
    Climbed h tree from rest = Reaches m h tree rest (climb_from m below least (here from)) (expr m below least from)

    operand_reached : {h : ℕ} {tree : Expr} (from : Input) {rest : Input} → Answers (suc m) h tree rest (operand m below (nat_le least 13) (here from) from) → Climbed h tree from rest
    unfolding expr climb
    operand_reached from a = begins (climb_from m below least (here from)) a

    climb_turn : (from mid : Input) (op : Infix) → infix_of (peek mid) ≡ Some op → least ≤ infix_level op → (a : Expr) (n room : ℕ)
        → climb_from m below least (here from) (suc n) (found a room) mid ≡ (need 1 room >> take >> (combined m below (here from) (found a room) op >>= climb_from m below least (here from) n)) mid
    unfolding climb_from
    climb_turn from mid op is high a n room = let e : nat_le least (infix_level op) ≡ true = grind (arith, nat_tests) in rw (is, e) refl

    infix_reached : {g h : ℕ} (a : Expr) {tree : Expr} (from mid : Input) {rest : Input} (op : Infix) → infix_of (peek mid) ≡ Some op → least ≤ infix_level op → left rest ≤ left (next mid) → g ≤ h
        → ((room : ℕ) → g + (room - 1) ≡ m → Answers m h tree rest (combined m below (here from) (found a room) op (next mid))) → Climbed g a from mid → Climbed (1 + h) tree from rest
    infix_reached a from mid op is high behind within so before =
        goes {loop = climb_from m below least (here from)} (λ before. combined m below (here from) before op) (climb_turn from mid op is high a)
        (left-took mid (λ end. let f : infix_of (peek mid) ≡ infix_of k.End = ap infix_of end in absurd cc)) behind within so before

    postfix_climbed : {h : ℕ} {tree : Expr} {from rest : Input} (b : ℕ) → ReadsExpr 15 h tree from rest → stops b (peek rest) ≡ true → Climbed h tree from rest
    postfix_climbed {from = from} b is stop =
        operand_reached from (as_same (operand_postfix m below good (nat_le least 13) is (omega arith)) (postfix_read m below good b is (omega arith) stop))

    climb_reached : {level h : ℕ} {tree : Expr} {from rest : Input} (b : ℕ) → ReadsExpr level h tree from rest → least ≤ level → Under level b → stops b (peek rest) ≡ true → Climbed h tree from rest
    climb_reached b (g.comma {from = from} {mid} {rest} l a is c) high under stop =
        infix_reached _ from mid between.Comma (rw is refl) (omega arith) (left-expr c) (omega arith)
        (λ room same. and_so _ (good.expr c (stops_more b 1 (peek rest) stop (inl (under between.Comma (omega arith))))) (omega arith)
        (λ more also. fits (min (room - 1) more) (omega arith) refl))
        (climb_reached 1 a (omega arith) (under_left between.Comma) (stops_infix 1 (peek mid) between.Comma (rw is refl) (omega arith)))
    climb_reached b (g.assign {from = from} {mid} {rest} op l a is c) high under stop =
        infix_reached _ from mid (between.Assign op) (infix_of_assign (peek mid) op is) (omega arith) (left-expr c) (omega arith)
        (λ room same. and_so _ (good.expr c (stops_more b 1 (peek rest) stop (inl (under (between.Assign op) (omega arith))))) (omega arith)
        (λ more also. fits (min (room - 1) more) (omega arith) refl))
        (climb_reached 2 a (omega arith) (under_left (between.Assign op)) (stops_infix 2 (peek mid) (between.Assign op) (infix_of_assign (peek mid) op is) (omega arith)))
    climb_reached b (g.choice {from = from} {mid} {colon} {rest} l a is c so d) high under stop =
        infix_reached _ from mid between.Choice (rw is refl) (omega arith) (omega (arith, left-expr c, left-next colon, left-expr d)) (omega arith)
        (λ room same. and_so _ (good.expr c (stops_end 0 (peek colon) Tables.colon so)) (omega arith) (λ middle also. expects colon _ so
        (and_so _ (good.expr d (stops_more b 2 (peek rest) stop (inl (under between.Choice (omega arith))))) (omega arith)
        (λ more too. fits (min (room - 1) (min middle more)) (omega arith) refl))))
        (climb_reached 3 a (omega arith) (under_left between.Choice) (stops_infix 3 (peek mid) between.Choice (rw is refl) (omega arith)))
    climb_reached b (g.binary {from = from} {mid} {rest} op l a is c) high under stop =
        infix_reached _ from mid (between.Binary op) (infix_of_binary (peek mid) op is) (omega arith) (left-expr c) (omega arith)
        (λ room same. and_so _ (good.expr c (stops_more b (level_of op + 1) (peek rest) stop (inl (under (between.Binary op) (omega arith))))) (omega arith)
        (λ more also. fits (min (room - 1) more) (omega arith) refl))
        (climb_reached (level_of op + 1) a (omega arith) (under_left (between.Binary op)) (stops_infix (level_of op + 1) (peek mid) (between.Binary op) (infix_of_binary (peek mid) op is) (omega arith)))
    climb_reached b (g.cast {from = from} {rest = rest} l is so name close inner) high under stop =
        let e : nat_le least 13 ≡ true = grind (arith, nat_tests) in
        operand_reached from (as_same (ap (λ casts. operand m below casts (here from) from) e) (cast_read from is so name close inner (stops_more b 13 (peek rest) stop (inr (omega arith)))))
    climb_reached b (g.pre {from = from} {rest} op l is inner) high under stop =
        operand_reached from (pre_read (nat_le least 13) from op is inner (stops_more b 14 (peek rest) stop (inr (omega arith))))
    climb_reached b (g.prefix {from = from} {rest} op l is inner) high under stop =
        operand_reached from (prefix_read (nat_le least 13) from op is inner (stops_more b 13 (peek rest) stop (inr (omega arith))))
    climb_reached b (g.sizeof_expr {from = from} {rest} l is opens inner) high under stop =
        operand_reached from (sizeof_expr_read (nat_le least 13) from is opens inner (stops_more b 14 (peek rest) stop (inr (omega arith))))
    climb_reached b (g.sizeof_type {from = from} l is opens name so) high under stop = operand_reached from (sizeof_type_read (nat_le least 13) from is opens name so)
    climb_reached b (g.index l a is c so) high under stop = postfix_climbed b (g.index (omega arith) a is c so) stop
    climb_reached b (g.call l a is c so) high under stop = postfix_climbed b (g.call (omega arith) a is c so) stop
    climb_reached b (g.member l a is so) high under stop = postfix_climbed b (g.member (omega arith) a is so) stop
    climb_reached b (g.arrow l a is so) high under stop = postfix_climbed b (g.arrow (omega arith) a is so) stop
    climb_reached b (g.post op l a is) high under stop = postfix_climbed b (g.post op (omega arith) a is) stop
    climb_reached b (g.word l is) high under stop = postfix_climbed b (g.word (omega arith) is) stop
    climb_reached b (g.number l is) high under stop = postfix_climbed b (g.number (omega arith) is) stop
    climb_reached b (g.char l is) high under stop = postfix_climbed b (g.char (omega arith) is) stop
    climb_reached b (g.texts l is) high under stop = postfix_climbed b (g.texts (omega arith) is) stop
    climb_reached b (g.paren l is not inner so) high under stop = postfix_climbed b (g.paren (omega arith) is not inner so) stop

    climb_end : (tree : Expr) (from rest : Input) (n room : ℕ) → is_none_below least (infix_of (peek rest)) ≡ true → climb_from m below least (here from) n (found tree room) rest ≡ Ok (found tree room, rest)
    unfolding climb_from
    climb_end tree from rest zero room none = refl
    climb_end tree from rest (suc n) room none = by (infix_of (peek rest)) none refl
      where
        by : (o : Option Infix) → is_none_below least o ≡ true → infix_of (peek rest) ≡ o → climb_from m below least (here from) (suc n) (found tree room) rest ≡ Ok (found tree room, rest)
        by None none is = rw is refl
        by (Some op) none is = let e : nat_le least (infix_level op) ≡ false = grind (arith, nat_tests) in rw (is, e) refl

  pub expr_read : {level h : ℕ} {tree : Expr} {from rest : Input} → ReadsExpr level h tree from rest → stops level (peek rest) ≡ true → Answers (suc m) h tree rest (expr m below level from)
  expr_read {level} {tree = tree} {from} {rest} is stop =
      ends (λ n room. climb_end level tree from rest n room (stops_below level (peek rest) stop)) (climb_reached level level is (omega arith) (under_same level) stop)
