-- The first token of an expression, and how deep it is at least.
use Rattle.std.proofs.Common.{◌≡◌, ℕ, ◌≤◌, Bool, true, false, List, refl, ap, arith}
use Rattle.lk_lex.specs.declared.token.TokenKind.{TokenKind}
use Rattle.lk_lex.specs.declared.token.TokenKind.TheVariants as k
use Rattle.lk_lex.specs.declared.punct.Punct.{Punct}
use Rattle.lk_lex.specs.declared.punct.Punct.TheVariants as p
use Rattle.lk_tree.specs.declared.expression.Expr.{Expr}
use Rattle.lk_parse_expr.specs.Input.{Input, peek, next}
use Rattle.lk_parse_expr.specs.Words.{step_of, begins_specifiers}
use Rattle.lk_parse_expr.specs.Front.{start_of, is_start}
use Rattle.lk_parse_expr.specs.Readers.{sees, left, goes_on, is_punct}
use Rattle.lk_parse_expr.proofs.Steps.{seen}
use Rattle.lk_parse_expr.proofs.Left.{left-took}
use Rattle.lk_parse_expr.specs.Grammar as g
use Rattle.lk_parse_expr.specs.Grammar.{ReadsTexts, ReadsExpr}
use Rattle.lk_parse_expr.proofs.Tables.{start_of_step, start_of_prefix}

pub texts_first : {bytes : List ℕ} {from rest : Input} → ReadsTexts bytes from rest → peek from ≡ k.Text
texts_first (g.text_last is) = is
texts_first (g.text_more is others) = is

pub positive : {level h : ℕ} {e : Expr} {from rest : Input} → ReadsExpr level h e from rest → 1 ≤ h
positive (g.comma l a is b) = omega arith
positive (g.assign op l a is b) = omega arith
positive (g.choice l a is b so c) = omega arith
positive (g.binary op l a is b) = omega arith
positive (g.cast l is begins name so operand) = omega arith
positive (g.pre op l is operand) = omega arith
positive (g.prefix op l is operand) = omega arith
positive (g.sizeof_expr l is opens operand) = omega arith
positive (g.sizeof_type l is opens name so) = omega arith
positive (g.index l a is b so) = omega arith
positive (g.call l a is b so) = omega arith
positive (g.member l a is so) = omega arith
positive (g.arrow l a is so) = omega arith
positive (g.post op l a is) = omega arith
positive (g.word l is) = omega arith
positive (g.number l is) = omega arith
positive (g.char l is) = omega arith
positive (g.texts l is) = omega arith
positive (g.paren l is begins inner so) = omega arith

pub starts : {level h : ℕ} {e : Expr} {from rest : Input} → ReadsExpr level h e from rest → is_start (start_of (peek from)) ≡ true
starts (g.comma l a is b) = starts a
starts (g.assign op l a is b) = starts a
starts (g.choice l a is b so c) = starts a
starts (g.binary op l a is b) = starts a
starts (g.cast l is begins name so operand) = rw is refl
starts (g.pre {from = from} op l is operand) = rw (start_of_step (peek from) op is) refl
starts (g.prefix {from = from} op l is operand) = rw (start_of_prefix (peek from) op is) refl
starts (g.sizeof_expr l is opens operand) = rw is refl
starts (g.sizeof_type l is opens name so) = rw is refl
starts (g.index l a is b so) = starts a
starts (g.call l a is b so) = starts a
starts (g.member l a is so) = starts a
starts (g.arrow l a is so) = starts a
starts (g.post op l a is) = starts a
starts (g.word l is) = rw is refl
starts (g.number l is) = rw is refl
starts (g.char l is) = rw is refl
starts (g.texts l is) = rw (texts_first is) refl
starts (g.paren l is begins inner so) = rw is refl

-- where the first token is `(` and no type name follows, it is that of a Paren, whose inside begins behind it
pub inside_starts : {level h : ℕ} {e : Expr} {from rest : Input} → ReadsExpr level h e from rest → peek from ≡ k.Punct p.OpenParen → begins_specifiers (next from) ≡ false
    → is_start (start_of (peek (next from))) ≡ true
inside_starts (g.comma l a is b) open_ begins = inside_starts a open_ begins
inside_starts (g.assign op l a is b) open_ begins = inside_starts a open_ begins
inside_starts (g.choice l a is b so c) open_ begins = inside_starts a open_ begins
inside_starts (g.binary op l a is b) open_ begins = inside_starts a open_ begins
inside_starts (g.cast l is so name close operand) open_ begins = absurd cc
inside_starts (g.pre {from = from} op l is operand) open_ begins = let e : step_of (peek from) ≡ step_of (k.Punct p.OpenParen) = rw open_ refl in absurd cc
inside_starts (g.prefix {from = from} op l is operand) open_ begins = let e = start_of_prefix (peek from) op is in let f : start_of (peek from) ≡ start_of (k.Punct p.OpenParen) = rw open_ refl in absurd cc
inside_starts (g.sizeof_expr l is opens operand) open_ begins = absurd cc
inside_starts (g.sizeof_type l is opens name so) open_ begins = absurd cc
inside_starts (g.index l a is b so) open_ begins = inside_starts a open_ begins
inside_starts (g.call l a is b so) open_ begins = inside_starts a open_ begins
inside_starts (g.member l a is so) open_ begins = inside_starts a open_ begins
inside_starts (g.arrow l a is so) open_ begins = inside_starts a open_ begins
inside_starts (g.post op l a is) open_ begins = inside_starts a open_ begins
inside_starts (g.word l is) open_ begins = absurd cc
inside_starts (g.number l is) open_ begins = absurd cc
inside_starts (g.char l is) open_ begins = absurd cc
inside_starts (g.texts l is) open_ begins = let e = texts_first is in absurd cc
inside_starts (g.paren l is so inner close) open_ begins = starts inner

-- where the first token is `(` and no type name follows, there are two levels at least
pub two_levels : {level h : ℕ} {e : Expr} {from rest : Input} → ReadsExpr level h e from rest → peek from ≡ k.Punct p.OpenParen → 2 ≤ h
two_levels (g.comma l a is b) open_ = omega (arith, two_levels a open_)
two_levels (g.assign op l a is b) open_ = omega (arith, two_levels a open_)
two_levels (g.choice l a is b so c) open_ = omega (arith, two_levels a open_)
two_levels (g.binary op l a is b) open_ = omega (arith, two_levels a open_)
two_levels (g.cast l is so name close operand) open_ = omega (arith, positive operand)
two_levels (g.pre op l is operand) open_ = omega (arith, positive operand)
two_levels (g.prefix op l is operand) open_ = omega (arith, positive operand)
two_levels (g.sizeof_expr l is opens operand) open_ = omega (arith, positive operand)
two_levels (g.sizeof_type l is opens name so) open_ = absurd cc
two_levels (g.index l a is b so) open_ = omega (arith, two_levels a open_)
two_levels (g.call l a is b so) open_ = omega (arith, two_levels a open_)
two_levels (g.member l a is so) open_ = omega (arith, two_levels a open_)
two_levels (g.arrow l a is so) open_ = omega (arith, two_levels a open_)
two_levels (g.post op l a is) open_ = omega (arith, two_levels a open_)
two_levels (g.word l is) open_ = absurd cc
two_levels (g.number l is) open_ = absurd cc
two_levels (g.char l is) open_ = absurd cc
two_levels (g.texts l is) open_ = let e = texts_first is in absurd cc
two_levels (g.paren l is so inner close) open_ = omega (arith, positive inner)

-- a token that begins no expression is not in front of one
pub unseen : {level h : ℕ} {e : Expr} {from rest : Input} (q : Punct) → ReadsExpr level h e from rest → is_start (start_of (k.Punct q)) ≡ false → sees q from ≡ false
unseen {from = from} q is none = by (sees q from) refl
  where
    by : (b : Bool) → sees q from ≡ b → sees q from ≡ false
    by true e = let f : is_start (start_of (peek from)) ≡ is_start (start_of (k.Punct q)) = ap (λ kind. is_start (start_of kind)) (seen q from e) in absurd (let s = starts is in cc)
    by false e = e

-- an expression takes a token
pub some_left : {level h : ℕ} {e : Expr} {from rest : Input} → ReadsExpr level h e from rest → 1 ≤ left from
some_left {from = from} is =
    omega (arith, left-took from (λ end. let f : is_start (start_of (peek from)) ≡ is_start (start_of k.End) = ap (λ kind. is_start (start_of kind)) end in let s = starts is in absurd cc))

-- where another punctuator is in front, no comma goes on
pub no_comma : (ends : TokenKind → Bool) (i : Input) (q : Punct) → peek i ≡ k.Punct q → is_punct p.Comma (k.Punct q) ≡ false → goes_on ends i ≡ false
unfolding goes_on sees
no_comma ends i q is other = rw (is, other) refl
