-- What the tables of tokens have to do with one another.
use Rattle.std.proofs.Common.{◌≡◌, ◌⊎◌, inl, inr, ℕ, ◌<◌, ◌≤◌, nat_lt, Bool, true, false, not, ◌&&◌, Option, Some, None, refl, ap, arith}
use Rattle.std.proofs.lemmas.Bool.Decides.{nat_tests}
use Rattle.lk_lex.specs.declared.token.TokenKind.{TokenKind}
use Rattle.lk_lex.specs.declared.token.TokenKind.TheVariants as k
use Rattle.lk_lex.specs.declared.punct.Punct.TheVariants as p
use Rattle.lk_tree.specs.declared.operators.BinaryOperator.{BinaryOperator}
use Rattle.lk_tree.specs.declared.operators.BinaryOperator.TheVariants as b
use Rattle.lk_tree.specs.declared.operators.AssignOperator.{AssignOperator}
use Rattle.lk_tree.specs.declared.operators.StepOperator.{StepOperator}
use Rattle.lk_tree.specs.declared.operators.PrefixOperator.{PrefixOperator}
use Rattle.lk_parse_expr.specs.declared.front.Start.TheVariants as start
use Rattle.lk_parse_expr.specs.declared.front.Suffix.{Suffix}
use Rattle.lk_parse_expr.specs.declared.front.Suffix.TheVariants as suffix
use Rattle.lk_parse_expr.specs.declared.front.Infix.{Infix}
use Rattle.lk_parse_expr.specs.declared.front.Infix.TheVariants as between
use Rattle.lk_parse_expr.specs.Words.{level_of, binary_of, assign_of, step_of, prefix_of}
use Rattle.lk_parse_expr.specs.Front.{start_of, suffix_of, infix_of, infix_level}
use Rattle.lk_parse_expr.specs.Reading.{is_text}

-- ---- tables agree

pub start_of_step : (kind : TokenKind) (op : StepOperator) → step_of kind ≡ Some op → start_of kind ≡ start.Step op
start_of_step (k.Punct p.PlusPlus) op e = ap start.Step cc
start_of_step (k.Punct p.MinusMinus) op e = ap start.Step cc
start_of_step _ op e = absurd cc

pub suffix_of_step : (kind : TokenKind) (op : StepOperator) → step_of kind ≡ Some op → suffix_of kind ≡ Some (suffix.Post op)
suffix_of_step (k.Punct p.PlusPlus) op e = ap (λ o. Some (suffix.Post o)) cc
suffix_of_step (k.Punct p.MinusMinus) op e = ap (λ o. Some (suffix.Post o)) cc
suffix_of_step _ op e = absurd cc

pub start_of_prefix : (kind : TokenKind) (op : PrefixOperator) → prefix_of kind ≡ Some op → start_of kind ≡ start.Prefix op
start_of_prefix (k.Punct p.Ampersand) op e = ap start.Prefix cc
start_of_prefix (k.Punct p.Star) op e = ap start.Prefix cc
start_of_prefix (k.Punct p.Plus) op e = ap start.Prefix cc
start_of_prefix (k.Punct p.Minus) op e = ap start.Prefix cc
start_of_prefix (k.Punct p.Tilde) op e = ap start.Prefix cc
start_of_prefix (k.Punct p.Bang) op e = ap start.Prefix cc
start_of_prefix _ op e = absurd cc

-- ---- where an expression of a level ends: behind it stands no text and no suffix, and nothing between operands that binds as tightly as the level

abbrev pub is_none_below : ℕ → Option Infix → Bool
is_none_below level None = true
is_none_below level (Some op) = nat_lt (infix_level op) level

abbrev pub no_suffix : Option Suffix → Bool
no_suffix None = true
no_suffix (Some kind) = false

unfoldable pub stops : ℕ → TokenKind → Bool
stops level kind = (not (is_text kind) && no_suffix (suffix_of kind)) && is_none_below level (infix_of kind)

pub infix_of_binary : (kind : TokenKind) (op : BinaryOperator) → binary_of kind ≡ Some op → infix_of kind ≡ Some (between.Binary op)
infix_of_binary (k.Punct p.Comma) op e = absurd cc
infix_of_binary (k.Punct p.Question) op e = absurd cc
infix_of_binary kind op e = cc

pub infix_of_assign : (kind : TokenKind) (op : AssignOperator) → assign_of kind ≡ Some op → infix_of kind ≡ Some (between.Assign op)
infix_of_assign (k.Punct p.Comma) op e = absurd cc
infix_of_assign (k.Punct p.Question) op e = absurd cc
infix_of_assign kind op e = cc

infix_no_text : (kind : TokenKind) (op : Infix) → infix_of kind ≡ Some op → is_text kind ≡ false
infix_no_text k.Text op e = absurd cc
infix_no_text k.Word op e = refl
infix_no_text (k.Key w) op e = refl
infix_no_text (k.Number kind value) op e = refl
infix_no_text (k.Char value) op e = refl
infix_no_text (k.Punct p) op e = refl
infix_no_text k.End op e = refl

infix_no_suffix : (kind : TokenKind) (op : Infix) → infix_of kind ≡ Some op → suffix_of kind ≡ None
infix_no_suffix (k.Punct p.OpenBracket) op e = absurd cc
infix_no_suffix (k.Punct p.OpenParen) op e = absurd cc
infix_no_suffix (k.Punct p.Dot) op e = absurd cc
infix_no_suffix (k.Punct p.Arrow) op e = absurd cc
infix_no_suffix (k.Punct p.PlusPlus) op e = absurd cc
infix_no_suffix (k.Punct p.MinusMinus) op e = absurd cc
infix_no_suffix kind op e = refl

less : (a b : ℕ) → a < b → nat_lt a b ≡ true
less a b h = grind (arith, nat_tests)

pub stops_infix : (level : ℕ) (kind : TokenKind) (op : Infix) → infix_of kind ≡ Some op → infix_level op < level → stops level kind ≡ true
unfolding stops
stops_infix level kind op e h = rw (infix_no_text kind op e, infix_no_suffix kind op e, e, less (infix_level op) level h) refl

pub levels_small : (op : Infix) → infix_level op < 13
levels_small between.Comma = omega arith
levels_small (between.Assign op) = omega arith
levels_small between.Choice = omega arith
levels_small (between.Binary op) = by op
  where
    by : (op : BinaryOperator) → level_of op < 13
    by b.Or = omega arith
    by b.And = omega arith
    by b.BitOr = omega arith
    by b.BitXor = omega arith
    by b.BitAnd = omega arith
    by b.Equal = omega arith
    by b.NotEqual = omega arith
    by b.Less = omega arith
    by b.Greater = omega arith
    by b.LessEqual = omega arith
    by b.GreaterEqual = omega arith
    by b.ShiftLeft = omega arith
    by b.ShiftRight = omega arith
    by b.Add = omega arith
    by b.Subtract = omega arith
    by b.Multiply = omega arith
    by b.Divide = omega arith
    by b.Remainder = omega arith

pub levels_great : (op : BinaryOperator) → 3 ≤ level_of op
levels_great b.Or = omega arith
levels_great b.And = omega arith
levels_great b.BitOr = omega arith
levels_great b.BitXor = omega arith
levels_great b.BitAnd = omega arith
levels_great b.Equal = omega arith
levels_great b.NotEqual = omega arith
levels_great b.Less = omega arith
levels_great b.Greater = omega arith
levels_great b.LessEqual = omega arith
levels_great b.GreaterEqual = omega arith
levels_great b.ShiftLeft = omega arith
levels_great b.ShiftRight = omega arith
levels_great b.Add = omega arith
levels_great b.Subtract = omega arith
levels_great b.Multiply = omega arith
levels_great b.Divide = omega arith
levels_great b.Remainder = omega arith

both : (a b : Bool) → a && b ≡ true → (a ≡ true) × (b ≡ true)
both true b e = (refl, e)
both false b e = absurd cc

none_below : (level other : ℕ) (op : Option Infix) → is_none_below level op ≡ true → (level ≤ other) ⊎ (13 ≤ other) → is_none_below other op ≡ true
none_below level other None e h = refl
none_below level other (Some op) e h = less (infix_level op) other (by h)
  where
    by : (level ≤ other) ⊎ (13 ≤ other) → infix_level op < other
    by (inl h) = let below : infix_level op < level = grind (arith, nat_tests) in omega arith
    by (inr h) = omega (arith, levels_small op)

-- what stops a level stops those that bind more tightly, and each that no operator has
pub stops_more : (level other : ℕ) (kind : TokenKind) → stops level kind ≡ true → (level ≤ other) ⊎ (13 ≤ other) → stops other kind ≡ true
unfolding stops
stops_more level other kind e h = let parts = both (not (is_text kind) && no_suffix (suffix_of kind)) (is_none_below level (infix_of kind)) e in rw (parts.0, none_below level other (infix_of kind) parts.1 h) refl

pub stops_text : (level : ℕ) (kind : TokenKind) → stops level kind ≡ true → is_text kind ≡ false
unfolding stops
stops_text level kind e = by (is_text kind) (both (not (is_text kind)) (no_suffix (suffix_of kind)) (both (not (is_text kind) && no_suffix (suffix_of kind)) (is_none_below level (infix_of kind)) e).0).0
  where
    by : (b : Bool) → not b ≡ true → b ≡ false
    by true e = absurd cc
    by false e = refl

pub stops_suffix : (level : ℕ) (kind : TokenKind) → stops level kind ≡ true → suffix_of kind ≡ None
unfolding stops
stops_suffix level kind e = by (suffix_of kind) (both (not (is_text kind)) (no_suffix (suffix_of kind)) (both (not (is_text kind) && no_suffix (suffix_of kind)) (is_none_below level (infix_of kind)) e).0).1
  where
    by : (o : Option Suffix) → no_suffix o ≡ true → o ≡ None
    by None e = refl
    by (Some kind) e = absurd cc

pub stops_below : (level : ℕ) (kind : TokenKind) → stops level kind ≡ true → is_none_below level (infix_of kind) ≡ true
unfolding stops
stops_below level kind e = (both (not (is_text kind) && no_suffix (suffix_of kind)) (is_none_below level (infix_of kind)) e).1

-- tokens that stop every level
pub data IsEnd : TokenKind → Type 0 where
  paren : IsEnd (k.Punct p.CloseParen)
  bracket : IsEnd (k.Punct p.CloseBracket)
  brace : IsEnd (k.Punct p.CloseBrace)
  colon : IsEnd (k.Punct p.Colon)
  semicolon : IsEnd (k.Punct p.Semicolon)

pub stops_end : {end : TokenKind} (level : ℕ) (kind : TokenKind) → IsEnd end → kind ≡ end → stops level kind ≡ true
unfolding stops
stops_end level kind paren e = rw e refl
stops_end level kind bracket e = rw e refl
stops_end level kind brace e = rw e refl
stops_end level kind colon e = rw e refl
stops_end level kind semicolon e = rw e refl

pub stops_comma : (level : ℕ) (kind : TokenKind) → 1 ≤ level → kind ≡ k.Punct p.Comma → stops level kind ≡ true
stops_comma level kind h e = stops_infix level kind between.Comma (rw e refl) (omega arith)

pub step_no_text : (kind : TokenKind) (op : StepOperator) → step_of kind ≡ Some op → is_text kind ≡ false
step_no_text k.Text op e = absurd cc
step_no_text k.Word op e = refl
step_no_text (k.Key w) op e = refl
step_no_text (k.Number kind value) op e = refl
step_no_text (k.Char value) op e = refl
step_no_text (k.Punct p) op e = refl
step_no_text k.End op e = refl

-- the end is no operator
pub no_step : (kind : TokenKind) (op : StepOperator) → step_of kind ≡ step_of k.End → step_of kind ≡ Some op → ⊥
no_step kind op none some = cc
