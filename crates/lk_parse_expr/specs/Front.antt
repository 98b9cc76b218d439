-- What a token is, where an expression is read.
use Rattle.std.specs.Prelude.{ℕ, Bool, true, false, Option, Some, None}
use Rattle.lk_lex.specs.declared.token.TokenKind.{TokenKind}
use Rattle.lk_lex.specs.declared.token.TokenKind.TheVariants as k
use Rattle.lk_lex.specs.declared.punct.Punct.TheVariants as p
use Rattle.lk_lex.specs.declared.keyword.Keyword.TheVariants as w
use Rattle.lk_tree.specs.declared.operators.AssignOperator.{AssignOperator}
use Rattle.lk_tree.specs.declared.operators.BinaryOperator.{BinaryOperator}
use Rattle.lk_tree.specs.declared.operators.StepOperator.TheVariants as step
use Rattle.lk_tree.specs.declared.operators.PrefixOperator.TheVariants as prefix
use Rattle.lk_parse_expr.specs.declared.front.Start.{Start}
use Rattle.lk_parse_expr.specs.declared.front.Start.TheVariants as start
use Rattle.lk_parse_expr.specs.declared.front.Suffix.{Suffix}
use Rattle.lk_parse_expr.specs.declared.front.Suffix.TheVariants as suffix
use Rattle.lk_parse_expr.specs.declared.front.Infix.{Infix}
use Rattle.lk_parse_expr.specs.declared.front.Infix.TheVariants as infix_
use Rattle.lk_parse_expr.specs.Words.{level_of, binary_of, assign_of}

abbrev pub start_of : TokenKind → Start
start_of k.Word = start.Word
start_of (k.Number kind value) = start.Number kind value
start_of (k.Char value) = start.Char value
start_of k.Text = start.Text
start_of (k.Punct p.OpenParen) = start.Open
start_of (k.Punct p.PlusPlus) = start.Step step.Increment
start_of (k.Punct p.MinusMinus) = start.Step step.Decrement
start_of (k.Punct p.Ampersand) = start.Prefix prefix.Address
start_of (k.Punct p.Star) = start.Prefix prefix.Indirection
start_of (k.Punct p.Plus) = start.Prefix prefix.Plus
start_of (k.Punct p.Minus) = start.Prefix prefix.Minus
start_of (k.Punct p.Tilde) = start.Prefix prefix.Complement
start_of (k.Punct p.Bang) = start.Prefix prefix.Not
start_of (k.Key w.Sizeof) = start.Sizeof
start_of _ = start.Nothing

abbrev pub is_start : Start → Bool
is_start start.Word = true
is_start (start.Number kind value) = true
is_start (start.Char value) = true
is_start start.Text = true
is_start start.Open = true
is_start (start.Step op) = true
is_start (start.Prefix op) = true
is_start start.Sizeof = true
is_start start.Nothing = false

abbrev pub suffix_of : TokenKind → Option Suffix
suffix_of (k.Punct p.OpenBracket) = Some suffix.Index
suffix_of (k.Punct p.OpenParen) = Some suffix.Call
suffix_of (k.Punct p.Dot) = Some suffix.Member
suffix_of (k.Punct p.Arrow) = Some suffix.Arrow
suffix_of (k.Punct p.PlusPlus) = Some (suffix.Post step.Increment)
suffix_of (k.Punct p.MinusMinus) = Some (suffix.Post step.Decrement)
suffix_of _ = None

abbrev pub infix_by : Option BinaryOperator → Option AssignOperator → Option Infix
infix_by (Some op) assigned = Some (infix_.Binary op)
infix_by None (Some op) = Some (infix_.Assign op)
infix_by None None = None

abbrev pub infix_of : TokenKind → Option Infix
infix_of (k.Punct p.Comma) = Some infix_.Comma
infix_of (k.Punct p.Question) = Some infix_.Choice
infix_of kind = infix_by (binary_of kind) (assign_of kind)

-- how tightly what stands between two operands binds
abbrev pub infix_level : Infix → ℕ
infix_level infix_.Comma = 0
infix_level (infix_.Assign op) = 1
infix_level infix_.Choice = 2
infix_level (infix_.Binary op) = level_of op
