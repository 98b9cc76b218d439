-- What tokens mean in the grammar: operators with their levels, and the plain words among specifiers.
use Rattle.std.specs.Prelude.{ℕ, Bool, true, false, not, ◌&&◌, ◌||◌, Option, Some, None, is_some}
use Rattle.lk_lex.specs.declared.token.TokenKind.{TokenKind}
use Rattle.lk_lex.specs.declared.token.TokenKind.TheVariants as k
use Rattle.lk_lex.specs.declared.punct.Punct.TheVariants as p
use Rattle.lk_lex.specs.declared.keyword.Keyword.TheVariants as w
use Rattle.lk_tree.specs.declared.operators.BinaryOperator.{BinaryOperator}
use Rattle.lk_tree.specs.declared.operators.BinaryOperator.TheVariants as b
use Rattle.lk_tree.specs.declared.operators.AssignOperator.{AssignOperator}
use Rattle.lk_tree.specs.declared.operators.AssignOperator.TheVariants as a
use Rattle.lk_tree.specs.declared.operators.StepOperator.{StepOperator}
use Rattle.lk_tree.specs.declared.operators.StepOperator.TheVariants as s
use Rattle.lk_tree.specs.declared.operators.PrefixOperator.{PrefixOperator}
use Rattle.lk_tree.specs.declared.operators.PrefixOperator.TheVariants as u
use Rattle.lk_tree.specs.declared.specifiers.Storage.TheVariants as storage
use Rattle.lk_tree.specs.declared.specifiers.Qualifier.{Qualifier}
use Rattle.lk_tree.specs.declared.specifiers.Qualifier.TheVariants as qualifier
use Rattle.lk_tree.specs.declared.specifiers.TypeWord.TheVariants as type_word
use Rattle.lk_tree.specs.declared.expression.Specifier.{Specifier}
use Rattle.lk_tree.specs.declared.expression.Specifier.TheVariants as specifier
use Rattle.lk_parse_expr.specs.Input.{Input, peek, next, text, is_typedef}

-- the levels of expressions (C99 6.5), from the loosest: 0 expression, 1 assignment, 2 conditional, 3 to 12
-- binary, 13 cast, 14 unary, 15 postfix, 16 primary

-- how tightly a binary operator binds (C99 6.5.5 to 6.5.14)
abbrev pub level_of : BinaryOperator → ℕ
level_of b.Or = 3
level_of b.And = 4
level_of b.BitOr = 5
level_of b.BitXor = 6
level_of b.BitAnd = 7
level_of b.Equal = 8
level_of b.NotEqual = 8
level_of b.Less = 9
level_of b.Greater = 9
level_of b.LessEqual = 9
level_of b.GreaterEqual = 9
level_of b.ShiftLeft = 10
level_of b.ShiftRight = 10
level_of b.Add = 11
level_of b.Subtract = 11
level_of b.Multiply = 12
level_of b.Divide = 12
level_of b.Remainder = 12

-- the binary operator that a token is behind an operand
abbrev pub binary_of : TokenKind → Option BinaryOperator
binary_of (k.Punct p.BarBar) = Some b.Or
binary_of (k.Punct p.AndAnd) = Some b.And
binary_of (k.Punct p.Bar) = Some b.BitOr
binary_of (k.Punct p.Caret) = Some b.BitXor
binary_of (k.Punct p.Ampersand) = Some b.BitAnd
binary_of (k.Punct p.EqualEqual) = Some b.Equal
binary_of (k.Punct p.BangEqual) = Some b.NotEqual
binary_of (k.Punct p.Less) = Some b.Less
binary_of (k.Punct p.Greater) = Some b.Greater
binary_of (k.Punct p.LessEqual) = Some b.LessEqual
binary_of (k.Punct p.GreaterEqual) = Some b.GreaterEqual
binary_of (k.Punct p.ShiftLeft) = Some b.ShiftLeft
binary_of (k.Punct p.ShiftRight) = Some b.ShiftRight
binary_of (k.Punct p.Plus) = Some b.Add
binary_of (k.Punct p.Minus) = Some b.Subtract
binary_of (k.Punct p.Star) = Some b.Multiply
binary_of (k.Punct p.Slash) = Some b.Divide
binary_of (k.Punct p.Percent) = Some b.Remainder
binary_of _ = None

-- the operator of assignment that a token is (C99 6.5.16)
abbrev pub assign_of : TokenKind → Option AssignOperator
assign_of (k.Punct p.Equal) = Some a.Plain
assign_of (k.Punct p.StarEqual) = Some a.Multiply
assign_of (k.Punct p.SlashEqual) = Some a.Divide
assign_of (k.Punct p.PercentEqual) = Some a.Remainder
assign_of (k.Punct p.PlusEqual) = Some a.Add
assign_of (k.Punct p.MinusEqual) = Some a.Subtract
assign_of (k.Punct p.ShiftLeftEqual) = Some a.ShiftLeft
assign_of (k.Punct p.ShiftRightEqual) = Some a.ShiftRight
assign_of (k.Punct p.AmpersandEqual) = Some a.BitAnd
assign_of (k.Punct p.CaretEqual) = Some a.BitXor
assign_of (k.Punct p.BarEqual) = Some a.BitOr
assign_of _ = None

-- `++` and `--`
abbrev pub step_of : TokenKind → Option StepOperator
step_of (k.Punct p.PlusPlus) = Some s.Increment
step_of (k.Punct p.MinusMinus) = Some s.Decrement
step_of _ = None

-- the operator that a token is before an operand (C99 6.5.3.2, 6.5.3.3)
abbrev pub prefix_of : TokenKind → Option PrefixOperator
prefix_of (k.Punct p.Ampersand) = Some u.Address
prefix_of (k.Punct p.Star) = Some u.Indirection
prefix_of (k.Punct p.Plus) = Some u.Plus
prefix_of (k.Punct p.Minus) = Some u.Minus
prefix_of (k.Punct p.Tilde) = Some u.Complement
prefix_of (k.Punct p.Bang) = Some u.Not
prefix_of _ = None

-- a qualifier (C99 6.7.3)
abbrev pub qualifier_of : TokenKind → Option Qualifier
qualifier_of (k.Key w.Const) = Some qualifier.Const
qualifier_of (k.Key w.Volatile) = Some qualifier.Volatile
qualifier_of (k.Key w.Restrict) = Some qualifier.Restrict
qualifier_of _ = None

-- a keyword that is a specifier by itself (C99 6.7.1 to 6.7.4)
abbrev pub specifier_of : TokenKind → Option Specifier
specifier_of (k.Key w.Typedef) = Some (specifier.Storage storage.Typedef)
specifier_of (k.Key w.Extern) = Some (specifier.Storage storage.Extern)
specifier_of (k.Key w.Static) = Some (specifier.Storage storage.Static)
specifier_of (k.Key w.Auto) = Some (specifier.Storage storage.Auto)
specifier_of (k.Key w.Register) = Some (specifier.Storage storage.Register)
specifier_of (k.Key w.Inline) = Some specifier.Inline
specifier_of (k.Key w.Const) = Some (specifier.Qualifier qualifier.Const)
specifier_of (k.Key w.Volatile) = Some (specifier.Qualifier qualifier.Volatile)
specifier_of (k.Key w.Restrict) = Some (specifier.Qualifier qualifier.Restrict)
specifier_of (k.Key w.Void) = Some (specifier.Type type_word.Void)
specifier_of (k.Key w.Char) = Some (specifier.Type type_word.Char)
specifier_of (k.Key w.Short) = Some (specifier.Type type_word.Short)
specifier_of (k.Key w.Int) = Some (specifier.Type type_word.Int)
specifier_of (k.Key w.Long) = Some (specifier.Type type_word.Long)
specifier_of (k.Key w.Signed) = Some (specifier.Type type_word.Signed)
specifier_of (k.Key w.Unsigned) = Some (specifier.Type type_word.Unsigned)
specifier_of (k.Key w.Bool) = Some (specifier.Type type_word.Bool)
specifier_of _ = None

-- whether a keyword that is a specifier by itself is a word of a type
abbrev pub is_type_word : TokenKind → Bool
is_type_word (k.Key w.Void) = true
is_type_word (k.Key w.Char) = true
is_type_word (k.Key w.Short) = true
is_type_word (k.Key w.Int) = true
is_type_word (k.Key w.Long) = true
is_type_word (k.Key w.Signed) = true
is_type_word (k.Key w.Unsigned) = true
is_type_word (k.Key w.Bool) = true
is_type_word _ = false

-- whether a token that is no name begins a specifier
abbrev pub is_specifier_word : TokenKind → Bool
is_specifier_word (k.Key w.Struct) = true
is_specifier_word (k.Key w.Enum) = true
is_specifier_word kind = is_some (specifier_of kind)

abbrev pub is_word : TokenKind → Bool
is_word k.Word = true
is_word _ = false

-- whether a specifier is in front, where typed says that a type came before it: a typedef name
-- is a type only where none did
unfoldable pub continues_specifiers : Bool → Input → Bool
continues_specifiers typed i =
    is_specifier_word (peek i) || ((is_word (peek i) && not typed) && is_typedef i.names (text i))

-- whether specifiers begin
abbrev pub begins_specifiers : Input → Bool
begins_specifiers i = continues_specifiers false i

abbrev pub is_open_paren : TokenKind → Bool
is_open_paren (k.Punct p.OpenParen) = true
is_open_paren _ = false

abbrev pub is_close_paren : TokenKind → Bool
is_close_paren (k.Punct p.CloseParen) = true
is_close_paren _ = false

abbrev pub is_open_brace : TokenKind → Bool
is_open_brace (k.Punct p.OpenBrace) = true
is_open_brace _ = false

abbrev pub is_close_brace : TokenKind → Bool
is_close_brace (k.Punct p.CloseBrace) = true
is_close_brace _ = false

-- whether a `(` is in front that opens a type name
abbrev pub opens_type_name : Input → Bool
opens_type_name i = is_open_paren (peek i) && begins_specifiers (next i)

-- whether the `(` before this opens parameters, in a declarator that may be without a name
abbrev pub opens_parameters : Input → Bool
opens_parameters i = is_close_paren (peek i) || begins_specifiers i

-- the keyword `typedef`
abbrev pub is_typedef_word : TokenKind → Bool
is_typedef_word (k.Key w.Typedef) = true
is_typedef_word _ = false
