-- Which tokens the tables tell of.
use Rattle.std.proofs.Common.{◌≡◌, ℕ, ℤ, true, Some, refl}
use Rattle.lk_base.specs.declared.kind.Kind.{Kind}
use Rattle.lk_lex.specs.declared.token.TokenKind.{TokenKind}
use Rattle.lk_lex.specs.declared.token.TokenKind.TheVariants as k
use Rattle.lk_lex.specs.declared.punct.Punct.TheVariants as p
use Rattle.lk_lex.specs.declared.keyword.Keyword.TheVariants as w
use Rattle.lk_tree.specs.declared.operators.BinaryOperator.{BinaryOperator}
use Rattle.lk_tree.specs.declared.operators.AssignOperator.{AssignOperator}
use Rattle.lk_tree.specs.declared.operators.StepOperator.{StepOperator}
use Rattle.lk_tree.specs.declared.operators.PrefixOperator.{PrefixOperator}
use Rattle.lk_parse_expr.specs.declared.front.Start.TheVariants as start
use Rattle.lk_parse_expr.specs.declared.front.Suffix.TheVariants as suffix
use Rattle.lk_parse_expr.specs.declared.front.Infix.TheVariants as between
use Rattle.lk_parse_expr.specs.Words.{binary_of, assign_of, step_of, prefix_of}
use Rattle.lk_parse_expr.specs.Front.{start_of, suffix_of, infix_of}
use Rattle.lk_parse_expr.specs.Reading.{is_text}

pub of_word : (kind : TokenKind) → start_of kind ≡ start.Word → kind ≡ k.Word
of_word k.Word e = refl
of_word (k.Punct p.OpenParen) e = absurd cc
of_word (k.Key w.Sizeof) e = absurd cc
of_word _ e = absurd cc

pub of_number : (kind : TokenKind) (a : Kind) (b : ℕ) → start_of kind ≡ start.Number a b → kind ≡ k.Number a b
of_number (k.Number c d) a b e = cc
of_number (k.Punct p.OpenParen) a b e = absurd cc
of_number (k.Key w.Sizeof) a b e = absurd cc
of_number _ a b e = absurd cc

pub of_char : (kind : TokenKind) (a : ℤ) → start_of kind ≡ start.Char a → kind ≡ k.Char a
of_char (k.Char c) a e = cc
of_char (k.Punct p.OpenParen) a e = absurd cc
of_char (k.Key w.Sizeof) a e = absurd cc
of_char _ a e = absurd cc

pub of_text : (kind : TokenKind) → start_of kind ≡ start.Text → kind ≡ k.Text
of_text k.Text e = refl
of_text (k.Punct p.OpenParen) e = absurd cc
of_text (k.Key w.Sizeof) e = absurd cc
of_text _ e = absurd cc

pub of_open : (kind : TokenKind) → start_of kind ≡ start.Open → kind ≡ k.Punct p.OpenParen
of_open (k.Punct p.OpenParen) e = refl
of_open (k.Key w.Sizeof) e = absurd cc
of_open _ e = absurd cc

pub of_sizeof : (kind : TokenKind) → start_of kind ≡ start.Sizeof → kind ≡ k.Key w.Sizeof
of_sizeof (k.Key w.Sizeof) e = refl
of_sizeof (k.Punct p.OpenParen) e = absurd cc
of_sizeof _ e = absurd cc

pub of_step : (kind : TokenKind) (op : StepOperator) → start_of kind ≡ start.Step op → step_of kind ≡ Some op
of_step (k.Punct p.PlusPlus) op e = cc
of_step (k.Punct p.MinusMinus) op e = cc
of_step (k.Key w.Sizeof) op e = absurd cc
of_step _ op e = absurd cc

pub of_prefix : (kind : TokenKind) (op : PrefixOperator) → start_of kind ≡ start.Prefix op → prefix_of kind ≡ Some op
of_prefix (k.Punct p.Ampersand) op e = cc
of_prefix (k.Punct p.Star) op e = cc
of_prefix (k.Punct p.Plus) op e = cc
of_prefix (k.Punct p.Minus) op e = cc
of_prefix (k.Punct p.Tilde) op e = cc
of_prefix (k.Punct p.Bang) op e = cc
of_prefix (k.Key w.Sizeof) op e = absurd cc
of_prefix _ op e = absurd cc

pub of_index : (kind : TokenKind) → suffix_of kind ≡ Some suffix.Index → kind ≡ k.Punct p.OpenBracket
of_index (k.Punct p.OpenBracket) e = refl
of_index _ e = absurd cc

pub of_call : (kind : TokenKind) → suffix_of kind ≡ Some suffix.Call → kind ≡ k.Punct p.OpenParen
of_call (k.Punct p.OpenParen) e = refl
of_call _ e = absurd cc

pub of_member : (kind : TokenKind) → suffix_of kind ≡ Some suffix.Member → kind ≡ k.Punct p.Dot
of_member (k.Punct p.Dot) e = refl
of_member _ e = absurd cc

pub of_arrow : (kind : TokenKind) → suffix_of kind ≡ Some suffix.Arrow → kind ≡ k.Punct p.Arrow
of_arrow (k.Punct p.Arrow) e = refl
of_arrow _ e = absurd cc

pub of_post : (kind : TokenKind) (op : StepOperator) → suffix_of kind ≡ Some (suffix.Post op) → step_of kind ≡ Some op
of_post (k.Punct p.PlusPlus) op e = cc
of_post (k.Punct p.MinusMinus) op e = cc
of_post _ op e = absurd cc

pub of_comma : (kind : TokenKind) → infix_of kind ≡ Some between.Comma → kind ≡ k.Punct p.Comma
of_comma (k.Punct p.Comma) e = refl
of_comma _ e = absurd cc

pub of_choice : (kind : TokenKind) → infix_of kind ≡ Some between.Choice → kind ≡ k.Punct p.Question
of_choice (k.Punct p.Question) e = refl
of_choice _ e = absurd cc

pub of_assign : (kind : TokenKind) (op : AssignOperator) → infix_of kind ≡ Some (between.Assign op) → assign_of kind ≡ Some op
of_assign (k.Punct p.Comma) op e = absurd cc
of_assign (k.Punct p.Question) op e = absurd cc
of_assign kind op e = cc

pub of_binary : (kind : TokenKind) (op : BinaryOperator) → infix_of kind ≡ Some (between.Binary op) → binary_of kind ≡ Some op
of_binary (k.Punct p.Comma) op e = absurd cc
of_binary (k.Punct p.Question) op e = absurd cc
of_binary kind op e = cc

pub texts_there : (kind : TokenKind) → is_text kind ≡ true → kind ≡ k.Text
texts_there k.Text e = refl
texts_there k.Word e = absurd cc
texts_there (k.Key w) e = absurd cc
texts_there (k.Number a b) e = absurd cc
texts_there (k.Char a) e = absurd cc
texts_there (k.Punct p) e = absurd cc
texts_there k.End e = absurd cc
