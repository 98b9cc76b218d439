-- What is asked of the readers of the nodes inside a node.
use Rattle.std.proofs.Common.{◌≡◌, ℕ, Bool, true, ◌||◌, not}
use Rattle.lk_lex.specs.declared.token.TokenKind.{TokenKind}
use Rattle.lk_lex.specs.declared.token.TokenKind.TheVariants as k
use Rattle.lk_lex.specs.declared.punct.Punct.TheVariants as p
use Rattle.lk_tree.specs.declared.expression.Expr.{Expr}
use Rattle.lk_tree.specs.declared.expression.TypeName.{TypeName}
use Rattle.lk_tree.specs.declared.expression.Member.{Member}
use Rattle.lk_tree.specs.declared.expression.Item.{Item}
use Rattle.lk_tree.specs.declared.expression.Declarator.{Declarator}
use Rattle.lk_parse_expr.specs.declared.naming.Naming.{Naming}
use Rattle.lk_parse_expr.specs.declared.naming.Head.{Head}
use Rattle.lk_parse_expr.specs.Input.{Input, peek}
use Rattle.lk_parse_expr.specs.Words.{is_word}
use Rattle.lk_parse_expr.specs.Readers.{is_punct}
use Rattle.lk_parse_expr.specs.Grammar.{ReadsExpr, ReadsTypeName, ReadsMember, ReadsItem, ReadsDeclarator}
use Rattle.lk_parse_expr.specs.Reading.{Readers}
use Rattle.lk_parse_expr.proofs.Steps.{Answers}
use Rattle.lk_parse_expr.proofs.Tables.{stops}

-- a token that goes on with no declarator and begins none
abbrev pub ends_declarator : TokenKind → Bool
ends_declarator kind = not ((is_punct p.Star kind || is_punct p.OpenParen kind) || (is_word kind || is_punct p.OpenBracket kind))

-- they read each tree of their form, of whatever depth
pub record Good (m : ℕ) (below : Readers) : Type 0 where
  pub expr : {level h : ℕ} {e : Expr} {from rest : Input} → ReadsExpr level h e from rest → stops level (peek rest) ≡ true → Answers m h e rest (below.expr level from)
  pub type_name : {h : ℕ} {name : TypeName} {from rest : Input} → ReadsTypeName h name from rest → peek rest ≡ k.Punct p.CloseParen → Answers m h name rest (below.type_name from)
  pub declarator : {n : Naming} {h : ℕ} {one : Declarator} {head : Head} {from rest : Input} → ReadsDeclarator n 0 h one head from rest → ends_declarator (peek rest) ≡ true
      → Answers m h (one, head) rest (below.declarator n from)
  pub member : {h : ℕ} {one : Member} {from rest : Input} → ReadsMember h one from rest → Answers m h one rest (below.member from)
  pub item : {h : ℕ} {one : Item} {from rest : Input} → ReadsItem h one from rest → stops 1 (peek rest) ≡ true → Answers m h one rest (below.item from)
