-- What the readers answer, by the grammar: each tree of a form behind which nothing goes on with it is read
-- where it is not too deep, and what is read is a tree of the form.
use Rattle.std.specs.Prelude.{◌≡◌, ℕ, ◌+◌, ◌-◌, ◌<◌, ◌≤◌, false, None, Some, Ok, Err}
use Rattle.lk_lex.specs.declared.token.TokenKind.{TokenKind}
use Rattle.lk_lex.specs.declared.token.TokenKind.TheVariants as k
use Rattle.lk_lex.specs.declared.punct.Punct.TheVariants as p
use Rattle.lk_tree.specs.declared.expression.Expr.{Expr}
use Rattle.lk_tree.specs.declared.expression.TypeName.{TypeName}
use Rattle.lk_tree.specs.declared.expression.Declarator.{Declarator}
use Rattle.lk_parse_expr.specs.declared.found.Found.{Found}
use Rattle.lk_parse_expr.specs.declared.front.Infix.{Infix}
use Rattle.lk_parse_expr.specs.declared.naming.Naming.{Naming}
use Rattle.lk_parse_expr.specs.declared.naming.Head.{Head}
use Rattle.lk_parse_expr.specs.Input.{Input, peek}
use Rattle.lk_parse_expr.specs.Words.{is_word}
use Rattle.lk_parse_expr.specs.Front.{suffix_of, infix_of, infix_level}
use Rattle.lk_parse_expr.specs.Readers.{Outcome, too_deep_at, found, is_punct}
use Rattle.lk_parse_expr.specs.Reading.{is_text, readers}
use Rattle.lk_parse_expr.specs.Grammar.{ReadsExpr, ReadsTypeName, ReadsDeclarator}

-- a token that goes on with no expression of this level (C99 6.5)
pub record EndsExpr (level : ℕ) (kind : TokenKind) : Type 0 where
  pub no_text : is_text kind ≡ false
  pub no_suffix : suffix_of kind ≡ None
  pub looser : (between : Infix) → infix_of kind ≡ Some between → infix_level between < level

-- a token that goes on with no declarator and begins none (C99 6.7.5)
pub record EndsDeclarator (kind : TokenKind) : Type 0 where
  pub no_star : is_punct p.Star kind ≡ false
  pub no_parenthesis : is_punct p.OpenParen kind ≡ false
  pub no_bracket : is_punct p.OpenBracket kind ≡ false
  pub no_name : is_word kind ≡ false

-- a tree of this depth is the answer of a reader with m levels, with the levels that it leaves; where it is
-- deeper, the answer is that only trees that are too deep go on
pub record IsRead {A : Type 0} (m depth : ℕ) (tree : A) (rest : Input)
    (outcome : Outcome (Found A)) : Type 0 where
  pub fits : depth ≤ m → outcome ≡ Ok (found tree (m - depth), rest)
  pub deep : m < depth → (i : Input) × outcome ≡ Err (too_deep_at i)

-- what a reader with m levels answers is a tree of the form, as deep as the levels that it took
abbrev pub IsSound : {A : Type 0} → ℕ → (ℕ → A → Input → Type 0) → Outcome (Found A) → Type 0
IsSound {A} m Reads outcome = (one : Found A) (rest : Input) → outcome ≡ Ok (one, rest) →
    (depth : ℕ) × Reads depth one.tree rest × depth + one.room ≡ m

abbrev pub ExprsAreRead : Type 0
ExprsAreRead = (m level depth : ℕ) (tree : Expr) (from rest : Input) → ReadsExpr level depth tree from rest →
    EndsExpr level (peek rest) → IsRead m depth tree rest ((readers m).expr level from)

abbrev pub OnlyExprsAreRead : Type 0
OnlyExprsAreRead = (m level : ℕ) (from : Input) → level ≤ 14 →
    IsSound m (λ depth tree rest. ReadsExpr level depth tree from rest) ((readers m).expr level from)

-- a type name stands before a `)`
abbrev pub TypeNamesAreRead : Type 0
TypeNamesAreRead = (m depth : ℕ) (tree : TypeName) (from rest : Input) → ReadsTypeName depth tree from rest →
    peek rest ≡ k.Punct p.CloseParen → IsRead m depth tree rest ((readers m).type_name from)

abbrev pub OnlyTypeNamesAreRead : Type 0
OnlyTypeNamesAreRead =
    (m : ℕ) (from : Input) →
    IsSound m (λ depth tree rest. ReadsTypeName depth tree from rest) ((readers m).type_name from)

abbrev pub DeclaratorsAreRead : Type 0
DeclaratorsAreRead = (m depth : ℕ) (naming : Naming) (tree : Declarator) (head : Head) (from rest : Input) →
    ReadsDeclarator naming 0 depth tree head from rest → EndsDeclarator (peek rest) →
    IsRead m depth (tree, head) rest ((readers m).declarator naming from)

abbrev pub OnlyDeclaratorsAreRead : Type 0
OnlyDeclaratorsAreRead = (m : ℕ) (naming : Naming) (from : Input) →
    IsSound m (λ depth one rest. ReadsDeclarator naming 0 depth one.0 one.1 from rest)
    ((readers m).declarator naming from)
