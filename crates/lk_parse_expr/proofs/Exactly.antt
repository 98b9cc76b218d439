-- The readers are exact: Complete and Sounds, in the words of specs/Exact.
use Rattle.std.proofs.Common.{◌≡◌, ℕ, ◌-◌, ◌<◌, true, Option, Some, None, Ok, refl, ap, subst, ◌∙◌, arith}
use Rattle.std.proofs.lemmas.Bool.Decides.{nat_tests}
use Rattle.lk_lex.specs.declared.token.TokenKind.{TokenKind}
use Rattle.lk_parse_expr.specs.declared.found.Found.{Found}
use Rattle.lk_parse_expr.specs.declared.front.Infix.{Infix}
use Rattle.lk_parse_expr.specs.Input.{Input, peek}
use Rattle.lk_parse_expr.specs.Front.{infix_of, infix_level}
use Rattle.lk_parse_expr.specs.Readers.{Outcome, found}
use Rattle.lk_parse_expr.specs.Reading.{readers}
use Rattle.lk_parse_expr.specs.Exact.{EndsExpr, EndsDeclarator, IsRead, IsSound, ExprsAreRead, OnlyExprsAreRead, TypeNamesAreRead, OnlyTypeNamesAreRead, DeclaratorsAreRead, OnlyDeclaratorsAreRead}
use Rattle.lk_parse_expr.proofs.Steps.{Answers, fits, deep}
use Rattle.lk_parse_expr.proofs.Tables.{is_none_below, stops}
use Rattle.lk_parse_expr.proofs.Yielding.{Yields, Has}
use Rattle.lk_parse_expr.proofs.Good.{ends_declarator}
use Rattle.lk_parse_expr.proofs.Complete.{complete}
use Rattle.lk_parse_expr.proofs.Sound.{HasExpr}
use Rattle.lk_parse_expr.proofs.Sounds.{sounds}

as_read : {A : Type 0} {m h : ℕ} {tree : A} {rest : Input} {o : Outcome (Found A)} → Answers m h tree rest o → IsRead m h tree rest o
as_read {m = m} {h} {tree} {rest} (fits room same is) = record {
  fits = λ within. let e : room ≡ m - h = omega arith in is ∙ ap (λ r. Ok (found tree r, rest)) e;
  deep = λ past. absurd (omega arith);
}
as_read (deep past i is) = record {
  fits = λ within. absurd (omega arith);
  deep = λ so. (i, is);
}

none_below : (level : ℕ) (op : Option Infix) → ((between : Infix) → op ≡ Some between → infix_level between < level) → is_none_below level op ≡ true
none_below level None looser = refl
none_below level (Some between) looser = let less : infix_level between < level = looser between refl in grind (arith, nat_tests)

stops_there : (level : ℕ) (kind : TokenKind) → EndsExpr level kind → stops level kind ≡ true
unfolding stops
stops_there level kind ends = let looser = none_below level (infix_of kind) ends.looser in rw (ends.no_text, ends.no_suffix, looser) refl

ends_there : (kind : TokenKind) → EndsDeclarator kind → ends_declarator kind ≡ true
ends_there kind ends = rw (ends.no_star, ends.no_parenthesis, ends.no_name, ends.no_bracket) refl

pub exprs_are_read : ExprsAreRead
exprs_are_read m level depth tree from rest is ends = as_read ((complete m).expr is (stops_there level (peek rest) ends))

pub type_names_are_read : TypeNamesAreRead
type_names_are_read m depth tree from rest is close = as_read ((complete m).type_name is close)

pub declarators_are_read : DeclaratorsAreRead
declarators_are_read m depth naming tree head from rest is ends = as_read ((complete m).declarator is (ends_there (peek rest) ends))

only_has : {A : Type 0} (m : ℕ) (Reads : ℕ → A → Input → Type 0) (o : Outcome (Found A)) → Yields (Has m Reads) o → IsSound m Reads o
only_has m Reads o yields one rest is = let has = subst (Yields (Has m Reads)) is yields in (has.depth, has.reads, has.all)

pub only_exprs_are_read : OnlyExprsAreRead
only_exprs_are_read m level from small one rest is = let has = subst (Yields (HasExpr m level from)) is ((sounds m).expr level from small) in (has.depth, has.reads, has.all)

pub only_type_names_are_read : OnlyTypeNamesAreRead
only_type_names_are_read m from = only_has m _ ((readers m).type_name from) ((sounds m).type_name from)

pub only_declarators_are_read : OnlyDeclaratorsAreRead
only_declarators_are_read m naming from = only_has m _ ((readers m).declarator naming from) ((sounds m).declarator naming from)
