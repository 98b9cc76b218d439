-- The readers are exact: Complete and Sound, in the words of specs/Exact.
use Rattle.std.proofs.Common.{◌≡◌, ℕ, ◌-◌, ◌<◌, true, Option, Some, None, Ok, refl, ap, subst, ◌∙◌, arith}
use Rattle.std.proofs.lemmas.Bool.Decides.{nat_tests}
use Rattle.lk_lex.specs.declared.token.TokenKind.{TokenKind}
use Rattle.lk_parse_expr.specs.declared.found.Found.{Found}
use Rattle.lk_parse_expr.specs.declared.front.Infix.{Infix}
use Rattle.lk_parse_expr.specs.Input.{Input, peek}
use Rattle.lk_parse_expr.specs.Front.{infix_of, infix_level}
use Rattle.lk_parse_expr.specs.Readers.{Outcome, found}
use Rattle.lk_parse_expr.specs.Exact.{EndsExpr, IsRead, IsSound}
use Rattle.lk_parse_expr.proofs.Steps.{Answers, fits, deep}
use Rattle.lk_parse_expr.proofs.Tables.{is_none_below, stops}
use Rattle.lk_parse_expr.proofs.Yielding.{Yields, Has}
use Rattle.lk_parse_decl.specs.Reading.{initialiser, declaration}
use Rattle.lk_parse_decl.specs.Exact.{InitialisersAreRead, OnlyInitialisersAreRead, DeclarationsAreRead, OnlyDeclarationsAreRead}
use Rattle.lk_parse_decl.proofs.Complete.{inits, declarations}
use Rattle.lk_parse_decl.proofs.Sound.{inits_have, declarations_have}

as_read : {A : Type 0} {m h : ℕ} {tree : A} {rest : Input} {o : Outcome (Found A)} → Answers m h tree rest o → IsRead m h tree rest o
as_read {m = m} {h} {tree} {rest} (fits room same is) = record {
  fits = λ within. let e : room ≡ m - h = omega arith in is ∙ ap (λ r. Ok (found tree r, rest)) e;
  deep = λ past. absurd (omega arith);
}
as_read (deep past i is) = record {
  fits = λ within. absurd (omega arith);
  deep = λ so. (i, is);
}

none_below : (level : ℕ) (op : Option Infix) → ((between : Infix) → op ≡ Some between → infix_level between < level) → is_none_below level op ≡ true
none_below level None looser = refl
none_below level (Some between) looser = let less : infix_level between < level = looser between refl in grind (arith, nat_tests)

stops_there : (level : ℕ) (kind : TokenKind) → EndsExpr level kind → stops level kind ≡ true
unfolding stops
stops_there level kind ends = let looser = none_below level (infix_of kind) ends.looser in rw (ends.no_text, ends.no_suffix, looser) refl

only_has : {A : Type 0} (m : ℕ) (Reads : ℕ → A → Input → Type 0) (o : Outcome (Found A)) → Yields (Has m Reads) o → IsSound m Reads o
only_has m Reads o yields one rest is = let has = subst (Yields (Has m Reads)) is yields in (has.depth, has.reads, has.all)

pub initialisers_are_read : InitialisersAreRead
initialisers_are_read m depth tree from rest is ends = as_read ((inits m).reads is (stops_there 1 (peek rest) ends))

pub only_initialisers_are_read : OnlyInitialisersAreRead
only_initialisers_are_read m from = only_has m _ (initialiser m from) ((inits_have m).has from)

pub declarations_are_read : DeclarationsAreRead
declarations_are_read m depth tree from rest is = as_read (declarations m is)

pub only_declarations_are_read : OnlyDeclarationsAreRead
only_declarations_are_read m from = only_has m _ (declaration m from) (declarations_have m from)
