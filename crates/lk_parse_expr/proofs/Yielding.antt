-- What is so of whatever a reader reads, and how such facts join over steps.
use Rattle.std.proofs.Common.{◌≡◌, ℕ, ◌+◌, ◌≤◌, nat_le, Bool, true, false, if◌then◌else◌, List, [], ◌∷◌, length, Ok, Err, refl, arith}
use Rattle.std.proofs.lemmas.Bool.Decides.{nat_tests}
use Rattle.lk_lex.specs.declared.token.Token.{Token}
use Rattle.lk_lex.specs.declared.token.TokenKind.TheVariants as k
use Rattle.lk_lex.specs.declared.punct.Punct.{Punct}
use Rattle.lk_lex.specs.declared.keyword.Keyword.{Keyword}
use Rattle.lk_parse_expr.specs.declared.found.Found.{Found}
use Rattle.lk_parse_expr.specs.Input.{Input, kind_of, peek, next, text}
use Rattle.lk_parse_expr.specs.Words.{is_word}
use Rattle.lk_parse_expr.specs.Readers.{Outcome, Parser, and_then, ◌>>◌, need, left, sees, sees_key, expect, expect_key, word}
use Rattle.lk_parse_expr.proofs.Steps.{seen, seen_key, word-same}

abbrev pub Yields : {A : Type 0} → (A → Input → Type 0) → Outcome A → Type 0
Yields P (Ok p) = P p.0 p.1
Yields P (Err e) = Unit {0}

pub and_yields : {A B : Type 0} (P : A → Input → Type 0) (Q : B → Input → Type 0) (o : Outcome A) (f : A → Parser B) → Yields P o
    → ((a : A) (mid : Input) → P a mid → Yields Q (f a mid)) → Yields Q (and_then o f)
and_yields P Q (Ok p) f first so = so p.0 p.1 first
and_yields P Q (Err e) f first so = tt

pub weaker : {A : Type 0} (P Q : A → Input → Type 0) (o : Outcome A) → ((a : A) (i : Input) → P a i → Q a i) → Yields P o → Yields Q o
weaker P Q (Ok p) so yes_ = so p.0 p.1 yes_
weaker P Q (Err e) so yes_ = tt

pub by_test : {A : Type 0} (Q : A → Input → Type 0) (b : Bool) (x y : Outcome A) → (b ≡ true → Yields Q x) → (b ≡ false → Yields Q y) → Yields Q (if b then x else y)
by_test Q true x y so other = so refl
by_test Q false x y so other = other refl

pub by_test_at : {A : Type 0} (Q : A → Input → Type 0) (b : Bool) (x y : Parser A) (i : Input) → (b ≡ true → Yields Q (x i)) → (b ≡ false → Yields Q (y i))
    → Yields Q ((if b then x else y) i)
by_test_at Q true x y i so other = so refl
by_test_at Q false x y i so other = other refl

pub after_need : {A : Type 0} (Q : A → Input → Type 0) (least room : ℕ) (i : Input) (q : Parser A) → (least ≤ room → Yields Q (q i)) → Yields Q ((need least room >> q) i)
unfolding need
after_need Q least room i q so = by (nat_le least room) refl
  where
    by : (b : Bool) → nat_le least room ≡ b → Yields Q ((need least room >> q) i)
    by true e = rw e (so (grind (arith, nat_tests)))
    by false e = rw e tt

pub after_expect : {A : Type 0} (Q : A → Input → Type 0) (p : Punct) (i : Input) (q : Parser A) → (peek i ≡ k.Punct p → Yields Q (q (next i))) → Yields Q ((expect p >> q) i)
unfolding expect
after_expect Q p i q so = by (sees p i) refl
  where
    by : (b : Bool) → sees p i ≡ b → Yields Q ((expect p >> q) i)
    by true e = rw e (so (seen p i e))
    by false e = rw e tt

pub after_key : {A : Type 0} (Q : A → Input → Type 0) (w : Keyword) (i : Input) (q : Parser A) → (peek i ≡ k.Key w → Yields Q (q (next i))) → Yields Q ((expect_key w >> q) i)
unfolding expect_key
after_key Q w i q so = by (sees_key w i) refl
  where
    by : (b : Bool) → sees_key w i ≡ b → Yields Q ((expect_key w >> q) i)
    by true e = rw e (so (seen_key w i e))
    by false e = rw e tt

pub after_word : {A : Type 0} (Q : A → Input → Type 0) (i : Input) (q : List ℕ → Parser A) → (peek i ≡ k.Word → Yields Q (q (text i) (next i))) → Yields Q (and_then (word i) q)
unfolding word
after_word Q i q so = by (is_word (peek i)) refl
  where
    by : (b : Bool) → is_word (peek i) ≡ b → Yields Q (and_then (word i) q)
    by true e = rw e (so (word-same (peek i) e))
    by false e = rw e tt

-- what was read is of this relation, and its depth and the levels above it are all levels
pub record Has {A : Type 0} (m : ℕ) (R : ℕ → A → Input → Type 0) (f : Found A) (rest : Input) : Type 0 where
  pub depth : ℕ
  pub reads : R depth f.tree rest
  pub all : depth + f.room ≡ m

end_of : (tokens : List Token) → length tokens ≤ 0 → kind_of tokens ≡ k.End
end_of [] none = refl
end_of (t ∷ ts) none = absurd (omega arith)

-- where no token is left the end is in front
pub at_end : (i : Input) → left i ≤ 0 → peek i ≡ k.End
unfolding left peek
at_end i none = end_of i.tokens none

-- a Bool that is not this one
pub other_bool : (b : Bool) → (b ≡ true → ⊥) → b ≡ false
other_bool true h = absurd (h refl)
other_bool false h = refl
