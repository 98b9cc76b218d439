-- A recursion on a count of turns, beside a loop that counts up.
use Rattle.std.proofs.Common.{◌≡◌, ℕ, suc, ◌+◌, ◌-◌, ◌<◌, ◌≤◌, Bool, true, false, List, Ok, Err, refl, ap, ◌∙◌, arith}
use Rattle.lk_base.specs.declared.fault.Fault.{Fault}
use Rattle.lk_lex.specs.declared.token.TokenKind.{TokenKind}
use Rattle.lk_parse_expr.specs.declared.found.Found.{Found}
use Rattle.lk_parse_expr.specs.Input.{Input, next}
use Rattle.lk_parse_expr.specs.Readers.{Parser, Outcome, joined, goes_on, separated_from, repeat_from, syntax_at}

pub one_more : {X : Type 0} {x : X} (f : ℕ → X) (n at : ℕ) → at < n → x ≡ f (n - at) → x ≡ f (suc (n - (at + 1)))
one_more f n at below e = let turn : n - at ≡ suc (n - (at + 1)) = omega arith in e ∙ ap f turn

pub no_more : {X : Type 0} {x : X} (f : ℕ → X) (n at : ℕ) → n ≤ at → x ≡ f (n - at) → x ≡ f 0
no_more f n at over e = let none : n - at ≡ 0 = omega arith in e ∙ ap f none

-- the turns of a list with commas, which goes on from `at` of `n` turns
module _ {A : Type 0} (ends : TokenKind → Bool) (item : Parser (Found A)) {x : Outcome (Found (List A))} (n at : ℕ) (before : Found (List A)) (i : Input) (so : x ≡ separated_from ends item (n - at) before i) where
  pub separated_fault : at < n → (e : Fault) → item i ≡ Err e → x ≡ Err e
  unfolding separated_from
  separated_fault more e is = one_more (λ n. separated_from ends item n before i) n at more so ∙ rw is refl

  pub separated_last : at < n → (one : Found A) (j : Input) → item i ≡ Ok (one, j) → goes_on ends j ≡ false → x ≡ Ok (joined before one, j)
  unfolding separated_from
  separated_last more one j is stop = one_more (λ n. separated_from ends item n before i) n at more so ∙ rw (is, stop) refl

  pub separated_again : at < n → (one : Found A) (j : Input) → item i ≡ Ok (one, j) → goes_on ends j ≡ true → x ≡ separated_from ends item (n - (at + 1)) (joined before one) (next j)
  unfolding separated_from
  separated_again more one j is on = one_more (λ n. separated_from ends item n before i) n at more so ∙ rw (is, on) refl

  pub separated_end : n ≤ at → x ≡ Err (syntax_at i)
  unfolding separated_from
  separated_end over = no_more (λ n. separated_from ends item n before i) n at over so

-- the turns of a list up to what stops it
module _ {A : Type 0} (stops : Input → Bool) (item : Parser (Found A)) {x : Outcome (Found (List A))} (n at : ℕ) (before : Found (List A)) (i : Input) (so : x ≡ repeat_from stops item (n - at) before i) where
  pub repeat_stop : at < n → stops i ≡ true → x ≡ Ok (before, i)
  unfolding repeat_from
  repeat_stop more stop = one_more (λ n. repeat_from stops item n before i) n at more so ∙ rw stop refl

  pub repeat_fault : at < n → stops i ≡ false → (e : Fault) → item i ≡ Err e → x ≡ Err e
  unfolding repeat_from
  repeat_fault more on e is = one_more (λ n. repeat_from stops item n before i) n at more so ∙ rw (on, is) refl

  pub repeat_again : at < n → stops i ≡ false → (one : Found A) (j : Input) → item i ≡ Ok (one, j) → x ≡ repeat_from stops item (n - (at + 1)) (joined before one) j
  unfolding repeat_from
  repeat_again more on one j is = one_more (λ n. repeat_from stops item n before i) n at more so ∙ rw (on, is) refl

  pub repeat_end : n ≤ at → x ≡ Ok (before, i)
  unfolding repeat_from
  repeat_end over = no_more (λ n. repeat_from stops item n before i) n at over so
