-- One more token taken.
use Rattle.std.proofs.Common.{◌≡◌, ℕ, zero, suc, ◌+◌, List, [], ◌∷◌, drop, refl, ap, ◌∙◌, arith}
use Rattle.lk_lex.specs.declared.token.Token.{Token}
use Rattle.lk_parse_expr.specs.Input.{Names, next}

drop_suc : {A : Type 0} (n : ℕ) (list : List A) → drop 1 (drop n list) ≡ drop (suc n) list
drop_suc zero list = refl
drop_suc (suc n) [] = refl
drop_suc (suc n) (x ∷ xs) = drop_suc n xs

pub drop_one : {A : Type 0} (n : ℕ) (list : List A) → drop 1 (drop n list) ≡ drop (n + 1) list
drop_one n list = let e : suc n ≡ n + 1 = omega arith in drop_suc n list ∙ ap (λ k. drop k list) e

-- the input behind the next token, and the token behind that
pub next_taken : (source : List ℕ) (tokens : List Token) (names : Names) (n : ℕ)
    → next (record { source = source; tokens = drop n tokens; names = names }) ≡ record { source = source; tokens = drop (n + 1) tokens; names = names }
unfolding next
next_taken source tokens names n = ap (λ t. record { source = source; tokens = t; names = names }) (drop_one n tokens)
