-- A loop over what goes on behind an operand: where it stands when the operand so far was read.
use Rattle.std.proofs.Common.{◌≡◌, ℕ, zero, suc, ◌+◌, ◌-◌, ◌<◌, ◌≤◌, nat_le, true, Ok, Err, refl, ap, ◌∙◌, arith}
use Rattle.std.proofs.lemmas.Bool.Decides.{nat_tests}
use Rattle.lk_parse_expr.specs.declared.found.Found.{Found}
use Rattle.lk_parse_expr.specs.Input.{Input, next}
use Rattle.lk_parse_expr.specs.Readers.{Outcome, Parser, and_then, ◌>>◌, ◌>>=◌, too_deep_at, found, need, take, left}
use Rattle.lk_parse_expr.proofs.Steps.{Answers, fits, deep}

pub data Reaches {A : Type 0} (m h : ℕ) (tree : A) (rest : Input) (loop : ℕ → Found A → Parser (Found A)) (whole : Outcome (Found A)) : Type 0 where
  arrives : (room n : ℕ) → h + room ≡ suc m → left rest ≤ n → whole ≡ loop n (found tree room) rest → Reaches m h tree rest loop whole
  too_deep : suc m < h → (i : Input) → whole ≡ Err (too_deep_at i) → Reaches m h tree rest loop whole

-- the loop begins behind the first operand
pub begins : {A : Type 0} {m h : ℕ} {tree : A} {rest : Input} {o : Outcome (Found A)} (loop : ℕ → Found A → Parser (Found A)) → Answers (suc m) h tree rest o
    → Reaches m h tree rest loop (and_then o (λ before. λ i. loop (left i) before i))
begins loop (fits room same is) = arrives room (left _) same (omega arith) (ap (λ o. and_then o (λ before. λ i. loop (left i) before i)) is)
begins loop (deep past i is) = too_deep past i (ap (λ o. and_then o (λ before. λ i. loop (left i) before i)) is)

needed : (r : ℕ) (i : Input) → need 1 (suc r) i ≡ Ok (tt, i)
unfolding need
needed r i = let some : nat_le 1 (suc r) ≡ true = grind (arith, nat_tests) in rw some refl

-- one turn
pub goes : {A : Type 0} {m g h : ℕ} {a tree : A} {mid rest : Input} {loop : ℕ → Found A → Parser (Found A)} {whole : Outcome (Found A)} (step : Found A → Parser (Found A))
    → ((n room : ℕ) → loop (suc n) (found a room) mid ≡ (need 1 room >> take >> (step (found a room) >>= loop n)) mid)
    → left (next mid) + 1 ≡ left mid → left rest ≤ left (next mid) → g ≤ h
    → ((room : ℕ) → g + (room - 1) ≡ m → Answers m h tree rest (step (found a room) (next mid)))
    → Reaches m g a mid loop whole → Reaches m (1 + h) tree rest loop whole
unfolding need
goes step turn took behind within so (too_deep past i is) = too_deep (omega arith) i is
goes step turn took behind within so (arrives room zero same enough is) = absurd (omega arith)
goes step turn took behind within so (arrives zero (suc n) same enough is) = too_deep (omega arith) _ (is ∙ turn n 0)
goes {m = m} {h = h} {a} {tree} {mid} {rest} {loop} {whole} step turn took behind within so (arrives (suc r) (suc n) same enough is) = by (so (suc r) (omega arith))
  where
    open_ : whole ≡ and_then (step (found a (suc r)) (next mid)) (loop n)
    open_ = is ∙ turn n (suc r) ∙ ap (λ o. and_then o (λ _. take >> (step (found a (suc r)) >>= loop n))) (needed r mid)

    by : Answers m h tree rest (step (found a (suc r)) (next mid)) → Reaches m (1 + h) tree rest loop whole
    by (fits room also gives) = arrives room n (omega arith) (omega arith) (open_ ∙ ap (λ o. and_then o (loop n)) gives)
    by (deep past i gives) = too_deep (omega arith) i (open_ ∙ ap (λ o. and_then o (loop n)) gives)

-- the loop ends
pub ends : {A : Type 0} {m h : ℕ} {tree : A} {rest : Input} {loop : ℕ → Found A → Parser (Found A)} {whole : Outcome (Found A)}
    → ((n room : ℕ) → loop n (found tree room) rest ≡ Ok (found tree room, rest)) → Reaches m h tree rest loop whole → Answers (suc m) h tree rest whole
ends stop (arrives room n same enough is) = fits room same (is ∙ stop n room)
ends stop (too_deep past i is) = deep past i is
