use Rattle.std.proofs.Common.{rules, ◌≡◌, [], ◌∷◌, ◌++◌, ℕ, ◌+◌, sym, ap, ◌∙◌, arith}
use Rattle.std.specs.List.{range_with_len}
use Rattle.std.proofs.lemmas.List.{map-id}
use Rattle.std.proofs.lemmas.List.FromFn.{map-range_with_len_more}
use Rattle.lk_graph.proofs.order.all_functions.Goals as goal

one_more : (n : ℕ) → range_with_len 0 (n + 1) ≡ range_with_len 0 n ++ n ∷ []
one_more n = sym (map-id (range_with_len 0 (n + 1))) ∙ map-range_with_len_more (λ f. f) 0 n n (omega arith) ∙ ap (λ numbers. numbers ++ n ∷ []) (map-id (range_with_len 0 n))

-- src/order.rt:27:5
pub loop-function-preserved : goal.loop-function-preserved
loop-function-preserved c = (c.in_ok-push.ensures.items ∙ ap (λ numbers. numbers ++ c.loop-function.function ∷ []) c.loop-function.invariant.0 ∙ sym (one_more c.loop-function.function), search rules)
