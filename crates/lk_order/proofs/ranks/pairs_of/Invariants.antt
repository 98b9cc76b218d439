use Rattle.std.proofs.Common.{◌≡◌}
use Rattle.std.specs.List.{flat_map, range_with_len}
use Rattle.lk_order.proofs.OrderLemmas.{pairs_in}
use Rattle.lk_order.proofs.ranks.pairs_of.Given as goal

abbrev pub invariant-loop-held : goal.invariant-loop-held
invariant-loop-held l = l.pairs.items ≡ flat_map (pairs_in l.rows) (range_with_len 0 l.held)
