use Rattle.std.proofs.Common.{◌≡◌, ◌++◌, map, take}
use Rattle.lk_order.specs.Table.{pair_of}
use Rattle.lk_order.proofs.ranks.push_pairs.Given as goal

abbrev pub invariant-loop-place : goal.invariant-loop-place
invariant-loop-place l = l.pairs.items ≡ l.fn.pairs.items ++ map (pair_of l.held) (take l.place-index l.wanted)
