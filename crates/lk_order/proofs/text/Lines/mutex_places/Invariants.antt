use Rattle.std.proofs.Common.{◌≡◌}
use Rattle.std.specs.List.{range_with_len}
use Rattle.lk_order.proofs.text.Lines.mutex_places.Given as goal

-- the places so far
abbrev pub invariant-loop-lock : goal.invariant-loop-lock
invariant-loop-lock l = l.places.items ≡ range_with_len l.first l.lock
