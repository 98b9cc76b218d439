use Rattle.std.proofs.Common.{◌<◌, ℕ, length}
use Rattle.std.proofs.lemmas.List.Sorted.{All-permutation}
use Rattle.lk_lower_parts.proofs.PlaceLists.{roots_sorted}
use Rattle.lk_lower_parts.proofs.places.in_order.Goals as goal

pub returns-clause-have : goal.returns-clause-have
returns-clause-have c = roots_sorted c.in_ok-order.order.items c.sort.new.self.items (length c.args.roots.now) c.sort.ensures.permutation c.in_ok-order.ensures.have

pub returns-clause-only : goal.returns-clause-only
returns-clause-only c =
    All-permutation (λ (one : ℕ × ℕ × ℕ × ℕ). one.3 < length c.args.roots.now) c.in_ok-order.order.items c.sort.new.self.items c.sort.ensures.permutation c.in_ok-order.ensures.only
