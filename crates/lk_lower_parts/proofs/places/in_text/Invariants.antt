use Rattle.std.proofs.Common.{◌≡◌, length}
use Rattle.lk_lower_parts.specs.Within.{AreRoots, HaveRoots}
use Rattle.lk_lower_parts.proofs.places.in_text.Given as goal

abbrev pub invariant-loop-root : goal.invariant-loop-root
invariant-loop-root l = record {
  counted : l.number ≡ l.root-index;
  only : AreRoots l.order.items (length l.roots);
  have : HaveRoots l.order.items l.number;
}
