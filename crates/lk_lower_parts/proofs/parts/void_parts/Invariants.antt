use Rattle.std.proofs.Common.{◌≡◌, length}
use Rattle.lk_lower_parts.specs.Parts.{AreGivenBefore, AreMarkedParts, part_at}
use Rattle.lk_lower_parts.proofs.parts.void_parts.Given as goal

abbrev pub invariant-loop-point : goal.invariant-loop-point
invariant-loop-point l = record {
  given : AreGivenBefore (part_at l.types l.points) l.point-index l.parts.items;
  long : length l.seen.items ≡ length l.types.types;
  marked : AreMarkedParts l.seen.items l.parts.items;
}
