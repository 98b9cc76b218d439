use Rattle.std.proofs.Common.{◌≡◌, ◌++◌, drop, length, take}
use Rattle.lk_lower_parts.specs.Sites.{behind_sites, sited}
use Rattle.lk_lower_parts.proofs.sites.give_points.Given as goal

abbrev pub invariant-loop-p : goal.invariant-loop-p
invariant-loop-p l = record {
  long : length l.points.items ≡ l.p-end;
  points : sited 0 l.initial.points.items ≡ take l.p l.points.items ++ sited l.next (drop l.p l.points.items);
  behind : behind_sites 0 l.initial.points.items ≡ behind_sites l.next (drop l.p l.points.items);
}
