use Rattle.std.proofs.Common.{◌≡◌, length}
use Rattle.lk_rise.specs.Groups.{lists_of, AreGroupsBelow}
use Rattle.lk_rise.proofs.groups.Groups.new.Given as goal

abbrev pub invariant-loop-place : goal.invariant-loop-place
invariant-loop-place l = record {
  long : length l.lists.items ≡ l.count;
  groups : AreGroupsBelow l.keys l.place (lists_of l.lists.items);
}
