use Rattle.std.proofs.Common.{◌≡◌, ℕ, [], length}
use Rattle.lk_rise.specs.Groups.{lists_of, group_at}
use Rattle.lk_rise.proofs.groups.empty_lists.Given as goal

abbrev pub invariant-loop : goal.invariant-loop
invariant-loop l = record {
  long : length l.lists.items ≡ l.counter;
  empty : (key : ℕ) → group_at (lists_of l.lists.items) key ≡ [];
}
