use Rattle.std.proofs.Common.{◌≡◌, ◌++◌, drop, length, take}
use Rattle.lk_lower_parts.specs.Sites.{behind_values, valued}
use Rattle.lk_lower_parts.proofs.sites.give_functions.Given as goal

abbrev pub invariant-loop-f : goal.invariant-loop-f
invariant-loop-f l = record {
  long : length l.functions.items ≡ l.f-end;
  functions : valued l.first l.used l.initial.functions.items ≡ take l.f l.functions.items ++ valued l.next (drop l.f l.used) (drop l.f l.functions.items);
  behind : behind_values l.first l.used ≡ behind_values l.next (drop l.f l.used);
}
