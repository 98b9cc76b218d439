use Rattle.std.proofs.Common.{◌≡◌, ◌++◌, drop}
use Rattle.lk_lower_parts.specs.Wanted.{seen, locals_of, slots_of_locals}
use Rattle.lk_lower_parts.proofs.roots.SourceAt.push_locals.Given as goal

abbrev pub invariant-loop-local : goal.invariant-loop-local
invariant-loop-local l = record {
  roots : l.initial.roots.items ++ locals_of (seen l.self) l.function l.local-items ≡ l.roots.items ++ locals_of (seen l.self) l.function (drop l.local-index l.local-items);
  slots : l.initial.slots.items ++ slots_of_locals (seen l.self) l.local-items ≡ l.slots.items ++ slots_of_locals (seen l.self) (drop l.local-index l.local-items);
}
