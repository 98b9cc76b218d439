use Rattle.std.proofs.Common.{◌≡◌, ◌++◌, List, drop}
use Rattle.lk_lower_parts.specs.Found.{all_found}
use Rattle.lk_lower_parts.specs.Tables.{HasMore}
use Rattle.lk_lower_parts.specs.Wanted.{seen, AreLater, roots_of, slots_of}
use Rattle.lk_types.specs.declared.c_type.CType.{CType}
use Rattle.lk_lower_parts.proofs.roots.SourceAt.push_all_owned.Given as goal

abbrev pub invariant-loop-owned : goal.invariant-loop-owned
invariant-loop-owned l = record {
  roots : (forms : List CType) → AreLater l.types forms →
      l.initial.roots.items ++ roots_of (seen l.self) forms l.function (all_found l.owned-items) ≡ l.roots.items ++ roots_of (seen l.self) forms l.function (all_found (drop l.owned-index l.owned-items));
  slots : l.initial.slots.items ++ slots_of (seen l.self) (all_found l.owned-items) ≡ l.slots.items ++ slots_of (seen l.self) (all_found (drop l.owned-index l.owned-items));
  more : HasMore l.initial.types l.types;
}
