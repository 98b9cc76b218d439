use Rattle.std.proofs.Common.{◌≡◌, ◌<◌, ◌++◌, ℕ, List, [], Some, drop, get_or, length, slice_get}
use Rattle.lk_lower_parts.specs.Tables.{HasMore}
use Rattle.lk_lower_parts.specs.Wanted.{seen, AreAmong, AreLater, roots_in_all, slots_in}
use Rattle.lk_typed.specs.declared.unit.Body.{Body}
use Rattle.lk_types.specs.declared.c_type.CType.{CType}
use Rattle.lk_lower_parts.proofs.roots.SourceAt.push_bodies.Given as goal

abbrev pub invariant-loop-body : goal.invariant-loop-body
invariant-loop-body l = record {
  roots : (forms : List CType) → AreLater l.types forms →
      l.initial.roots.items ++ roots_in_all (seen l.self) forms 0 l.body-items ≡ l.roots.items ++ roots_in_all (seen l.self) forms l.number (drop l.body-index l.body-items);
  as_many : length l.slots.items ≡ l.body-index;
  slots : (k : ℕ) (body : Body) → k < l.body-index → slice_get l.body-items k ≡ Some body → AreAmong (slots_in (seen l.self) body) (get_or l.slots.items k []);
  more : HasMore l.initial.types l.types;
}
