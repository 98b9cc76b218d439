use Rattle.std.proofs.Common.{◌≡◌, ◌++◌}
use Rattle.std.specs.Prelude.{map}
use Rattle.lk_lower_parts.specs.Gathers.{node_of, root_of}
use Rattle.lk_lower_parts.proofs.numbers.number_roots.Given as goal

abbrev pub invariant-loop-one : goal.invariant-loop-one
invariant-loop-one l = record {
  can_next : (goal.iterator-loop-one).can_next l.one-iterator;
  is_finite : (goal.iterator-loop-one).is_finite l.one-iterator;
  roots : l.roots.items ++ map root_of l.one-iterator.rest.items ≡ l.initial.roots.items ++ map root_of l.fn.list.items;
  nodes : l.nodes.items ++ map (node_of l.source) l.one-iterator.rest.items ≡ l.initial.nodes.items ++ map (node_of l.source) l.fn.list.items;
}
