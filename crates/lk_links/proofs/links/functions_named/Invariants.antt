use Rattle.std.proofs.Common.{◌≡◌, ◌<◌, ◌++◌, All, length}
use Rattle.std.specs.List.{filter_map}
use Rattle.lk_facts.specs.Facts.{basis_of}
use Rattle.lk_links.specs.Making.{function_named}
use Rattle.lk_sets.specs.Rows.{row_of}
use Rattle.lk_links.proofs.links.functions_named.Given as goal

abbrev pub invariant-loop-origin : goal.invariant-loop-origin
invariant-loop-origin l = record {
  named : l.ids.items ++ filter_map (function_named (basis_of l.facts)) l.origin-iterator ≡ filter_map (function_named (basis_of l.facts)) (row_of l.facts.origins.all l.fn.target);
  origins : All (λ o. o < length l.facts.labels.entries) l.origin-iterator;
  in_range : All (λ g. g < length l.facts.program.functions) l.ids.items;
}
