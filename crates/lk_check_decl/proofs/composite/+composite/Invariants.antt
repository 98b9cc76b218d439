use Rattle.std.proofs.Common.{◌+◌, ◌*◌, take}
use Rattle.lk_types.specs.Building.{IsTable}
use Rattle.lk_types.proofs.RedeclareLemmas.{above_all}
use Rattle.lk_check_decl.specs.Composites.{AddsTypes, StandEach}
use Rattle.lk_check_decl.proofs.composite.+composite.Given as goal

abbrev pub decreases-composite : goal.decreases-composite
decreases-composite l = 3 * l.t + 2

abbrev pub decreases-of_pointers : goal.decreases-of_pointers
decreases-of_pointers l = 3 * l.t + 1

abbrev pub decreases-of_arrays : goal.decreases-of_arrays
decreases-of_arrays l = 3 * l.t + 1

abbrev pub decreases-of_functions : goal.decreases-of_functions
decreases-of_functions l = 3 * l.t + 1

abbrev pub decreases-of_params : goal.decreases-of_params
decreases-of_params l = 3 * above_all l.params.now

abbrev pub invariant-of_params-loop-place : goal.invariant-of_params-loop-place
invariant-of_params-loop-place l = record {
  table : IsTable l.types;
  adds : AddsTypes l.fn.types l.types;
  made : StandEach l.fn.types l.types (take l.place l.params) (take l.place l.others) l.made.items;
}
