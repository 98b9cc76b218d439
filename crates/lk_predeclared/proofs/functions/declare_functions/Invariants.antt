use Rattle.std.proofs.Common.{map, take}
use Rattle.lk_typed.specs.Meaning.{IsReady}
use Rattle.lk_predeclared.specs.Plain.{Grows}
use Rattle.lk_predeclared.specs.Scope.{AddsNames, function_declared}
use Rattle.lk_predeclared.proofs.functions.declare_functions.Given as goal

abbrev pub invariant-loop-function : goal.invariant-loop-function
invariant-loop-function l = record {
  ready : IsReady l.types;
  grows : Grows l.fn.types l.types;
  adds : AddsNames l.fn.types l.fn.names l.types l.names (map function_declared (take l.function-index l.function-items));
}
