use Rattle.std.proofs.Common.{map, take}
use Rattle.lk_typed.specs.Library.{passed_type}
use Rattle.lk_check_expr.specs.Functions.{parameter_in}
use Rattle.lk_typed.specs.Meaning.{IsReady}
use Rattle.lk_predeclared.specs.Plain.{ArePlain, Grows}
use Rattle.lk_predeclared.proofs.types.parameter_types.Given as goal

abbrev pub invariant-loop-parameter : goal.invariant-loop-parameter
invariant-loop-parameter l = record {
  ready : IsReady l.types;
  grows : Grows l.fn.types l.types;
  plain : ArePlain l.types (map passed_type (map parameter_in (take l.parameter-index l.parameters))) l.put.items;
}
