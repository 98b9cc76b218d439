use Rattle.std.proofs.Common.{◌≡◌, ◌++◌, drop, length}
use Rattle.lk_lower_expr.specs.Laid.{laid}
use Rattle.lk_lower_expr.specs.Naming.{node_of_local}
use Rattle.lk_lower_expr.specs.Reads.{names_by}
use Rattle.lk_lower_expr.specs.Statics.{pointers_deeds, values_walk}
use Rattle.lk_lower_unit.proofs.static_object.push_pointers.Given as goal

abbrev pub invariant-loop-part : goal.invariant-loop-part
invariant-loop-part l =
    let names = names_by l.source in
    let node = node_of_local l.declared in
    let old = l.initial.deeds.items in
    let rest = drop l.part-index l.parts in record {
      deeds : old ++ pointers_deeds names node l.declared.number (length old) l.parts ≡ l.deeds.items ++ pointers_deeds names node l.declared.number (length l.deeds.items) rest;
      steps : laid (values_walk names node l.declared.number (length old) l.parts) l.initial.steps.items ≡
          laid (values_walk names node l.declared.number (length l.deeds.items) rest) l.steps.items;
    }
