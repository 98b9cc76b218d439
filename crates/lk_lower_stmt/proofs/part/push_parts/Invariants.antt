use Rattle.std.proofs.Common.{◌≡◌, ◌++◌, drop, length}
use Rattle.lk_lower_expr.specs.Initialisers.{parts_deeds, values_walk}
use Rattle.lk_lower_expr.specs.Laid.{laid}
use Rattle.lk_lower_expr.specs.Naming.{node_of_local}
use Rattle.lk_lower_expr.specs.Reads.{names_by}
use Rattle.lk_lower_stmt.proofs.part.push_parts.Given as goal

abbrev pub invariant-loop-part : goal.invariant-loop-part
invariant-loop-part l =
    let names = names_by l.source in
    let node = node_of_local l.local in
    let old = l.initial.deeds.items in
    let rest = drop l.part-index l.named in record {
      deeds : old ++ parts_deeds names node l.local.number (length old) l.named ≡ l.deeds.items ++ parts_deeds names node l.local.number (length l.deeds.items) rest;
      steps : laid (values_walk names node l.local.number (length old) l.named) l.initial.steps.items ≡
          laid (values_walk names node l.local.number (length l.deeds.items) rest) l.steps.items;
    }
