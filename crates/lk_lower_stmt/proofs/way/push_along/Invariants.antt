use Rattle.std.proofs.Common.{◌≡◌, ◌+◌, ◌<◌, ◌^◌, ◌++◌, drop, length}
use Rattle.lk_lower_expr.specs.Initialisers.{along, pointed}
use Rattle.lk_lower_expr.specs.Naming.{node_of_local}
use Rattle.lk_lower_expr.specs.Reads.{names_by}
use Rattle.lk_lower_stmt.proofs.way.push_along.Given as goal

abbrev pub invariant-loop-to : goal.invariant-loop-to
invariant-loop-to l =
    let names = names_by l.source in
    let node = node_of_local l.local in record {
      deeds : l.initial.deeds.items ++ along names node l.k l.local.ty l.path ≡ l.deeds.items ++ along names node l.pointer l.ty (drop l.to-index l.path);
      pointer : pointed l.k l.path ≡ pointed l.pointer (drop l.to-index l.path);
      last : length l.deeds.items ≡ l.pointer + 1;
      few : l.pointer < 2 ^ 30;
    }
