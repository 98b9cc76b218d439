use Rattle.std.proofs.Common.{◌≡◌, ◌<◌, ◌^◌, ◌++◌, drop, length}
use Rattle.lk_base.specs.declared.cell.CellStep.TheVariants.{Index}
use Rattle.lk_lower_expr.specs.Initialisers.{byte_steps, text_deeds}
use Rattle.lk_lower_expr.specs.Naming.{node_of_local, part_type}
use Rattle.lk_lower_expr.specs.Reads.{names_by}
use Rattle.lk_lower_stmt.proofs.text.push_text.Given as goal

abbrev pub invariant-loop-byte : goal.invariant-loop-byte
invariant-loop-byte l =
    let names = names_by l.source in
    let node = node_of_local l.local in
    let element = part_type l.source.table.now l.fn.ty (Index 0) in
    let old = l.initial.deeds.items in
    let rest = drop l.byte-index l.bytes in record {
      deeds : old ++ text_deeds names node l.local.number (length old) l.path l.text.node 0 l.bytes ≡
          l.deeds.items ++ text_deeds names node l.local.number (length l.deeds.items) l.path l.text.node l.index rest;
      own : byte_steps names node l.text.spot (length old) element l.path 0 l.bytes ≡
          l.own.items ++ byte_steps names node l.text.spot (length l.deeds.items) element l.path l.index rest;
      few : l.index < 2 ^ 30;
    }
