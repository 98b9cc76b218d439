use Rattle.std.proofs.Common.{All, arith, take, sym, subst}
use Rattle.std.proofs.lemmas.List.{take_all}
use Rattle.std.proofs.lemmas.List.Elements.{All-get_or, All-more, All-nil, All-take}
use Rattle.lk_types.specs.Table.{IsKnown}
use Rattle.lk_join.specs.Forms.{HasPointer}
use Rattle.lk_join.proofs.Growing.{all_pointers_stay, keeps_same, keeps_then, rows_known_later}
use Rattle.lk_join.proofs.types.put_all_pointers.Goals as goal

pub loop-row-init : goal.loop-row-init
loop-row-init c = (keeps_same c.args.table.now, All-nil (All (HasPointer c.args.table.now)))

pub loop-row-preserved : goal.loop-row-preserved
loop-row-preserved c =
    let rows = c.args.rows.now in
    let n = c.loop-row.row-index in
    let row = c.row-item.result in
    let before = c.loop-row.table in
    let after = c.put_pointers.new.table in
    let keeps = c.in_ok-put_pointers.ensures.keeps in
    let first = c.loop-row.invariant.0 in (
      keeps_then c.args.table.now before after first keeps,
      All-more (All (HasPointer after)) rows n row c.loop-row-test.true
          (all_pointers_stay c.args.table.now before after first keeps (take n rows) (All-take (All (IsKnown before)) n rows (rows_known_later c.args.table.now before first rows c.requires)) c.loop-row.invariant.1)
          (subst (All (HasPointer after)) c.row-item.is (subst (All (HasPointer after)) c.list.ensures c.in_ok-put_pointers.ensures.put)),
    )

pub put_pointers-requires : goal.put_pointers-requires
put_pointers-requires c =
    let rows = c.args.rows.now in
    let row = c.row-item.result in
    let known = rows_known_later c.args.table.now c.loop-row.table c.loop-row.invariant.0 rows c.requires in
    subst (All (IsKnown c.loop-row.table)) (sym c.list.ensures)
    (subst (All (IsKnown c.loop-row.table)) (sym c.row-item.is) (All-get_or (All (IsKnown c.loop-row.table)) rows c.loop-row.row-index row c.loop-row-test.true known))

pub returns-clause-put : goal.returns-clause-put
returns-clause-put c =
    let past = c.loop-row-test.false in
    subst (All (All (HasPointer c.loop-row.table))) (take_all c.loop-row.row-index c.args.rows.now (omega (arith, past))) c.loop-row.invariant.1
