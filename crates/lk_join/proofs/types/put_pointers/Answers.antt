use Rattle.std.proofs.Common.{All, take, arith, sym, subst}
use Rattle.std.proofs.lemmas.List.{take_all}
use Rattle.std.proofs.lemmas.List.Elements.{All-get_or, All-more, All-nil, All-take}
use Rattle.lk_types.specs.Table.{IsKnown}
use Rattle.lk_join.specs.Forms.{HasPointer}
use Rattle.lk_join.proofs.Growing.{all_known_later, keeps_same, keeps_then, pointers_stay}
use Rattle.lk_join.proofs.types.put_pointers.Goals as goal

pub loop-t-init : goal.loop-t-init
loop-t-init c = (keeps_same c.args.table.now, All-nil (HasPointer c.args.table.now))

pub loop-t-preserved : goal.loop-t-preserved
loop-t-preserved c =
    let row = c.args.row.now in
    let n = c.loop-t.t-index in
    let t = c.t-item.result in
    let before = c.loop-t.table in
    let after = c.put_pointer.new.table in
    let keeps = c.in_ok-put_pointer.ensures.keeps in
    let first = c.loop-t.invariant.0 in (
      keeps_then c.args.table.now before after first keeps,
      All-more (HasPointer after) row n t c.loop-t-test.true
          (pointers_stay c.args.table.now before after first keeps (take n row) (All-take (IsKnown before) n row (all_known_later c.args.table.now before first row c.requires)) c.loop-t.invariant.1)
          (subst (HasPointer after) c.t-item.is c.in_ok-put_pointer.ensures.put),
    )

pub put_pointer-requires : goal.put_pointer-requires
put_pointer-requires c =
    let row = c.args.row.now in
    let t = c.t-item.result in
    let before = c.loop-t.table in
    subst (IsKnown before) (sym c.t-item.is) (All-get_or (IsKnown before) row c.loop-t.t-index t c.loop-t-test.true (all_known_later c.args.table.now before c.loop-t.invariant.0 row c.requires))

pub returns-clause-put : goal.returns-clause-put
returns-clause-put c =
    let past = c.loop-t-test.false in
    subst (All (HasPointer c.loop-t.table)) (take_all c.loop-t.t-index c.args.row.now (omega (arith, past))) c.loop-t.invariant.1
