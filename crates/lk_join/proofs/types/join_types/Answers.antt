use Rattle.std.proofs.Common.{◌∙◌, [], All, ap, arith, length, sym, subst}
use Rattle.lk_types.specs.Table.{IsKnown, Table}
use Rattle.lk_join.specs.Forms.{HasPointer}
use Rattle.lk_join.proofs.Completed.{begun_open}
use Rattle.lk_join.proofs.Giving.{members_by}
use Rattle.lk_join.proofs.Growing.{rows_known, rows_later}
use Rattle.lk_join.proofs.types.join_types.Goals as goal

pub join_rows-requires-clause-incomplete : goal.join_rows-requires-clause-incomplete
join_rows-requires-clause-incomplete c = begun_open c.in_ok-table.table c.begin_structs.new.table c.in_ok-table.ensures c.in_ok-begin_structs.ensures.same

pub join_rows-requires-clause-within : goal.join_rows-requires-clause-within
join_rows-requires-clause-within c = let begun = c.in_ok-begin_structs.ensures.count in omega (arith, begun)

pub put_all_pointers-requires : goal.put_all_pointers-requires
put_all_pointers-requires c =
    let table = c.join_rows.new.table in
    subst (All (All (IsKnown table))) (sym c.as_slice.ensures.value) (rows_known c.args.units.now c.args.numbers.now.rows table c.in_ok-rows.rows.items c.in_ok-rows.ensures.put)

pub returns-clause-structs : goal.returns-clause-structs
returns-clause-structs c =
    let begun = c.in_ok-begin_structs.ensures.count in
    let rows = c.in_ok-rows.ensures.longer.structs in
    let pointers = c.in_ok-put_all_pointers.ensures.keeps.longer.structs in
    omega (arith, begun, rows, pointers)

pub returns-clause-put : goal.returns-clause-put
returns-clause-put c =
    rows_later c.args.units.now c.args.numbers.now.rows c.join_rows.new.table c.put_all_pointers.new.table c.in_ok-put_all_pointers.ensures.keeps.longer
    c.in_ok-rows.rows.items (length c.args.units.now) c.in_ok-rows.ensures.put

pub returns-clause-members : goal.returns-clause-members
returns-clause-members c =
    members_by c.args.units.now c.args.numbers.now.rows c.in_ok-rows.rows.items c.join_rows.new.table c.put_all_pointers.new.table c.in_ok-put_all_pointers.ensures.keeps.members c.in_ok-rows.ensures.members

pub returns-clause-pointers : goal.returns-clause-pointers
returns-clause-pointers c = subst (All (All (HasPointer c.put_all_pointers.new.table))) c.as_slice.ensures.value c.in_ok-put_all_pointers.ensures.put

pub returns-clause-predeclared : goal.returns-clause-predeclared
returns-clause-predeclared c =
    let stay = c.predeclared_types_stay.ensures in
    let first = c.in_ok-begin_structs.ensures.types ∙ ap (λ (table : Table). table.types) c.in_ok-table.ensures in
    stay c.join_rows.new.table c.put_all_pointers.new.table c.in_ok-put_all_pointers.ensures.keeps.longer
    (stay c.begin_structs.new.table c.join_rows.new.table c.in_ok-rows.ensures.longer ([], first))
