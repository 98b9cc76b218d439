use Rattle.std.proofs.Common.{◌++◌, ◌∷◌, [], take, sym, subst}
use Rattle.std.proofs.lemmas.List.{take_more}
use Rattle.lk_join.specs.Places.{AreAllPutAt, ArePutAt}
use Rattle.lk_join.proofs.Placing.{all_put_more}
use Rattle.lk_join.proofs.places.put_rows.Goals as goal

pub loop-row-preserved : goal.loop-row-preserved
loop-row-preserved c =
    let rows = c.args.rows.now in
    let n = c.loop-row.row-index in
    let row = c.row-item.result in
    let old = c.args.set.now in
    let new = c.put_row.new.set in
    let here = subst (λ r. ArePutAt c.loop-row.set new r c.in_ok-row.row) c.list.ensures c.in_ok-row.ensures in
    subst (λ xs. AreAllPutAt old new xs c.push.new.self.items) (sym (take_more rows n row c.loop-row-test.true))
    (subst (λ r. AreAllPutAt old new (take n rows ++ r ∷ []) c.push.new.self.items) c.row-item.is
    (subst (AreAllPutAt old new (take n rows ++ row ∷ [])) (sym c.in_ok-push.ensures.items)
    (all_put_more old c.loop-row.set new (take n rows) c.loop-row.places.items row c.in_ok-row.row c.loop-row.invariant here)))
