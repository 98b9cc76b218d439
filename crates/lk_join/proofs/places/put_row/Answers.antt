use Rattle.std.proofs.Common.{◌++◌, ◌∷◌, [], get_or, take, sym, subst}
use Rattle.std.proofs.lemmas.List.{take_more}
use Rattle.lk_link.specs.declared.place.StructOf.{StructOf}
use Rattle.lk_join.specs.Places.{ArePutAt}
use Rattle.lk_join.proofs.Placing.{put_more}
use Rattle.lk_join.proofs.places.put_row.Goals as goal

pub loop-s-preserved : goal.loop-s-preserved
loop-s-preserved c =
    let row = c.args.row.now in
    let n = c.loop-s.s-index in
    let none : StructOf = record { source = 0; number = 0 } in
    let s = get_or row n none in
    let old = c.args.set.now in
    let new = c.put.new.self in
    subst (λ xs. ArePutAt old new xs c.push.new.self.items) (sym (take_more row n none c.loop-s-test.true))
    (subst (ArePutAt old new (take n row ++ s ∷ [])) (sym c.in_ok-push.ensures.items)
    (put_more old c.loop-s.set new (take n row) c.loop-s.places.items s c.in_ok-place.place c.loop-s.invariant c.in_ok-place.ensures))
