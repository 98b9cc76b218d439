use Rattle.std.proofs.Common.{arith, ap, length, length-append, subst, sym, take}
use Rattle.lk_facts.specs.Places.{IsMissing}
use Rattle.lk_lower_parts.proofs.PlaceLists.{length_take, next_missing}
use Rattle.lk_lower_parts.proofs.places.put_all.Goals as goal
use Rattle.lk_types.proofs.KeptLemmas.{read_got}

pub put-requires-clause-room : goal.put-requires-clause-room
put-requires-clause-room c =
    let i = c.loop-place.place-index in
    omega (arith, ap length c.loop-place.invariant, length-append c.args.places.now (take i c.args.list.now), length_take i c.args.list.now, c.requires.room)

pub put-requires-clause-missing : goal.put-requires-clause-missing
put-requires-clause-missing c =
    subst (λ xs. IsMissing xs c.place-item.result) (sym c.loop-place.invariant)
    (next_missing c.args.places.now c.args.list.now c.loop-place.place-index c.place-item.result c.requires.different (read_got c.args.list.now c.loop-place.place-index c.place-item.result (omega arith) c.place-item.is))
