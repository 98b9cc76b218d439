use Rattle.std.proofs.Common.{◌≡◌, ◌++◌, [], ◌∷◌, rules}
use Rattle.std.proofs.lemmas.List.{get_or_read}
use Rattle.lk_lower_parts.proofs.Adding.{one_longer}
use Rattle.lk_lower_parts.proofs.Pointers.{more_more, one_pointer}
use Rattle.lk_lower_parts.proofs.types.pointer_row.Goals as goal

pub loop-t-preserved : goal.loop-t-preserved
loop-t-preserved c =
    let old = c.loop-t.table in
    let new = c.put.new.table in
    let put : c.push.new.self.items ≡ c.loop-t.row.items ++ (c.in_ok-pointer.pointer ∷ []) = search rules in record {
      as_many = one_longer c.loop-t.row.items c.push.new.self.items c.in_ok-pointer.pointer c.loop-t.t-index put c.loop-t.invariant.as_many;
      below = one_pointer old new c.args.types.now c.loop-t.row.items c.push.new.self.items c.loop-t.t-index _ c.in_ok-pointer.pointer c.in_ok-pointer.ensures.more c.loop-t.invariant.as_many put (get_or_read c.args.types.now c.loop-t.t-index c.t-item.result c.loop-t-test.true c.t-item.is 0) c.in_ok-pointer.ensures.put c.loop-t.invariant.below;
      more = more_more _ old new c.loop-t.invariant.more c.in_ok-pointer.ensures.more;
    }
