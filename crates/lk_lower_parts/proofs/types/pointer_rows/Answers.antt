use Rattle.std.proofs.Common.{◌≡◌, ◌++◌, [], ◌∷◌, rules, subst}
use Rattle.lk_lower_parts.proofs.Adding.{one_longer}
use Rattle.lk_lower_parts.proofs.Pointers.{more_more, one_row}
use Rattle.lk_lower_parts.specs.Tables.{ArePointersTo}
use Rattle.lk_lower_parts.proofs.types.pointer_rows.Goals as goal

pub loop-linked-preserved : goal.loop-linked-preserved
loop-linked-preserved c =
    let old = c.loop-linked.table in
    let new = c.pointer_row.new.table in
    let put : c.push.new.self.items ≡ c.loop-linked.rows.items ++ (c.in_ok-row.row ∷ []) = search rules in record {
      as_many = one_longer c.loop-linked.rows.items c.push.new.self.items c.in_ok-row.row c.loop-linked.linked-index put c.loop-linked.invariant.as_many;
      below =
          one_row old new c.list-linked-items.result.now c.loop-linked.rows.items c.push.new.self.items c.in_ok-row.row c.loop-linked.linked-index c.linked-item.result c.in_ok-row.ensures.more c.loop-linked.invariant.as_many put
          c.linked-item.is (subst (λ types. ArePointersTo new types c.in_ok-row.row) c.list.ensures c.in_ok-row.ensures.pointers) c.loop-linked.invariant.below;
      more = more_more _ old new c.loop-linked.invariant.more c.in_ok-row.ensures.more;
    }
