use Rattle.std.proofs.Common.{◌++◌, ◌∷◌, [], map, ap, sym, ◌∙◌, arith}
use Rattle.std.specs.List.{range_with_len}
use Rattle.std.proofs.lemmas.List.FromFn.{map-range_with_len_more}
use Rattle.lk_order.specs.Dropping.{first_set}
use Rattle.lk_order.proofs.acts.Acts.first_sets.Goals as goal

pub loop-point-preserved : goal.loop-point-preserved
loop-point-preserved c =
    let f = first_set c.args.self.now.points.now c.args.entries.now in
    let i = c.loop-point.point in
    c.in_ok-push.ensures.items ∙ ap (λ s. s ++ c.in_ok-first_set.field-0 ∷ []) c.loop-point.invariant ∙ ap (λ y. map f (range_with_len 0 i) ++ y ∷ []) c.in_ok-first_set.ensures
    ∙ sym (map-range_with_len_more f 0 i i (omega arith))
