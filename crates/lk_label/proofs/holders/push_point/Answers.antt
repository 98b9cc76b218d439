use Rattle.std.proofs.Common.{◌∙◌, sym}
use Rattle.lk_label.proofs.HolderLists.{point_some, point_none}
use Rattle.lk_label.proofs.holders.push_point.Goals as goal

pub returns-in_ok-push : goal.returns-in_ok-push
returns-in_ok-push c = λ below.
    rw c.in_ok-push.ensures.items (point_some c.args.points.now c.args.p c.value_type.result (sym c.value_type.ensures.value) (sym c.is_some.ensures ∙ c.if-is_some.true) below)

pub returns-else-is_some : goal.returns-else-is_some
returns-else-is_some c = λ below. point_none c.args.points.now c.args.p c.value_type.result (sym c.value_type.ensures.value) (sym c.is_some.ensures ∙ c.if-is_some.false) below
