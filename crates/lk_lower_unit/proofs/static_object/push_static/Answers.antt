use Rattle.lk_lower_expr.specs.Naming.{node_of_local}
use Rattle.lk_lower_expr.specs.Reads.{names_by}
use Rattle.lk_lower_unit.proofs.Ending.{static_added}
use Rattle.lk_lower_unit.proofs.static_object.push_static.Goals as goal

pub returns : goal.returns
returns c =
    static_added (names_by c.args.source.now) (node_of_local c.args.declared.now) c.args.declared.now.number c.args.parts.now _ _ _ _ _ _ _ _ _
    c.new-deeds.ensures.items c.new-ended.ensures.items c.in_ok-push_pointers.ensures.deeds c.in_ok-push_pointers.ensures.steps c.in_ok-own.ensures c.in_ok-lay.ensures c.push_ended.ensures
