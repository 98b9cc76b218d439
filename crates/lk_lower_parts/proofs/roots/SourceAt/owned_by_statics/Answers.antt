use Rattle.std.proofs.Common.{ap, ◌∙◌, ◌++◌, refl}
use Rattle.lk_lower_expr.specs.Owned.{of_static_parts}
use Rattle.lk_lower_parts.proofs.Adding.{loop_more}
use Rattle.lk_lower_parts.specs.Found.{all_found}
use Rattle.lk_lower_parts.specs.Wanted.{seen, form_at, owned_by_statics}
use Rattle.lk_typed.specs.declared.initialiser.StaticObject.{StaticObject}
use Rattle.lk_types.specs.Table.{type_at}
use Rattle.lk_lower_parts.proofs.roots.SourceAt.owned_by_statics.Goals as goal

pub loop-object-preserved : goal.loop-object-preserved
loop-object-preserved c =
    let at = seen c.args.self.now in
    let old = all_found c.loop-object.owned.items in
    loop_more (owned_by_statics at) (λ (object : StaticObject). of_static_parts (form_at at) object.parts) (λ x xs. refl) c.list-object-items.result.now c.loop-object.object-index c.object-item.result _ old (all_found c.push_static.new.out.items)
    c.loop-object-test.true c.object-item.is c.loop-object.invariant
    (c.in_ok-push_static.ensures ∙ ap (λ table. old ++ of_static_parts (type_at table) c.list.result.now) c.finding.ensures ∙ ap (λ parts. old ++ of_static_parts (form_at at) parts) c.list.ensures)
