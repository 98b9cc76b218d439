use Rattle.std.proofs.Common.{refl, subst, sym, ◌≡◌, ◌++◌, ◌+◌, drop}
use Rattle.lk_lower_parts.proofs.Rooted.{place_more}
use Rattle.lk_lower_parts.specs.Wanted.{seen, object_of, objects_from}
use Rattle.lk_lower_parts.proofs.roots.SourceAt.push_objects.Goals as goal

pub loop-entity-preserved : goal.loop-entity-preserved
loop-entity-preserved c =
    let at = seen c.args.self.now in
    let list = c.list-entity-items.result.now in
    subst (λ e. c.args.roots.now.items ++ objects_from at 0 list ≡ c.push_object.new.roots.items ++ objects_from at e (drop (c.loop-entity.entity-index + 1) list)) (sym c.in_ok-e.ensures)
    (place_more (objects_from at) (object_of at) (λ e x xs. refl) list c.loop-entity.entity-index c.loop-entity.e c.entity-item.result _ c.loop-entity.roots.items c.push_object.new.roots.items c.loop-entity-test.true c.entity-item.is
    c.loop-entity.invariant c.in_ok-push_object.ensures)
