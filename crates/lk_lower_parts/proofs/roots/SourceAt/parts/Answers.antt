use Rattle.std.proofs.Common.{ap, ◌∙◌, ◌++◌, []}
use Rattle.lk_lower_parts.proofs.Rooted.{in_order, later_before, three}
use Rattle.lk_lower_parts.specs.Wanted.{seen, all_roots, objects_from}
use Rattle.lk_lower_parts.proofs.roots.SourceAt.parts.Goals as goal

pub returns-clause-parts : goal.returns-clause-parts
returns-clause-parts c =
    let at = seen c.args.self.now in record {
      roots = λ forms later.
          in_order (all_roots at forms) c.push_bodies.new.roots.items c.sort_by_key.new.self.items
          (three [] c.push_objects.new.roots.items c.push_statics.new.roots.items c.push_bodies.new.roots.items _ _ _ (c.in_ok-push_objects.ensures ∙ ap (λ xs. xs ++ objects_from at 0 at.linked.unit.entities) c.new-roots.ensures.items)
          (c.in_ok-push_statics.ensures.roots forms (later_before c.push_statics.new.types c.push_bodies.new.types forms c.in_ok-slots.ensures.more later)) (c.in_ok-slots.ensures.roots forms later)) c.in_ok-sort_by_key.ensures.permutation;
      slots = c.in_ok-slots.ensures.slots;
    }
