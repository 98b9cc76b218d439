use Rattle.std.proofs.Common.{ap, ◌∙◌, ◌++◌, subst, sym}
use Rattle.lk_lower_expr.specs.Owned.{owned_by}
use Rattle.lk_lower_parts.proofs.Rooted.{in_order}
use Rattle.lk_lower_parts.specs.Wanted.{seen, AreAmong, form_at, slots_in, slots_of, slots_of_locals}
use Rattle.lk_lower_parts.proofs.roots.SourceAt.push_body.Goals as goal

pub returns-clause-slots : goal.returns-clause-slots
returns-clause-slots c =
    let at = seen c.args.self.now in
    let body = c.args.body.now in
    subst (AreAmong (slots_in at body)) (sym c.new.ensures)
    (in_order (slots_in at body) c.push_inside.new.slots.items c.sort_by_key.new.self.items
    (c.in_ok-push_inside.ensures.slots ∙ ap (λ xs. xs ++ slots_of at (owned_by (form_at at) body.block)) (c.in_ok-push_locals.ensures.slots ∙ ap (λ xs. xs ++ slots_of_locals at body.locals) c.new-slots.ensures.items)) c.in_ok-sort_by_key.ensures.permutation)
