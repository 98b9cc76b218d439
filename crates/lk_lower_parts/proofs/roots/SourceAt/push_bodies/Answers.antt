use Rattle.std.proofs.Common.{◌≡◌, ◌+◌, ◌++◌, ◌∷◌, [], drop, refl, rules, subst, sym}
use Rattle.lk_lower_parts.proofs.Adding.{one_longer}
use Rattle.lk_lower_parts.proofs.Pointers.{more_more}
use Rattle.lk_lower_parts.proofs.Rooted.{later_before, place_more, row_more}
use Rattle.lk_lower_parts.specs.Wanted.{seen, AreAmong, function_at, roots_in, roots_in_all, slots_in}
use Rattle.lk_lower_parts.proofs.roots.SourceAt.push_bodies.Goals as goal

pub loop-body-preserved : goal.loop-body-preserved
loop-body-preserved c =
    let at = seen c.args.self.now in
    let old = c.loop-body.types in
    let new = c.push_body.new.types in
    let list = c.list-body-items.result.now in
    let i = c.loop-body.body-index in
    let x = c.body-item.result in
    let was = c.loop-body.invariant in
    let rows = c.loop-body.slots.items in
    let put : c.push.new.self.items ≡ rows ++ (c.in_ok-row.row ∷ []) = search rules in record {
      roots = λ forms later.
          subst (λ n. c.args.roots.now.items ++ roots_in_all at forms 0 list ≡ c.push_body.new.roots.items ++ roots_in_all at forms n (drop (i + 1) list)) (sym c.in_ok-number.ensures)
          (place_more (roots_in_all at forms) (λ b body. roots_in at forms (function_at at b) body) (λ e x xs. refl) list i c.loop-body.number x _ c.loop-body.roots.items c.push_body.new.roots.items c.loop-body-test.true c.body-item.is
          (was.roots forms (later_before old new forms c.in_ok-row.ensures.more later)) (c.in_ok-row.ensures.roots forms later));
      as_many = one_longer rows c.push.new.self.items c.in_ok-row.row i put was.as_many;
      slots = row_more (λ body found. AreAmong (slots_in at body) found) list i x rows c.push.new.self.items c.in_ok-row.row was.as_many put c.body-item.is c.in_ok-row.ensures.slots was.slots;
      more = more_more _ old new was.more c.in_ok-row.ensures.more;
    }
