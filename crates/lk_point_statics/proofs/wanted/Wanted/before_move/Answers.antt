use Rattle.std.proofs.Common.{rules, Bool, ◌≡◌, ◌∙◌, ◌<◌, ◌^◌, pos, ◌+ℤ◌, of_z, subst, sym, to_z}
use Rattle.std.specs.Int.{w128}
use Rattle.std.specs.Prelude.{ℤ}
use Rattle.lk_facts.specs.Initials.{stand}
use Rattle.lk_point_statics.specs.Backwards.{moved_by}
use Rattle.lk_point_statics.proofs.Moving.{moved_element, moved_whole, none_element, none_whole, nothing_there}
use Rattle.lk_point_statics.specs.Near.{IsIndex}
use Rattle.lk_point_statics.proofs.wanted.Wanted.before_move.Goals as goal

pub returns-in-Some : goal.returns-in-Some
returns-in-Some c =
    let exact : to_z w128 (of_z w128 c.args.by) ≡ c.args.by = search rules in
    moved_element (moved_by c.args.by c.args.back) c.args.self.now c.in-Some.index (sym c.index.ensures ∙ c.in-Some.is) c.in_ok-from.from (search rules)
    (subst (λ by. pos c.in_ok-from.from +ℤ moved_by by c.args.back ≡ stand c.in-Some.index c.args.self.now.past) exact c.in_ok-from.ensures)

pub returns : goal.returns
returns c =
    let exact : to_z w128 (of_z w128 c.args.by) ≡ c.args.by = search rules in
    moved_whole (moved_by c.args.by c.args.back) c.args.self.now (sym c.index.ensures ∙ nothing_there c.index.result c.in_default.not-Some) c.in_ok-past.past
    (subst (λ by. stand 0 c.in_ok-past.past +ℤ moved_by by c.args.back ≡ stand 0 c.args.self.now.past) exact c.in_ok-past.ensures)

pub returns-in_err-from : goal.returns-in_err-from
returns-in_err-from c =
    let exact : to_z w128 (of_z w128 c.args.by) ≡ c.args.by = search rules in
    rw c.from_residual.ensures
    (none_element (moved_by c.args.by c.args.back) c.args.self.now c.in-Some.index (sym c.index.ensures ∙ c.in-Some.is)
    (subst (λ by. (place : ℤ) → IsIndex place → place +ℤ moved_by by c.args.back ≡ stand c.in-Some.index c.args.self.now.past → ⊥) exact c.in_err-from.ensures))

pub returns-in_err-past : goal.returns-in_err-past
returns-in_err-past c =
    let exact : to_z w128 (of_z w128 c.args.by) ≡ c.args.by = search rules in
    rw c.from_residual-in_err-past.ensures
    (none_whole (moved_by c.args.by c.args.back) c.args.self.now (sym c.index.ensures ∙ nothing_there c.index.result c.in_default.not-Some)
    (subst (λ by. (from : Bool) → stand 0 from +ℤ moved_by by c.args.back ≡ stand 0 c.args.self.now.past → ⊥) exact c.in_err-past.ensures))
