use Rattle.std.proofs.Common.{◌&&◌, ◌||◌, ap, ◌∙◌}
use Rattle.lk_order.specs.Acts.{basis_in}
use Rattle.lk_order.specs.Left.{is_left}
use Rattle.lk_order.proofs.DroppingLemmas.{after_is}
use Rattle.lk_sets.specs.Ids.{has_id}
use Rattle.lk_order.proofs.acts.Acts.after.Goals as goal

pub returns : goal.returns
returns c =
    let basis = basis_in c.args.self.now in
    after_is basis (is_left c.args.states.now) c.args.point c.at.result.now c.in_ok-more.more c.in_ok-after.after
    (λ x. ap (λ s. has_id s x) c.at.ensures) (c.requires.states.inside c.args.point) c.in_ok-more.ensures
    (λ x. c.in_ok-after.ensures.members x ∙ ap (λ b. has_id c.at.result.now x || b) (c.in_ok-locks.ensures.members x ∙ ap (λ b. b && has_id c.in_ok-more.more x) (c.requires.states.locks.members x)))
