use Rattle.std.proofs.Common.{◌<◌, ◌&&◌, ◌||◌, All, length, ap, subst, sym, ◌∙◌}
use Rattle.lk_held.specs.Acts.{basis_in}
use Rattle.lk_held.specs.States.{holds}
use Rattle.lk_held.proofs.AddLemmas.{after_is, states_within}
use Rattle.lk_sets.specs.Ids.{has_id}
use Rattle.lk_held.proofs.acts.Acts.after.Goals as goal

pub keeps-requires-clause-locks : goal.keeps-requires-clause-locks
keeps-requires-clause-locks c =
    let basis = basis_in c.args.self.now in
    subst (All (λ x. x < length basis.labels.entries)) (sym c.at.ensures) (states_within basis c.args.states.now c.args.point c.requires.states)

pub returns : goal.returns
returns c =
    after_is (basis_in c.args.self.now) (holds c.args.states.now) c.args.point c.at.result.now c.in_ok-kept.kept c.in_ok-added.added c.in_ok-after.after
    (λ x. ap (λ s. has_id s x) c.at.ensures) (c.requires.states.inside c.args.point) c.in_ok-kept.ensures c.in_ok-added.ensures
    (λ x. c.in_ok-after.ensures.members x ∙ ap (λ b. has_id c.in_ok-kept.kept x || b) (c.in_ok-locks.ensures.members x ∙ ap (λ b. b && has_id c.in_ok-added.added x) (c.requires.states.locks.members x)))
