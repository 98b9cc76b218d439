use Rattle.std.proofs.Common.{◌||◌, ap, ◌∙◌}
use Rattle.std.proofs.Math.Bool.{or-false}
use Rattle.lk_sets.specs.Ids.{has_id}
use Rattle.lk_sets.proofs.Rising.{one_list}
use Rattle.lk_held.proofs.lock_sets.copy_of.Goals as goal

pub returns-clause-value : goal.returns-clause-value
returns-clause-value c =
    one_list c.in_ok-copy.copy c.args.set.now c.in_ok-copy.ensures.sorted c.ids-2.ensures.sorted
    (λ x. c.in_ok-copy.ensures.members x ∙ ap (λ s. has_id c.args.set.now x || has_id s x) c.empty-none.ensures ∙ or-false (has_id c.args.set.now x))
