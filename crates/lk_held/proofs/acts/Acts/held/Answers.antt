use Rattle.std.proofs.Common.{ap, subst, sym, ◌∙◌}
use Rattle.lk_facts.specs.Held.{AreLockSets}
use Rattle.lk_facts.specs.LockSets.{sets_of, AreLockSetsInRange}
use Rattle.lk_held.specs.Acts.{basis_in}
use Rattle.lk_held.proofs.LockSetLemmas.{lock_sets_are, lock_sets_in_range}
use Rattle.lk_held.proofs.acts.Acts.held.Goals as goal

pub new-sets-requires : goal.new-sets-requires
new-sets-requires c =
    subst (λ n. AreLockSetsInRange (sets_of n c.in_ok-at.at.items c.in_ok-keep.keep.items c.in_ok-out.out.items c.in_ok-released.released.items)) (sym c.count.ensures.value)
    (lock_sets_in_range (basis_in c.args.self.now) c.in_ok-states.states c.in_ok-at.at.items c.in_ok-keep.keep.items c.in_ok-out.out.items c.in_ok-released.released.items
    c.in_ok-states.ensures c.in_ok-at.ensures.sets c.in_ok-keep.ensures.sets c.in_ok-out.ensures.sets c.in_ok-released.ensures c.in_ok-at.ensures.in_range c.in_ok-keep.ensures.in_range c.in_ok-out.ensures.in_range)

pub returns : goal.returns
returns c =
    subst (AreLockSets (basis_in c.args.self.now))
    (sym (c.new-sets.ensures ∙ ap (λ n. sets_of n c.in_ok-at.at.items c.in_ok-keep.keep.items c.in_ok-out.out.items c.in_ok-released.released.items) c.count.ensures.value))
    (lock_sets_are (basis_in c.args.self.now) c.in_ok-states.states c.in_ok-at.at.items c.in_ok-keep.keep.items c.in_ok-out.out.items c.in_ok-released.released.items
    c.in_ok-states.ensures c.in_ok-at.ensures.sets c.in_ok-keep.ensures.sets c.in_ok-out.ensures.sets c.in_ok-released.ensures)
