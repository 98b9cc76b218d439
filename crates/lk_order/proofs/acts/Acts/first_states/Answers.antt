use Rattle.lk_order.specs.declared.states.States.{States}
use Rattle.lk_order.specs.Acts.{basis_in}
use Rattle.lk_order.proofs.DroppingLemmas.{first_are, first_lost}
use Rattle.lk_order.proofs.acts.Acts.first_states.Goals as goal

pub returns-clause-states : goal.returns-clause-states
returns-clause-states c =
    let self = c.args.self.now in
    let states : States = record { locks = c.in_ok-locks.locks; sets = c.in_ok-sets.sets } in
    first_are (basis_in self) c.in_ok-entries.entries states c.in_ok-entries.ensures c.in_ok-sets.ensures c.in_ok-locks.ensures

pub returns-clause-lost : goal.returns-clause-lost
returns-clause-lost c =
    let self = c.args.self.now in
    let states : States = record { locks = c.in_ok-locks.locks; sets = c.in_ok-sets.sets } in
    first_lost (basis_in self) c.in_ok-entries.entries states c.in_ok-entries.ensures c.in_ok-sets.ensures c.in_ok-locks.ensures
