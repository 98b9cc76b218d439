use Rattle.std.proofs.Common.{◌≡◌, take}
use Rattle.lk_held.specs.Holding.{apart_from}
use Rattle.lk_held.proofs.acts.Acts.apart.Given as goal

abbrev pub invariant-loop-x : goal.invariant-loop-x
invariant-loop-x l = l.ids.items ≡ apart_from l.self.facts.now.origins l.others (take l.x-index l.locks)
