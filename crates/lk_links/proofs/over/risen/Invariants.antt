use Rattle.std.proofs.Common.{◌≡◌, ◌↔◌, ℕ, true, take}
use Rattle.lk_facts.specs.Origins.{flow_of}
use Rattle.lk_links.specs.Only.{HaveRisen}
use Rattle.lk_sets.specs.Ids.{has_id}
use Rattle.lk_links.proofs.over.risen.Given as goal

abbrev pub invariant-loop-x : goal.invariant-loop-x
invariant-loop-x l = (y : ℕ) → (has_id l.ids.items y ≡ true) ↔ HaveRisen (flow_of l.facts.origins) l.way (take l.x-index l.locks) y
