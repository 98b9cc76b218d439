use Rattle.std.proofs.Common.{◌≡◌, ◌∙◌, ◌+◌, List, ℕ, length, sym, subst, ap}
use Rattle.std.specs.List.Sorted.{IsStrictlyIncreasing}
use Rattle.lk_facts.specs.LockSets.{at_of}
use Rattle.lk_facts.specs.Origins.{IsSetBelow}
use Rattle.lk_rise.specs.declared.correlations.Correlation.{Correlation}
use Rattle.lk_sets.specs.Ids.{has_id, IsSetOf}
use Rattle.lk_items.specs.Accesses.{AreAccessesBelow}
use Rattle.lk_items.proofs.AccessLemmas.{accesses_more, accesses_same}
use Rattle.lk_items.proofs.accesses.push_access.Goals as goal

pub returns-in_ok-push : goal.returns-in_ok-push
returns-in_ok-push c =
    let facts = c.args.facts.now in
    let held = c.args.held.now in
    let below = subst (IsSetBelow (length facts.labels.entries)) c.at.ensures.value (subst (λ n. IsSetBelow n c.at.result.now) c.requires.held_labels c.at.ensures.in_range) in
    let is : c.in_ok-locks.locks ≡ at_of held c.args.point = c.in_ok-locks.ensures ∙ c.at.ensures.value in
    let members : IsSetOf (has_id (at_of held c.args.point)) c.in_ok-locks.locks = record {
      sorted = subst IsStrictlyIncreasing (sym is) below.sorted;
      members = λ x. ap (λ ids. has_id ids x) is;
    } in
    subst (λ (base : List (Correlation × List ℕ)). AreAccessesBelow facts held (c.args.point + 1) base) (sym c.in_ok-push.ensures.items)
    (accesses_more facts held c.args.point c.in-Some.item c.in_ok-locks.locks c.args.base.now.items c.requires.point c.in-Some.ensures below members c.requires.base)

pub returns-in_default : goal.returns-in_default
returns-in_default c = accesses_same c.args.facts.now c.args.held.now c.args.point c.args.base.now.items c.in_default.ensures c.requires.base
