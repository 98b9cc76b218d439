use Rattle.lk_facts.specs.Reach.{IsLiveNext}
use Rattle.lk_graph.specs.Search.{IsArrow}
use Rattle.lk_graph.proofs.StepLemmas.{same_plus}
use Rattle.lk_graph.proofs.reach.after.Goals as goal

pub returns-clause-pairs : goal.returns-clause-pairs
returns-clause-pairs c = λ a b.
    let same = same_plus (IsArrow _) (IsLiveNext c.args.points.now) c.in_ok-steps.ensures.steps a b in
    let is = c.in_ok-rows.ensures.pairs a b in
    (λ h. same.0 (is.0 h), λ h. is.1 (same.1 h))
