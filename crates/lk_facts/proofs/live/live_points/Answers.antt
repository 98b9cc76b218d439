use Rattle.lk_facts.proofs.LiveLemmas.{exact}
use Rattle.lk_facts.proofs.live.live_points.Goals as goal

pub returns : goal.returns
returns c =
    let found = c.in_ok-follow.ensures.found in
    record { all = found.long; exact = λ p. ((λ marked. found.sound p marked), (λ reached. exact _ _ _ found c.in_ok-follow.ensures.all p reached)) }
