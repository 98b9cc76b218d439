use Rattle.std.proofs.Common.{◌<◌, ◌∷◌, [], sym, subst, rules}
use Rattle.lk_links.proofs.SetLemmas.{All-set, has_id-one}
use Rattle.lk_rise.specs.Rising.{subjects_below}
use Rattle.lk_rise.proofs.rising.Rising.carried.Goals as goal

pub returns-in_ok-same-in-AsTheyAre-clause-in_range : goal.returns-in_ok-same-in-AsTheyAre-clause-in_range
returns-in_ok-same-in-AsTheyAre-clause-in_range c =
    let n = subjects_below c.args.self.now.facts.now c.args.self.now.subjects in
    All-set (λ x. x < n) (c.args.subject ∷ []) c.in_ok-same-in-AsTheyAre.same (search rules) (λ x there. subst (λ y. y < n) (sym ((has_id-one c.args.subject x).0 there)) c.requires)
