use Rattle.std.proofs.Common.{subst}
use Rattle.lk_facts.proofs.Numbers.{put}
use Rattle.lk_facts.proofs.Same.{same_place, place_itself}
use Rattle.lk_facts.specs.Places.{IsPut}
use Rattle.lk_facts.specs.Program.{place_of}
use Rattle.lk_facts.proofs.place.Places.put.Goals as goal

pub returns-clause-put : goal.returns-clause-put
returns-clause-put c =
    let place = place_of c.args.root c.args.node in
    subst (λ old. IsPut old c.insert_full.new.self.keys place c.in_ok-number.number) c.self.view_is
    (put _ same_place place_itself c.self.inside.set.keys c.insert_full.new.self.keys place c.in_ok-number.number
    c.in_ok-number.ensures.keys c.in_ok-number.ensures.index c.in_ok-number.ensures.stored)
