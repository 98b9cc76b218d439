use Rattle.std.proofs.Common.{subst}
use Rattle.lk_facts.proofs.Numbers.{put}
use Rattle.lk_facts.proofs.Same.{same_name, name_itself}
use Rattle.lk_facts.specs.Labels.{name_with}
use Rattle.lk_facts.specs.Places.{IsPut}
use Rattle.lk_label.proofs.names.Names.put.Goals as goal

pub returns : goal.returns
returns c =
    let name = name_with c.args.holder c.args.node in
    subst (λ old. IsPut old c.insert_full.new.self.keys name c.in_ok-place.place) c.self.view_is
    (put _ same_name name_itself c.self.inside.set.keys c.insert_full.new.self.keys name c.in_ok-place.place
    c.in_ok-place.ensures.keys c.in_ok-place.ensures.index c.in_ok-place.ensures.stored)
