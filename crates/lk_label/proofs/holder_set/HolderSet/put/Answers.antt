use Rattle.std.proofs.Common.{subst}
use Rattle.lk_facts.proofs.Numbers.{put}
use Rattle.lk_facts.proofs.Same.{same_holder, holder_itself}
use Rattle.lk_facts.specs.Places.{IsPut}
use Rattle.lk_label.proofs.holder_set.HolderSet.put.Goals as goal

pub returns : goal.returns
returns c =
    subst (λ old. IsPut old c.insert_full.new.self.keys c.args.holder.now c.in_ok-place.place) c.self.view_is
    (put _ same_holder holder_itself c.self.inside.set.keys c.insert_full.new.self.keys c.args.holder.now c.in_ok-place.place
    c.in_ok-place.ensures.keys c.in_ok-place.ensures.index c.in_ok-place.ensures.stored)
