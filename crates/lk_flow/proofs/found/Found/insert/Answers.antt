use Rattle.std.proofs.Common.{subst}
use Rattle.lk_facts.proofs.Numbers.{put}
use Rattle.lk_facts.specs.Paths.{edge_of}
use Rattle.lk_facts.specs.Places.{IsPut}
use Rattle.lk_flow.proofs.SameEdge.{same_edge, edge_itself}
use Rattle.lk_flow.proofs.found.Found.insert.Goals as goal

pub returns : goal.returns
returns c =
    let edge = edge_of c.args.from c.args.to c.args.mark.now in
    subst (λ old. IsPut old c.insert_full.new.self.keys edge c.in_ok-place.place) c.self.view_is
    (put _ same_edge edge_itself c.self.inside.set.keys c.insert_full.new.self.keys edge c.in_ok-place.place
    c.in_ok-place.ensures.keys c.in_ok-place.ensures.index c.in_ok-place.ensures.stored)
