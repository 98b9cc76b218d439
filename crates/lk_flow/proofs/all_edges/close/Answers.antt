use Rattle.std.proofs.Common.{arith}
use Rattle.std.proofs.lemmas.Option.{slice_get_within}
use Rattle.lk_flow.specs.Closing.{AreEnds}
use Rattle.lk_flow.proofs.ClosingLists.{closing_more, closing_all}
use Rattle.lk_label.proofs.WalkSteps.{contains_got}
use Rattle.lk_flow.proofs.all_edges.close.Goals as goal

pub follow-requires-clause-from : goal.follow-requires-clause-from
follow-requires-clause-from c =
    let labels = c.args.labels.now in
    let edge = c.at-edge.result in
    let is = c.loop-k.invariant.sound edge (contains_got c.loop-k.found c.loop-k.k edge c.at-edge.ensures) in
    let within = slice_get_within labels.names edge.from is.u is.begins in
    omega (arith, within, c.count-labels.ensures.in_range.named)

pub follow-requires-clause-to : goal.follow-requires-clause-to
follow-requires-clause-to c =
    let labels = c.args.labels.now in
    let edge = c.at-edge.result in
    let is = c.loop-k.invariant.sound edge (contains_got c.loop-k.found c.loop-k.k edge c.at-edge.ensures) in
    let within = slice_get_within labels.names edge.to is.v is.ends in
    omega (arith, within, c.count-labels.ensures.in_range.named)

pub loop-k-preserved : goal.loop-k-preserved
loop-k-preserved c =
    let labels = c.args.labels.now in
    let edge = c.at-edge.result in
    let is = c.loop-k.invariant.sound edge (contains_got c.loop-k.found c.loop-k.k edge c.at-edge.ensures) in
    let ends : AreEnds labels.names edge is.u is.v = record { begins = is.begins; ends = is.ends } in
    closing_more c.args.points.now labels.names c.loop-k.k edge is.u is.v c.loop-k.found c.follow.new.found c.at-edge.ensures ends c.loop-k.invariant (c.in_ok-follow.ensures is.u is.v ends)

pub returns-then-k-count : goal.returns-then-k-count
returns-then-k-count c =
    let all = closing_all c.args.points.now c.args.labels.now c.requires.labels c.loop-k.k c.loop-k.found (omega (arith, c.if-k-count.true, c.count.ensures.value)) c.loop-k.invariant in
    record { each = all; different = c.are_different.ensures }
