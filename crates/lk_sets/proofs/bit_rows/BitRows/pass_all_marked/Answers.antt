use Rattle.std.proofs.Common.{◌∙◌, ap, sym, length}
use Rattle.std.proofs.lemmas.List.Elements.{Contains-get_or}
use Rattle.lk_sets.proofs.Marking.{clear_marks, passing_more, passing_all, passing_done}
use Rattle.lk_sets.proofs.bit_rows.BitRows.pass_all_marked.Goals as goal

pub pass_marked-changed-requires-clause-within : goal.pass_marked-changed-requires-clause-within
pass_marked-changed-requires-clause-within c =
    let size = (c.loop-arrow.invariant.going c.args.self.now).grows.size in
    let within = c.requires.within _ _ c.loop-arrow-test.true in
    (rw size within.0, rw size within.1)

pub pass_marked-changed-requires-clause-marks : goal.pass_marked-changed-requires-clause-marks
pass_marked-changed-requires-clause-marks c =
    ap length c.deref.ensures.value ∙ (c.requires.long ∙ sym (c.loop-arrow.invariant.going c.args.self.now).grows.size)

pub pass_marked-changed-requires-clause-grown : goal.pass_marked-changed-requires-clause-grown
pass_marked-changed-requires-clause-grown c =
    let size = (c.loop-arrow.invariant.going c.args.self.now).grows.size in
    let long = c.loop-arrow.invariant.marked.long in
    cc (c.in_ok-grown.ensures.len, c.size.ensures.value)

pub loop-arrow-preserved : goal.loop-arrow-preserved
loop-arrow-preserved c =
    let xs = c.args.arrows.now in
    let i = c.loop-arrow.arrow-index in
    let step = c.pass_marked-changed.ensures in
    passing_more i (record { from = 0; into = 0 }) c.loop-arrow-test.true c.loop-arrow.invariant (λ first. step.going xs first (Contains-get_or xs i _ c.loop-arrow-test.true)) step.marks
    c.deref.ensures.value step.passes

pub returns-clause-going : goal.returns-clause-going
returns-clause-going c = passing_done c.loop-arrow.arrow-index c.loop-arrow-test.false (clear_marks _ _ c.in_ok-grown.ensures.items_if_clones_equal) c.loop-arrow.invariant

pub returns-clause-waits : goal.returns-clause-waits
returns-clause-waits c = passing_all c.loop-arrow.arrow-index c.loop-arrow-test.false c.loop-arrow.invariant
