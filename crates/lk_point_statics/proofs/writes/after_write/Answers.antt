use Rattle.lk_point_statics.proofs.Beginning.{never_begun}
use Rattle.std.proofs.Common.{◌∙◌, sym}
use Rattle.lk_point_statics.proofs.writes.after_write.Goals as goal

pub returns-in_err-place-clause-begun : goal.returns-in_err-place-clause-begun
returns-in_err-place-clause-begun c =
    rw c.from_residual.ensures
    (never_begun c.args.points.now c.args.initial.now c.args.writes.now c.requires.writes (sym c.needs_write.ensures ∙ c.if-not-needs_write.false) c.in_err-place.ensures.begun)
