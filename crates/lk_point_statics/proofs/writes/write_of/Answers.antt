use Rattle.std.proofs.Common.{length}
use Rattle.lk_point_statics.proofs.Beginning.{none_of_both}
use Rattle.lk_point_statics.proofs.Moving.{match_then}
use Rattle.lk_point_statics.proofs.writes.write_of.Goals as goal

pub returns-in-None-clause-begun : goal.returns-in-None-clause-begun
returns-in-None-clause-begun c =
    match_then c.write_among-in-None.result c.write_among-in-None.ensures.begun
    (λ below. none_of_both c.args.points.now c.args.initial.now c.args.writes.now c.args.from (length c.args.writes.now) below c.in-None.ensures.begun)
    (λ place begun. begun)
