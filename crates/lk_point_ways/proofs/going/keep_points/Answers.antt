use Rattle.std.proofs.Common.{refl, arith}
use Rattle.std.proofs.lemmas.Bool.{false≢true}
use Rattle.lk_point_ways.specs.Kept.{KeepsPoint}
use Rattle.lk_point_ways.proofs.Below.{one_more}
use Rattle.lk_point_ways.proofs.going.keep_points.Goals as goal

pub returns-then-not-keeps_point : goal.returns-then-not-keeps_point
returns-then-not-keeps_point c = (
  (λ none. absurd (false≢true none)),
  (λ all. absurd (false≢true (c.if-not-keeps_point.ensures.1 (all c.loop-p.p (omega (arith, c.loop-p-test.true, c.count-p-end.ensures.value)))))),
)

pub loop-p-preserved : goal.loop-p-preserved
loop-p-preserved c = one_more (KeepsPoint c.args.points.now) c.loop-p.p c.loop-p.invariant (c.if-not-keeps_point.ensures.0 refl)
