use Rattle.std.proofs.Common.{refl, arith}
use Rattle.std.proofs.lemmas.Bool.{false≢true}
use Rattle.lk_point_ways.specs.Kept.{KeepsFunction}
use Rattle.lk_point_ways.proofs.Below.{one_more}
use Rattle.lk_point_ways.proofs.ends.keep_functions.Goals as goal

pub returns-then-not-keeps_function : goal.returns-then-not-keeps_function
returns-then-not-keeps_function c = (
  (λ none. absurd (false≢true none)),
  (λ all. absurd (false≢true (c.if-not-keeps_function.ensures.1 (all c.loop-f.f (omega (arith, c.loop-f-test.true, c.functions-f-end.ensures)))))),
)

pub loop-f-preserved : goal.loop-f-preserved
loop-f-preserved c = one_more (KeepsFunction c.args.points.now) c.loop-f.f c.loop-f.invariant (c.if-not-keeps_function.ensures.0 refl)
