use Rattle.std.proofs.Common.{refl, arith}
use Rattle.std.proofs.lemmas.Bool.{false≢true}
use borrow.Author.Count.{below_none, below_more}
use Rattle.lk_facts.specs.Typed.{IsFunctionTyped}
use Rattle.lk_point_types.proofs.program.are_functions_typed.Goals as goal

pub loop-f-init : goal.loop-f-init
loop-f-init c = below_none (IsFunctionTyped c.args.points.now)

pub loop-f-preserved : goal.loop-f-preserved
loop-f-preserved c = below_more (IsFunctionTyped c.args.points.now) c.loop-f.f c.loop-f.invariant (c.if-not-is_function_typed.ensures.0 refl)

pub returns-then-not-is_function_typed : goal.returns-then-not-is_function_typed
returns-then-not-is_function_typed c = (
  (λ none. absurd (false≢true none)),
  (λ all. absurd (false≢true (c.if-not-is_function_typed.ensures.1 (all c.loop-f.f (omega (arith, c.loop-f-test.true, c.functions-f-end.ensures)))))),
)

pub returns : goal.returns
returns c = (
  (λ _ f within. c.loop-f.invariant f (omega (arith, within, c.functions-f-end.ensures, c.loop-f-test.false))),
  (λ _. refl),
)
