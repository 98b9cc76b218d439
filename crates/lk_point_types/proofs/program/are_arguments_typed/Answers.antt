use Rattle.std.proofs.Common.{refl, arith}
use Rattle.std.proofs.lemmas.Bool.{false≢true}
use Rattle.std.proofs.lemmas.Option.{slice_get_within}
use borrow.Author.Count.{below_none, below_more}
use Rattle.lk_point_types.specs.Each.{IsArgumentAt}
use Rattle.lk_point_types.proofs.WholeLemmas.{argument_here}
use Rattle.lk_point_types.proofs.program.are_arguments_typed.Goals as goal

pub loop-r-init : goal.loop-r-init
loop-r-init c = below_none (IsArgumentAt c.args.points.now)

pub loop-r-preserved : goal.loop-r-preserved
loop-r-preserved c =
    below_more (IsArgumentAt c.args.points.now) c.loop-r.r c.loop-r.invariant
    (argument_here c.args.points.now c.loop-r.r c.root.result.now c.root.ensures.value (c.if-not-is_argument.ensures.0 refl))

pub returns-then-not-is_argument : goal.returns-then-not-is_argument
returns-then-not-is_argument c = (
  (λ none. absurd (false≢true none)),
  (λ all. absurd (false≢true (c.if-not-is_argument.ensures.1 (all c.loop-r.r c.root.result.now c.root.ensures.value)))),
)

pub returns : goal.returns
returns c = (
  (λ _ r root at.
      let within = slice_get_within c.args.points.now.roots r root at in
      c.loop-r.invariant r (omega (arith, within, c.roots-r-end.ensures, c.loop-r-test.false)) root at),
  (λ _. refl),
)
