use Rattle.std.proofs.Common.{◌≡◌, Some, refl, subst}
use Rattle.std.specs.Prelude.{All}
use Rattle.std.proofs.lemmas.List.{take_all}
use Rattle.std.proofs.lemmas.List.Elements.{All-more}
use Rattle.lk_facts.specs.Program.{function_at}
use Rattle.lk_point_ways.proofs.standing.all_stand.Goals as goal

pub loop-p-preserved : goal.loop-p-preserved
loop-p-preserved c =
    All-more (λ p. function_at c.args.points.now p ≡ Some c.args.function) c.args.list.now c.loop-p.p-index 0 c.loop-p-test.true c.loop-p.invariant (c.if-not-stands.ensures.0 refl)

pub returns : goal.returns
returns c = (
  (λ _. subst (All (λ p. function_at c.args.points.now p ≡ Some c.args.function)) (take_all c.loop-p.p-index c.args.list.now c.loop-p-test.false) c.loop-p.invariant),
  (λ _. refl),
)
