use Rattle.std.proofs.Common.{◌≡◌, ◌∙◌, Some, ap, refl, subst}
use Rattle.std.specs.Prelude.{All}
use Rattle.std.proofs.lemmas.List.{take_all}
use Rattle.std.proofs.lemmas.List.Elements.{All-more}
use Rattle.lk_facts.specs.Program.{action_at}
use Rattle.lk_facts.specs.declared.action.Action.TheVariants.{Retake}
use Rattle.lk_point_ways.proofs.waiting.all_retake.Goals as goal

pub loop-p-preserved : goal.loop-p-preserved
loop-p-preserved c =
    All-more (λ p. action_at c.args.points.now p ≡ Some (Retake c.args.mutex)) c.args.list.now c.loop-p.p-index 0 c.loop-p-test.true c.loop-p.invariant
    (c.action.ensures.value ∙ ap Some (c.if-not-is_retake.ensures.0 refl))

pub returns : goal.returns
returns c = (
  (λ _. subst (All (λ p. action_at c.args.points.now p ≡ Some (Retake c.args.mutex))) (take_all c.loop-p.p-index c.args.list.now c.loop-p-test.false) c.loop-p.invariant),
  (λ _. refl),
)
