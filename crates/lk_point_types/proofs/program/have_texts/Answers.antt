use Rattle.std.proofs.Common.{refl, arith}
use Rattle.std.proofs.lemmas.Bool.{false≢true}
use borrow.Author.Count.{below_none, below_more}
use Rattle.lk_facts.specs.declared.action.Action.TheVariants.{Text}
use Rattle.lk_point_types.specs.Each.{HasItsText}
use Rattle.lk_point_types.proofs.WholeLemmas.{acting_within}
use Rattle.lk_point_types.proofs.program.have_texts.Goals as goal

pub loop-p-init : goal.loop-p-init
loop-p-init c = below_none (HasItsText c.args.points.now)

pub loop-p-preserved : goal.loop-p-preserved
loop-p-preserved c = below_more (HasItsText c.args.points.now) c.loop-p.p c.loop-p.invariant (c.if-not-has_its_text.ensures.0 refl)

pub returns-then-not-has_its_text : goal.returns-then-not-has_its_text
returns-then-not-has_its_text c = (
  (λ none. absurd (false≢true none)),
  (λ all. absurd (false≢true (c.if-not-has_its_text.ensures.1 (all c.loop-p.p)))),
)

pub returns : goal.returns
returns c = (
  (λ _ p r at.
      let within = acting_within c.args.points.now p (Text r) at in
      c.loop-p.invariant p (omega (arith, within, c.count-p-end.ensures.value, c.loop-p-test.false)) r at),
  (λ _. refl),
)
