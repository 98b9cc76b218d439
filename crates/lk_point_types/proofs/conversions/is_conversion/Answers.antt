use Rattle.std.proofs.Common.{◌∙◌, inl, inr, sym}
use Rattle.std.proofs.lemmas.Bool.{false≢true}
use Rattle.lk_facts.specs.Typed.IsConversion.{threads}
use Rattle.lk_point_types.proofs.Converting.{conversion_is, conversion_was}
use Rattle.lk_point_types.proofs.conversions.is_conversion.Goals as goal

pub returns-then-converts_value : goal.returns-then-converts_value
returns-then-converts_value c = (
  (λ _. conversion_is c.args.points.now c.args.a c.args.p (c.converts_value.ensures.0 c.if-converts_value.true)),
  (λ _. c.if-converts_value.true),
)

pub returns-else-converts_value : goal.returns-else-converts_value
returns-else-converts_value c = (
  (λ are. let both = c.are_threads.ensures.0 are in threads both.0 both.1),
  (λ converts.
      elim (conversion_was c.args.points.now c.args.a c.args.p converts) [
        | inl value ↦ absurd (false≢true (sym c.if-converts_value.false ∙ c.converts_value.ensures.1 value))
        | inr both ↦ c.are_threads.ensures.1 both
      ]),
)
