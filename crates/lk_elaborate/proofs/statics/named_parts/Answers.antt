use Rattle.std.proofs.Common.{subst}
use Rattle.lk_elaborate.specs.StaticParts.{GivesPartsOutside}
use Rattle.lk_elaborate.proofs.statics.named_parts.Goals as goal

pub returns-clause-parts : goal.returns-clause-parts
returns-clause-parts c = (
  c.in_ok-givens.givens.items,
  c.in_ok-givens.ensures,
  subst (λ gs. GivesPartsOutside c.args.walk.now c.parts_outside.new.walk gs c.in_ok-parts.parts.items) c.as_slice.ensures.value c.in_ok-parts.ensures.parts,
)
