use Rattle.std.proofs.Common.{◌∙◌, IsTrue, ap, is_some, subst}
use Rattle.lk_facts.specs.Typed.{GivesForm}
use Rattle.lk_types.specs.declared.c_type.CType.TheVariants.{Pointer}
use Rattle.lk_point_types.proofs.Found.{found}
use Rattle.lk_point_types.proofs.readers.gives_pointer.Goals as goal

pub returns : goal.returns
returns c = (
  (λ yes_. found (λ t. GivesForm c.args.points.now c.args.p (Pointer t)) c.target.result c.target.ensures.form (subst IsTrue c.is_some.ensures yes_)),
  (λ gives. c.is_some.ensures ∙ ap is_some (c.target.ensures.only gives.0 gives.1)),
)
