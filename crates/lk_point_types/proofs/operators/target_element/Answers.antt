use Rattle.std.proofs.Common.{subst}
use Rattle.std.proofs.lemmas.Option.{IfSome_then}
use Rattle.lk_facts.specs.Typed.{PointsToForm}
use Rattle.lk_types.specs.declared.c_type.CType.TheVariants.{Array}
use Rattle.lk_point_types.proofs.operators.target_element.Goals as goal

pub returns-in-Some-clause-element : goal.returns-in-Some-clause-element
returns-in-Some-clause-element c =
    IfSome_then c.element_of.result c.element_of.ensures.element (λ e is. (is.0, subst (PointsToForm c.args.points.now c.args.a) is.1 c.in-Some.ensures.form))

pub returns-in-None-clause-only : goal.returns-in-None-clause-only
returns-in-None-clause-only c = λ e n h. absurd (c.in-None.ensures.form (Array e n) h)
