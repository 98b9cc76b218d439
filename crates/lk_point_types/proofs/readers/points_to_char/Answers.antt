use Rattle.lk_point_types.proofs.Found.{never}
use Rattle.lk_base.specs.declared.kind.Kind.TheVariants.{Char}
use Rattle.lk_types.specs.declared.c_type.CType.TheVariants.{Int}
use Rattle.lk_point_types.proofs.readers.points_to_char.Goals as goal

pub returns-in-None : goal.returns-in-None
returns-in-None c = never (λ h. c.in-None.ensures.form (Int Char) h)
