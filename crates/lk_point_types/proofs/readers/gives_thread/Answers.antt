use Rattle.lk_point_types.proofs.Found.{never}
use Rattle.lk_types.specs.declared.c_type.CType.TheVariants.{ThreadId}
use Rattle.lk_point_types.proofs.readers.gives_thread.Goals as goal

pub returns-in-None : goal.returns-in-None
returns-in-None c = never (λ h. c.in-None.ensures ThreadId h)
