use Rattle.lk_point_types.proofs.Found.{never}
use Rattle.lk_point_types.proofs.calls.calls_pointer.Goals as goal

pub returns-in-None : goal.returns-in-None
returns-in-None c = never (λ h. c.in-None.ensures.form h.0 h.1)
