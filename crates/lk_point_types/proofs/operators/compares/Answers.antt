use Rattle.std.proofs.lemmas.Option.{none-some}
use Rattle.lk_point_types.proofs.Found.{never}
use Rattle.lk_point_types.proofs.operators.compares.Goals as goal

pub returns-in-None : goal.returns-in-None
returns-in-None c = never (λ h. none-some h.1.0 (c.in-None.ensures.only h.1.0 h.1.1))
