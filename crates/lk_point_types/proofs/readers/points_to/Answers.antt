use Rattle.std.proofs.lemmas.Option.{none-some}
use Rattle.lk_point_types.proofs.Found.{never}
use Rattle.lk_point_types.proofs.readers.points_to.Goals as goal

pub returns-in-None : goal.returns-in-None
returns-in-None c = never (λ h. none-some h.0 (c.in-None.ensures.only h.0 h.1))
