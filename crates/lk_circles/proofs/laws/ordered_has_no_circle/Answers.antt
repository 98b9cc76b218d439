use Rattle.lk_circles.proofs.Circles.{ordered_has_no_circle}
use Rattle.lk_circles.proofs.laws.ordered_has_no_circle.Goals as goal

pub returns : goal.returns
returns c = ordered_has_no_circle
