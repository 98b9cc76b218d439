use Rattle.lk_circles.proofs.Circles.{order_excludes_circles}
use Rattle.lk_circles.proofs.laws.order_excludes_circles.Goals as goal

pub returns : goal.returns
returns c = order_excludes_circles
