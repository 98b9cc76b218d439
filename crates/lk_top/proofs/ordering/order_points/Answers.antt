use Rattle.std.proofs.Common.{Err, ap}
use Rattle.lk_top.specs.Answer.{orders, too_many}
use Rattle.lk_top.proofs.ordering.order_points.Goals as goal

pub returns-in_ok-answer-in-Ok : goal.returns-in_ok-answer-in-Ok
returns-in_ok-answer-in-Ok c = orders c.in-Ok.ensures.few c.in_ok-answer-in-Ok.ensures

pub returns-in_ok-answer-in-Err-TooMany : goal.returns-in_ok-answer-in-Err-TooMany
returns-in_ok-answer-in-Err-TooMany c = too_many (c.in-Err-TooMany.ensures.too_many (ap Err c.in-Err-TooMany.field-0-is)) c.in_ok-answer-in-Err-TooMany.ensures
