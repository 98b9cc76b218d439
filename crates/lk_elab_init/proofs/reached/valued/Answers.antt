use Rattle.std.proofs.Common.{◌∙◌, ap, sym}
use Rattle.std.proofs.lemmas.Result.{IfOk-weaker}
use Rattle.lk_elab_init.specs.Reaching.{is_reached}
use Rattle.lk_elab_init.proofs.Reaching.{plain_value}
use Rattle.lk_elab_init.proofs.reached.valued.Goals as goal

pub returns-then-is_element : goal.returns-then-is_element
returns-then-is_element c = IfOk-weaker c.first_element.result _ _ (λ r says x element at_x kept. says x (sym element ∙ c.if-is_element.true) at_x kept) c.first_element.ensures

pub returns-else-is_element : goal.returns-else-is_element
returns-else-is_element c = λ x element at_x kept. plain_value x (sym element ∙ c.if-is_element.false) (ap is_reached (sym kept)) ∙ at_x
