use Rattle.std.proofs.Common.{sym, ◌∙◌}
use Rattle.lk_sets.proofs.Rising.{one_list}
use Rattle.lk_sets.proofs.id_set.a_set_has_one_list.Goals as goal

pub returns : goal.returns
returns c = λ member ids others is is'. one_list ids others is.sorted is'.sorted (λ x. is.members x ∙ sym (is'.members x))
