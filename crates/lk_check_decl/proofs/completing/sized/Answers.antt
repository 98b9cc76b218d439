use Rattle.std.proofs.Common.{◌∙◌, sym}
use Rattle.lk_check_decl.proofs.GivenSizes.{few_enough}
use Rattle.lk_check_decl.proofs.completing.sized.Goals as goal

pub returns-clause-few : goal.returns-clause-few
returns-clause-few c few = c.stored_array.ensures.few (few_enough _ (sym c.has_few.ensures ∙ c.if-not-has_few.false)) few
