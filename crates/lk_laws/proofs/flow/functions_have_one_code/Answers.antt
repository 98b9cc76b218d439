use Rattle.lk_laws.proofs.OneCode.{functions_have_one_code}
use Rattle.lk_laws.proofs.flow.functions_have_one_code.Goals as goal

pub returns : goal.returns
returns c = functions_have_one_code
