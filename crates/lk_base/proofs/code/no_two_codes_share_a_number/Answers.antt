use Rattle.lk_base.proofs.Numbers.{one_number}
use Rattle.lk_base.proofs.code.no_two_codes_share_a_number.Goals as goal

pub returns : goal.returns
returns c = one_number
