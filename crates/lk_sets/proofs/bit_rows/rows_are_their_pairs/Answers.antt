use Rattle.lk_sets.proofs.Square.{one_square}
use Rattle.lk_sets.proofs.bit_rows.rows_are_their_pairs.Goals as goal

pub returns : goal.returns
returns c = one_square
