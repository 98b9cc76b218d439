-- A list that was lent as a slice for writing.
use Rattle.std.proofs.Common.{◌≡◌, List, length, drop}
use Rattle.std.proofs.lemmas.List.{take_at}
use Rattle.lk_base.specs.Lending.{written}

-- it holds what the slice holds last, which is as long as before
pub written_is : {A : Type 0} (old new : List A) → length new ≡ length old → written old new ≡ new
unfolding written
written_is old new same = take_at new (drop (length new) old) (length old) same
