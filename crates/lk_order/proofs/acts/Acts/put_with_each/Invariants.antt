use Rattle.std.proofs.Common.{take}
use Rattle.lk_order.specs.Acts.{basis_in}
use Rattle.lk_order.specs.Finding.{AreTwoLocks, IsGivenBy, Puts}
use Rattle.lk_order.proofs.acts.Acts.put_with_each.Given as goal

abbrev pub invariant-loop-r : goal.invariant-loop-r
invariant-loop-r l = Puts (IsGivenBy (AreTwoLocks (basis_in l.self) l.q) (take l.r-index l.places)) l.fn.rows l.rows
