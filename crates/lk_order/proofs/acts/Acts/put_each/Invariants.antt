use Rattle.std.proofs.Common.{take}
use Rattle.lk_order.specs.Acts.{basis_in}
use Rattle.lk_order.specs.Finding.{AreTwoLocks, IsGivenBy, Puts}
use Rattle.lk_order.proofs.acts.Acts.put_each.Given as goal

abbrev pub invariant-loop-q : goal.invariant-loop-q
invariant-loop-q l = Puts (IsGivenBy (λ q. IsGivenBy (AreTwoLocks (basis_in l.self) q) l.wanted) (take l.q-index l.held)) l.fn.rows l.rows
