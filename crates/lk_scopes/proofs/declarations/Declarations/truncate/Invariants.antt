use Rattle.std.proofs.Common.{◌≡◌, take, length}
use Rattle.lk_scopes.proofs.declarations.Declarations.truncate.Given as goal

abbrev pub invariant-loop-self : goal.invariant-loop-self
invariant-loop-self g l = take l.fn.count l.self ≡ take l.fn.count l.fn.self

abbrev pub decreases-loop-self : goal.decreases-loop-self
decreases-loop-self g l = length l.self
