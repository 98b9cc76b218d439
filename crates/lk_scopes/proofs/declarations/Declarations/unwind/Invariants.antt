use Rattle.std.proofs.Common.{◌≡◌, ◌≤◌, ◌+◌, ◌-◌, ◌++◌, length, take, drop, reverse, vec_capacity}
use Rattle.lk_scopes.proofs.declarations.Declarations.unwind.Given as goal

abbrev pub invariant-loop-self : goal.invariant-loop-self
invariant-loop-self g l = record {
  left : take l.fn.count l.self ≡ take l.fn.count l.fn.self;
  all : drop l.fn.count l.self ++ reverse l.taken.items ≡ drop l.fn.count l.fn.self;
  room : length l.taken.items + (length l.self - l.fn.count) ≤ vec_capacity l.taken;
}

abbrev pub decreases-loop-self : goal.decreases-loop-self
decreases-loop-self g l = length l.self
