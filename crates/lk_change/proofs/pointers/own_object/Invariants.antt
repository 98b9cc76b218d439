use Rattle.std.proofs.Common.{◌≡◌, drop}
use Rattle.std.specs.Prelude.{find, nat_eq}
use Rattle.lk_change.proofs.pointers.own_object.Given as goal

abbrev pub invariant-loop-local : goal.invariant-loop-local
invariant-loop-local l = find (λ local. nat_eq local.root l.root) (drop l.local-index l.frame.locals) ≡ find (λ local. nat_eq local.root l.root) l.frame.locals
