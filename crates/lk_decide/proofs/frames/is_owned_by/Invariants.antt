use Rattle.std.proofs.Common.{◌≡◌, drop}
use Rattle.std.specs.List.{list_any}
use Rattle.lk_decide.specs.Frames.{is_owned_in}
use Rattle.lk_decide.proofs.frames.is_owned_by.Given as goal

abbrev pub invariant-loop-local : goal.invariant-loop-local
invariant-loop-local l = list_any (λ local. is_owned_in l.state local.object) (drop l.local-index l.frame.locals) ≡ list_any (λ local. is_owned_in l.state local.object) l.frame.locals
