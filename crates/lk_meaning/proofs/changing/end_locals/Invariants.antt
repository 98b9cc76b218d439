use Rattle.std.proofs.Common.{◌≡◌, drop}
use Rattle.lk_meaning.specs.After.{after_lives}
use Rattle.lk_meaning.proofs.changing.end_locals.Given as goal

abbrev pub invariant-loop-local : goal.invariant-loop-local
invariant-loop-local l = after_lives l.objects (drop l.local-index l.locals) ≡ after_lives l.fn.objects l.locals
