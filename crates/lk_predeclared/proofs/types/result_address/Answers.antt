use Rattle.std.proofs.Common.{subst, sym}
use Rattle.lk_typed.specs.Ty.{Pointer}
use Rattle.lk_predeclared.specs.Plain.{IsSmall}
use Rattle.lk_predeclared.proofs.FirstPlain.{grows_on, small_address}
use Rattle.lk_predeclared.proofs.types.result_address.Goals as goal

pub pointer-requires-clause-small : goal.pointer-requires-clause-small
pointer-requires-clause-small c = subst (λ tree. IsSmall (Pointer tree)) (sym c.in_ok-address.ensures.plain.means) small_address

pub returns-clause-grows : goal.returns-clause-grows
returns-clause-grows c = grows_on c.args.types.now c.pointer_to_first.new.types c.pointer.new.types c.pointer.result c.in_ok-address.ensures.grows c.pointer.ensures.grows
