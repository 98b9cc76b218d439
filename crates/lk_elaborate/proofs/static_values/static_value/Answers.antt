use Rattle.std.proofs.Common.{subst}
use Rattle.std.proofs.lemmas.Result.{IfOk-weaker}
use Rattle.lk_typed.specs.Meaning.{meaning}
use Rattle.lk_elaborator.proofs.Growing.{grows_same}
use Rattle.lk_elaborate.specs.StaticParts.{IsScalar}
use Rattle.lk_elaborate.proofs.MakingStatics.{integer_begins, ok_always}
use Rattle.lk_elaborate.proofs.static_values.static_value.Goals as goal

pub returns-in-Integer-clause-value : goal.returns-in-Integer-clause-value
returns-in-Integer-clause-value c = IfOk-weaker c.integer.result _ _ (λ begun says externs unit told tables leads env t type node.
    let walk = c.args.walk.now in
    integer_begins externs unit walk told tables c.args.ty c.args.e.now env t type node c.in-Integer.kind begun
    (subst (IsScalar (meaning walk.types c.args.ty)) c.in-Integer.is c.in_ok-kind.ensures) says) c.integer.ensures

pub returns-in-Integer-clause-grows : goal.returns-in-Integer-clause-grows
returns-in-Integer-clause-grows c = ok_always c.integer.result _ (grows_same c.args.walk.now)

pub pointer-requires : goal.pointer-requires
pointer-requires c = subst (IsScalar (meaning c.args.walk.now.types c.args.ty)) c.in-Pointer.is c.in_ok-kind.ensures
