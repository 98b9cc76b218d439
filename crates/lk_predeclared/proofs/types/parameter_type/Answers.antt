use Rattle.std.proofs.Common.{subst, sym, arith}
use Rattle.lk_typed.specs.Library.{passed_type}
use Rattle.lk_check_expr.specs.Functions.{parameter_in}
use Rattle.lk_predeclared.specs.Plain.{IsPlain}
use Rattle.lk_predeclared.proofs.FirstPlain.{first_plain}
use Rattle.lk_predeclared.proofs.types.parameter_type.Goals as goal

pub returns-in-Int-clause-plain : goal.returns-in-Int-clause-plain
returns-in-Int-clause-plain c =
    subst (λ p. IsPlain c.args.types.now (passed_type (parameter_in p)) 7) (sym c.in-Int.is) (first_plain c.args.types.now c.requires 7 (omega arith))

pub returns-in-UnsignedInt-clause-plain : goal.returns-in-UnsignedInt-clause-plain
returns-in-UnsignedInt-clause-plain c =
    subst (λ p. IsPlain c.args.types.now (passed_type (parameter_in p)) 8) (sym c.in-UnsignedInt.is) (first_plain c.args.types.now c.requires 8 (omega arith))

pub returns-in-Count-clause-plain : goal.returns-in-Count-clause-plain
returns-in-Count-clause-plain c =
    subst (λ p. IsPlain c.args.types.now (passed_type (parameter_in p)) 10) (sym c.in-Count.is) (first_plain c.args.types.now c.requires 10 (omega arith))

pub returns-in-Size-clause-plain : goal.returns-in-Size-clause-plain
returns-in-Size-clause-plain c =
    subst (λ p. IsPlain c.args.types.now (passed_type (parameter_in p)) 10) (sym c.in-Size.is) (first_plain c.args.types.now c.requires 10 (omega arith))

pub returns-in-Thread-clause-plain : goal.returns-in-Thread-clause-plain
returns-in-Thread-clause-plain c =
    subst (λ p. IsPlain c.args.types.now (passed_type (parameter_in p)) 13) (sym c.in-Thread.is) (first_plain c.args.types.now c.requires 13 (omega arith))
