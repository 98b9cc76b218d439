use Rattle.std.proofs.Common.{subst}
use Rattle.std.specs.Prelude.{IfSome}
use Rattle.lk_typed.specs.Elaborated.{IsSizeof}
use Rattle.lk_typed.specs.Meaning.{meaning_of}
use Rattle.lk_elab_expr.proofs.allocations.one_object.Goals as goal

pub returns-in-Ok-Some : goal.returns-in-Ok-Some
returns-in-Ok-Some c = λ at_end p at told. subst (λ o. IfSome o (λ ty. IsSizeof p (meaning_of c.args.walk.now.types ty))) c.in-Ok-Some.field-0-is (c.in-Ok-Some.ensures at_end p at told)
