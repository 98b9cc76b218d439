use Rattle.std.proofs.Common.{sym, subst}
use Rattle.std.specs.Prelude.{IfSome}
use Rattle.lk_typed.specs.Elaborated.{IsSizeof}
use Rattle.lk_typed.specs.Meaning.{meaning_of}
use Rattle.lk_elab_expr.proofs.allocations.zeroed_element.Goals as goal

pub returns-in_ok-t-in-Ok-Some-clause-element : goal.returns-in_ok-t-in-Ok-Some-clause-element
returns-in_ok-t-in-Ok-Some-clause-element c = λ at_end s at told.
    subst (IsSizeof s) (sym c.in_ok-t-in-Ok-Some.ensures.means)
    (subst (λ o. IfSome o (λ ty. IsSizeof s (meaning_of c.args.walk.now.types ty))) c.in-Ok-Some.field-0-is (c.in-Ok-Some.ensures at_end s at told))
