use Rattle.std.proofs.Common.{subst}
use Rattle.lk_typed.specs.Meaning.{meaning_of}
use Rattle.lk_elab_expr.specs.Allocating.{CountsBySizeof}
use Rattle.lk_elab_expr.proofs.Sizing.{by_size}
use Rattle.lk_elab_expr.proofs.allocations.size_of.Goals as goal

pub returns-in-Ok-Some : goal.returns-in-Ok-Some
returns-in-Ok-Some c = λ at_end p at told r stands.
    let size = c.in-Ok-Some.size in
    by_size (meaning_of c.args.walk.now.types size.element) r p size.count (subst (CountsBySizeof c.args.walk.now c.args.e.now) c.in-Ok-Some.field-0-is c.in-Ok-Some.ensures at_end p at told)
