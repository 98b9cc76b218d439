use Rattle.std.proofs.Common.{subst}
use Rattle.lk_predeclared.specs.Plain.{IsPlain}
use Rattle.lk_predeclared.proofs.FirstPlain.{first_plain}
use Rattle.lk_predeclared.proofs.functions.result_type.Goals as goal

pub returns-in-Listed-clause-plain : goal.returns-in-Listed-clause-plain
returns-in-Listed-clause-plain c =
    subst (λ tree. IsPlain c.args.types.now tree c.in-Listed.t) c.in-Listed.ensures.tree (first_plain c.args.types.now c.requires c.in-Listed.t c.in-Listed.ensures.first)
