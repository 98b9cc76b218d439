use Rattle.std.proofs.Common.{subst, sym}
use Rattle.lk_check_decl.specs.Making.{IsMade}
use Rattle.lk_check_decl.proofs.making.adjusted.Goals as goal

pub returns-in-None-clause-ok : goal.returns-in-None-clause-ok
returns-in-None-clause-ok c =
    let table = c.args.types.now in
    subst (λ tree. IsMade table table tree c.bounded.result) (sym c.in-None.ensures.value) c.bounded.ensures
