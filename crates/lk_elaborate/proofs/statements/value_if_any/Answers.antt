use Rattle.std.proofs.Common.{Some, None, sym, subst}
use Rattle.lk_elaborate.proofs.Making.{missing, there}
use Rattle.lk_elaborate.specs.Making.{MakesPerhaps}
use Rattle.lk_elaborate.proofs.statements.value_if_any.Goals as goal

pub returns-in_ok-statement_value-in-Some-clause-makes : goal.returns-in_ok-statement_value-in-Some-clause-makes
returns-in_ok-statement_value-in-Some-clause-makes c =
    subst (λ e. MakesPerhaps c.args.walk.now c.statement_value.new.walk e (Some c.in_ok-statement_value-in-Some.field-0)) (sym c.in-Some.is)
    (there c.args.walk.now c.statement_value.new.walk c.in-Some.e c.in_ok-statement_value-in-Some.field-0 c.in_ok-statement_value-in-Some.ensures.makes)

pub returns-in-None-clause-makes : goal.returns-in-None-clause-makes
returns-in-None-clause-makes c =
    subst (λ e. MakesPerhaps c.args.walk.now c.args.walk.now e None) (sym c.in-None.is) (missing c.args.walk.now c.args.walk.now)
