use Rattle.std.proofs.Common.{Some, None, subst}
use Rattle.lk_facts.proofs.Numbers.{number_of}
use Rattle.lk_facts.proofs.Same.{same_name, name_itself}
use Rattle.lk_facts.specs.Labels.{name_with}
use Rattle.lk_facts.specs.Places.{IsNumberOf}
use Rattle.lk_facts.proofs.labels.Labels.find.Goals as goal

pub returns-in_err-number-clause-value : goal.returns-in_err-number-clause-value
returns-in_err-number-clause-value c =
    rw c.from_residual.ensures (subst (λ labels. IsNumberOf labels.names (name_with c.args.holder c.args.node) None) c.self.view_is
    (number_of _ same_name name_itself _ _ None c.in_err-number.ensures.index c.in_err-number.ensures.found))

pub returns-clause-value : goal.returns-clause-value
returns-clause-value c =
    subst (λ labels. IsNumberOf labels.names (name_with c.args.holder c.args.node) (Some c.in_ok-number.number)) c.self.view_is
    (number_of _ same_name name_itself _ _ (Some c.in_ok-number.number) c.in_ok-number.ensures.index c.in_ok-number.ensures.found)
