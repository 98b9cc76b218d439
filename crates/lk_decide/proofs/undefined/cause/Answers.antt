use Rattle.lk_decide.proofs.undefined.cause.Goals as goal

pub returns-in_ok-why-in-Convert : goal.returns-in_ok-why-in-Convert
returns-in_ok-why-in-Convert c = rw c.in-Convert.is c.in_ok-why-in-Convert.ensures
