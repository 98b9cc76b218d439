use Rattle.std.proofs.Common.{◌∙◌, sym}
use Rattle.lk_elaborator.proofs.found.constant_at.Goals as goal

pub returns-in-Ok : goal.returns-in-Ok
returns-in-Ok c = λ p same true_of.
    let has = c.in-Ok.ensures.typing p same true_of in
    record { typing = has.typing; found = has.found; is = sym has.is.constant ∙ sym c.constant_of.ensures }
