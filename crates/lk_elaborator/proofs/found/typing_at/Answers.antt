use Rattle.std.proofs.Common.{◌∙◌, Some, sym, ap}
use Rattle.lk_elaborator.proofs.Knowing.{typing_has}
use Rattle.lk_elaborator.proofs.found.typing_at.Goals as goal

pub returns-in-Some-clause-typing : goal.returns-in-Some-clause-typing
returns-in-Some-clause-typing c = λ p same true_of.
    typing_has c.args.walk.now.types p c.in_ok-found.found _ (c.in_ok-found.ensures.found p same true_of) (c.in-Some.is ∙ ap Some (sym c.in-Some.typing-is))
