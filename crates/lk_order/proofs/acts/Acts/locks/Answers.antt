use Rattle.std.proofs.Common.{ap, sym, ◌∙◌}
use Rattle.std.specs.Option.{option_and_then}
use Rattle.lk_order.specs.Acts.{basis_in}
use Rattle.lk_order.specs.Mutexes.{locked}
use Rattle.lk_order.proofs.DoingLemmas.{done}
use Rattle.lk_order.proofs.acts.Acts.locks.Goals as goal

pub returns-in-Some-clause-value : goal.returns-in-Some-clause-value
returns-in-Some-clause-value c =
    let self = c.args.self.now in
    done (basis_in self) locked c.args.point c.in-Some.mutex c.target.result c.requires (sym c.live.ensures ∙ c.if-not-live.false) (ap (option_and_then locked) c.action.ensures.value ∙ sym c.locked.ensures ∙ c.in-Some.is) c.target.ensures.value
