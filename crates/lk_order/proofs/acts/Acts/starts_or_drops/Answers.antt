use Rattle.std.proofs.Common.{refl}
use Rattle.std.proofs.lemmas.Bool.{both_ways}
use Rattle.std.proofs.lemmas.Result.{IfOk-weaker}
use Rattle.lk_order.proofs.acts.Acts.starts_or_drops.Goals as goal

pub returns-then-link : goal.returns-then-link
returns-then-link c = (λ yes runs. absurd (both_ways _ runs c.if-link.true), λ drops. refl)

pub returns : goal.returns
returns c = IfOk-weaker c.drops_in.result _ _ (λ answer asked. (λ yes runs. asked.0 yes, λ drops. asked.1 (drops c.if-link.false))) c.drops_in.ensures
