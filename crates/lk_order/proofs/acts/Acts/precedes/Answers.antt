use Rattle.std.proofs.lemmas.Result.{IfOk-weaker}
use Rattle.lk_order.specs.Acts.{basis_in, linear_in}
use Rattle.lk_order.proofs.FindingLemmas.{order_rows}
use Rattle.lk_order.proofs.acts.Acts.precedes.Goals as goal

pub returns : goal.returns
returns c =
    let self = c.args.self.now in
    IfOk-weaker c.places_of.result _ _ (λ rows places. order_rows (basis_in self) (linear_in self) c.in_ok-pairs.pairs.keys rows c.in_ok-pairs.ensures.exact places) c.places_of.ensures
