use Rattle.std.proofs.lemmas.Result.{IfOk-weaker}
use Rattle.lk_held.specs.Acts.{basis_in}
use Rattle.lk_held.proofs.HoldLemmas.{passed}
use Rattle.lk_held.proofs.acts.Acts.pass.Goals as goal

pub returns : goal.returns
returns c =
    let self = c.args.self.now in
    IfOk-weaker c.narrow_each.result _ _ (λ changed step.
    passed (basis_in self) c.args.point c.next.result.now c.in_ok-after.after c.args.states.now c.narrow_each.new.states changed
    c.requires.live c.next.ensures.value c.in_ok-after.ensures step)
    c.narrow_each.ensures
