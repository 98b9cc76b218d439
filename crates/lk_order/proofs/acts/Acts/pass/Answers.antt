use Rattle.std.proofs.Common.{sym, ◌∙◌}
use Rattle.std.proofs.lemmas.Result.{IfOk-weaker}
use Rattle.lk_facts.proofs.Ranges.{exit_within}
use Rattle.lk_order.specs.Acts.{basis_in}
use Rattle.lk_order.proofs.DroppingLemmas.{passed}
use Rattle.lk_order.proofs.acts.Acts.pass.Goals as goal

pub returns : goal.returns
returns c =
    let self = c.args.self.now in
    IfOk-weaker c.narrow_each.result _ _ (λ changed step.
    passed (basis_in self) c.args.point c.next.result.now c.in_ok-after.after c.args.states.now c.narrow_each.new.states changed
    (λ e y g exit. exit_within self.points.now c.count.ensures.in_range g e exit) (sym c.live.ensures ∙ c.if-not-live.false) c.next.ensures.value c.in_ok-after.ensures step)
    c.narrow_each.ensures
