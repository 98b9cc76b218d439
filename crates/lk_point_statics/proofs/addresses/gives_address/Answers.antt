use Rattle.std.proofs.Common.{◌∙◌, refl, sym}
use Rattle.std.proofs.lemmas.Bool.{false≢true}
use Rattle.lk_point_statics.specs.Behind.LeadsBack.{here}
use Rattle.lk_point_statics.proofs.Behind.{ends_near, further, never_so_far}
use Rattle.lk_point_statics.proofs.Giving.{met_alone, met_by}
use Rattle.lk_point_statics.proofs.addresses.gives_address.Goals as goal

pub loop-turn-init : goal.loop-turn-init
loop-turn-init c = record {
  within = c.requires;
  back = here c.args.p;
  exact = met_by c.args.points.now c.of.result c.args.p c.args.root c.args.path.now c.args.past c.of.ensures;
}

pub returns-then-is_met : goal.returns-then-is_met
returns-then-is_met c = (
  (λ _. c.loop-turn.invariant.exact.0 (met_alone c.args.points.now c.loop-turn.asked.wanted c.loop-turn.asked.point (c.is_met.ensures.0 c.if-is_met.true))),
  (λ _. refl),
)

pub loop-turn-preserved : goal.loop-turn-preserved
loop-turn-preserved c =
    let before = c.loop-turn.invariant in
    record {
      within = c.in-Some.ensures.within;
      back = further c.args.points.now c.loop-turn._turn c.args.p c.loop-turn.asked.point c.in-Some.next.point before.back c.in-Some.ensures.behind;
      exact = ((λ gives. before.exact.0 (c.in-Some.ensures.leads.0 gives)), (λ gives. c.in-Some.ensures.leads.1 (before.exact.1 gives)));
    }

pub returns-in-None : goal.returns-in-None
returns-in-None c = (
  (λ no. absurd (false≢true no)),
  (λ gives. absurd (false≢true (sym c.if-is_met.false ∙ c.is_met.ensures.1 (c.in-None.ensures (c.loop-turn.invariant.exact.1 gives))))),
)

pub returns : goal.returns
returns c = (
  (λ no. absurd (false≢true no)),
  (λ gives.
      let program = c.args.points.now in
      let ends = ends_near program c.args.p c.args.root c.args.path.now c.args.past gives in
      absurd (never_so_far program c.count-turn-end.ensures.in_range c.loop-turn._turn c.args.p c.loop-turn.asked.point c.requires (rw c.count-turn-end.ensures.value at c.loop-turn-test.false)
      c.loop-turn.invariant.back ends.0 ends.1)),
)
