use Rattle.std.proofs.Common.{◌∙◌, get_or, refl, subst, arith}
use Rattle.std.proofs.lemmas.List.{length-set}
use Rattle.std.proofs.lemmas.List.Elements.{Contains-get_or}
use Rattle.lk_sets.proofs.Members.{has_id-from_Contains}
use Rattle.lk_graph.proofs.SearchLemmas.{asked_all, asked_more}
use Rattle.lk_graph.specs.Found.{Finds}
use Rattle.lk_graph.specs.Search.{IsOnRound}
use Rattle.lk_graph.proofs.graph.Graph.on_cycles.Goals as goal

pub put_rounds-requires-clause-number : goal.put_rounds-requires-clause-number
put_rounds-requires-clause-number c =
    let order = c.args.order.now in
    (c.requires.order _).0 (has_id-from_Contains order _ (Contains-get_or order c.loop-a.a-index 0 c.loop-a-test.true))

pub index_mut-requires : goal.index_mut-requires
index_mut-requires c =
    let order = c.args.order.now in
    let below = (c.requires.order _).0 (has_id-from_Contains order _ (Contains-get_or order c.loop-a.a-index 0 c.loop-a-test.true)) in
    omega (arith, below, c.loop-a.invariant.asked.long)

pub loop-a-preserved : goal.loop-a-preserved
loop-a-preserved c = record {
  size = c.in_ok-put_rounds.ensures.size ∙ c.loop-a.invariant.size;
  asked =
      asked_more c.args.self.now c.args.back.now c.loop-a.left.items _ c.args.order.now c.loop-a.a-index 0 c.loop-a.again c.put_rounds.new.again c.loop-a-test.true c.requires.back (λ a b there. (c.size.ensures.within a b there).1)
      refl (length-set _ _ _)
      (subst (λ marks. Finds (IsOnRound c.args.self.now c.args.back.now marks (get_or c.args.order.now c.loop-a.a-index 0)) c.loop-a.again c.put_rounds.new.again) c.deref.ensures.value c.in_ok-put_rounds.ensures)
      c.loop-a.invariant.asked;
}

pub returns : goal.returns
returns c =
    asked_all c.args.self.now c.loop-a.left.items c.args.order.now c.loop-a.again.list c.loop-a.a-index c.loop-a-test.false c.requires.order (λ a b there. (c.size.ensures.within a b there).1) c.loop-a.invariant.asked
