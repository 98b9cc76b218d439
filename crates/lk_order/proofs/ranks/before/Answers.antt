use Rattle.std.proofs.Common.{◌∙◌, ◌++◌, ◌∷◌, [], All, List, map, get_or, ap, sym, subst, arith}
use Rattle.std.proofs.lemmas.Bool.{both_ways}
use Rattle.std.proofs.lemmas.List.{map_more, take_all}
use Rattle.lk_order.specs.Ranking.{IsPairWithin, Leads}
use Rattle.lk_order.proofs.RankingLemmas.{arrow_of, arrows_within, before_is, leads_more}
use Rattle.lk_sets.specs.Spread.{IsWithin, Spread}
use Rattle.lk_sets.specs.declared.spread.Arrow.{Arrow}
use Rattle.lk_order.proofs.ranks.before.Goals as goal

pub loop-pair-init : goal.loop-pair-init
loop-pair-init c = record {
  size = c.in_ok-rows.ensures.size;
  rows = λ q o. (λ there. absurd (both_ways _ (c.in_ok-rows.ensures.empty q o) there), λ leads. absurd (omega (arith, leads.1)));
  arrows = c.new-arrows.ensures.items;
}

pub loop-pair-preserved : goal.loop-pair-preserved
loop-pair-preserved c = record {
  size = c.put.ensures.grows.size ∙ c.loop-pair.invariant.size;
  rows = leads_more c.args.pairs.now c.loop-pair.pair-index (record { held = 0; wanted = 0 }) c.loop-pair.rows c.put.new.self c.loop-pair-test.true c.put.ensures.pairs c.loop-pair.invariant.rows;
  arrows = c.in_ok-push.ensures.items ∙ ap (λ arrows. arrows ++ arrow_of (get_or c.args.pairs.now c.loop-pair.pair-index (record { held = 0; wanted = 0 })) ∷ []) c.loop-pair.invariant.arrows ∙ sym (map_more arrow_of c.args.pairs.now c.loop-pair.pair-index (record { held = 0; wanted = 0 }) c.loop-pair-test.true);
}

pub spread-requires : goal.spread-requires
spread-requires c =
    let all = take_all c.loop-pair.pair-index c.args.pairs.now c.loop-pair-test.false in
    subst (All (IsWithin c.loop-pair.rows.size)) (sym (c.deref.ensures.value ∙ c.loop-pair.invariant.arrows ∙ ap (map arrow_of) all))
    (arrows_within c.args.pairs.now c.loop-pair.rows.size (subst (λ n. All (IsPairWithin n) c.args.pairs.now) (sym c.loop-pair.invariant.size) c.requires.pairs))

pub returns : goal.returns
returns c =
    let all = take_all c.loop-pair.pair-index c.args.pairs.now c.loop-pair-test.false in
    before_is c.args.pairs.now c.loop-pair.rows c.spread.new.self c.args.size (c.spread.ensures.size ∙ c.loop-pair.invariant.size)
    (λ q o.
    (λ there. subst (λ ps. Leads ps o q) all ((c.loop-pair.invariant.rows q o).0 there), λ leads. (c.loop-pair.invariant.rows q o).1 (subst (λ ps. Leads ps o q) (sym all) leads)))
    (λ q o.
    let arrows = c.deref.ensures.value ∙ c.loop-pair.invariant.arrows ∙ ap (map arrow_of) all in
    (λ there. subst (λ (list : List Arrow). Spread list c.loop-pair.rows q o) arrows ((c.spread.ensures.pairs q o).0 there), λ spread. (c.spread.ensures.pairs q o).1 (subst (λ (list : List Arrow). Spread list c.loop-pair.rows q o) (sym arrows) spread)))
