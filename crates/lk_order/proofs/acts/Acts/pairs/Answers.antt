use Rattle.std.proofs.Common.{◌≡◌, ◌<◌, ◌≤◌, ◌∙◌, ℕ, Some, length, ⊎_elim, sym, subst, arith}
use Rattle.std.specs.List.{slice_get}
use Rattle.std.proofs.lemmas.List.Elements.{All-contains}
use Rattle.std.proofs.lemmas.Option.{slice_get_within}
use Rattle.lk_links.proofs.ListLemmas.{contained}
use Rattle.lk_order.specs.Acts.{basis_in, linear_in, functions_in, labels_in}
use Rattle.lk_order.specs.Pairing.{IsPairAbove, IsPairAt, IsPairBelow}
use Rattle.lk_order.specs.declared.pairing.Paired.{Paired}
use Rattle.lk_order.proofs.PairingLemmas.{above_so, at_within, found_more, here_so, pairs_are}
use Rattle.lk_order.proofs.WorkLemmas.{past_none, work_done, work_more, work_none}
use Rattle.lk_rise.specs.Links.{links_into}
use Rattle.lk_order.proofs.acts.Acts.pairs.Goals as goal

pub loop-point-init : goal.loop-point-init
loop-point-init c = record {
  found = λ pair. (λ there. absurd (omega (arith, there.1, c.new-pairs.ensures.len)), λ given. absurd (omega (arith, given.1)));
  below = λ k d less. absurd (omega (arith, less, c.new-pairs.ensures.len));
}

pub loop-point-preserved : goal.loop-point-preserved
loop-point-preserved c =
    let self = c.args.self.now in
    record {
      found = found_more (basis_in self) (linear_in self) c.loop-point.point c.loop-point.pairs.keys c.put_here.new.pairs.keys c.in_ok-put_here.ensures.finds c.loop-point.invariant.found;
      below = c.in_ok-put_here.ensures.in_range;
    }

pub loop-k-init : goal.loop-k-init
loop-k-init c =
    let self = c.args.self.now in
    let basis = basis_in self in
    let linear = linear_in self in
    let end : c.loop-point.point ≡ length self.points.now.points = omega (arith, c.loop-point.auto.point-end, c.loop-point-test.false, c.count-point-end.ensures.value) in
    record {
      work = work_none (λ (pair : Paired). (p : ℕ) × IsPairAt basis linear p pair) (λ (pair : Paired). IsPairAbove basis linear (links_into self.into.now pair.function) pair) c.loop-point.pairs.keys
          (λ pair seed. (c.loop-point.invariant.found pair).1 (seed.0, subst (λ n. seed.0 < n) (sym end) (at_within basis linear seed.0 pair seed.1), seed.1));
      sound = λ pair there. let given = (c.loop-point.invariant.found pair).0 there in here_so basis linear given.0 pair given.2;
      below = c.loop-point.invariant.below;
      within = omega arith;
    }

pub put_above-requires-clause-pair : goal.put_above-requires-clause-pair
put_above-requires-clause-pair c =
    let self = c.args.self.now in
    let at : slice_get c.loop-k.pairs.keys c.loop-k.k ≡ Some c.in-Some.pair = sym c.get_index.ensures.key ∙ sym c.in-Some.ensures in
    All-contains (IsPairBelow (functions_in self) (labels_in self)) c.loop-k.pairs.keys c.in-Some.pair c.loop-k.invariant.below (contained c.loop-k.pairs.keys c.loop-k.k c.in-Some.pair at)

pub loop-k-preserved : goal.loop-k-preserved
loop-k-preserved c =
    let self = c.args.self.now in
    let basis = basis_in self in
    let linear = linear_in self in
    let at : slice_get c.loop-k.pairs.keys c.loop-k.k ≡ Some c.in-Some.pair = sym c.get_index.ensures.key ∙ sym c.in-Some.ensures in
    let finds = c.in_ok-put_above.ensures.finds in
    record {
      work = work_more (λ (pair : Paired). (p : ℕ) × IsPairAt basis linear p pair) (λ (pair : Paired). IsPairAbove basis linear (links_into self.into.now pair.function) pair)
          c.loop-k.pairs.keys c.put_above.new.pairs.keys c.loop-k.k c.in-Some.pair at finds c.loop-k.invariant.work;
      sound = λ pair there.
          ⊎_elim (c.loop-k.invariant.sound pair)
          (above_so basis linear self.into.now c.requires.into c.in-Some.pair pair (c.loop-k.invariant.sound c.in-Some.pair (contained c.loop-k.pairs.keys c.loop-k.k c.in-Some.pair at)))
          ((finds.adds.members pair).0 there);
      below = c.in_ok-put_above.ensures.in_range;
      within = omega (arith, slice_get_within c.put_above.new.pairs.keys c.loop-k.k c.in-Some.pair (finds.places c.loop-k.k c.in-Some.pair at));
    }

pub returns-in_default-clause-exact : goal.returns-in_default-clause-exact
returns-in_default-clause-exact c =
    let self = c.args.self.now in
    let basis = basis_in self in
    let linear = linear_in self in
    let past : length c.loop-k.pairs.keys ≤ c.loop-k.k = past_none c.loop-k.pairs.keys c.loop-k.k (sym c.get_index.ensures.key ∙ sym c.copied.ensures ∙ c.in_default.is) in
    pairs_are basis linear self.into.now c.requires.into c.loop-k.pairs.keys (λ p pair here. c.loop-k.invariant.work.seeds pair (p, here))
    (work_done (λ (pair : Paired). (p : ℕ) × IsPairAt basis linear p pair) (λ (pair : Paired). IsPairAbove basis linear (links_into self.into.now pair.function) pair) c.loop-k.pairs.keys c.loop-k.k past c.loop-k.invariant.work)
    c.loop-k.invariant.sound

pub returns-in_default-clause-in_range : goal.returns-in_default-clause-in_range
returns-in_default-clause-in_range c = c.loop-k.invariant.below
