use Rattle.std.proofs.Common.{◌≡◌, ◌<◌, ◌∙◌, [], Contains, length, sym, subst, arith}
use Rattle.std.proofs.lemmas.List.{get_or_read}
use Rattle.lk_links.specs.declared.link.Link.{Link}
use Rattle.lk_order.specs.Acts.{basis_in, linear_in}
use Rattle.lk_order.specs.Pairing.{IsPairAbove, IsPairOutside}
use Rattle.lk_order.specs.Work.{Finds}
use Rattle.lk_order.proofs.WorkLemmas.{finds_each_all, finds_each_none, finds_each_read}
use Rattle.lk_rise.specs.Links.{links_into}
use Rattle.lk_order.proofs.acts.Acts.put_above.Goals as goal

pub loop-link-init : goal.loop-link-init
loop-link-init c =
    let self = c.args.self.now in
    record {
      finds = finds_each_none (λ (link : Link). IsPairOutside (basis_in self) (linear_in self) c.args.pair link) c.list-link-items.result.now c.args.pairs.now.keys;
      below = c.requires.pairs;
    }

pub put_outside_link-requires-clause-above : goal.put_outside_link-requires-clause-above
put_outside_link-requires-clause-above c =
    let self = c.args.self.now in
    let within : c.args.pair.function < length self.into.now = omega (arith, c.requires.pair.function, c.requires.functions) in
    let links : c.list-link-items.result.now ≡ links_into self.into.now c.args.pair.function =
    c.list-link-items.ensures ∙ sym c.index-self-pair.is ∙ get_or_read self.into.now c.args.pair.function c.index-self-pair.result within c.index-self-pair.is [] in
    let there : Contains (links_into self.into.now c.args.pair.function) c.link-item.result =
    subst (λ ls. Contains ls c.link-item.result) links (c.loop-link.link-index, c.loop-link-test.true, sym c.link-item.is) in
    (c.requires.into.each c.args.pair.function c.link-item.result there).is.above

pub loop-link-preserved : goal.loop-link-preserved
loop-link-preserved c =
    let self = c.args.self.now in
    record {
      finds = finds_each_read (λ (link : Link). IsPairOutside (basis_in self) (linear_in self) c.args.pair link) c.list-link-items.result.now c.loop-link.link-index c.link-item.result
          c.args.pairs.now.keys c.loop-link.pairs.keys c.put_outside_link.new.pairs.keys c.loop-link-test.true c.link-item.is c.loop-link.invariant.finds c.in_ok-put_outside_link.ensures.finds;
      below = c.in_ok-put_outside_link.ensures.in_range;
    }

pub returns-clause-finds : goal.returns-clause-finds
returns-clause-finds c =
    let self = c.args.self.now in
    let within : c.args.pair.function < length self.into.now = omega (arith, c.requires.pair.function, c.requires.functions) in
    let links : c.list-link-items.result.now ≡ links_into self.into.now c.args.pair.function =
    c.list-link-items.ensures ∙ sym c.index-self-pair.is ∙ get_or_read self.into.now c.args.pair.function c.index-self-pair.result within c.index-self-pair.is [] in
    subst (λ ls. Finds (IsPairAbove (basis_in self) (linear_in self) ls c.args.pair) c.args.pairs.now.keys c.loop-link.pairs.keys) links
    (finds_each_all (λ (link : Link). IsPairOutside (basis_in self) (linear_in self) c.args.pair link) c.list-link-items.result.now c.loop-link.link-index
    c.args.pairs.now.keys c.loop-link.pairs.keys c.loop-link-test.false c.loop-link.invariant.finds)
