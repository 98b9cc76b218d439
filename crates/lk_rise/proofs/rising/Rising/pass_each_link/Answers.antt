use Rattle.std.proofs.Common.{◌≡◌, ◌∙◌, List, ℕ, length, arith, refl, ap, subst}
use Rattle.std.proofs.lemmas.Option.{slice_get_read}
use Rattle.lk_links.proofs.ListLemmas.{contained}
use Rattle.lk_rise.specs.Tables.{setting, AreAbove, AreMet, Works}
use Rattle.lk_rise.specs.declared.correlations.Correlation.{Correlation}
use Rattle.lk_rise.proofs.PassLemmas.{RisesBelow, rises_none, rises_more}
use Rattle.lk_rise.proofs.rising.Rising.pass_each_link.Goals as goal

pub loop-link-init : goal.loop-link-init
loop-link-init c = record {
  item = refl;
  locks = refl;
  is = c.requires.passage;
  works = rises_none (setting c.args.self.now) c.args.links.now c.args.passage.item c.args.passage.locks c.args.table.now c.args.again.now.items;
}

pub pass_link-requires-clause-link : goal.pass_link-requires-clause-link
pass_link-requires-clause-link c =
    c.requires.links c.link-item.result (contained c.args.links.now c.loop-link.link-index c.link-item.result (slice_get_read c.args.links.now _ c.loop-link.link-index c.link-item.result refl c.loop-link-test.true c.link-item.is))

pub pass_link-requires-clause-below : goal.pass_link-requires-clause-below
pass_link-requires-clause-below c =
    ap (λ (item : Correlation). item.function) (c.in_ok-turn.ensures.item ∙ c.loop-link.invariant.item)
    ∙ c.requires.below c.link-item.result (contained c.args.links.now c.loop-link.link-index c.link-item.result (slice_get_read c.args.links.now _ c.loop-link.link-index c.link-item.result refl c.loop-link-test.true c.link-item.is))

pub loop-link-preserved : goal.loop-link-preserved
loop-link-preserved c =
    let s = setting c.args.self.now in
    let link = c.link-item.result in
    let item = c.in_ok-turn.ensures.item ∙ c.loop-link.invariant.item in
    let locks = c.in_ok-turn.ensures.locks ∙ c.loop-link.invariant.locks in
    let works =
    subst (λ (i : Correlation). Works s (AreAbove s link i) (AreMet s link i c.args.passage.locks) c.loop-link.table c.pass_link.new.table c.loop-link.again.items c.pass_link.new.again.items) item
    (subst (λ (ids : List ℕ). Works s (AreAbove s link c.turn.new.passage.item) (AreMet s link c.turn.new.passage.item ids) c.loop-link.table c.pass_link.new.table c.loop-link.again.items c.pass_link.new.again.items) locks c.in_ok-pass_link.ensures) in
    record {
      item = item;
      locks = locks;
      is = c.in_ok-turn.ensures.is;
      works = rises_more s c.args.links.now c.args.passage.item c.args.passage.locks c.loop-link.link-index link c.args.table.now c.loop-link.table c.pass_link.new.table c.args.again.now.items c.loop-link.again.items c.pass_link.new.again.items
          (slice_get_read c.args.links.now _ c.loop-link.link-index link refl c.loop-link-test.true c.link-item.is) c.loop-link.invariant.works works;
    }

pub returns : goal.returns
returns c =
    let end : c.loop-link.link-index ≡ length c.args.links.now = omega (arith, c.loop-link.auto.link-index-end, c.loop-link-test.false) in
    subst (λ n. RisesBelow (setting c.args.self.now) c.args.links.now c.args.passage.item c.args.passage.locks n c.args.table.now c.loop-link.table c.args.again.now.items c.loop-link.again.items) end c.loop-link.invariant.works
