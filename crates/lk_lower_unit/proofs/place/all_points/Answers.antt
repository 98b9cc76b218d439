use Rattle.std.proofs.Common.{arith, ◌≡◌, ◌≤◌, ◌∙◌, Some, length, map, subst, sym}
use Rattle.std.proofs.lemmas.Result.{IfOk-weaker}
use Rattle.lk_lower_unit.proofs.Placing.{all_known, all_placed, source_more}
use Rattle.lk_lower_unit.specs.Placed.{AreAllPlaced, AreCounted}
use Rattle.lk_lower_unit.proofs.place.all_points.Goals as goal

pub loop-source-preserved : goal.loop-source-preserved
loop-source-preserved c = record {
  many = c.in_ok-place_source.ensures.beside.as_many ∙ c.loop-source.invariant.many;
  placed = source_more c.args.given.now c.args.types.now c.loop-source.source c.loop-source.points.items c.place_source.new.points.items c.in_ok-place_source.ensures c.loop-source.invariant.placed;
}

pub place_source-requires-clause-counted : goal.place_source-requires-clause-counted
place_source-requires-clause-counted c = subst (AreCounted c.args.given.now c.args.types.now) (sym c.loop-source.invariant.many) c.requires.counted

pub known-requires : goal.known-requires
known-requires c =
    let given = c.args.given.now in
    let past : length given.whole.now.sources ≤ c.loop-source.source = omega arith in
    all_known given c.args.types.now c.args.count c.loop-source.source c.loop-source.points.items c.requires.counted past c.loop-source.invariant.many c.loop-source.invariant.placed

pub returns : goal.returns
returns c =
    let given = c.args.given.now in
    let past : length given.whole.now.sources ≤ c.loop-source.source = omega arith in
    IfOk-weaker c.known.result (λ all. map Some all.items ≡ c.loop-source.points.items) (λ all. AreAllPlaced given c.args.types.now c.args.count all.items)
    (λ all known. all_placed given c.args.types.now c.args.count c.loop-source.source c.loop-source.points.items all.items past c.loop-source.invariant.many c.loop-source.invariant.placed known) c.known.ensures
