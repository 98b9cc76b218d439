use Rattle.std.proofs.lemmas.Result.{on_ok_weaker}
use Rattle.lk_lower_unit.proofs.Placing.{places_source, steps_numbered}
use Rattle.lk_lower_unit.proofs.place.place_source.Goals as goal

pub place-requires-clause-steps : goal.place-requires-clause-steps
place-requires-clause-steps c =
    steps_numbered c.args.given.now c.args.types.now c.args.source c.in_ok-names.names c.steps_of.new.names c.in_ok-steps.steps.items c.requires.found c.in_ok-names.ensures.tables c.in_ok-steps.ensures.steps c.in_ok-steps.ensures.kept _
    c.requires.counted

pub returns : goal.returns
returns c =
    on_ok_weaker c.place.result
    (places_source c.args.given.now c.args.types.now c.args.source c.in_ok-names.names c.steps_of.new.names c.in_ok-steps.steps.items c.requires.found c.in_ok-names.ensures.tables c.in_ok-steps.ensures.steps c.in_ok-steps.ensures.kept
    c.args.points.now.items c.place.new.points.items) c.place.ensures
