use Rattle.std.proofs.Common.{Err, ap, length}
use Rattle.lk_confirm.specs.Answer.{has_points, too_many_points, too_many_places}
use Rattle.lk_confirm.proofs.analysis.judge_whole.Goals as goal

pub judge_points-requires-clause-named : goal.judge_points-requires-clause-named
judge_points-requires-clause-named c =
    let stand = c.points_stand_in_files.ensures (length c.args.files.now) c.args.whole.now c.in-Ok.points c.requires.some c.requires.stand c.in-Ok.ensures.made in
    record { roots = stand.0; points = stand.1; nodes = c.in-Ok.ensures.nodes }

pub judge_points-requires-clause-made : goal.judge_points-requires-clause-made
judge_points-requires-clause-made c = record {
  made = c.in-Ok.ensures.made;
  lowered = c.in-Ok.ensures.lowered;
  in_range = c.are_in_range.ensures.in_range;
  table = c.are_in_range.ensures.table;
}

pub returns-in_ok-answer-in-Ok : goal.returns-in_ok-answer-in-Ok
returns-in_ok-answer-in-Ok c = has_points c.in-Ok.points c.in-Ok.ensures.few (record {
  made = c.in-Ok.ensures.made;
  lowered = c.in-Ok.ensures.lowered;
  in_range = c.are_in_range.ensures.in_range;
  table = c.are_in_range.ensures.table;
}) c.in_ok-answer-in-Ok.ensures

pub returns-in_ok-answer-in-Err-TooManyPoints : goal.returns-in_ok-answer-in-Err-TooManyPoints
returns-in_ok-answer-in-Err-TooManyPoints c = too_many_points (c.in-Err-TooManyPoints.ensures.many (ap Err c.in-Err-TooManyPoints.field-0-is)) c.in_ok-answer-in-Err-TooManyPoints.ensures

pub returns-in_ok-answer-in-Err-TooManyPlaces : goal.returns-in_ok-answer-in-Err-TooManyPlaces
returns-in_ok-answer-in-Err-TooManyPlaces c =
    let places = c.in-Err-TooManyPlaces.ensures.places (ap Err c.in-Err-TooManyPlaces.field-0-is) in
    too_many_places places.0 places.1 c.in_ok-answer-in-Err-TooManyPlaces.ensures
