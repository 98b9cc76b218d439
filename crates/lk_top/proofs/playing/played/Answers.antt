use Rattle.std.proofs.Common.{◌∙◌, ap}
use Rattle.lk_top.specs.Plays.{status_of_race}
use Rattle.lk_top.proofs.Suspects.{are_of_suspects}
use Rattle.lk_top.proofs.playing.played.Goals as goal

pub returns : goal.returns
returns c =
    let is = c.in_ok-text.ensures in
    record {
      lines = is.lines;
      play = is.play;
      text_is = is.text;
      status = c.status_of_play-status.ensures ∙ ap status_of_race is.races;
      suspects = are_of_suspects c.args.points.now c.requires.in_range c.requires.table c.requires.lowered c.verdicts_are_safe.ensures is.lines is.true_races;
    }
