-- What the answer of a play says.
use Rattle.std.specs.Prelude.{◌≡◌, ℕ, List, [], All, ⊤}
use Rattle.lk_cells.specs.declared.state.State.{State}
use Rattle.lk_facts.specs.declared.program.Program.{Program}
use Rattle.lk_meaning.specs.Reached.{Choice, Run}
use Rattle.lk_play.specs.Lines.{lines_text, has_race}
use Rattle.lk_play.specs.Plays.{IsPlay}
use Rattle.lk_play.specs.Races.{HasRaceAt}
use Rattle.lk_play.specs.declared.lines.Line.{Line}
use Rattle.lk_play.specs.declared.lines.Line.TheVariants.{Access, Race, End}
use Rattle.lk_play.specs.declared.playing.Played.{Played}
use Rattle.lk_play.specs.declared.schedules.Turn.{Turn}

module _ (program : Program) where
  -- a run without strings comes to a state with a race at the location
  pub record ComesToRace (n : ℕ) : Type 0 where
    pub state : State
    pub choices : List Choice
    pub run : Run program [] choices state
    pub raced : HasRaceAt program state n

  -- a line that tells of a race tells the truth
  abbrev pub IsTrueRace : Line → Type 0
  IsTrueRace (Access t writes n p) = ⊤
  IsTrueRace (Race n) = ComesToRace n
  IsTrueRace (End ending) = ⊤

-- the text of a play by these turns, and whether it tells of a race
pub record IsPlayed (files : List (List ℕ)) (program : Program) (turns : List Turn)
    (played : Played) : Type 0 where
  pub lines : List Line
  pub play : IsPlay program turns lines
  pub text : played.text.items ≡ lines_text files program lines
  pub races : played.raced ≡ has_race lines
  -- each race that it tells is one in a state to which a run of the program comes
  pub true_races : All (IsTrueRace program) lines
