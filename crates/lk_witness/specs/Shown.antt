-- What a schedule file shows: its play has a race at a location.
use Rattle.std.specs.Prelude.{◌≡◌, ◌≤◌, ℕ, Bool, true, List, ◌++◌, codes, length}
use Rattle.std.specs.List.{list_any}
use Rattle.std.specs.Str.{bytes_eq}
use Rattle.lk_facts.specs.declared.program.Program.{Program}
use Rattle.lk_play.specs.Played.{IsPlayed}
use Rattle.lk_play.specs.Schedules.{IsSchedule, lines_of}
use Rattle.lk_play.specs.declared.playing.Played.{Played}
use Rattle.lk_play.specs.declared.schedules.Turn.{Turn}
use Rattle.lk_report.specs.Names.{place_text}

-- a schedule file has at most so many bytes
abbrev pub most_bytes : ℕ
most_bytes = 65536

-- one of the lines of a text is this one
abbrev pub has_line : List ℕ → List ℕ → Bool
has_line text line = list_any (λ part. bytes_eq part line) (lines_of text)

module _ (files : List (List ℕ)) (program : Program) where
  -- the line of a race at the location
  abbrev pub race_line : ℕ → List ℕ
  race_line n = codes "race " ++ place_text files program n

  -- the text of the play by these turns has that line
  pub record ShowsBy (n : ℕ) (turns : List Turn) : Type 0 where
    pub played : Played
    pub is_played : IsPlayed files program turns played
    pub races : has_line played.text.items (race_line n) ≡ true

  -- the bytes are a schedule file of such turns
  pub record Shows (n : ℕ) (bytes : List ℕ) : Type 0 where
    pub short : length bytes ≤ most_bytes
    pub turns : List Turn
    pub schedule : IsSchedule bytes turns
    pub shows : ShowsBy n turns
