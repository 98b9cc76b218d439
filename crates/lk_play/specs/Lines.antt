-- The lines of what a play tells.
use Rattle.std.specs.Prelude.{ℕ, Bool, true, false, List, [], ◌∷◌, ◌++◌, codes, flat_map, if◌then◌else◌}
use Rattle.std.specs.Fmt.{decimal}
use Rattle.std.specs.List.{list_any}
use Rattle.lk_facts.specs.declared.program.Program.{Program}
use Rattle.lk_play.specs.declared.lines.Ending.{Ending}
use Rattle.lk_play.specs.declared.lines.Ending.TheVariants as ends
use Rattle.lk_play.specs.declared.lines.Line.{Line}
use Rattle.lk_play.specs.declared.lines.Line.TheVariants.{Access, Race, End}
use Rattle.lk_report.specs.Names.{place_text}
use Rattle.lk_report.specs.Report.{point_text}
use Rattle.lk_values.specs.declared.why.Why.{Why}
use Rattle.lk_values.specs.declared.why.Why.TheVariants as why

-- the name of a cause
abbrev pub why_text : Why → List ℕ
why_text why.Overflow = codes "Overflow"
why_text why.DivideByZero = codes "DivideByZero"
why_text why.Shift = codes "Shift"
why_text why.Indeterminate = codes "Indeterminate"
why_text why.Null = codes "Null"
why_text why.Dead = codes "Dead"
why_text why.Outside = codes "Outside"
why_text why.WrongType = codes "WrongType"
why_text why.ConstText = codes "ConstText"
why_text why.NotOwner = codes "NotOwner"
why_text why.NotReady = codes "NotReady"
why_text why.OwnedLock = codes "OwnedLock"
why_text why.BadFree = codes "BadFree"
why_text why.BadJoin = codes "BadJoin"
why_text why.NoValue = codes "NoValue"

abbrev pub ending_text : Ending → List ℕ
ending_text ends.Schedule = codes "schedule"
ending_text ends.Limit = codes "limit"
ending_text (ends.Waits t) = codes "waits " ++ decimal t
ending_text (ends.Undefined t cause) = codes "undefined " ++ (decimal t ++ (codes " " ++ why_text cause))
ending_text (ends.Ended t) = codes "ended " ++ decimal t
ending_text (ends.NoThread t) = codes "no thread " ++ decimal t
ending_text (ends.Full t) = codes "full " ++ decimal t

-- what an access does
abbrev pub verb : Bool → List ℕ
verb writes = if writes then codes " writes " else codes " reads "

module _ (files : List (List ℕ)) (program : Program) where
  -- what a line says, without its newline
  abbrev pub words_of : Line → List ℕ
  words_of (Access t writes n p) =
      decimal t
      ++ (verb writes
      ++ (place_text files program n ++ (codes " " ++ point_text files program p)))
  words_of (Race n) = codes "race " ++ place_text files program n
  words_of (End ending) = codes "end " ++ ending_text ending

  abbrev pub line_text : Line → List ℕ
  line_text line = words_of line ++ 10 ∷ []

  abbrev pub lines_text : List Line → List ℕ
  lines_text lines = flat_map line_text lines

abbrev pub is_race : Line → Bool
is_race (Access t writes n p) = false
is_race (Race n) = true
is_race (End ending) = false

-- whether some line tells of a race
abbrev pub has_race : List Line → Bool
has_race lines = list_any is_race lines
