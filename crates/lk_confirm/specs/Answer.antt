-- What an answer says of the words, the shelf's files and its count of faults.
use Rattle.std.specs.Prelude.{ℕ, ◌≡◌, ◌<◌, ◌⊎◌, true, List, Some, length, slice_get}
use Rattle.std.specs.Option.{ForSome}
use Rattle.lk_base.specs.declared.refusal.Refusal.{Refusal}
use Rattle.lk_base.specs.declared.spot.Spot.{Spot}
use Rattle.lk_facts.specs.declared.verdict.Verdict.{Verdict}
use Rattle.lk_base.specs.declared.code.Code.{Code}
use Rattle.lk_base.specs.declared.code.Code.TheVariants.{TooManyPoints, TooManyLabels}
use Rattle.lk_facts.specs.LabelRules.{HasMoreLabels}
use Rattle.lk_facts.specs.declared.program.Program.{Program as Points}
use Rattle.lk_lower_expr.specs.Programs.{HasMorePlaces}
use Rattle.lk_lower_parts.specs.Mains.{spot_of_main}
use Rattle.lk_lower_unit.specs.PointNumbers.{HasMorePoints}
use Rattle.lk_solve.specs.Verdicts.{HasVerdicts}
use Rattle.lk_typed.specs.Env.{Name}
use Rattle.lk_typed.specs.declared.whole.Whole.{Whole}
use Rattle.lk_sources.specs.declared.accepting.Accepted as code
use Rattle.lk_sources.specs.Accepting.{IsAcceptedWith, RefusesSources}
use Rattle.lk_sources.specs.Reading as reading
use Rattle.lk_sources.specs.Shelves.{Shelved, HasRisen, IsAsBefore}
use Rattle.lk_sources.specs.declared.fault.SourcesFault.{SourcesFault}
use Rattle.lk_sources.specs.declared.fault.SourcesFault.TheVariants as fault
use Rattle.lk_sources.specs.declared.reading.Source.{Source}
use Rattle.lk_words.specs.Words.{Command}
use Rattle.lk_confirm.specs.Analysis.{ArePointsOf, IsAtMain, IsConfirmed, IsNoProgramIn, TellsSearch}
use Rattle.lk_confirm.specs.Outcome.{Becomes, Follows}
use Rattle.lk_confirm.specs.Results.{IsReport, IsRefusal, is_report}
use Rattle.lk_confirm.specs.Texts.{refused_line, unread_line}
use Rattle.lk_confirm.specs.Words.{Asked, AsksFor, IsAsked, Split}
use Rattle.lk_confirm.specs.declared.answer.Answer.{Answer}
use Rattle.lk_confirm.specs.declared.answer.Answer.TheVariants as answer

-- ---- a report, or the line of a refusal

-- the line of a refusal, for the file of its place
abbrev pub Tells : List (List ℕ) → Refusal → Answer → Type 0
Tells files refusal (answer.Report text status) = ⊥
Tells files refusal (answer.Refusal line) =
    (file : List ℕ) × (slice_get files refusal.spot.file ≡ Some file)
    × (line.items ≡ refused_line file refusal)
Tells files refusal (answer.Unread line) = ⊥

-- of one with this code at main
abbrev pub TellsAtMain : List (List ℕ) → Whole → Code → Answer → Type 0
TellsAtMain files whole code shown =
    (refusal : Refusal) × IsAtMain whole code refusal × Tells files refusal shown

-- what was found of suspect locations
abbrev pub ShowsSearch : List (List ℕ) → Points → List Verdict → Answer → Type 0
ShowsSearch files points verdicts (answer.Report text status) =
    TellsSearch files points verdicts text.items status
ShowsSearch files points verdicts (answer.Refusal line) = ⊥
ShowsSearch files points verdicts (answer.Unread line) = ⊥

-- ---- accepted sources

-- main stands in one of the files
abbrev pub HasMainIn : List (List ℕ) → Whole → Type 0
HasMainIn files whole = (spot : Spot) × (spot_of_main whole ≡ Some spot) × (spot.file < length files)

-- what points come to: they have their verdicts, or too many labels
pub data JudgesPoints (files : List (List ℕ)) (whole : Whole) (points : Points)
    (shown : Answer) : Type 0 where
  shows : (verdicts : List Verdict) → HasVerdicts points verdicts → (HasMoreLabels points 65536 → ⊥) →
      ShowsSearch files points verdicts shown → JudgesPoints files whole points shown
  too_many : HasMoreLabels points 65536 → TellsAtMain files whole TooManyLabels shown →
      JudgesPoints files whole points shown

-- what a program comes to: it has points, or too many of them, or of their places
pub data JudgesWhole (files : List (List ℕ)) (whole : Whole) (shown : Answer) : Type 0 where
  has_points : (points : Points) → (HasMorePoints whole 65536 → ⊥) → ArePointsOf whole points →
      JudgesPoints files whole points shown → JudgesWhole files whole shown
  too_many_points : HasMorePoints whole 65536 → TellsAtMain files whole TooManyPoints shown →
      JudgesWhole files whole shown
  too_many_places : (HasMorePoints whole 65536 → ⊥) → HasMorePlaces whole 65536 →
      TellsAtMain files whole TooManyLabels shown → JudgesWhole files whole shown

-- the report of sources that are accepted, or the line of why they make no program
abbrev pub Analyses : code.Accepted → Answer → Type 0
Analyses sources (answer.Report text status) =
    (is_report status ≡ true) × IsConfirmed sources text.items status
Analyses sources (answer.Refusal line) =
    (file : List ℕ) × (refusal : Refusal) × IsNoProgramIn sources file refusal
    × (line.items ≡ refused_line file refusal)
Analyses sources (answer.Unread line) = ⊥

-- the line of why files are not read or not accepted; for want of memory there is none
abbrev pub ShowsFault : SourcesFault → Answer → Type 0
ShowsFault (fault.Refused file refusal) (answer.Report text status) = ⊥
ShowsFault (fault.Refused file refusal) (answer.Refusal line) = line.items ≡ refused_line file refusal
ShowsFault (fault.Refused file refusal) (answer.Unread line) = ⊥
ShowsFault (fault.Unread name) (answer.Report text status) = ⊥
ShowsFault (fault.Unread name) (answer.Refusal line) = ⊥
ShowsFault (fault.Unread name) (answer.Unread line) = line.items ≡ unread_line name
ShowsFault fault.NoMemory shown = ⊥

-- ---- files that are read, where these are the names of files so far

-- what sources come to, where --externs lists these names
abbrev pub JudgesListed : List (List ℕ) → List Name → List Source → Answer → Type 0
JudgesListed names listing sources shown =
    ((result : code.Accepted) × IsAcceptedWith names listing sources result × Analyses result shown)
    ⊎ ((fault : SourcesFault) × RefusesSources names listing sources fault × ShowsFault fault shown)

abbrev pub Judges : List (List ℕ) → List Source → List Source → Answer → Type 0
Judges names externs sources (answer.Report text status) =
    (is_report status ≡ true) × IsReport (Becomes names externs sources) text.items status
Judges names externs sources (answer.Refusal line) =
    (file : List ℕ) × (refusal : Refusal) × (line.items ≡ refused_line file refusal)
    × IsRefusal (Becomes names externs sources) file refusal
Judges names externs sources (answer.Unread line) = ⊥

-- ---- a command over a shelf

abbrev pub Answers : Command → Shelved → Answer → Type 0
Answers check shelf (answer.Report text status) =
    IsAsBefore shelf.faults × (is_report status ≡ true)
    × ForSome shelf.files (λ held. IsReport (Follows check held) text.items status)
Answers check shelf (answer.Refusal line) =
    IsAsBefore shelf.faults × ((file : List ℕ) × (refusal : Refusal)
    × (line.items ≡ refused_line file refusal)
    × ForSome shelf.files (λ held. IsRefusal (Follows check held) file refusal))
Answers check shelf (answer.Unread line) =
    HasRisen shelf.faults × ((name : List ℕ) × reading.IsNamed check name
    × ForSome shelf.bad (λ told. told ≡ name)
    × ForSome shelf.files (λ held. reading.ComesTo check held name) × (line.items ≡ unread_line name))

-- ---- words over a shelf

abbrev pub AnswersSplit : Split → Shelved → Answer → Type 0
AnswersSplit split shelf shown = (asked : Asked) × AsksFor split asked × Answers asked.check shelf shown

abbrev pub AnswersWords : List (List ℕ) → Shelved → Answer → Type 0
AnswersWords words shelf shown = (asked : Asked) × IsAsked words asked × Answers asked.check shelf shown
