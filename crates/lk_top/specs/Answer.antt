-- What an answer says of the words, the shelf's files and its count of faults.
use Rattle.std.specs.Prelude.{ℕ, ◌≡◌, ◌<◌, ◌⊎◌, true, List, Some, length, slice_get, ⊤}
use Rattle.std.specs.Option.{ForSome}
use Rattle.lk_base.specs.declared.refusal.Refusal.{Refusal}
use Rattle.lk_base.specs.declared.status.Status.{Status}
use Rattle.lk_base.specs.declared.spot.Spot.{Spot}
use Rattle.lk_facts.specs.declared.verdict.Verdict.{Verdict}
use Rattle.lk_base.specs.declared.code.Code.{Code}
use Rattle.lk_base.specs.declared.code.Code.TheVariants.{TooManyPoints, TooManyLabels}
use Rattle.lk_facts.specs.LabelRules.{HasMoreLabels}
use Rattle.lk_facts.specs.declared.program.Program.{Program as Points}
use Rattle.lk_lower_expr.specs.Programs.{HasMorePlaces}
use Rattle.lk_lower_parts.specs.Mains.{spot_of_main}
use Rattle.lk_lower_unit.specs.PointNumbers.{HasMorePoints}
use Rattle.lk_report.specs.Report.{report_text}
use Rattle.lk_safe.specs.Soundness.{HasNoOtherRaces}
use Rattle.lk_solve.specs.Verdicts.{HasVerdicts}
use Rattle.lk_typed.specs.Env.{Name}
use Rattle.lk_typed.specs.declared.whole.Whole.{Whole}
use Rattle.lk_sources.specs.declared.accepting.Accepted as code
use Rattle.lk_sources.specs.Accepting.{HasBadExterns}
use Rattle.lk_sources.specs.Externs.{Names, externs_text, listed}
use Rattle.lk_sources.specs.Reading as reading
use Rattle.lk_sources.specs.Shelves.{Shelved, HasRisen, IsAsBefore}
use Rattle.lk_sources.specs.declared.fault.SourcesFault.{SourcesFault}
use Rattle.lk_sources.specs.declared.fault.SourcesFault.TheVariants as fault
use Rattle.lk_play.specs.declared.schedules.Turn.{Turn}
use Rattle.lk_sources.specs.declared.reading.Source.{Source}
use Rattle.lk_sources.specs.declared.reading.Texts.{Texts}
use Rattle.lk_words.specs.Words.{Command, Task}
use Rattle.lk_top.specs.Analysis.{ArePointsOf, FindsEachRace, IsAtMain, IsNoProgramIn}
use Rattle.lk_top.specs.Errands.{seen_errand}
use Rattle.lk_top.specs.Outcome.{AsksNothing, Becomes, Checks, Errand, Follows, IsErrand, IsFor, Orders, Outcome, Plays}
use Rattle.lk_top.specs.Orders.{TellsOrder}
use Rattle.lk_top.specs.Plays.{TellsLines}
use Rattle.lk_top.specs.Results.{IsAnswered, IsReport, IsRefusal, status_of, is_report}
use Rattle.lk_top.specs.Texts.{refused_line, unread_line}
use Rattle.lk_top.specs.declared.answer.Answer.{Answer}
use Rattle.lk_top.specs.declared.answer.Answer.TheVariants as answer
use Rattle.lk_top.specs.declared.errand.Asked.{Asked}

-- ---- a report, or the line of a refusal

-- the line of a refusal, for the file of its place
abbrev pub Tells : List (List ℕ) → Refusal → Answer → Type 0
Tells files refusal (answer.Report text status) = ⊥
Tells files refusal (answer.Refusal line) =
    (file : List ℕ) × (slice_get files refusal.spot.file ≡ Some file)
    × (line.items ≡ refused_line file refusal)
Tells files refusal (answer.Unread line) = ⊥

-- of one with this code at main
abbrev pub TellsAtMain : List (List ℕ) → Whole → Code → Answer → Type 0
TellsAtMain files whole code shown =
    (refusal : Refusal) × IsAtMain whole code refusal × Tells files refusal shown

-- the report of verdicts
abbrev pub ShowsVerdicts : List (List ℕ) → Points → List Verdict → Answer → Type 0
ShowsVerdicts files points verdicts (answer.Report text status) =
    (text.items ≡ report_text files points verdicts) × (status ≡ status_of verdicts)
ShowsVerdicts files points verdicts (answer.Refusal line) = ⊥
ShowsVerdicts files points verdicts (answer.Unread line) = ⊥

-- a text with a status of which this is said
abbrev pub ShowsText : (List ℕ → Status → Type 0) → Answer → Type 0
ShowsText Tells (answer.Report text status) = Tells text.items status
ShowsText Tells (answer.Refusal line) = ⊥
ShowsText Tells (answer.Unread line) = ⊥

-- the text of the order of mutexes
abbrev pub ShowsOrder : List (List ℕ) → Points → Answer → Type 0
ShowsOrder files points shown = ShowsText (TellsOrder files points) shown

-- the text of a play
abbrev pub ShowsPlay : List (List ℕ) → Points → List Turn → Answer → Type 0
ShowsPlay files points turns shown = ShowsText (TellsLines files points turns) shown

-- ---- accepted sources

-- main stands in one of the files
abbrev pub HasMainIn : List (List ℕ) → Whole → Type 0
HasMainIn files whole = (spot : Spot) × (spot_of_main whole ≡ Some spot) × (spot.file < length files)

-- what points come to: they have their verdicts, or an order, or a play, or too many labels
pub data JudgesPoints (files : List (List ℕ)) (whole : Whole) (points : Points)
    (shown : Answer) : Errand → Type 0 where
  shows : (verdicts : List Verdict) (has : HasVerdicts points verdicts) →
      (HasMoreLabels points 65536 → ⊥) → FindsEachRace points verdicts has →
      HasNoOtherRaces points verdicts → ShowsVerdicts files points verdicts shown →
      JudgesPoints files whole points shown Checks
  orders : (HasMoreLabels points 65536 → ⊥) → ShowsOrder files points shown →
      JudgesPoints files whole points shown Orders
  plays : {turns : List Turn} → (HasMoreLabels points 65536 → ⊥) → ShowsPlay files points turns shown →
      JudgesPoints files whole points shown (Plays turns)
  too_many : {errand : Errand} → HasMoreLabels points 65536 → TellsAtMain files whole TooManyLabels shown →
      JudgesPoints files whole points shown errand

-- what a program comes to: it has points, or too many of them, or of their places
pub data JudgesWhole (errand : Errand) (files : List (List ℕ)) (whole : Whole) (shown : Answer) : Type 0 where
  has_points : (points : Points) → (HasMorePoints whole 65536 → ⊥) → ArePointsOf whole points →
      JudgesPoints files whole points shown errand → JudgesWhole errand files whole shown
  too_many_points : HasMorePoints whole 65536 → TellsAtMain files whole TooManyPoints shown →
      JudgesWhole errand files whole shown
  too_many_places : (HasMorePoints whole 65536 → ⊥) → HasMorePlaces whole 65536 →
      TellsAtMain files whole TooManyLabels shown → JudgesWhole errand files whole shown

-- the report of sources that are accepted, or the line of why they make no program
abbrev pub Analyses : Errand → code.Accepted → Answer → Type 0
Analyses errand sources (answer.Report text status) =
    (is_report status ≡ true) × IsAnswered errand sources text.items status
Analyses errand sources (answer.Refusal line) =
    (file : List ℕ) × (refusal : Refusal) × IsNoProgramIn sources file refusal
    × (line.items ≡ refused_line file refusal)
Analyses errand sources (answer.Unread line) = ⊥

-- the line of why files are not read or not accepted; for want of memory there is none
abbrev pub ShowsFault : SourcesFault → Answer → Type 0
ShowsFault (fault.Refused file refusal) (answer.Report text status) = ⊥
ShowsFault (fault.Refused file refusal) (answer.Refusal line) = line.items ≡ refused_line file refusal
ShowsFault (fault.Refused file refusal) (answer.Unread line) = ⊥
ShowsFault (fault.Unread name) (answer.Report text status) = ⊥
ShowsFault (fault.Unread name) (answer.Refusal line) = ⊥
ShowsFault (fault.Unread name) (answer.Unread line) = line.items ≡ unread_line name
ShowsFault fault.NoMemory shown = ⊥

-- ---- what is asked of sources, and what they and the files beside them come to

-- why the file beside the sources asks nothing
abbrev pub RefusesErrand : Task → List (List ℕ) → List Source → SourcesFault → Type 0
RefusesErrand task names others (fault.Refused file refusal) = AsksNothing task names others file refusal
RefusesErrand task names others (fault.Unread name) = ⊥
RefusesErrand task names others fault.NoMemory = ⊤

-- --externs lists these names, and this is the errand
pub record IsAsked (task : Task) (externs others : List Source) (asked : Asked) : Type 0 where
  pub listed_so : listed (externs_text externs) ≡ Names asked.externs.items
  pub errand_is : IsErrand task others (seen_errand asked.errand)

-- why nothing is asked
abbrev pub RefusesAsked : Task → List (List ℕ) → List Source → List Source → SourcesFault → Type 0
RefusesAsked task names externs others (fault.Refused file refusal) =
    HasBadExterns names externs file refusal
    ⊎ ((listing : List Name) × (listed (externs_text externs) ≡ Names listing)
    × AsksNothing task names others file refusal)
RefusesAsked task names externs others (fault.Unread name) = ⊥
RefusesAsked task names externs others fault.NoMemory = ⊤

-- the report of what they come to, or the line of a refusal
abbrev pub Comes : (Outcome → Type 0) → Answer → Type 0
Comes Gives (answer.Report text status) = (is_report status ≡ true) × IsReport Gives text.items status
Comes Gives (answer.Refusal line) =
    (file : List ℕ) × (refusal : Refusal) × (line.items ≡ refused_line file refusal)
    × IsRefusal Gives file refusal
Comes Gives (answer.Unread line) = ⊥

abbrev pub JudgesFor : Errand → List (List ℕ) → List Name → List Source → Answer → Type 0
JudgesFor errand names listing sources shown = Comes (IsFor errand names listing sources) shown

abbrev pub Judges : Task → Texts → Answer → Type 0
Judges task texts shown = Comes (Becomes task texts.files texts.externs texts.beside texts.sources) shown

-- ---- a command over a shelf

abbrev pub Answers : Command → Shelved → Answer → Type 0
Answers asked shelf (answer.Report text status) =
    IsAsBefore shelf.faults × (is_report status ≡ true)
    × ForSome shelf.files (λ held. IsReport (Follows asked held) text.items status)
Answers asked shelf (answer.Refusal line) =
    IsAsBefore shelf.faults × ((file : List ℕ) × (refusal : Refusal)
    × (line.items ≡ refused_line file refusal)
    × ForSome shelf.files (λ held. IsRefusal (Follows asked held) file refusal))
Answers asked shelf (answer.Unread line) =
    HasRisen shelf.faults × ((name : List ℕ) × reading.IsNamed asked name
    × ForSome shelf.bad (λ told. told ≡ name)
    × ForSome shelf.files (λ held. reading.ComesTo asked held name) × (line.items ≡ unread_line name))
