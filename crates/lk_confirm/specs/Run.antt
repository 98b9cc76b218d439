-- What a run of a command leaves, by the status that it ends with.
use Rattle.std.specs.Prelude.{ℕ, ◌≡◌, ◌⊎◌, Bool, true, false, List, Option, take}
use Rattle.std.specs.Option.{ForSome}
use Rattle.lk_base.specs.declared.refusal.Refusal.{Refusal}
use Rattle.lk_base.specs.declared.status.Status.{Status}
use Rattle.lk_base.specs.declared.status.Status.TheVariants as status
use Rattle.lk_io.specs.Shelf.{Held}
use Rattle.lk_io.specs.Sink.{Takes}
use Rattle.lk_confirm.specs.Words.{Asked, IsAsked, IsNoCommand}
use Rattle.lk_sources.specs.Reading as reading
use Rattle.lk_sources.specs.Shelves.{Count, Shelved, HasRisen, IsAsBefore}
use Rattle.lk_confirm.specs.Texts.{refused_line, usage_line, unread_line, unwritten_line, no_memory_line}
use Rattle.lk_confirm.specs.Results.{IsReport, IsRefusal, is_report}
use Rattle.lk_confirm.specs.Outcome.{Refused, ComesTo}

-- what a sink tells: what it has taken before a call and after it, and its count of faults
pub record Sunk : Type 0 where
  pub before : Option (List ℕ)
  pub now : Option (List ℕ)
  pub faults : Count

abbrev pub sunk : {S : Type 0} → (S → Option (List ℕ)) → (S → ℕ) → S → S → Sunk
sunk gone faults old new =
    record { before = gone old; now = gone new; faults = record { before = faults old; now = faults new } }

-- the sink took the text
abbrev pub Got : Sunk → List ℕ → Type 0
Got sink text = Takes sink.before sink.now text

-- the sink took a front of the text, which may be empty or whole
abbrev pub GotFront : Sunk → List ℕ → Type 0
GotFront sink text = (count : ℕ) × Takes sink.before sink.now (take count text)

-- the sink is as before, as far as it tells
abbrev pub GotNothing : Sunk → Type 0
GotNothing sink = (sink.now ≡ sink.before) × IsAsBefore sink.faults

-- no count of faults has risen
pub record NoneHasRisen (shelf : Shelved) (out err : Sunk) : Type 0 where
  pub shelf_faults : HasRisen shelf.faults → ⊥
  pub out_faults : HasRisen out.faults → ⊥
  pub err_faults : HasRisen err.faults → ⊥

-- The words come to a report with this status, and the output has it, whole.
pub record Reports (words : List (List ℕ)) (held : Held) (out : Sunk) (ends : Status) : Type 0 where
  pub text : List ℕ
  pub is : IsReport (ComesTo words held) text ends
  pub report : Got out text

-- The words come to a refusal, and the error output has its line.
pub record Refuses (words : List (List ℕ)) (held : Held) (err : Sunk) : Type 0 where
  pub file : List ℕ
  pub refusal : Refusal
  pub is : IsRefusal (ComesTo words held) file refusal
  pub line : Got err (refused_line file refusal)

-- A file of the command can't be read: the shelf's count rose, a told bad name is that file's, the reading of
-- told files comes to it, and the error output has the line with its name.
pub record Misses (words : List (List ℕ)) (shelf : Shelved) (err : Sunk) : Type 0 where
  pub asked : Asked
  pub is_asked : IsAsked words asked
  pub name : List ℕ
  pub named : reading.IsNamed asked.check name
  pub rose : HasRisen shelf.faults
  pub bad : ForSome shelf.bad (λ told. told ≡ name)
  pub reached : ForSome shelf.files (λ held. reading.ComesTo asked.check held name)
  pub line : Got err (unread_line name)

-- the lines that the error output may get where the output did not fail
pub data Line (words : List (List ℕ)) (shelf : Shelved) : List ℕ → Type 0 where
  usage : IsNoCommand words → Line words shelf usage_line
  refused : (file : List ℕ) (refusal : Refusal) →
      ForSome shelf.files (λ held. IsRefusal (ComesTo words held) file refusal) →
      Line words shelf (refused_line file refusal)
  unread : (asked : Asked) (name : List ℕ) → IsAsked words asked → reading.IsNamed asked.check name →
      HasRisen shelf.faults → Line words shelf (unread_line name)
  no_memory : Line words shelf no_memory_line

-- The output got a front of the report, or nothing.
abbrev pub GotReportFront : List (List ℕ) → Option Held → Sunk → Type 0
GotReportFront words files out =
    GotNothing out ⊎ ForSome files
    (λ held. (text : List ℕ) × (ends : Status) × IsReport (ComesTo words held) text ends × GotFront out text)

-- The line of which the error output got a front is that of failed output only where the output's count
-- rose, and another only where it is as before.
pub record FailedLine (words : List (List ℕ)) (shelf : Shelved) (out err : Sunk) : Type 0 where
  pub line : List ℕ
  pub front : GotFront err line
  pub which : ((line ≡ unwritten_line) × HasRisen out.faults)
      ⊎ (Line words shelf line × IsAsBefore out.faults)

-- What failed writing leaves.
pub record Fails (words : List (List ℕ)) (shelf : Shelved) (out err : Sunk) : Type 0 where
  pub rose : HasRisen out.faults ⊎ HasRisen err.faults
  pub out_front : GotReportFront words shelf.files out
  pub out_same : (HasRisen out.faults → ⊥) → out.now ≡ out.before
  pub err_line : (HasRisen err.faults → ⊥) → Got err unwritten_line
  pub err_front : HasRisen err.faults → FailedLine words shelf out err

-- an answer, or want of memory
abbrev pub IsOrNoMemory : Status → Status → Type 0
IsOrNoMemory ends wanted = (ends ≡ wanted) ⊎ (ends ≡ status.NoMemory)

-- a refusal of the sources is told, but for want of memory
abbrev pub AlwaysRefuses : List (List ℕ) → Held → Status → Type 0
AlwaysRefuses words held ends = (file : List ℕ) (refusal : Refusal) →
    ComesTo words held (Refused file refusal) → IsOrNoMemory ends status.Refused

-- Sources of the subset are reported, but for want of memory: those that nothing refuses, neither them nor
-- a program that they make.
abbrev pub AlwaysReports : List (List ℕ) → Held → Status → Type 0
AlwaysReports words held ends =
    (asked : Asked) → IsAsked words asked →
    ((file : List ℕ) (refusal : Refusal) → IsRefusal (ComesTo words held) file refusal → ⊥) →
    (is_report ends ≡ true) ⊎ (ends ≡ status.NoMemory)

-- a command is reported or refused, but for want of memory
abbrev pub AlwaysAnswers : List (List ℕ) → Status → Type 0
AlwaysAnswers words ends =
    (asked : Asked) → IsAsked words asked → (is_report ends ≡ true) ⊎ IsOrNoMemory ends status.Refused

-- the output is never written to
abbrev pub leaves_output : Status → Bool
leaves_output status.Refused = true
leaves_output status.Usage = true
leaves_output status.ReadFault = true
leaves_output status.NoMemory = true
leaves_output status.Clean = false
leaves_output status.Suspects = false
leaves_output status.WriteFault = false

-- The error output was told a line: it got it, or failed with a front of it.
abbrev pub Told : Status → List ℕ → Sunk → Status → Type 0
Told wanted line err ends =
    ((ends ≡ wanted) × Got err line × IsAsBefore err.faults)
    ⊎ ((ends ≡ status.WriteFault) × HasRisen err.faults × GotFront err line)

-- The output got the whole text, or it failed with a front of it and the error output was told.
abbrev pub Published : Status → List ℕ → Sunk → Sunk → Status → Type 0
Published wanted text out err ends =
    ((ends ≡ wanted) × Got out text × IsAsBefore out.faults × GotNothing err)
    ⊎ ((ends ≡ status.WriteFault) × HasRisen out.faults × GotFront out text × Told status.WriteFault unwritten_line err ends)
