-- Which commands have sources that are accepted, and why those of the others are refused.
use Rattle.std.specs.Bool.{⊤}
use Rattle.std.specs.Prelude.{ℕ, ◌≡◌, List, ◌∷◌, All, length, map, Some, None, slice_get}
use Rattle.lk_base.specs.declared.code.Code.TheVariants.{TooLong, BadExterns}
use Rattle.lk_base.specs.declared.refusal.Refusal.{Refusal}
use Rattle.lk_io.specs.Shelf.{Held}
use Rattle.lk_lex.specs.declared.token.Token.{Token}
use Rattle.lk_tree.specs.declared.statement.Unit.{Unit}
use Rattle.lk_typed.specs.Elements.{HasFewElements}
use Rattle.lk_typed.specs.Env.{Name}
use Rattle.lk_typed.specs.Meaning.{IsReady}
use Rattle.lk_words.specs.Words.{Command}
use Rattle.lk_checker.specs.Sources.{IsBehind, RecordsOf, TellsFirst}
use Rattle.lk_sources.specs.Externs.{externs_text, listed, Names, BadLine}
use Rattle.lk_sources.specs.Faults.{AreFaultless, AreFaulty}
use Rattle.lk_sources.specs.Numbers.{numbered, refusal_at}
use Rattle.lk_sources.specs.Reading.{IsRead, IsTooLong}
use Rattle.lk_sources.specs.Splitting.{AreFiled, AreSplit, StopsIn, first_word}
use Rattle.lk_sources.specs.Trees.{AreTrees, HasNoTree}
use Rattle.lk_parse_unit.specs.Tree.{IsTree}
use Rattle.lk_sources.specs.declared.accepting.Accepted.{Accepted}
use Rattle.lk_sources.specs.declared.fault.SourcesFault.{SourcesFault}
use Rattle.lk_sources.specs.declared.fault.SourcesFault.TheVariants as told
use Rattle.lk_sources.specs.declared.checking.AcceptedSource.{AcceptedSource}
use Rattle.lk_sources.specs.declared.reading.Source.{Source}

-- ---- sources, where --externs lists these names, and the names of files grow from the first to the last

-- each is a tree without a fault, and no word in them is unsupported
pub record AreAccepted (names : List (List ℕ)) (externs : List Name) (sources : List Source)
    (last : List (List ℕ)) (units : List Unit) : Type 0 where
  pub lists : List (List Token)
  pub split : AreSplit names sources lists last
  pub supported : first_word sources lists ≡ None
  pub trees : AreTrees sources lists units
  pub faultless : AreFaultless externs units

-- Why they are refused: in some the split stops, or a word is unsupported, or some has no tree,
-- or some tree has a fault. The first of these that applies tells the refusal, and of the sources
-- to which it applies the first.
pub data AreRefused (names : List (List ℕ)) (externs : List Name) (sources : List Source)
    (last : List (List ℕ)) (refusal : Refusal) : Type 0 where
  stopped : StopsIn names sources refusal last → AreRefused names externs sources last refusal
  unsupported : (lists : List (List Token)) → AreSplit names sources lists last →
      first_word sources lists ≡ Some refusal → AreRefused names externs sources last refusal
  without_tree : (lists : List (List Token)) → AreSplit names sources lists last →
      first_word sources lists ≡ None → HasNoTree sources lists refusal →
      AreRefused names externs sources last refusal
  faulty : (lists : List (List Token)) (units : List Unit) → AreSplit names sources lists last →
      first_word sources lists ≡ None → AreTrees sources lists units → AreFaulty externs units refusal →
      AreRefused names externs sources last refusal

-- ---- the files of a command, whose names have these numbers: that of --externs, if there is one, and its sources

abbrev pub units_of : List AcceptedSource → List Unit
units_of sources = map (λ s. s.parsed.unit) sources

-- a source is checked, where --externs lists these names: it has no fault, its types are as its typed tree
-- asks for them, and what was found is true of it
pub record IsCheckedSource (externs : List Name) (source : AcceptedSource) : Type 0 where
  pub faultless : TellsFirst externs source.parsed.unit None
  pub ready : IsReady source.checked.types
  pub few : HasFewElements source.checked.types
  pub records : RecordsOf externs source.parsed.unit source.checked.types source.checked.records
  pub behind : IsBehind externs source.parsed.unit source.checked

-- a tree is that of tokens that stand in the first files
pub record IsPlaced (files : ℕ) (unit : Unit) : Type 0 where
  pub bytes : List ℕ
  pub tokens : List Token
  pub tree : IsTree 200 bytes tokens unit
  pub filed : AreFiled files tokens

-- the trees stand in the files whose names are there
abbrev pub ArePlaced : Accepted → Type 0
ArePlaced accepted = All (IsPlaced (length accepted.files)) (units_of accepted.sources.items)

-- each accepted source is checked, and they stand in the files
pub record AreChecked (accepted : Accepted) : Type 0 where
  pub each : All (IsCheckedSource accepted.externs.items) accepted.sources.items
  pub placed : ArePlaced accepted

-- the sources are accepted, where --externs lists these names
pub record IsAcceptedWith (names : List (List ℕ)) (listing : List Name) (sources : List Source)
    (accepted : Accepted) : Type 0 where
  pub listing_is : accepted.externs.items ≡ listing
  pub are : AreAccepted names listing sources accepted.files (units_of accepted.sources.items)

-- they are refused, and the place of that stands in this file
pub record IsRefusedWith (names : List (List ℕ)) (listing : List Name) (sources : List Source)
    (file : List ℕ) (refusal : Refusal) : Type 0 where
  pub last : List (List ℕ)
  pub why : AreRefused names listing sources last refusal
  pub at : slice_get last refusal.spot.file ≡ Some file

-- the file of --externs, the first of these, has a line that is neither empty nor a name, and is refused there
pub record HasBadExterns (names : List (List ℕ)) (externs : List Source) (file : List ℕ)
    (refusal : Refusal) : Type 0 where
  pub first : Source
  pub others : List Source
  pub line : ℕ
  pub are : externs ≡ first ∷ others
  pub bad : listed first.bytes ≡ BadLine line
  pub file_is : file ≡ first.name
  pub is : refusal ≡ refusal_at names file BadExterns line

-- the lines of the externs file are names, and the sources are accepted
pub record IsAccepted (names : List (List ℕ)) (externs sources : List Source)
    (accepted : Accepted) : Type 0 where
  pub listing : List Name
  pub names_listed : listed (externs_text externs) ≡ Names listing
  pub is : IsAcceptedWith names listing sources accepted

-- why they are refused: a line of the externs file is no name; or the sources are refused
pub data IsRefused (names : List (List ℕ)) (externs sources : List Source) (file : List ℕ)
    (refusal : Refusal) : Type 0 where
  bad_externs : HasBadExterns names externs file refusal → IsRefused names externs sources file refusal
  sources_refused : (listing : List Name) → listed (externs_text externs) ≡ Names listing →
      IsRefusedWith names listing sources file refusal → IsRefused names externs sources file refusal

-- ---- a command over the files that a shelf holds

pub record IsAcceptedFor (command : Command) (held : Held) (accepted : Accepted) : Type 0 where
  pub externs : List Source
  pub others : List Source
  pub sources : List Source
  pub read : IsRead command held externs others sources
  pub is : IsAccepted (numbered command) externs sources accepted

-- a file is too long, or the files are refused that were read
pub data IsRefusedFor (command : Command) (held : Held) (file : List ℕ) (refusal : Refusal) : Type 0 where
  too_long : IsTooLong command held file → refusal ≡ refusal_at (numbered command) file TooLong 1 →
      IsRefusedFor command held file refusal
  refused : (externs others sources : List Source) → IsRead command held externs others sources →
      IsRefused (numbered command) externs sources file refusal → IsRefusedFor command held file refusal

-- ---- what the calls answer

-- this refusal, with the name of the file in which its place stands
abbrev pub IsInFile : List (List ℕ) → Refusal → SourcesFault → Type 0
IsInFile files refusal (told.Refused file is) =
    (is ≡ refusal) × (slice_get files refusal.spot.file ≡ Some file)
IsInFile files refusal (told.Unread name) = ⊥
IsInFile files refusal told.NoMemory = ⊤

-- this refusal, in the file of this name
abbrev pub IsRefusedAt : List ℕ → Refusal → SourcesFault → Type 0
IsRefusedAt name refusal (told.Refused file is) = (file ≡ name) × (is ≡ refusal)
IsRefusedAt name refusal (told.Unread other) = ⊥
IsRefusedAt name refusal told.NoMemory = ⊤

abbrev pub RefusesExterns : List (List ℕ) → List Source → SourcesFault → Type 0
RefusesExterns names externs (told.Refused file refusal) = HasBadExterns names externs file refusal
RefusesExterns names externs (told.Unread name) = ⊥
RefusesExterns names externs told.NoMemory = ⊤

abbrev pub RefusesSources : List (List ℕ) → List Name → List Source → SourcesFault → Type 0
RefusesSources names listing sources (told.Refused file refusal) =
    IsRefusedWith names listing sources file refusal
RefusesSources names listing sources (told.Unread name) = ⊥
RefusesSources names listing sources told.NoMemory = ⊤
