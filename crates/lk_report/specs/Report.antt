-- The text of the report: a line for each location, with its racing accesses where it is
-- suspect, and a line of totals.
use Rattle.std.specs.Prelude.{◌<◌, ◌≡◌, ℕ, Bool, true, false, if◌then◌else◌, List, [], ◌∷◌, ◌++◌, flat_map, All, length, codes, count_by, unwrap_or, Some}
use Rattle.std.specs.Option.{option_and_then, option_map_or}
use Rattle.std.specs.Fmt.{decimal}
use Rattle.lk_facts.specs.Program.{function_at, name_of, spot_of, writes_at}
use Rattle.lk_facts.specs.declared.program.Program.{Program}
use Rattle.lk_facts.specs.declared.verdict.Racing.{Racing}
use Rattle.lk_facts.specs.declared.verdict.Verdict.{Verdict}
use Rattle.lk_facts.specs.declared.verdict.VerdictState.{VerdictState}
use Rattle.lk_facts.specs.declared.verdict.VerdictState.TheVariants.{Guarded, Unshared, Suspect}
use Rattle.lk_report.specs.Names.{spot_text, place_text, location_spot_text}
use Rattle.lk_report.specs.Order.{in_order}

abbrev pub is_state : VerdictState → VerdictState → Bool
is_state Guarded Guarded = true
is_state Guarded Unshared = false
is_state Guarded Suspect = false
is_state Unshared Guarded = false
is_state Unshared Unshared = true
is_state Unshared Suspect = false
is_state Suspect Guarded = false
is_state Suspect Unshared = false
is_state Suspect Suspect = true

-- how many verdicts have the state
abbrev pub count_of : VerdictState → List Verdict → ℕ
count_of state verdicts = count_by (λ v. is_state state v.state) verdicts

-- how many locations there are, and how many of each state
abbrev pub total_text : List Verdict → List ℕ
total_text verdicts =
    codes "total "
    ++ (decimal (length verdicts)
    ++ (codes ", guarded "
    ++ (decimal (count_of Guarded verdicts)
    ++ (codes ", unshared "
    ++ (decimal (count_of Unshared verdicts)
    ++ (codes ", suspect " ++ (decimal (count_of Suspect verdicts) ++ 10 ∷ [])))))))

-- what an access does
abbrev pub access_word : Program → ℕ → List ℕ
access_word program p = if writes_at program p then codes "write" else codes "read"

-- the name of the function of a point
abbrev pub function_text : Program → ℕ → List ℕ
function_text program p = unwrap_or (option_and_then (name_of program) (function_at program p)) []

module _ (files : List (List ℕ)) (program : Program) where
  -- lock places, with `, ` before each but the first
  abbrev pub locks_text : List ℕ → List ℕ
  locks_text [] = []
  locks_text (first ∷ others) =
      place_text files program first ++ flat_map (λ lock. codes ", " ++ place_text files program lock) others

  -- the locks that are held
  abbrev pub held_text : List ℕ → List ℕ
  held_text [] = codes "nothing"
  held_text (lock ∷ locks) = locks_text (lock ∷ locks)

  abbrev pub state_text : VerdictState → List ℕ → List ℕ
  state_text Unshared locks = codes "unshared"
  state_text Suspect locks = codes "suspect"
  state_text Guarded locks = codes "guarded by " ++ locks_text locks

  -- the place of a point
  abbrev pub point_text : ℕ → List ℕ
  point_text p = option_map_or (spot_text files) (spot_of program p) []

  -- the line of a racing access
  abbrev pub access_text : Racing → List ℕ
  access_text r =
      codes "  "
      ++ (access_word program r.access
      ++ (codes " "
      ++ (point_text r.access
      ++ (codes " in " ++ (function_text program r.access ++ (codes " holding " ++ (held_text r.locks ++ 10 ∷ [])))))))

  -- the lines of the racing accesses of a suspect location, in the order of their places
  abbrev pub accesses_text : VerdictState → List Racing → List ℕ
  accesses_text Unshared accesses = []
  accesses_text Guarded accesses = []
  accesses_text Suspect accesses = flat_map access_text (in_order program accesses)

  -- the lines of a location
  abbrev pub location_text : Verdict → List ℕ
  location_text v =
      place_text files program v.location
      ++ (codes " " ++ (location_spot_text files program v.location
      ++ (codes " " ++ (state_text v.state v.locks ++ (10 ∷ [] ++ accesses_text v.state v.accesses)))))

  abbrev pub report_text : List Verdict → List ℕ
  report_text verdicts = flat_map location_text verdicts ++ total_text verdicts

-- what a verdict speaks of is there: locations, lock places, and accesses of functions
abbrev pub AreLockPlaces : Program → List ℕ → Type 0
AreLockPlaces program locks = All (λ q. q < length program.places) locks

pub record IsAccessThere (program : Program) (r : Racing) : Type 0 where
  pub access : r.access < length program.points
  pub function : (f : ℕ) → function_at program r.access ≡ Some f → f < length program.functions
  pub locks : AreLockPlaces program r.locks

pub record IsVerdictThere (program : Program) (v : Verdict) : Type 0 where
  pub location : v.location < length program.places
  pub locks : AreLockPlaces program v.locks
  pub accesses : All (IsAccessThere program) v.accesses
