-- What is reported of sources that are accepted, and why others of them make no program: by their typed
-- trees, the program into which these link, its points, and the verdicts of these.
use Rattle.std.specs.Prelude.{ℕ, ◌≡◌, ◌==◌, Bool, true, false, if◌then◌else◌, List, [], ◌∷◌, Some, flat_map, slice_get}
use Rattle.lk_base.specs.declared.code.Code.{Code}
use Rattle.lk_base.specs.declared.code.Code.TheVariants.{TooManyPoints, TooManyLabels}
use Rattle.lk_base.specs.declared.refusal.Refusal.{Refusal}
use Rattle.lk_facts.specs.InRange.{IsInRange}
use Rattle.lk_facts.specs.LabelRules.{HasMoreLabels}
use Rattle.lk_facts.specs.Lowered.{IsLowered}
use Rattle.lk_facts.specs.declared.program.Program.{Program}
use Rattle.lk_base.specs.declared.status.Status.{Status}
use Rattle.lk_base.specs.declared.status.Status.TheVariants as status
use Rattle.lk_facts.specs.declared.verdict.Verdict.{Verdict}
use Rattle.lk_facts.specs.declared.verdict.VerdictState.{VerdictState}
use Rattle.lk_facts.specs.declared.verdict.VerdictState.TheVariants.{Guarded, Unshared, Suspect}
use Rattle.lk_witness.specs.Searched.{IsSearched}
use Rattle.lk_witness.specs.declared.telling.Searched.{Searched}
use Rattle.lk_lower_expr.specs.Programs.{IsMadeOf, HasMorePlaces}
use Rattle.lk_lower_parts.specs.Mains.{spot_of_main}
use Rattle.lk_lower_unit.specs.PointNumbers.{HasMorePoints}
use Rattle.lk_program.specs.Program.{IsProgram, IsUnlinked}
use Rattle.lk_solve.specs.Verdicts.{HasVerdicts}
use Rattle.lk_sources.specs.declared.accepting.Accepted as code
use Rattle.lk_sources.specs.Accepting.{units_of}
use Rattle.lk_typed.specs.declared.whole.Whole.{Whole}
use Rattle.lk_types.specs.Building.{IsTable}

-- the program into which the typed trees of accepted sources link
abbrev pub IsWhole : code.Accepted → Whole → Type 0
IsWhole sources whole = IsProgram sources.externs.items (units_of sources.sources.items) whole

-- the points of a program: made of its trees, each number in them in range, so that each live call and
-- creation has a site and nothing else has one, and their types a table, in which each type stands once
pub record ArePointsOf (whole : Whole) (points : Program) : Type 0 where
  pub made : IsMadeOf whole points
  pub lowered : IsLowered points
  pub in_range : IsInRange points
  pub table : IsTable points.types

-- ---- the suspect locations

abbrev pub is_suspect : VerdictState → Bool
is_suspect Guarded = false
is_suspect Unshared = false
is_suspect Suspect = true

abbrev pub suspect_of : Verdict → List ℕ
suspect_of v = if is_suspect v.state then v.location ∷ [] else []

-- in the order of the report
abbrev pub suspects_of : List Verdict → List ℕ
suspects_of verdicts = flat_map suspect_of verdicts

-- the status that tells whether something is shown
abbrev pub status_of : ℕ → Status
status_of shown = if shown == 0 then status.Clean else status.Suspects

-- the text tells what was found of them
pub record TellsSearch (files : List (List ℕ)) (points : Program) (verdicts : List Verdict) (text : List ℕ)
    (ends : Status) : Type 0 where
  pub searched : Searched
  pub is_searched : IsSearched files points (suspects_of verdicts) searched
  pub text_is : text ≡ searched.text.items
  pub status : ends ≡ status_of searched.shown

-- more labels than are analysed: its locations and lock places alone are more, or those of its points
pub data HasTooManyLabels (whole : Whole) : Type 0 where
  of_places : HasMorePlaces whole 65536 → HasTooManyLabels whole
  of_points : (points : Program) → ArePointsOf whole points → HasMoreLabels points 65536 →
      HasTooManyLabels whole

-- the text tells of the locations that the verdicts of the points of the program call suspect
pub record IsConfirmed (sources : code.Accepted) (text : List ℕ) (ends : Status) : Type 0 where
  pub whole : Whole
  pub is_whole : IsWhole sources whole
  pub few_points : HasMorePoints whole 65536 → ⊥
  pub points : Program
  pub are_points : ArePointsOf whole points
  pub few_labels : HasMoreLabels points 65536 → ⊥
  pub verdicts : List Verdict
  pub verdicts_are : HasVerdicts points verdicts
  pub told : TellsSearch sources.files points verdicts text ends

-- a refusal with this code at the name of main in its definition, which tells no name
pub record IsAtMain (whole : Whole) (code : Code) (refusal : Refusal) : Type 0 where
  pub is_code : refusal.code ≡ code
  pub place : spot_of_main whole ≡ Some refusal.spot
  pub no_name : refusal.name ≡ []

-- Why they make no program: their typed trees speak against one another, or are over a
-- bound; that is told at main.
pub data IsNoProgram (sources : code.Accepted) (refusal : Refusal) : Type 0 where
  unlinked : IsUnlinked sources.externs.items (units_of sources.sources.items) refusal →
      IsNoProgram sources refusal
  too_many_points : (whole : Whole) → IsWhole sources whole → HasMorePoints whole 65536 →
      IsAtMain whole TooManyPoints refusal → IsNoProgram sources refusal
  too_many_labels : (whole : Whole) → IsWhole sources whole → (HasMorePoints whole 65536 → ⊥) →
      HasTooManyLabels whole → IsAtMain whole TooManyLabels refusal → IsNoProgram sources refusal

-- with the name of the file in which its place stands
pub record IsNoProgramIn (sources : code.Accepted) (file : List ℕ) (refusal : Refusal) : Type 0 where
  pub why : IsNoProgram sources refusal
  pub at : slice_get sources.files refusal.spot.file ≡ Some file
