-- What is reported of sources that are accepted, and why others of them make no program: by their typed
-- trees, the program into which these link, its points, and the verdicts of these.
use Rattle.std.specs.Prelude.{ℕ, ◌≡◌, List, [], Some, slice_get}
use Rattle.lk_base.specs.declared.code.Code.{Code}
use Rattle.lk_base.specs.declared.code.Code.TheVariants.{TooManyPoints, TooManyLabels}
use Rattle.lk_base.specs.declared.refusal.Refusal.{Refusal}
use Rattle.lk_facts.specs.Facts.{basis_of, facts_of}
use Rattle.lk_facts.specs.InRange.{IsInRange}
use Rattle.lk_facts.specs.LabelRules.{HasMoreLabels}
use Rattle.lk_facts.specs.Lowered.{IsLowered}
use Rattle.lk_facts.specs.declared.program.Program.{Program}
use Rattle.lk_facts.specs.declared.verdict.Verdict.{Verdict}
use Rattle.lk_lower_expr.specs.Programs.{IsMadeOf, HasMorePlaces}
use Rattle.lk_lower_parts.specs.Mains.{spot_of_main}
use Rattle.lk_lower_unit.specs.PointNumbers.{HasMorePoints}
use Rattle.lk_program.specs.Program.{IsProgram, IsUnlinked}
use Rattle.lk_report.specs.Report.{report_text}
use Rattle.lk_safe.specs.Soundness.{FindsRaces, HasNoOtherRaces}
use Rattle.lk_solve.specs.Verdicts.{HasVerdicts}
use Rattle.lk_sources.specs.declared.accepting.Accepted as code
use Rattle.lk_sources.specs.Accepting.{units_of}
use Rattle.lk_typed.specs.declared.whole.Whole.{Whole}
use Rattle.lk_types.specs.Building.{IsTable}

-- the program into which the typed trees of accepted sources link
abbrev pub IsWhole : code.Accepted → Whole → Type 0
IsWhole sources whole = IsProgram sources.externs.items (units_of sources.sources.items) whole

-- the points of a program: made of its trees, each number in them in range, so that each live call and
-- creation has a site and nothing else has one, and their types a table, in which each type stands once
pub record ArePointsOf (whole : Whole) (points : Program) : Type 0 where
  pub made : IsMadeOf whole points
  pub lowered : IsLowered points
  pub in_range : IsInRange points
  pub table : IsTable points.types

-- each race in a state that a run of the program reaches was found by the analysis from which the verdicts
-- follow, with the mutexes that its threads own (LOCKSMITH: correlation of accesses and locks)
abbrev pub FindsEachRace : (points : Program) (verdicts : List Verdict) → HasVerdicts points verdicts → Type 0
FindsEachRace points verdicts has =
    FindsRaces (basis_of (facts_of points has.labels has.origins)) verdicts has.follow

-- more labels than are analysed: its locations and lock places alone are more, or those of its points
pub data HasTooManyLabels (whole : Whole) : Type 0 where
  of_places : HasMorePlaces whole 65536 → HasTooManyLabels whole
  of_points : (points : Program) → ArePointsOf whole points → HasMoreLabels points 65536 →
      HasTooManyLabels whole

-- the text is the report of the verdicts that the points of the program have
pub record IsAnalysed (sources : code.Accepted) (text : List ℕ) (verdicts : List Verdict) : Type 0 where
  pub whole : Whole
  pub is_whole : IsWhole sources whole
  pub few_points : HasMorePoints whole 65536 → ⊥
  pub points : Program
  pub are_points : ArePointsOf whole points
  pub few_labels : HasMoreLabels points 65536 → ⊥
  pub verdicts_are : HasVerdicts points verdicts
  pub races_found : FindsEachRace points verdicts verdicts_are
  -- no state that a run of the program reaches has a race at a location that isn't called suspect
  pub safe : HasNoOtherRaces points verdicts
  pub text_is : text ≡ report_text sources.files points verdicts

-- what is told of the points of the program that they make, which has no more labels than are analysed
pub record IsToldOf (sources : code.Accepted) (Told : Program → Type 0) : Type 0 where
  pub whole : Whole
  pub is_whole : IsWhole sources whole
  pub few_points : HasMorePoints whole 65536 → ⊥
  pub points : Program
  pub are_points : ArePointsOf whole points
  pub few_labels : HasMoreLabels points 65536 → ⊥
  pub told : Told points

-- a refusal with this code at the name of main in its definition, which tells no name
pub record IsAtMain (whole : Whole) (code : Code) (refusal : Refusal) : Type 0 where
  pub is_code : refusal.code ≡ code
  pub place : spot_of_main whole ≡ Some refusal.spot
  pub no_name : refusal.name ≡ []

-- Why they make no program: their typed trees speak against one another, or are over a
-- bound; that is told at main.
pub data IsNoProgram (sources : code.Accepted) (refusal : Refusal) : Type 0 where
  unlinked : IsUnlinked sources.externs.items (units_of sources.sources.items) refusal →
      IsNoProgram sources refusal
  too_many_points : (whole : Whole) → IsWhole sources whole → HasMorePoints whole 65536 →
      IsAtMain whole TooManyPoints refusal → IsNoProgram sources refusal
  too_many_labels : (whole : Whole) → IsWhole sources whole → (HasMorePoints whole 65536 → ⊥) →
      HasTooManyLabels whole → IsAtMain whole TooManyLabels refusal → IsNoProgram sources refusal

-- with the name of the file in which its place stands
pub record IsNoProgramIn (sources : code.Accepted) (file : List ℕ) (refusal : Refusal) : Type 0 where
  pub why : IsNoProgram sources refusal
  pub at : slice_get sources.files refusal.spot.file ≡ Some file
