-- The parts of the program that is made of sources. Only the private calls of this crate speak of them.
use Rattle.std.specs.Prelude.{◌≡◌, ◌↔◌, ◌<◌, ℕ, true, List, Some, length}
use Rattle.lk_facts.specs.Live.{IsReached}
use Rattle.lk_facts.specs.Lowered.{IsSiteOfOne, IsUsedAsValue}
use Rattle.lk_facts.specs.Program.{live_at, value_site_of}
use Rattle.lk_facts.specs.declared.point.Point.{Point}
use Rattle.lk_facts.specs.declared.program.Program.{Program}
use Rattle.lk_facts.specs.declared.root.Root.{Root}
use Rattle.lk_lower_expr.specs.Lowering.{IsPointOf, Numbers, StandsIn}
use Rattle.lk_lower_expr.specs.Programs.{AreSites, IsBody}
use Rattle.lk_lower_expr.specs.declared.step.Step.{Step}
use Rattle.lk_lower_parts.specs.Cells.{ArePlacesOf, HasMorePlacesOf}
use Rattle.lk_lower_parts.specs.Givens.{AreInitials}
use Rattle.lk_lower_parts.specs.MadeFunctions.{StandsGiven}
use Rattle.lk_lower_parts.specs.Parts.{AreVoidPartsOf}
use Rattle.lk_lower_parts.specs.declared.names.Given.{Given}
use Rattle.lk_lower_parts.specs.declared.start.Main.{Main}
use Rattle.lk_lower_unit.specs.Placed.{numbers_of}
use Rattle.lk_lower_unit.specs.declared.programs.Code.{Code}
use Rattle.lk_lower_unit.specs.declared.programs.Rest.{Rest}
use Rattle.lk_typed.specs.declared.unit.Body.{Body}
use Rattle.lk_typed.specs.declared.whole.Linked.{Linked}
use Rattle.lk_typed.specs.declared.whole.Whole.{Whole}
use Rattle.lk_types.specs.Table.{Table}

-- the same types, with Parts of void
abbrev pub HasParts : Table → Table → Type 0
HasParts old new = (parts : List ℕ) × (new ≡ record old { parts = parts })

-- the same types, with the Parts of void that the points give
abbrev pub HasVoidParts : Table → List Point → Table → Type 0
HasVoidParts old points new =
    (parts : List ℕ) × (new ≡ record old { parts = parts }) × AreVoidPartsOf old points parts

-- live is what is reached, and sites are those of live calls and creations, and of
-- functions that are used as values
pub record HaveLife (program : Program) : Type 0 where
  pub live : (p : ℕ) → (live_at program p ≡ true) ↔ IsReached program.points program.functions p
  pub sites : (i : ℕ) → i < program.sites → IsSiteOfOne program i
  pub value_sites : (f : ℕ) → f < length program.functions → ((i : ℕ) × (value_site_of program f ≡ Some i))
      ↔ IsUsedAsValue program f

-- the points of each program with these are those of the sources, and so are its functions
-- but for their numbers of slots
pub record IsCode (given : Given) (table : Table) (slots : List (List ℕ)) (count : ℕ)
    (code : Code) : Type 0 where
  pub many : length code.points.items ≡ count
  pub points_ : (program : Program) → program.points ≡ code.points.items →
      given.functions.now.count ≡ length program.functions → (s o k : ℕ) (is : Step) (function : ℕ) →
      StandsIn given.whole.now (numbers_of given table) program s o k is function →
      IsPointOf given.whole.now (numbers_of given table) program
      ((numbers_of given table).point s o k) is function
  pub many_functions : length code.functions.items ≡ given.functions.now.count
  pub functions_ : (s b : ℕ) (linked : Linked) (body : Body) →
      IsBody given.whole.now.sources s b linked body →
      StandsGiven given slots s b linked body code.functions.items
  pub sites_ : (whole : Whole) (numbers : Numbers) (program : Program) → program.points ≡ code.points.items →
      program.functions ≡ code.functions.items → AreSites whole numbers program
  pub life : (program : Program) → program.points ≡ code.points.items →
      program.functions ≡ code.functions.items → program.sites ≡ code.sites → HaveLife program

pub record IsRest (given : Given) (roots : List Root) (types : Table) (rest : Rest) : Type 0 where
  pub roots_ : rest.roots.items ≡ roots
  pub types_ : HasParts types rest.types
  pub places_ : ArePlacesOf rest.types roots rest.places.places rest.places.locations
  pub initials_ : AreInitials given rest.initials

-- there are more than 65,536 places by these roots and types, with Parts of void
pub record HasMorePartedPlaces (types : Table) (roots : List Root) : Type 0 where
  pub table : Table
  pub parted : HasParts types table
  pub more : HasMorePlacesOf table roots 65536

-- the program of these parts
pub record IsProgramOf (given : Given) (types : Table) (main : Main) (count : ℕ) (slots : List (List ℕ))
    (roots : List Root) (program : Program) : Type 0 where
  pub code : Code
  pub is_code : IsCode given types slots count code
  pub rest : Rest
  pub is_rest : IsRest given roots types rest
  pub points_ : program.points ≡ code.points.items
  pub functions_ : program.functions ≡ code.functions.items
  pub roots_ : program.roots ≡ rest.roots.items
  pub types_ : program.types ≡ rest.types
  pub places_ : program.places ≡ rest.places.places
  pub locations_ : program.locations ≡ rest.places.locations
  pub initials_ : program.initials ≡ rest.initials
  pub main_ : program.main ≡ main.function
