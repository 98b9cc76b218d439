-- What the tables of a source hold, by the numbers of the program.
use Rattle.std.specs.Prelude.{◌≡◌, ◌+◌, ℕ, false, List, Some, length, slice_get, get_or}
use Rattle.std.specs.List.{Contains}
use Rattle.std.specs.Option.{is_some, option_map_or}
use Rattle.lk_base.specs.declared.cell.CellStep.{CellStep}
use Rattle.lk_facts.specs.declared.program.Program.{Program}
use Rattle.lk_lower_expr.specs.Laid.{named}
use Rattle.lk_lower_expr.specs.Lowering.{Numbers, StandsIn, definition_of, function_of, root_of_entity}
use Rattle.lk_lower_expr.specs.Naming.{at_of}
use Rattle.lk_lower_expr.specs.declared.names.SourceNames.{SourceNames}
use Rattle.lk_lower_expr.specs.declared.step.Step.{Step}
use Rattle.lk_lower_unit.specs.declared.standing.StandingStep.{StandingStep}
use Rattle.lk_typed.specs.declared.unit.TypedUnit.{TypedUnit}
use Rattle.lk_typed.specs.declared.whole.Linked.{Linked}
use Rattle.lk_typed.specs.declared.whole.Whole.{Whole}
use Rattle.lk_types.specs.declared.node.NodeId.{NodeId}

-- the tables of the source s hold the numbers of the program
pub record AreTables (whole : Whole) (numbers : Numbers) (s : ℕ) (linked : Linked)
    (source : SourceNames) : Type 0 where
  pub point : (o k : ℕ) → at_of source o k ≡ numbers.point s o k
  pub root : (o : ℕ) → get_or source.by_node o 0 ≡ numbers.root s o
  pub slot : (o : ℕ) → get_or source.by_node o 0 ≡ numbers.slot s o
  pub types : source.types ≡ linked.types
  pub pointers : (t : ℕ) →
      get_or source.pointers t 0 ≡ option_map_or numbers.pointer (slice_get linked.types t) 0
  pub objects : (e : ℕ) → get_or source.objects e 0
      ≡ root_of_entity whole numbers (definition_of whole numbers s e)
  pub functions : (e : ℕ) →
      get_or source.functions e 0 ≡ function_of whole numbers (definition_of whole numbers s e)
  pub defined : (e : ℕ) → get_or source.defined e false ≡ is_some (definition_of whole numbers s e)

-- these are the steps of the source s in the program
pub record AreStepsIn (whole : Whole) (numbers : Numbers) (program : Program) (s : ℕ)
    (steps : List StandingStep) : Type 0 where
  pub each : (o k : ℕ) (is : Step) (f : ℕ) → StandsIn whole numbers program s o k is f →
      Contains steps (record { step = named o k is; function = f })
  pub only : (x : StandingStep) → Contains steps x →
      StandsIn whole numbers program s x.step.node x.step.step x.step.is x.function

-- the source s of the program is this one, and these are its numbers
pub record IsNumbered (whole : Whole) (numbers : Numbers) (program : Program) (s : ℕ) (unit : TypedUnit)
    (node : ℕ → List CellStep → NodeId) (first none : ℕ) (source : SourceNames) : Type 0 where
  pub linked : Linked
  pub at : slice_get whole.sources s ≡ Some linked
  pub is : linked.unit ≡ unit
  pub tables : AreTables whole numbers s linked source
  pub nodes : numbers.node ≡ node
  pub functions : (b : ℕ) → first + b ≡ numbers.function s b
  pub no_function : none ≡ length program.functions

-- in each program with these numbers they are the steps of the source
abbrev pub StandInPrograms : TypedUnit → (node : ℕ → List CellStep → NodeId) → (first none : ℕ) →
    SourceNames → List StandingStep → Type 0
StandInPrograms unit node first none source steps =
    (whole : Whole) (numbers : Numbers) (program : Program) (s : ℕ) →
    IsNumbered whole numbers program s unit node first none source →
    AreStepsIn whole numbers program s steps
