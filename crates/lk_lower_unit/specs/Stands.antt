-- The steps of one source: of its bodies, and of the initialisers of its objects of static storage.
use Rattle.std.specs.Prelude.{◌≡◌, ℕ, List, [], Some, slice_get}
use Rattle.std.specs.List.{Contains}
use Rattle.lk_base.specs.declared.cell.CellStep.{CellStep}
use Rattle.lk_facts.specs.declared.place.Place.{Place}
use Rattle.lk_lower_expr.specs.Laid.{named}
use Rattle.lk_lower_expr.specs.Names.{Names, Node}
use Rattle.lk_lower_expr.specs.Statements.{body_walk}
use Rattle.lk_lower_expr.specs.Statics.{static_walk}
use Rattle.lk_lower_expr.specs.Walk.{IsStep}
use Rattle.lk_lower_expr.specs.declared.step.Step.{Step}
use Rattle.lk_lower_unit.specs.declared.standing.StandingStep.{StandingStep}
use Rattle.lk_typed.specs.declared.entity.Entity.{Entity}
use Rattle.lk_typed.specs.declared.expression.Storage.TheVariants as storage
use Rattle.lk_typed.specs.declared.initialiser.StaticObject.{StaticObject}
use Rattle.lk_typed.specs.declared.unit.Body.{Body}
use Rattle.lk_typed.specs.declared.unit.Local.{Local}
use Rattle.lk_typed.specs.declared.unit.TypedUnit.{TypedUnit}

-- what the numbers of a source stand for, by the locals of a body, and the places of the cells of these
abbrev pub NamesBy : Type 0
NamesBy = List Local → Names

abbrev pub PlacesBy : Type 0
PlacesBy = List Local → ℕ → List CellStep → Place

-- the declared name of an object of static storage
abbrev pub declared_node : StaticObject → Entity → Node
declared_node object entity = record { ordinal = object.ordinal; spot = object.spot; type = entity.ty }

module _ (names : NamesBy) (places : PlacesBy) (unit : TypedUnit) (function : ℕ → ℕ) (none : ℕ) where
  -- a step of the source, and the function in which it stands: that of a body, or `none`
  pub data IsStepOf (o k : ℕ) (is : Step) : ℕ → Type 0 where
    of_body : (b : ℕ) (body : Body) → slice_get unit.bodies b ≡ Some body →
        IsStep o k is (body_walk (names body.locals) (places body.locals) body.ordinal body.spot body.block) →
        IsStepOf o k is (function b)
    of_static : (object : StaticObject) (entity : Entity) → Contains unit.objects object →
        slice_get unit.entities object.entity ≡ Some entity →
        IsStep o k is (static_walk (names []) (declared_node object entity)
        ((names []).object (storage.Entity object.entity)) object.parts) → IsStepOf o k is none

  -- these are the steps of the source
  pub record AreSteps (steps : List StandingStep) : Type 0 where
    pub each : (o k : ℕ) (is : Step) (f : ℕ) → IsStepOf o k is f →
        Contains steps (record { step = named o k is; function = f })
    pub only : (x : StandingStep) → Contains steps x → IsStepOf x.step.node x.step.step x.step.is x.function
