-- What is made of external declarations, each behind those before it (C99 6.9).
use Rattle.std.specs.Prelude.{◌≡◌, ◌++◌, Some, List, [], ◌∷◌}
use Rattle.std.specs.List.{Contains}
use Rattle.lk_tree.specs.declared.statement.Decl.{Decl}
use Rattle.lk_tree.specs.declared.statement.Unit.{Unit}
use Rattle.lk_types.specs.declared.c_type.CType.{CType}
use Rattle.lk_typed.specs.Entities.{NameDeclared, entity_kind}
use Rattle.lk_typed.specs.Env.{AsOperand, Env, Name}
use Rattle.lk_typed.specs.NodeParts.{externals_in_turn}
use Rattle.lk_typed.specs.Nodes.{AnExternal, Node, Placed, at}
use Rattle.lk_typed.specs.TypedUnits.{AreBodies}
use Rattle.lk_typed.specs.declared.entity.Entity.{Entity}
use Rattle.lk_typed.specs.declared.entity.EntityKind.{EntityKind}
use Rattle.lk_typed.specs.declared.initialiser.StaticObject.{StaticObject}
use Rattle.lk_typed.specs.declared.unit.Body.{Body}
use Rattle.lk_elaborator.specs.Gathering.{IsGathered}
use Rattle.lk_elaborator.specs.Rising.{IsRising}
use Rattle.lk_elaborator.specs.declared.elaborator.Elaborator.{Elaborator}
use Rattle.lk_elaborator.specs.declared.entities.NamedEntity.{NamedEntity}
use Rattle.lk_elab_expr.specs.Naming.{IsNameOf}
use Rattle.lk_elaborate.specs.Making.{StandIn}
use Rattle.lk_elaborate.specs.Outside.{LeadsOutside}
use Rattle.lk_elaborate.specs.Putting.{IsNameInside, PutsObjects}

module _ (externs : List Name) (unit : Unit) (placed : List Placed) where
  -- their bodies, behind those before them
  pub record PutsBodies (old new : Elaborator) (bodies : List Body) : Type 0 where
    pub list : new.bodies.items ≡ old.bodies.items ++ bodies
    pub are : (types : List CType) (entities : List Entity) → LeadsOutside new types entities →
        AreBodies externs unit types entities placed bodies

  -- the names of entities that they declare
  pub record PutsEntities (old new : Elaborator) (names : List NamedEntity) : Type 0 where
    pub gathers : (ns : List NamedEntity) → IsGathered ns old.entities → IsGathered (ns ++ names) new.entities
    pub rise : (ns : List NamedEntity) → IsRising ns old.entities → IsRising (ns ++ names) new.entities
    pub all : (env : Env) (node : Node) (n : NameDeclared) (kind : EntityKind) →
        IsNameInside externs unit placed env node n → entity_kind n.is.meaning ≡ Some kind →
        (named : NamedEntity) × Contains names named
        × IsNameOf externs unit new.types.types new.bodies.items env node n named
    pub none_else : (named : NamedEntity) → Contains names named →
        (env : Env) × (node : Node) × (n : NameDeclared) × IsNameInside externs unit placed env node n
        × IsNameOf externs unit new.types.types new.bodies.items env node n named

  pub record PutsExternals (old new : Elaborator) : Type 0 where
    pub bodies : List Body
    pub puts_bodies : PutsBodies old new bodies
    pub names : List NamedEntity
    pub puts_names : PutsEntities old new names
    pub objects : List StaticObject
    pub puts_objects : PutsObjects externs unit placed old new objects

-- an external declaration that stands in the source
abbrev pub MakesExternal : Elaborator → Elaborator → Decl → Type 0
MakesExternal old new d =
    (env : Env) → env.role ≡ AsOperand → (stand : StandIn old (at env (AnExternal d) ∷ [])) →
    PutsExternals stand.externs stand.unit (at env (AnExternal d) ∷ []) old new

-- all of them
abbrev pub MakesExternals : Elaborator → Elaborator → List Decl → Type 0
MakesExternals old new ds =
    (env : Env) → env.role ≡ AsOperand → (stand : StandIn old (externals_in_turn env ds)) →
    PutsExternals stand.externs stand.unit (externals_in_turn env ds) old new
