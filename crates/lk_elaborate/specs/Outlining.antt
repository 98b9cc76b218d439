-- What is made of the definition of a function (C99 6.9.1), whatever comes behind it.
use Rattle.std.specs.Prelude.{◌≡◌, ◌++◌, Some, List, [], ◌∷◌, length}
use Rattle.lk_tree.specs.declared.statement.Decl.TheVariants as decl
use Rattle.lk_tree.specs.declared.statement.Function.{Function as Definition}
use Rattle.lk_tree.specs.declared.statement.Unit.{Unit}
use Rattle.lk_types.specs.declared.c_type.CType.{CType}
use Rattle.lk_typed.specs.Env.{Env, AsOperand, Name}
use Rattle.lk_typed.specs.Nodes.{AnExternal, at}
use Rattle.lk_typed.specs.TypedUnits.{IsBody}
use Rattle.lk_typed.specs.declared.entity.Entity.{Entity}
use Rattle.lk_typed.specs.declared.initialiser.StaticObject.{StaticObject}
use Rattle.lk_typed.specs.declared.unit.Body.{Body}
use Rattle.lk_elaborator.specs.declared.elaborator.Elaborator.{Elaborator}
use Rattle.lk_elaborator.specs.declared.entities.NamedEntity.{NamedEntity}
use Rattle.lk_elaborate.specs.Making.{StandIn}
use Rattle.lk_elaborate.specs.Outside.{LeadsOutside}
use Rattle.lk_elaborate.specs.Putting.{PutsNames, PutsObjects}

-- outside bodies there is no local
pub record HasNoLocals (walk : Elaborator) : Type 0 where
  pub list : walk.locals.list.items ≡ []
  pub numbers : walk.locals.numbers.entries ≡ []

-- one body more, the names that the definition declares, its own among them, and the objects of its body
pub record PutsBody (externs : List Name) (unit : Unit) (env : Env) (old new : Elaborator)
    (node : Definition) : Type 0 where
  pub body : Body
  pub bodies : new.bodies.items ≡ old.bodies.items ++ body ∷ []
  pub ordinal : body.ordinal ≡ node.ordinal
  pub is_body : (types : List CType) (entities : List Entity) → LeadsOutside new types entities →
      IsBody externs unit types entities env node body
  pub names : List NamedEntity
  pub puts_names : PutsNames externs unit (at env (AnExternal (decl.Function node)) ∷ []) old new
      (Some (length old.bodies.items)) names
  pub objects : List StaticObject
  pub puts_objects : PutsObjects externs unit (at env (AnExternal (decl.Function node)) ∷ []) old new objects

abbrev pub MakesDefinition : Elaborator → Elaborator → Definition → Type 0
MakesDefinition old new node =
    (env : Env) → env.role ≡ AsOperand → HasNoLocals old →
    (stand : StandIn old (at env (AnExternal (decl.Function node)) ∷ [])) →
    PutsBody stand.externs stand.unit env old new node
