-- Names that are those of the entities of a source, and the uses that are recorded of them.
use Rattle.std.specs.Prelude.{ℕ, ◌≡◌, ◌≤◌, Some, List, nat_eq}
use Rattle.std.specs.List.{Contains}
use Rattle.std.specs.Map.{lookup}
use Rattle.lk_tree.specs.declared.expression.Expr.{Expr}
use Rattle.lk_tree.specs.declared.statement.Unit.{Unit}
use Rattle.lk_types.specs.declared.c_type.CType.{CType}
use Rattle.lk_typed.specs.Entities.{NameDeclared, HasBody, IsDeclarationOf, IsEntityName, entity_kind}
use Rattle.lk_typed.specs.Env.{Env, Name, Declared, look_up}
use Rattle.lk_typed.specs.Expressions.{AWord, written}
use Rattle.lk_typed.specs.Nodes.{Node, AnExpression}
use Rattle.lk_typed.specs.Units.{IsNode}
use Rattle.lk_typed.specs.declared.entity.Use.{Use}
use Rattle.lk_typed.specs.declared.unit.Body.{Body}
use Rattle.lk_elaborator.specs.Gathering.{Rise, declaration_of}
use Rattle.lk_elaborator.specs.declared.entities.NamedEntity.{NamedEntity}

module _ (externs : List Name) (unit : Unit) where
  -- the name is that which a node declares
  pub record IsNameOf (types : List CType) (bodies : List Body) (env : Env) (node : Node) (n : NameDeclared)
      (named : NamedEntity) : Type 0 where
    pub name : named.name ≡ n.is.name
    pub linkage : named.linkage ≡ n.is.linkage
    pub kind : entity_kind n.is.meaning ≡ Some named.kind
    pub declaration : IsDeclarationOf types n (declaration_of named)
    pub body : HasBody externs unit bodies env node n named.body

  -- they are the names of entities that the source declares, in the order of their numbers
  pub record AreNamesOf (types : List CType) (bodies : List Body) (ns : List NamedEntity) : Type 0 where
    pub all : (env : Env) (node : Node) (n : NameDeclared) → IsEntityName externs unit env node n →
        (named : NamedEntity) × Contains ns named × IsNameOf types bodies env node n named
    pub none_else : (named : NamedEntity) → Contains ns named →
        (env : Env) × (node : Node) × (n : NameDeclared) × IsEntityName externs unit env node n
        × IsNameOf types bodies env node n named
    pub rise : Rise ns

  -- a name stands as an expression, for what the node with this number declares
  pub record IsUseAt (declaring : ℕ) (use_ : Use) : Type 0 where
    pub env : Env
    pub e : Expr
    pub stands : IsNode externs unit env (AnExpression e)
    pub name : Name
    pub is_name : written e ≡ AWord name
    pub declared : Declared
    pub found : look_up env name ≡ Some declared
    pub of : declared.ordinal ≡ declaring
    pub spot : use_.spot ≡ e.spot
    pub ordinal : use_.ordinal ≡ e.ordinal

  -- of each declaring node with a use the first one is recorded
  pub record AreFirstUses (uses : List (ℕ × Use)) : Type 0 where
    pub truth : (declaring : ℕ) (use_ : Use) → lookup (nat_eq declaring) uses ≡ Some use_ →
        IsUseAt declaring use_
    pub each : (declaring : ℕ) (other : Use) → IsUseAt declaring other →
        (use_ : Use) × (lookup (nat_eq declaring) uses ≡ Some use_) × (use_.ordinal ≤ other.ordinal)
