-- What was found at the nodes of a source is true of them (C99 6.5).
use Rattle.std.specs.Prelude.{ℕ, ◌≡◌, Some, List, map, slice_get, nat_eq}
use Rattle.std.specs.Map.{lookup}
use Rattle.std.specs.HashSet.{contains_by}
use Rattle.lk_types.specs.Table.{Table, IsKnown}
use Rattle.lk_tree.specs.declared.expression.Expr.{Expr}
use Rattle.lk_tree.specs.declared.expression.TypeName.{TypeName, out-TypeName}
use Rattle.lk_typed.specs.Elaborated.{InPlace, StandsFor, members_behind, type_named}
use Rattle.lk_typed.specs.Env.{Env, Declared, Field, Known, is_name, is_one_of}
use Rattle.lk_typed.specs.Expressions.{expression}
use Rattle.lk_typed.specs.Meaning.{meaning, IsReady}
use Rattle.lk_typed.specs.Names.{meaning_in, IsKnownMeaning}
use Rattle.lk_typed.specs.NodeParts.{parts}
use Rattle.lk_typed.specs.NodeRules.{breaches, hiding, mark_of}
use Rattle.lk_typed.specs.Nodes.{Node, AnExpression, ATypeName}
use Rattle.lk_typed.specs.Stands.{Stands}
use Rattle.lk_typed.specs.declared.members.Field.{Field as FieldFound}
use Rattle.lk_typed.specs.declared.members.Members.TheVariants as members
use Rattle.lk_found.specs.Findings.{IsFound}
use Rattle.lk_found.specs.declared.found.Found.{Found}
use Rattle.lk_found.specs.declared.records.Meant.{Meant}
use Rattle.lk_elaborator.specs.declared.elaborator.Elaborator.{Elaborator}

-- what was found of a name is what it stands for
pub record IsMeant (table : Table) (p : InPlace) (meant : Meant) : Type 0 where
  pub declared : Declared
  pub stands : StandsFor p declared
  pub ordinal : declared.ordinal ≡ meant.ordinal
  pub meaning : declared.meaning ≡ meaning_in table meant.meaning
  pub known : IsKnownMeaning table meant.meaning

-- at the end of the source the struct has members of the same names
abbrev pub HasFields : Elaborator → ℕ → List Field → Type 0
HasFields walk s fields =
    (found : List FieldFound) × (slice_get walk.names.structs s ≡ Some (members.Known found))
    × (map (λ field. field.name) found ≡ map (λ field. field.name) fields)

-- what was found of the expression is true of it where it stands
pub record IsTrueOf (walk : Elaborator) (p : InPlace) : Type 0 where
  pub ready : IsReady walk.types
  pub found : (f : Found) → lookup (nat_eq p.1.ordinal) walk.records.founds ≡ Some f →
      IsFound walk.types p.0 f (expression p.1 p.0)
  pub meant : (m : Meant) → lookup (nat_eq p.1.ordinal) walk.records.meant ≡ Some m → IsMeant walk.types p m
  -- a struct whose members are known behind it keeps them
  pub structs : (s : ℕ) (fields : List Field) → members_behind p s ≡ Known fields → HasFields walk s fields
  pub defined : (name : List ℕ) →
      is_one_of p.0.outside.defined name ≡ contains_by (is_name name) walk.outside.defined
  pub externs : (name : List ℕ) →
      is_one_of p.0.outside.externs name ≡ contains_by (is_name name) walk.outside.externs

-- the type that was found of the type name is the one that it names
abbrev pub IsTrueOfName : Elaborator → Env × TypeName → Type 0
IsTrueOfName walk n =
    (t : ℕ) → lookup (nat_eq (out-TypeName n.1).ordinal) walk.records.named ≡ Some t →
    IsKnown walk.types t × (type_named n ≡ Some (meaning walk.types t))

-- what was found of each expression and type name that stands in a node, in the environment in which it
-- stands there; `at_end` is the environment behind the source
pub record IsTold (at_end : Env) (walk : Elaborator) (env : Env) (node : Node) : Type 0 where
  pub ready : IsReady walk.types
  pub expressions : (env' : Env) (e : Expr) →
      Stands (parts at_end) (breaches at_end) (hiding at_end) mark_of env node env' (AnExpression e) →
      IsTrueOf walk (env', e)
  pub names : (env' : Env) (n : TypeName) →
      Stands (parts at_end) (breaches at_end) (hiding at_end) mark_of env node env' (ATypeName n) →
      IsTrueOfName walk (env', n)
