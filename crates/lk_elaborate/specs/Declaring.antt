-- What is made of the declarators of a declaration in a block (C99 6.7), in tables to which the state leads.
use Rattle.std.specs.Prelude.{ℕ, ◌≡◌, ◌++◌, Some, List, [], ◌∷◌, nat_eq}
use Rattle.std.specs.Map.{lookup}
use Rattle.lk_tree.specs.declared.declaration.Declare.{Declare}
use Rattle.lk_tree.specs.declared.declaration.Init.{Init}
use Rattle.lk_tree.specs.declared.declaration.InitDeclarator.{InitDeclarator}
use Rattle.lk_typed.specs.DeclarationRules.{InBlock}
use Rattle.lk_typed.specs.Declarations.{declarator_adds}
use Rattle.lk_typed.specs.Entities.{IsDeclaratorOf, specifiers_of}
use Rattle.lk_typed.specs.Env.{Env, extend}
use Rattle.lk_typed.specs.Expressions.{declarator_found}
use Rattle.lk_typed.specs.InitialiserRules.{Object}
use Rattle.lk_typed.specs.LocalInits.{AreLocalInits, IsLocalInit}
use Rattle.lk_typed.specs.Meaning.{meaning}
use Rattle.lk_typed.specs.Nodes.{ADeclaration, AnInitialiser, at}
use Rattle.lk_typed.specs.Tables.{Tables}
use Rattle.lk_typed.specs.Told.{SpecifierTold}
use Rattle.lk_typed.specs.declared.statement.LocalInit.{LocalInit}
use Rattle.lk_found.specs.Named.{name_in}
use Rattle.lk_found.specs.declared.declarators.DeclaredName.{DeclaredName}
use Rattle.lk_found.specs.declared.records.DeclaredHere.{DeclaredHere}
use Rattle.lk_elaborator.specs.Leading.{Leads}
use Rattle.lk_elaborator.specs.declared.elaborator.Elaborator.{Elaborator}
use Rattle.lk_elaborate.specs.Making.{MakesOf, StandIn}

-- the initialiser of the object that the node with the number n declares, of the type with the number t
abbrev pub MakesLocalInit : Elaborator → Elaborator → (n t : ℕ) → Init → LocalInit → Type 0
MakesLocalInit old new n t init is =
    (env : Env) (object : Object) → object.type ≡ meaning old.types t →
    MakesOf old new (at env (AnInitialiser (Some object) init) ∷ [])
    (λ tables. IsLocalInit tables env object.type init n is)

-- a declarator of a declaration in a block stands in the source
pub record StandsAt (walk : Elaborator) (node : Declare) (env here : Env) (d : InitDeclarator) : Type 0 where
  pub stands : StandIn walk (at env (ADeclaration InBlock node) ∷ [])
  pub among : IsDeclaratorOf InBlock env node here d

-- what is added to the initialisers by a declarator, before those of the others behind it
pub record AddsInits (new : Elaborator) (told : SpecifierTold) (here : Env) (d : InitDeclarator)
    (before after : List LocalInit) : Type 0 where
  pub added : List LocalInit
  pub is : after ≡ before ++ added
  pub on : (tables : Tables) → Leads new tables → (ds : List InitDeclarator) (others : List LocalInit) →
      AreLocalInits tables told (extend here (declarator_adds InBlock told here d)) ds others →
      AreLocalInits tables told here (d ∷ ds) (added ++ others)

abbrev pub MakesDeclarator : Elaborator → Elaborator → InitDeclarator → List LocalInit →
    List LocalInit → Type 0
MakesDeclarator old new d before after =
    (node : Declare) (env here : Env) → StandsAt old node env here d →
    AddsInits new (specifiers_of env node) here d before after

-- one of this name with this initialiser
abbrev pub MakesNamed : Elaborator → Elaborator → DeclaredName → Init → List LocalInit →
    List LocalInit → Type 0
MakesNamed old new named init before after =
    (d : InitDeclarator) → (declarator_found d.declarator).name ≡ Some (name_in named) → d.init ≡ Some init →
    MakesDeclarator old new d before after

-- whose declaration was recorded as this
abbrev pub MakesRecorded : Elaborator → Elaborator → DeclaredName → DeclaredHere → Init → List LocalInit →
    List LocalInit → Type 0
MakesRecorded old new named h init before after =
    lookup (nat_eq named.at.ordinal) old.records.declared ≡ Some h →
    MakesNamed old new named init before after

-- one initialiser is put, of the object that the node with the number n declares
abbrev pub MakesOneInit : Elaborator → Elaborator → (n t : ℕ) → Init → List LocalInit →
    List LocalInit → Type 0
MakesOneInit old new n t init before after =
    (made : LocalInit) × (after ≡ before ++ made ∷ []) × MakesLocalInit old new n t init made
