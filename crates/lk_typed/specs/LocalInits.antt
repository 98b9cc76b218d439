-- What the declaration of a local gives it (C99 6.7.8): the parts that its initialiser names, and
-- the cells that it doesn't name.
use Rattle.std.specs.Prelude.{ℕ, ◌≡◌, ◌⊎◌, true, false, Some, None, List, [], ◌∷◌}
use Rattle.lk_base.specs.declared.spot.Spot.{Spot}
use Rattle.lk_tree.specs.declared.declaration.Declare.{Declare}
use Rattle.lk_tree.specs.declared.declaration.Init.{Init}
use Rattle.lk_tree.specs.declared.declaration.InitDeclarator.{InitDeclarator}
use Rattle.lk_typed.specs.Absent.{AreAllAbsent}
use Rattle.lk_typed.specs.DeclarationRules.{InBlock, is_static_object}
use Rattle.lk_typed.specs.Declarations.{declarator_adds}
use Rattle.lk_typed.specs.Elaborated.{InPlace, IsConverted}
use Rattle.lk_typed.specs.Entities.{specifiers_of}
use Rattle.lk_typed.specs.Env.{Env, extend}
use Rattle.lk_typed.specs.Expressions.{declarator_found}
use Rattle.lk_typed.specs.InitialiserRules.{Object}
use Rattle.lk_typed.specs.Initialised.{Beginning, AValue, TheBytes, TheWord, PartGiven, AreGiven}
use Rattle.lk_typed.specs.MemberRules.{fields_in}
use Rattle.lk_typed.specs.NodeParts.{initialiser_part}
use Rattle.lk_typed.specs.Nodes.{AnInitialiser, at}
use Rattle.lk_typed.specs.Tables.{Tables, IsLocalAt}
use Rattle.lk_typed.specs.Told.{Named, SpecifierTold}
use Rattle.lk_typed.specs.Ty.{Ty, Means}
use Rattle.lk_typed.specs.declared.expression.TypedExpr.{TypedExpr}
use Rattle.lk_typed.specs.declared.initialiser.LocalPart.{LocalPart}
use Rattle.lk_typed.specs.declared.initialiser.LocalValue.{LocalValue}
use Rattle.lk_typed.specs.declared.initialiser.LocalValue.TheVariants as value
use Rattle.lk_typed.specs.declared.statement.LocalInit.{LocalInit}
use Rattle.lk_typed.specs.declared.unit.Local.{Local}

module _ (tables : Tables) where
  -- ---- parts

  pub data IsLocalValue (t : Ty) : Beginning → LocalValue → Type 0 where
    expression : {p : InPlace} {e : TypedExpr} → IsConverted tables false p t e →
        IsLocalValue t (AValue p) (value.Expr e)
    bytes : {spot : Spot} {ordinal : ℕ} {bytes : List ℕ} →
        IsLocalValue t (TheBytes spot ordinal bytes) (value.Text spot ordinal bytes)
    word : IsLocalValue t TheWord value.Ready

  pub record IsLocalPart (given : PartGiven) (is : LocalPart) : Type 0 where
    pub path : is.path ≡ given.path
    pub type : Means tables.types is.ty given.type
    pub begins : IsLocalValue given.type given.begins is.value

  pub data AreLocalParts : List PartGiven → List LocalPart → Type 0 where
    no_more : AreLocalParts [] []
    next : {given : PartGiven} {others : List PartGiven} {is : LocalPart} {rest : List LocalPart} →
        IsLocalPart given is → AreLocalParts others rest → AreLocalParts (given ∷ others) (is ∷ rest)

  -- ---- objects

  -- the initialiser of an object of this type, which stands in this environment
  pub record IsLocalInit (env : Env) (t : Ty) (given : Init) (ordinal : ℕ) (is : LocalInit) : Type 0 where
    pub local : Local
    pub is_there : IsLocalAt tables ordinal is.local local
    pub parts : List PartGiven
    pub gives : AreGiven env t [] given parts
    pub named : AreLocalParts parts is.named
    pub absent : AreAllAbsent (fields_in env) t is.named is.absent

  -- ---- the declarators of a declaration in a block, in their order: those of locals with an initialiser

  pub data AreLocalInits (told : SpecifierTold) : Env → List InitDeclarator → List LocalInit → Type 0 where
    no_more : {env : Env} → AreLocalInits told env [] []
    given : {env env' : Env} {d : InitDeclarator} {ds : List InitDeclarator} {named : Named} {object : Object}
        {by : Init} {is : LocalInit} {others : List LocalInit} →
        is_static_object InBlock told.storages ≡ false → (declarator_found d.declarator).name ≡ Some named →
        initialiser_part InBlock told env d ≡ at env' (AnInitialiser (Some object) by) ∷ [] →
        IsLocalInit env' object.type by named.ordinal is →
        AreLocalInits told (extend env (declarator_adds InBlock told env d)) ds others →
        AreLocalInits told env (d ∷ ds) (is ∷ others)
    not_given : {env : Env} {d : InitDeclarator} {ds : List InitDeclarator} {others : List LocalInit} →
        (d.init ≡ None) ⊎ (is_static_object InBlock told.storages ≡ true) →
        AreLocalInits told (extend env (declarator_adds InBlock told env d)) ds others →
        AreLocalInits told env (d ∷ ds) others

  abbrev pub IsBlockDeclaration : Env → Declare → List LocalInit → Type 0
  IsBlockDeclaration env node inits =
      AreLocalInits (specifiers_of env node) (extend env (specifiers_of env node).additions)
      node.declarators inits
