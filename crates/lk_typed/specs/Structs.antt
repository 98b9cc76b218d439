-- The structs of a source by their numbers (C99 6.7.2.1, 6.7.2.3): their members behind the whole source,
-- their tags, and whether these are declared at file scope.
use Rattle.std.specs.Prelude.{ℕ, ◌≡◌, Bool, false, Option, Some, None, List, [], ◌∷◌, length, slice_get, nat_eq, if◌then◌else◌}
use Rattle.lk_tree.specs.declared.expression.Declarator.{Declarator}
use Rattle.lk_tree.specs.declared.expression.DeclaratorForm.{DeclaratorForm}
use Rattle.lk_tree.specs.declared.expression.DeclaratorForm.TheOpen.{Specifier-F}
use Rattle.lk_tree.specs.declared.expression.Expr.{Expr}
use Rattle.lk_tree.specs.declared.expression.ExprForm.{ExprForm}
use Rattle.lk_tree.specs.declared.expression.Item.{Item}
use Rattle.lk_tree.specs.declared.expression.Member.{Member}
use Rattle.lk_tree.specs.declared.expression.MemberDeclarator.{MemberDeclarator}
use Rattle.lk_tree.specs.declared.expression.Parameter.{Parameter, out-Parameter}
use Rattle.lk_tree.specs.declared.expression.Specifier.{Specifier, out-Specifier}
use Rattle.lk_tree.specs.declared.expression.TypeName.{TypeName, out-TypeName}
use Rattle.lk_tree.specs.declared.statement.Unit.{Unit}
use Rattle.lk_types.specs.declared.c_type.CType.{CType}
use Rattle.lk_types.specs.declared.member.StructMember.{StructMember}
use Rattle.lk_typed.specs.Declarations.{is_alone}
use Rattle.lk_typed.specs.Env.{Env, Name, Field, Members, NotYet, Known, Tag, extend}
use Rattle.lk_typed.specs.Expressions.{specifiers_found}
use Rattle.lk_typed.specs.Nodes.{Node, AnExternal, ADeclaration, ADefinition, AMember, AnItem, AParameter, ATypeName, ADeclarator, AnInitialiser, AStatement, AnExpression}
use Rattle.lk_typed.specs.Redeclared.{DefinesStruct, TagUse, may_use, tag_meant}
use Rattle.lk_typed.specs.Told.{struct_meant, struct_use, tag_found}
use Rattle.lk_typed.specs.Ty.{Means}
use Rattle.lk_typed.specs.Units.{IsNode}
use Rattle.lk_typed.specs.declared.unit.StructTag.{StructTag}

-- ---- members

pub data AreMembers (types : List CType) : List Field → List StructMember → Type 0 where
  no_more : AreMembers types [] []
  next : {field : Field} {others : List Field} {is : StructMember} {rest : List StructMember} →
      is.name ≡ field.name → Means types is.ty field.type → AreMembers types others rest →
      AreMembers types (field ∷ others) (is ∷ rest)

-- a struct that is never completed has no members
pub data AreStructs (types : List CType) : List Members → List (List StructMember) → Type 0 where
  no_more : AreStructs types [] []
  incomplete : {others : List Members} {rest : List (List StructMember)} → AreStructs types others rest →
      AreStructs types (NotYet ∷ others) ([] ∷ rest)
  complete : {fields : List Field} {others : List Members} {are : List StructMember}
      {rest : List (List StructMember)} → AreMembers types fields are → AreStructs types others rest →
      AreStructs types (Known fields ∷ others) (are ∷ rest)

-- ---- specifiers that speak of a struct for the first time

abbrev new_by : Option ℕ → Option Name → Option (Option Name)
new_by None tag = Some tag
new_by (Some s) tag = None

-- a definition that is 21 begins a struct that no tag names, and another such use none
abbrev begun_by : Env → TagUse → Option Tag → Option Name → Option (Option Name) → Option (Option Name)
begun_by env wanted found tag refused =
    if may_use env found wanted then new_by (struct_meant found) tag else refused

-- the tag of the struct that begins at a specifier, where one does; `alone` says that the
-- specifiers are all of a declaration
abbrev pub struct_begun : Env → Bool →
    Specifier-F DeclaratorForm ExprForm MemberDeclarator Specifier Declarator Expr Item Member Parameter
    TypeName → Option (Option Name)
struct_begun env alone (Specifier-F.Storage word) = None
struct_begun env alone Specifier-F.Inline = None
struct_begun env alone (Specifier-F.Qualifier word) = None
struct_begun env alone (Specifier-F.Type word) = None
struct_begun env alone (Specifier-F.Struct tag members) =
    begun_by env DefinesStruct (tag_found env DefinesStruct tag) tag (Some None)
struct_begun env alone (Specifier-F.StructTag tag) =
    begun_by env (struct_use alone) (tag_meant env (struct_use alone) tag) (Some tag) None
struct_begun env alone (Specifier-F.Enum tag items) = None
struct_begun env alone (Specifier-F.EnumTag tag) = None
struct_begun env alone (Specifier-F.Typedef name) = None

pub record Specifiers : Type 0 where
  pub list : List Specifier
  pub alone : Bool

abbrev in_type : List Specifier → Specifiers
in_type list = record { list = list; alone = false }

-- the specifiers of a node
abbrev pub specifiers_at : Node → Specifiers
specifiers_at (AnExternal d) = in_type []
specifiers_at (ADeclaration scope node) = record { list = node.specifiers; alone = is_alone node.declarators }
specifiers_at (ADefinition node) = in_type node.specifiers
specifiers_at (AMember before m) = in_type m.specifiers
specifiers_at (AnItem before i) = in_type []
specifiers_at (AParameter lone p) = in_type (out-Parameter p).specifiers
specifiers_at (ATypeName n) = in_type (out-TypeName n).specifiers
specifiers_at (ADeclarator left d) = in_type []
specifiers_at (AnInitialiser object init) = in_type []
specifiers_at (AStatement around s) = in_type []
specifiers_at (AnExpression e) = in_type []

-- a specifier stands among others, behind those before it
pub data StandsAmong (alone : Bool) : Env → List Specifier → Env → Specifier → Type 0 where
  first : {env : Env} {s : Specifier} {ss : List Specifier} → StandsAmong alone env (s ∷ ss) env s
  later : {env env' : Env} {s r : Specifier} {ss : List Specifier} →
      StandsAmong alone (extend env (specifiers_found (s ∷ []) env alone).additions) ss env' r →
      StandsAmong alone env (s ∷ ss) env' r

-- ---- tags

-- the struct with the number s begins at a specifier with this tag; at file scope no
-- scope is open yet (C99 6.2.1, 4)
pub record IsTagOf (externs : List Name) (unit : Unit) (s : ℕ) (tag : StructTag) : Type 0 where
  pub env : Env
  pub node : Node
  pub stands : IsNode externs unit env node
  pub env' : Env
  pub specifier : Specifier
  pub among : StandsAmong (specifiers_at node).alone env (specifiers_at node).list env' specifier
  pub begins : struct_begun env' (specifiers_at node).alone (out-Specifier specifier) ≡ Some tag.tag
  pub number : length env'.structs ≡ s
  pub outside : tag.is_outside ≡ nat_eq env'.base 0

pub record HaveTags (externs : List Name) (unit : Unit) (structs : List Members)
    (tags : List StructTag) : Type 0 where
  pub count : length tags ≡ length structs
  pub each : (s : ℕ) (tag : StructTag) → slice_get tags s ≡ Some tag → IsTagOf externs unit s tag
