-- What declared names come to: the entities that they are, in the order of the declarations (C99 6.2.2, 2).
use Rattle.std.specs.Prelude.{ℕ, ◌≡◌, ◌↔◌, ◌⊎◌, ◌<◌, ◌≤◌, ◌++◌, ◌&&◌, Bool, true, false, Option, Some, None, List, [], ◌∷◌, if◌then◌else◌, length, nat_eq, nat_le, slice_get, slice_set}
use Rattle.std.specs.Cmp.Lexicographic.{pointwise}
use Rattle.std.specs.List.{Contains}
use Rattle.std.specs.Map.{lookup}
use Rattle.lk_typed.specs.Entities.{HaveComposite}
use Rattle.lk_typed.specs.Env.{Name}
use Rattle.lk_typed.specs.Redeclared.{is_linked_alike}
use Rattle.lk_typed.specs.Ty.{Ty, Means}
use Rattle.lk_typed.specs.declared.entity.Declaration.{Declaration}
use Rattle.lk_typed.specs.declared.entity.Entity.{Entity}
use Rattle.lk_typed.specs.declared.entity.Linkage.{Linkage}
use Rattle.lk_typed.specs.declared.entity.Linkage.TheVariants as linkage
use Rattle.lk_typed.specs.declared.entity.Use.{Use}
use Rattle.lk_types.specs.declared.c_type.CType.{CType}
use Rattle.lk_elaborator.specs.declared.entities.Entities.{Entities}
use Rattle.lk_elaborator.specs.declared.entities.NamedEntity.{NamedEntity}

-- ---- declared names

abbrev pub declaration_of : NamedEntity → Declaration
declaration_of n = record { spot = n.spot; ordinal = n.ordinal; ty = n.ty; defines = n.defines }

-- two are of one entity: they are one, or have one name, of external or of internal linkage (C99 6.2.2, 2)
abbrev pub AreOfOne : NamedEntity → NamedEntity → Type 0
AreOfOne n m = (n.ordinal ≡ m.ordinal) ⊎ ((is_linked_alike n.linkage m.linkage ≡ true) × (n.name ≡ m.name))

-- they stand in the order of their numbers
abbrev pub Rise : List NamedEntity → Type 0
Rise ns = (i j : ℕ) (n m : NamedEntity) → i < j → slice_get ns i ≡ Some n → slice_get ns j ≡ Some m →
    n.ordinal < m.ordinal

-- ---- the entities that they are

-- the entity that the node with this number declares
abbrev pub entity_at : Entities → ℕ → Option ℕ
entity_at entities n = lookup (nat_eq n) entities.by_ordinal.entries

-- that of a name of this linkage; a name without linkage is none that was declared before
abbrev pub entity_named : Entities → Linkage → Name → Option ℕ
entity_named entities linkage.External name = lookup (pointwise nat_eq name) entities.external.entries
entity_named entities linkage.Internal name = lookup (pointwise nat_eq name) entities.internal.entries
entity_named entities linkage.None name = None

-- what an entity has by its first declaration
pub record BeginsWith (n : NamedEntity) (entity : Entity) : Type 0 where
  pub name : entity.name ≡ n.name
  pub linkage : entity.linkage ≡ n.linkage
  pub kind : entity.kind ≡ n.kind
  pub ty : entity.ty ≡ n.ty
  pub body : entity.body ≡ n.body
  pub unused : entity.first_use ≡ None
  pub first : slice_get entity.declarations 0 ≡ Some (declaration_of n)

-- the declaration k of the entity e
pub record IsDeclaration (list : List Entity) (e k : ℕ) (is : Declaration) : Type 0 where
  pub entity : Entity
  pub at : slice_get list e ≡ Some entity
  pub has : slice_get entity.declarations k ≡ Some is

-- each name is a declaration of one entity, and nothing else is one; both stand in the order of the names
pub record IsGathered (ns : List NamedEntity) (entities : Entities) : Type 0 where
  pub alone : (n m : NamedEntity) → Contains ns n → Contains ns m → n.ordinal ≡ m.ordinal → n ≡ m
  pub all : (n : NamedEntity) → Contains ns n →
      (e k : ℕ) × (entity_at entities n.ordinal ≡ Some e)
      × IsDeclaration entities.list.items e k (declaration_of n)
  pub none_else : (e k : ℕ) (is : Declaration) → IsDeclaration entities.list.items e k is →
      (n : NamedEntity) × Contains ns n × (is ≡ declaration_of n) × (entity_at entities n.ordinal ≡ Some e)
  pub numbered : (o e : ℕ) → entity_at entities o ≡ Some e →
      (n : NamedEntity) × Contains ns n × (n.ordinal ≡ o)
  pub one : (n m : NamedEntity) → Contains ns n → Contains ns m →
      (entity_at entities n.ordinal ≡ entity_at entities m.ordinal) ↔ AreOfOne n m
  pub first : (e : ℕ) (entity : Entity) → slice_get entities.list.items e ≡ Some entity →
      (n : NamedEntity) × Contains ns n × BeginsWith n entity
  pub named : (n : NamedEntity) → Contains ns n → is_linked_alike n.linkage n.linkage ≡ true →
      entity_named entities n.linkage n.name ≡ entity_at entities n.ordinal
  pub none_named : (l : Linkage) (name : Name) (e : ℕ) → entity_named entities l name ≡ Some e →
      (n : NamedEntity) × Contains ns n × (n.linkage ≡ l) × (n.name ≡ name)
  pub entities_rise : Rise ns → (e f : ℕ) (a b : Declaration) → e < f →
      IsDeclaration entities.list.items e 0 a → IsDeclaration entities.list.items f 0 b →
      a.ordinal < b.ordinal
  pub declarations_rise : Rise ns → (e k j : ℕ) (a b : Declaration) → k < j →
      IsDeclaration entities.list.items e k a → IsDeclaration entities.list.items e j b →
      a.ordinal < b.ordinal

-- ---- one name more

abbrev pub Gathers : Entities → Entities → NamedEntity → Type 0
Gathers old new n = (ns : List NamedEntity) → IsGathered ns old → IsGathered (ns ++ n ∷ []) new

-- both are one name, of one linkage
abbrev pub is_name : Linkage → Name → Linkage → Name → Bool
is_name l name m other = is_linked_alike l m && pointwise nat_eq name other

-- the name has this entity now, and others are as they were
pub record PutsName (old new : Entities) (l : Linkage) (name : Name) (e : ℕ) : Type 0 where
  pub put : is_linked_alike l l ≡ true → entity_named new l name ≡ Some e
  pub others : (m : Linkage) (other : Name) → is_name l name m other ≡ false →
      entity_named new m other ≡ entity_named old m other

-- one entity more, with one declaration
pub record BeginsEntity (old new : List Entity) (n : NamedEntity) : Type 0 where
  pub entity : Entity
  pub list : new ≡ old ++ entity ∷ []
  pub begins : BeginsWith n entity
  pub alone : entity.declarations ≡ declaration_of n ∷ []

-- one declaration more, of the entity e
pub record DeclaresAgain (old new : List Entity) (e : ℕ) (is : Declaration) : Type 0 where
  pub entity : Entity
  pub at : slice_get old e ≡ Some entity
  pub list : new ≡ slice_set old e (record entity { declarations = entity.declarations ++ is ∷ [] })

-- ---- at the end of a source

-- a use that is recorded of a node that one of these declares
pub record IsRecorded (uses : List (ℕ × Use)) (declarations : List Declaration) (use_ : Use) : Type 0 where
  pub is : Declaration
  pub there : Contains declarations is
  pub recorded : lookup (nat_eq is.ordinal) uses ≡ Some use_

-- the first of two uses, of which there may be none
abbrev pub earlier : Option Use → Option Use → Option Use
earlier None other = other
earlier (Some use_) None = Some use_
earlier (Some use_) (Some other) = if nat_le use_.ordinal other.ordinal then Some use_ else Some other

-- the first of them, or none where there is none
pub data IsFirstOf (uses : List (ℕ × Use)) (declarations : List Declaration) : Option Use → Type 0 where
  unused : ((other : Use) → IsRecorded uses declarations other → ⊥) → IsFirstOf uses declarations None
  used : {use_ : Use} → IsRecorded uses declarations use_ →
      ((other : Use) → IsRecorded uses declarations other → use_.ordinal ≤ other.ordinal) →
      IsFirstOf uses declarations (Some use_)

-- a number of the composite of the types of declarations
pub record IsComposite (types : List CType) (declarations : List Declaration) (t : ℕ) : Type 0 where
  pub whole : Ty
  pub type : HaveComposite types None declarations whole
  pub is_type : Means types t whole

-- an entity has its first use and the composite of the types of its declarations, and all else is as it was
pub record IsFinished (types : List CType) (uses : List (ℕ × Use)) (was entity : Entity) : Type 0 where
  pub same : entity ≡ record was { ty = entity.ty; first_use = entity.first_use }
  pub use_ : IsFirstOf uses was.declarations entity.first_use
  pub type : IsComposite types was.declarations entity.ty

pub record AreFinished (types : List CType) (uses : List (ℕ × Use))
    (were entities : List Entity) : Type 0 where
  pub same : length entities ≡ length were
  pub each : (e : ℕ) (was entity : Entity) → slice_get were e ≡ Some was →
      slice_get entities e ≡ Some entity → IsFinished types uses was entity
