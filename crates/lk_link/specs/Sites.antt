-- The declarations of names of external linkage in all sources, one by one and by their names.
use Rattle.std.specs.Prelude.{◌≡◌, ◌↔◌, ◌⊎◌, ◌<◌, ◌≤◌, ℕ, List, [], ◌∷◌, ◌++◌, Some, slice_get, unwrap_or, length, if◌then◌else◌, nat_eq}
use Rattle.std.specs.Cmp.Lexicographic.{pointwise}
use Rattle.std.specs.List.{Any, Contains}
use Rattle.std.specs.Map.{lookup}
use Rattle.lk_base.specs.declared.code.Code.{Code}
use Rattle.lk_base.specs.declared.code.Code.TheVariants.{DefinedTwice}
use Rattle.lk_link.specs.declared.clash.Clash.{Clash}
use Rattle.lk_link.specs.Sources.{Units, IsEntity, IsDefining}
use Rattle.lk_link.specs.declared.sites.EntityOf.{EntityOf}
use Rattle.lk_link.specs.declared.sites.Site.{Site}
use Rattle.lk_typed.specs.declared.entity.Declaration.{Declaration}
use Rattle.lk_typed.specs.declared.entity.Entity.{Entity}
use Rattle.lk_typed.specs.declared.entity.Linkage.TheVariants as linkage

-- a list has what it had, and these
abbrev pub Grows : {A : Type 0} (old new : List A) → (A → Type 0) → Type 0
Grows {A} old new Is = (x : A) → Contains new x ↔ (Contains old x ⊎ Is x)

-- it is one that belongs to a number below n
abbrev pub IsOfBelow : {A : Type 0} → (ℕ → A → Type 0) → ℕ → A → Type 0
IsOfBelow Is n x = (i : ℕ) × (i < n) × Is i x

-- it is one that belongs to something that stands in a list
abbrev pub IsOfAt : {A B : Type 0} → (A → B → Type 0) → List A → ℕ → B → Type 0
IsOfAt {A} Is xs i y = (x : A) × (slice_get xs i ≡ Some x) × Is x y

abbrev pub IsOfSome : {A B : Type 0} → (A → B → Type 0) → List A → B → Type 0
IsOfSome Is xs y = IsOfBelow (IsOfAt Is xs) (length xs) y

-- the entity with this number has external linkage
abbrev pub IsExternalAt : (source number : ℕ) → Entity → EntityOf → Type 0
IsExternalAt source number entity at =
    (at ≡ record { source = source; number = number }) × (entity.linkage ≡ linkage.External)

-- an entity of a source, of external linkage
abbrev pub IsExternalOf : (source : ℕ) → List Entity → EntityOf → Type 0
IsExternalOf source entities at =
    IsOfBelow (λ i at. (entity : Entity) × (slice_get entities i ≡ Some entity) × IsExternalAt source i entity at) (length entities) at

-- a declaration of an entity
abbrev pub site_of : EntityOf → Declaration → Site
site_of at declaration =
    record { entity = at; ordinal = declaration.ordinal; spot = declaration.spot; ty = declaration.ty; defines = declaration.defines }

abbrev pub IsSiteAt : EntityOf → Declaration → Site → Type 0
IsSiteAt at declaration site = site ≡ site_of at declaration

module _ (units : Units) where
  -- an entity of external linkage
  pub record IsExternal (at : EntityOf) (entity : Entity) : Type 0 where
    pub of : IsEntity units at.source at.number entity
    pub external : entity.linkage ≡ linkage.External

  -- these are all of them
  abbrev pub AreExternals : List EntityOf → Type 0
  AreExternals all = (at : EntityOf) → Contains all at ↔ ((entity : Entity) × IsExternal at entity)

  -- a declaration of an entity of external linkage with this name
  pub record IsSite (name : List ℕ) (site : Site) : Type 0 where
    pub entity : Entity
    pub of : IsExternal site.entity entity
    pub named : entity.name ≡ name
    pub declaration : Declaration
    pub place : ℕ
    pub at : slice_get entity.declarations place ≡ Some declaration
    pub is : IsSiteAt site.entity declaration site

  -- these are all of them
  abbrev pub AreSites : List Site → Type 0
  AreSites all = (site : Site) → Contains all site ↔ ((name : List ℕ) × IsSite name site)

-- the declarations that are kept of a name
abbrev pub group_at : List (List ℕ × List Site) → List ℕ → List Site
group_at entries name = unwrap_or (lookup (pointwise nat_eq name) entries) []

abbrev pub IsPushedAt : (old new : List (List ℕ × List Site)) → List ℕ → Site → Type 0
IsPushedAt old new name site =
    (other : List ℕ) → group_at new other
    ≡ (if pointwise nat_eq name other then group_at old other ++ site ∷ [] else group_at old other)

-- one declaration stands for another of the same name: in the same source, of the same type, and not later
pub record StandsFor (site other : Site) : Type 0 where
  pub source : site.entity.source ≡ other.entity.source
  pub type : site.ty ≡ other.ty
  pub defines : site.defines ≡ other.defines
  pub no_later : site.ordinal ≤ other.ordinal

-- each declaration that is kept of a name is one of these, and each of these has one that stands for it
pub record AreGroups (Is : List ℕ → Site → Type 0) (entries : List (List ℕ × List Site)) : Type 0 where
  pub among : (name : List ℕ) (site : Site) → Contains (group_at entries name) site → Is name site
  pub all : (name : List ℕ) (site : Site) → Is name site →
      Any (λ kept. StandsFor kept site) (group_at entries name)

-- a declaration was put to the groups: in that of its name one stands for it
pub record IsAdded (old new : List (List ℕ × List Site)) (name : List ℕ) (site : Site) : Type 0 where
  pub among : (other : List ℕ) (x : Site) → Contains (group_at new other) x →
      Contains (group_at old other) x ⊎ ((other ≡ name) × (x ≡ site))
  pub kept : (other : List ℕ) (x : Site) → Contains (group_at old other) x → Contains (group_at new other) x
  pub covered : Any (λ kept. StandsFor kept site) (group_at new name)

-- the entities and declarations of external linkage of all sources, and what is kept of each name
pub record NameIndex : Type 0 where
  pub externals : List EntityOf
  pub sites : List Site
  pub groups : List (List ℕ × List Site)

pub record AreNames (units : Units) (names : NameIndex) : Type 0 where
  pub externals : AreExternals units names.externals
  pub sites : AreSites units names.sites
  pub groups : AreGroups (IsSite units) names.groups

-- one declaration defines the name in an earlier source than the other, or in the same source before it
abbrev pub IsDefinedEarlier : Site → Site → Type 0
IsDefinedEarlier other site = (other.entity.source < site.entity.source) × IsDefining other.defines

abbrev pub IsDefinedBefore : Site → Site → Type 0
IsDefinedBefore other site =
    (other.entity.source ≡ site.entity.source) × (other.ordinal < site.ordinal) × IsDefining other.defines

-- the first declaration of its source that defines the name, which an earlier source defines too
pub record IsAgain (group : List Site) (site : Site) : Type 0 where
  pub defining : IsDefining site.defines
  pub earlier : Any (λ other. IsDefinedEarlier other site) group
  pub first : Any (λ other. IsDefinedBefore other site) group → ⊥

-- a clash at a declaration
abbrev pub clash_of : Site → Code → List ℕ → Clash
clash_of site code name =
    record { source = site.entity.source; ordinal = site.ordinal; spot = site.spot; code = code; name = name }

abbrev pub IsAgainAt : List ℕ → List Site → Site → Clash → Type 0
IsAgainAt name group site clash = IsAgain group site × (clash ≡ clash_of site DefinedTwice name)
