-- Names that are used and that nothing defines: the first source that uses each, and what is said elsewhere.
use Rattle.std.specs.Prelude.{◌≡◌, ◌⊎◌, ◌<◌, ◌≤◌, ℕ, List, Option, Some, None, if◌then◌else◌, nat_eq}
use Rattle.std.specs.Cmp.Lexicographic.{pointwise}
use Rattle.std.specs.List.{Any, Contains}
use Rattle.std.specs.Map.{lookup}
use Rattle.lk_base.specs.declared.code.Code.TheVariants.{NotDefined}
use Rattle.lk_link.specs.Sources.{Units, IsDefining, IsUsed}
use Rattle.lk_link.specs.declared.clash.Clash.{Clash}
use Rattle.lk_link.specs.declared.sites.Site.{Site}
use Rattle.lk_typed.specs.Library.{library_function}
use Rattle.lk_typed.specs.declared.entity.Entity.{Entity}
use Rattle.lk_typed.specs.declared.entity.EntityKind.TheVariants.{Function}
use Rattle.lk_typed.specs.declared.entity.Use.{Use}

-- the number at a name
abbrev pub number_at : List (List ℕ × ℕ) → List ℕ → Option ℕ
number_at entries name = lookup (pointwise nat_eq name) entries

abbrev pub IsNumberPut : (old new : List (List ℕ × ℕ)) → List ℕ → ℕ → Type 0
IsNumberPut old new name number =
    (other : List ℕ) → number_at new other
    ≡ (if pointwise nat_eq name other then Some number else number_at old other)

-- a number came to a name, of which the least is kept
pub record IsNoted (old new : List (List ℕ × ℕ)) (name : List ℕ) (number : ℕ) : Type 0 where
  pub least : ℕ
  pub this : number_at new name ≡ Some least
  pub no_more : least ≤ number
  pub from : (least ≡ number) ⊎ (number_at old name ≡ Some least)
  pub no_more_than : (before : ℕ) → number_at old name ≡ Some before → least ≤ before
  pub others : (other : List ℕ) → (other ≡ name → ⊥) → number_at new other ≡ number_at old other

-- of each name the least number that it has
pub record AreLeast (Is : List ℕ → ℕ → Type 0) (entries : List (List ℕ × ℕ)) : Type 0 where
  pub found : (name : List ℕ) (n : ℕ) → number_at entries name ≡ Some n →
      Is name n × ((m : ℕ) → Is name m → n ≤ m)
  pub none : (name : List ℕ) → number_at entries name ≡ None → (m : ℕ) → Is name m → ⊥

-- the entity of a source uses its name
abbrev pub UsesIn : Entity → ℕ → List ℕ → ℕ → Type 0
UsesIn entity source name number =
    (name ≡ entity.name) × (number ≡ source) × ((use_ : Use) × (entity.first_use ≡ Some use_))

-- of each name the first source that uses it
abbrev pub AreUsers : Units → List (List ℕ × ℕ) → Type 0
AreUsers units entries = AreLeast (λ name source. (use_ : Use) × IsUsed units source name use_) entries

-- the names of a list, each with the number 0
abbrev pub AreListed : List (List ℕ) → List (List ℕ × ℕ) → Type 0
AreListed names entries = AreLeast (λ name number. Contains names name × (number ≡ 0)) entries

-- the library has the name, or the list does
abbrev pub IsListedElsewhere : (externs : List (List ℕ × ℕ)) → Entity → Type 0
IsListedElsewhere externs entity =
    (library_function entity.name ≡ None → ⊥)
    ⊎ ((entity.kind ≡ Function) × (number_at externs entity.name ≡ None → ⊥))

-- no source defines the name, no earlier one uses it, and nothing else has it
pub record IsAbsent (group : List Site) (users externs : List (List ℕ × ℕ)) (source : ℕ)
    (entity : Entity) : Type 0 where
  pub undefined : Any (λ site. IsDefining site.defines) group → ⊥
  pub first : (n : ℕ) → number_at users entity.name ≡ Some n → n < source → ⊥
  pub elsewhere : IsListedElsewhere externs entity → ⊥

abbrev pub use_clash : ℕ → Entity → Use → Clash
use_clash source entity use_ =
    record { source = source; ordinal = use_.ordinal; spot = use_.spot; code = NotDefined; name = entity.name }

abbrev pub IsAbsentAt : (group : List Site) (users externs : List (List ℕ × ℕ)) (source : ℕ) →
    Entity → Clash → Type 0
IsAbsentAt group users externs source entity clash =
    (use_ : Use) × (entity.first_use ≡ Some use_) × IsAbsent group users externs source entity
    × (clash ≡ use_clash source entity use_)
