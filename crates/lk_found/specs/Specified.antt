-- What the code gathers of specifiers, in the words of the rules (C99 6.7.2).
use Rattle.std.specs.Prelude.{ℕ, ◌≡◌, Option, Some, None, List, [], ◌∷◌, map, IfSome}
use Rattle.std.specs.Option.{option_map}
use Rattle.lk_base.specs.declared.code.Code.{Code}
use Rattle.lk_types.specs.Table.{Table, IsKnown}
use Rattle.lk_typed.specs.DeclarationRules.{Holder, type_in}
use Rattle.lk_typed.specs.Env.{Name}
use Rattle.lk_typed.specs.Faults as spec
use Rattle.lk_typed.specs.Meaning.{meaning}
use Rattle.lk_typed.specs.Told.{SpecifierTold, type_of}
use Rattle.lk_typed.specs.Ty.{Ty}
use Rattle.lk_found.specs.declared.gathered.Breach.{Breach}
use Rattle.lk_found.specs.declared.gathered.Gathered.{Gathered}
use Rattle.lk_found.specs.declared.gathered.Others.{Others}
use Rattle.lk_found.specs.declared.gathered.Others.TheVariants.{Nothing, One, Several}
use Rattle.lk_found.specs.declared.gathered.Specified.{Specified}

-- ---- codes

abbrev pub name_told : Option Name → Name
name_told None = []
name_told (Some name) = name

abbrev pub breach_in : Breach → spec.Breach
breach_in b = record { code = b.code; name = name_told b.name }

abbrev pub breaches_in : List Breach → List spec.Breach
breaches_in bs = map breach_in bs

abbrev pub optional_breach : Option Breach → List spec.Breach
optional_breach None = []
optional_breach (Some b) = breach_in b ∷ []

-- a code that tells no name
abbrev pub coded : Option Code → List spec.Breach
coded None = []
coded (Some code) = spec.breach code ∷ []

-- ---- types that are no words

-- there are two at least
pub record AreSeveral (types : List (Option Ty)) : Type 0 where
  pub first : Option Ty
  pub second : Option Ty
  pub more : List (Option Ty)
  pub are : types ≡ first ∷ second ∷ more

abbrev pub AreOthers : Table → Others → List (Option Ty) → Type 0
AreOthers table Nothing types = types ≡ []
AreOthers table (One t) types = (types ≡ option_map (meaning table) t ∷ []) × IfSome t (IsKnown table)
AreOthers table Several types = AreSeveral types

-- ---- specifiers so far

-- they tell this, whatever they add to the environment, and these codes hold
pub record IsGathered (table : Table) (gathered : Gathered) (told : SpecifierTold)
    (broken : List spec.Breach) : Type 0 where
  pub storages : gathered.storages.items ≡ told.storages
  pub words : gathered.words.items ≡ told.words
  pub types : AreOthers table gathered.others told.types
  pub holds_sizeof : gathered.holds_sizeof ≡ told.holds_sizeof
  pub breaches : breaches_in gathered.breaches.items ≡ broken

-- the type that they name together
abbrev pub IsNamed : Table → Option (Option ℕ) → Option (Option Ty) → Type 0
IsNamed table found named =
    (option_map (option_map (meaning table)) found ≡ named) × IfSome found (λ t. IfSome t (IsKnown table))

-- all of a list
pub record IsSpecified (table : Table) (holder : Holder) (specified : Specified) (told : SpecifierTold)
    (broken : List spec.Breach) : Type 0 where
  pub storages : specified.storages.items ≡ told.storages
  pub named : option_map (meaning table) specified.named ≡ type_of told
  pub type : option_map (meaning table) specified.ty ≡ type_in holder told
  pub known_named : IfSome specified.named (IsKnown table)
  pub known : IfSome specified.ty (IsKnown table)
  pub holds_sizeof : specified.holds_sizeof ≡ told.holds_sizeof
  pub breaches : breaches_in specified.breaches.items ≡ broken
