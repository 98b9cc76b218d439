-- Specifiers that name a type or begin to define a struct, in the code and in the words of the rules.
use Rattle.std.specs.Prelude.{ℕ, ◌≡◌, ◌++◌, Option, List}
use Rattle.std.specs.Option.{option_map}
use Rattle.lk_typed.specs.Env.{Env, extend, Name}
use Rattle.lk_typed.specs.Faults.{Breach}
use Rattle.lk_typed.specs.Meaning.{meaning}
use Rattle.lk_typed.specs.Told.{SpecifierTold, of_type_alone, then_specifier, struct_begins, struct_meant_by}
use Rattle.lk_found.specs.Specified.{IsGathered}
use Rattle.lk_found.specs.declared.gathered.Gathered.{Gathered}
use Rattle.lk_found.specs.Specifying.{IsTagUse}
use Rattle.lk_typed.specs.Redeclared as spec
use Rattle.lk_checker.specs.States.{IsIn}
use Rattle.lk_checker.specs.declared.checker.Checker.{Checker}
use Rattle.lk_checker.specs.declared.defining.BegunStruct.{BegunStruct}

-- a specifier that names this type alone, and what it adds
pub record IsNamedType (new : Checker) (env : Env) (t : Option ℕ) (told : SpecifierTold) : Type 0 where
  pub is : told ≡ of_type_alone told.additions (option_map (meaning new.types) t)
  pub behind : IsIn new (extend env told.additions)

-- one more specifier was gathered, with its codes
pub record IsSpecifierPut (old new : Checker) (env : Env) (before after : Gathered) (told : SpecifierTold)
    (broken : List Breach) : Type 0 where
  pub gathered : (others : SpecifierTold) (codes : List Breach) → IsGathered old.types before others codes →
      IsGathered new.types after (then_specifier others told) (codes ++ broken)
  pub behind : IsIn new (extend env told.additions)

-- `struct tag {`, with its code
pub record BeginsStruct (new : Checker) (env : Env) (tag : Option Name) (before after : Gathered)
    (begun : BegunStruct) : Type 0 where
  pub number : begun.number ≡ (struct_meant_by env tag).number
  pub admitted : IsTagUse env spec.DefinesStruct tag before after begun.is_admitted
  pub behind : IsIn new (extend env (struct_begins env tag))
