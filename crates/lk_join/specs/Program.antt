-- What is answered to sources that are put together: a program, or why they make none (C99 5.1.2.2.1, 6.9).
use Rattle.std.specs.Prelude.{◌≡◌, ℕ, List, [], Some, codes, slice_get}
use Rattle.lk_base.specs.declared.code.Code.TheVariants.{NoMain}
use Rattle.lk_base.specs.declared.fault.Fault.{Fault}
use Rattle.lk_base.specs.declared.fault.Fault.TheVariants as fault
use Rattle.lk_base.specs.declared.refusal.Refusal.{Refusal}
use Rattle.lk_link.specs.Clashes.{HasMain, IsClash, IsFirstClash}
use Rattle.lk_join.specs.Joining.{IsJoined}
use Rattle.lk_link.specs.Sources.{Units}
use Rattle.lk_link.specs.declared.clash.Clash.{Clash}
use Rattle.lk_typed.specs.declared.entity.EntityKind.TheVariants.{Function}
use Rattle.lk_typed.specs.declared.entity.Linkage.TheVariants.{External}
use Rattle.lk_typed.specs.declared.whole.Whole.{Whole}
use Rattle.lk_typed.specs.declared.whole.WholeEntity.{WholeEntity}

-- no source has a `main`: it is told at the beginning of the first source
abbrev pub no_main : Refusal
no_main = record { code = NoMain; spot = record { file = 0; line = 1; col = 1 }; name = [] }

-- a clash as it is told
abbrev pub refusal_of : Clash → Refusal
refusal_of clash = record { code = clash.code; spot = clash.spot; name = clash.name }

-- a function `main` of external linkage
pub record IsMainFunction (entity : WholeEntity) : Type 0 where
  pub is_function : entity.kind ≡ Function
  pub external : entity.linkage ≡ External
  pub named : entity.name ≡ codes "main"

-- the program's `main`
pub record HasMainAt (entities : List WholeEntity) (main : ℕ) : Type 0 where
  pub entity : WholeEntity
  pub at : slice_get entities main ≡ Some entity
  pub is : IsMainFunction entity

module _ (units : Units) (externs : List (List ℕ)) where
  -- why sources make no program: 60 where none has a `main`, else the first of 61 to 63
  pub data IsRefusal : Refusal → Type 0 where
    without_main : (HasMain units → ⊥) → IsRefusal no_main
    clashing : (clash : Clash) → HasMain units → IsFirstClash units externs clash →
        IsRefusal (refusal_of clash)

  abbrev pub IsFault : Fault → Type 0
  IsFault (fault.Refused refusal) = IsRefusal refusal
  IsFault fault.NoMemory = Unit {0}

  -- nothing speaks against the sources, and the program is made of them
  pub record IsLinked (whole : Whole) : Type 0 where
    pub has_main : HasMain units
    pub no_clash : (clash : Clash) → IsClash units externs clash → ⊥
    pub joined : IsJoined whole units
