-- What a specifier adds to those before it (C99 6.7.2).
use Rattle.std.specs.Prelude.{ℕ, ◌≡◌, ◌++◌, ◌||◌, Bool, Option, Some, List, [], ◌∷◌, slice_get}
use Rattle.lk_types.specs.Table.{Table}
use Rattle.lk_typed.specs.Env.{Env, Name}
use Rattle.lk_typed.specs.Faults.{Breach}
use Rattle.lk_typed.specs.HolderRules.{optional_tag_rules}
use Rattle.lk_typed.specs.Redeclared.{TagUse, may_use}
use Rattle.lk_typed.specs.Told.{SpecifierTold, tag_found}
use Rattle.lk_typed.specs.Ty.{Ty}
use Rattle.lk_typed.specs.declared.members.Members.{Members}
use Rattle.lk_typed.specs.declared.members.Members.TheVariants.{Begun}
use Rattle.lk_found.specs.Specified.{IsGathered}
use Rattle.lk_found.specs.declared.gathered.Gathered.{Gathered}

-- the code of a use of a tag is gathered, which is admitted or not
pub record IsTagUse (env : Env) (wanted : TagUse) (tag : Option Name) (before after : Gathered)
    (admitted : Bool) : Type 0 where
  pub may : admitted ≡ may_use env (tag_found env wanted tag) wanted
  pub gathered : (table : Table) (others : SpecifierTold) (codes : List Breach) →
      IsGathered table before others codes →
      IsGathered table after others (codes ++ optional_tag_rules env wanted tag)

-- one more type is gathered, and whether a sizeof stands in it
abbrev pub PutsType : Table → Table → Gathered → Gathered → Option Ty → Bool → Type 0
PutsType old new before after t holds =
    (others : SpecifierTold) (codes : List Breach) → IsGathered old before others codes →
    IsGathered new after (record others { types = others.types ++ t ∷ []; holds_sizeof = others.holds_sizeof || holds }) codes

-- all structs but this one are begun still
abbrev pub KeepsOthersBegun : ℕ → List Members → List Members → Type 0
KeepsOthersBegun s old new = (t : ℕ) → (t ≡ s → ⊥) → slice_get old t ≡ Some Begun →
    slice_get new t ≡ Some Begun
