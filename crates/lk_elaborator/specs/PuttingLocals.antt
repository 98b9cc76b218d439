-- Locals that are put, each behind those before it (C99 6.2.4, 4; 6.2.5, 21).
use Rattle.std.specs.Prelude.{ℕ, ◌≡◌, ◌↔◌, ◌<◌, ◌++◌, Bool, true, Some, None, List, [], ◌∷◌, length, nat_eq, slice_get}
use Rattle.std.specs.Map.{lookup}
use Rattle.lk_base.specs.declared.spot.Spot.{Spot}
use Rattle.lk_types.specs.Table.{IsKnown}
use Rattle.lk_typed.specs.Env.{Name}
use Rattle.lk_typed.specs.Meaning.{meaning}
use Rattle.lk_typed.specs.Operators.{is_scalar}
use Rattle.lk_typed.specs.declared.unit.Local.{Local}
use Rattle.lk_elaborator.specs.Keeping.{KeepsNumbers}
use Rattle.lk_elaborator.specs.declared.elaborator.Elaborator.{Elaborator}
use Rattle.lk_elaborator.specs.declared.locals.Locals.{Locals}

-- a number that a node has is that of the local which the node declares
abbrev pub AreNumbered : Locals → Type 0
AreNumbered locals = (n l : ℕ) → lookup (nat_eq n) locals.numbers.entries ≡ Some l →
    (local : Local) × (slice_get locals.list.items l ≡ Some local) × (local.ordinal ≡ n)

-- they stand in the order of the nodes that declare them
abbrev pub Rise : List Local → Type 0
Rise locals = (l m : ℕ) (a b : Local) → l < m → slice_get locals l ≡ Some a → slice_get locals m ≡ Some b →
    a.ordinal < b.ordinal

-- and before the node with this number
abbrev pub AreBefore : List Local → ℕ → Type 0
AreBefore locals n = (l : ℕ) (a : Local) → slice_get locals l ≡ Some a → a.ordinal < n

-- what the node with the number n declares with the type t is a slot: a scalar of which no
-- expression takes the address
abbrev pub IsSlotOf : Elaborator → (t n : ℕ) → Type 0
IsSlotOf walk t n = (is_scalar (meaning walk.types t) ≡ true) × (lookup (nat_eq n) walk.records.taken ≡ None)

pub record IsLocalSo (walk : Elaborator) (local : Local) : Type 0 where
  pub known : IsKnown walk.types local.ty
  pub slot : (local.is_slot ≡ true) ↔ IsSlotOf walk local.ty local.ordinal

-- one local more, which its node has
pub record PutsAmong (old new : Locals) (local : Local) : Type 0 where
  pub list : new.list.items ≡ old.list.items ++ local ∷ []
  pub number : lookup (nat_eq local.ordinal) new.numbers.entries ≡ Some (length old.list.items)
  pub kept : KeepsNumbers old.numbers.entries new.numbers.entries
  pub numbered : AreNumbered old → AreNumbered new
  pub rise : Rise old.list.items → Rise new.list.items

pub record PutsLocal (old new : Elaborator) (local : Local) : Type 0 where
  pub so : IsLocalSo old local
  pub same : new ≡ record old { locals = new.locals }
  pub puts : PutsAmong old.locals new.locals local

-- one of this name and type, which the node with this number declares
abbrev pub PutsLocalOf : Elaborator → Elaborator → Name → ℕ → Spot → ℕ → Type 0
PutsLocalOf old new name ty spot ordinal =
    (is_slot : Bool) × PutsLocal old new
    (record { name = name; ty = ty; spot = spot; ordinal = ordinal; is_slot = is_slot })
