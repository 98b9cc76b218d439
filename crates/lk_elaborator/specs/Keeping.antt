-- Numbers that are given to nodes stay.
use Rattle.std.specs.Prelude.{ℕ, ◌≡◌, Some, None, false, List, nat_eq}
use Rattle.std.specs.Map.{lookup}

-- each node that has a number keeps it
abbrev pub KeepsNumbers : List (ℕ × ℕ) → List (ℕ × ℕ) → Type 0
KeepsNumbers old new = (n e : ℕ) → lookup (nat_eq n) old ≡ Some e → lookup (nat_eq n) new ≡ Some e

-- a number is given to a node that has none yet
pub record PutsNumber (old new : List (ℕ × ℕ)) (n e : ℕ) : Type 0 where
  pub fresh : lookup (nat_eq n) old ≡ None
  pub put : lookup (nat_eq n) new ≡ Some e
  pub others : (m : ℕ) → nat_eq n m ≡ false → lookup (nat_eq m) new ≡ lookup (nat_eq m) old
