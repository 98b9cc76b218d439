-- Lists of different things, and the numbers of these.
use Rattle.std.specs.Prelude.{◌≡◌, ◌++◌, ◌∷◌, [], ℕ, List, Option, Some, length, slice_get, MatchOption}

-- no two of them are equal
abbrev pub AreDifferent : {X : Type 0} → List X → Type 0
AreDifferent {X} xs = (i j : ℕ) (x : X) → slice_get xs i ≡ Some x → slice_get xs j ≡ Some x → i ≡ j

-- x isn't among them
abbrev pub IsMissing : {X : Type 0} → List X → X → Type 0
IsMissing xs x = (i : ℕ) → slice_get xs i ≡ Some x → ⊥

-- the number is that of x, and there is none where x isn't among them
abbrev pub IsNumberOf : {X : Type 0} → List X → X → Option ℕ → Type 0
IsNumberOf xs x found = MatchOption found (IsMissing xs x) (λ i. slice_get xs i ≡ Some x)

-- x has the number: it had it before, or it is put at the end
pub data IsPut {X : Type 0} (old new : List X) (x : X) : ℕ → Type 0 where
  there : {i : ℕ} → slice_get old i ≡ Some x → new ≡ old → IsPut old new x i
  added : IsMissing old x → new ≡ old ++ x ∷ [] → IsPut old new x (length old)
