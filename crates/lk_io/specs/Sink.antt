-- What a sink took.
use Rattle.std.specs.Prelude.{ℕ, ◌≡◌, ◌<◌, ⊤, List, ◌++◌, length, take, Option, None, Some}

-- The bytes went: a sink that tells after it what it took told before it, and took these bytes more.
-- A sink may stop telling
abbrev pub Takes : Option (List ℕ) → Option (List ℕ) → List ℕ → Type 0
Takes before None bytes = ⊤
Takes None (Some now) bytes = ⊥
Takes (Some before) (Some now) bytes = now ≡ before ++ bytes

-- some of the bytes went, from the first on, but not all
pub record TakesPart (before now : Option (List ℕ)) (bytes : List ℕ) : Type 0 where
  pub count : ℕ
  pub short : count < length bytes
  pub taken : Takes before now (take count bytes)

-- what a sink over a stream shows: the bytes that the stream holds, where it tells
-- them, and the count of faults
pub record StreamState : Type 0 where
  pub holds : Option (List ℕ)
  pub faults : ℕ
