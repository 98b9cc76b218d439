-- What may flow where, and what a label inside a function is to whoever goes into it (LOCKSMITH: label flow,
-- with call and return matched).
use Rattle.std.specs.Prelude.{◌≡◌, ℕ, Bool, true, ◌⊎◌}
use Rattle.lk_facts.specs.declared.way.Way.{Way}
use Rattle.lk_facts.specs.declared.way.Way.TheVariants.{Through, AsValue}

pub record Flow : Type 0 where
  -- all b o: the origin o may flow to the label b
  pub all : ℕ → ℕ → Bool
  -- inner b o: it may do so from within the function of b, or through a global
  pub inner : ℕ → ℕ → Bool
  -- cross i b m: the label m outside the site i may flow through it to the label b inside
  pub cross : ℕ → ℕ → ℕ → Bool

-- q is the one number of which the fact holds
pub record IsOnly (P : ℕ → Type 0) (q : ℕ) : Type 0 where
  pub holds : P q
  pub only : (o : ℕ) → P o → o ≡ q

-- Over: what the label x inside may be outside. Through a value's own site any origin of
-- a crossing label may come in.
abbrev pub Over : Flow → Way → ℕ → ℕ → Type 0
Over flow (Through i) x m = (flow.inner x m ≡ true) ⊎ (flow.cross i x m ≡ true)
Over flow (AsValue i) x m =
    (flow.inner x m ≡ true) ⊎ ((n : ℕ) × (flow.cross i x n ≡ true) × (flow.all n m ≡ true))

-- up: the one label that x is outside, where there is just one
abbrev pub Up : Flow → Way → ℕ → ℕ → Type 0
Up flow way x m = IsOnly (Over flow way x) m

-- the label x can mean this origin alone
abbrev pub MeansOnly : Flow → ℕ → ℕ → Type 0
MeansOnly flow x q = IsOnly (λ o. flow.all x o ≡ true) q

-- what a lock set holds for the lock x: the one place that x can mean, so that two names of one
-- lock meet in it, else x itself
pub data IsHeldAs (flow : Flow) (x : ℕ) : ℕ → Type 0 where
  place : {q : ℕ} → MeansOnly flow x q → IsHeldAs flow x q
  itself : ((q : ℕ) → MeansOnly flow x q → ⊥) → IsHeldAs flow x x

-- up of a set has x, for the member y inside
abbrev pub RisesAs : Flow → Way → ℕ → ℕ → Type 0
RisesAs flow way y x = (m : ℕ) × Up flow way y m × IsHeldAs flow m x

-- the two labels may mean one and the same place
abbrev pub Clash : Flow → ℕ → ℕ → Type 0
Clash flow x y = (o : ℕ) × (flow.all x o ≡ true) × (flow.all y o ≡ true)
