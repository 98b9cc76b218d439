-- The pairs of functions, as they are found.
use Rattle.std.specs.Prelude.{◌≡◌, ◌<◌, ℕ, Bool, true, List, Contains}
use Rattle.lk_facts.specs.Basis.{Basis}
use Rattle.lk_facts.specs.Flow.{Over}
use Rattle.lk_links.specs.declared.link.Link.{Link}
use Rattle.lk_order.specs.Acquired.{Acq, Want, Pair}
use Rattle.lk_order.specs.declared.pairing.Paired.{Paired}
use Rattle.lk_sets.specs.Ids.{has_id}

-- the numbers of a pair are below those of functions and labels
pub record IsPairBelow (functions labels : ℕ) (pair : Paired) : Type 0 where
  pub function : pair.function < functions
  pub held : pair.held < labels
  pub wanted : pair.wanted < labels

abbrev pub paired_of : (function held wanted : ℕ) → Paired
paired_of function held wanted = record { function = function; held = held; wanted = wanted }

-- it is the pair of the function with these two labels
abbrev pub IsPairWith : (function held wanted : ℕ) → Paired → Type 0
IsPairWith function held wanted pair = paired_of function held wanted ≡ pair

-- a pair of the function with these labels
pub record IsPairOf (function : ℕ) (held wanted : List ℕ) (pair : Paired) : Type 0 where
  pub of : pair.function ≡ function
  pub is_held : has_id held pair.held ≡ true
  pub is_wanted : has_id wanted pair.wanted ≡ true

module _ (basis : Basis) (linear : ℕ → Bool) where
  abbrev pub IsPair : Paired → Type 0
  IsPair pair = Pair basis linear pair.function pair.held pair.wanted

  -- the pair is one of the point p
  pub record IsPairAt (p : ℕ) (pair : Paired) : Type 0 where
    pub held : Acq basis linear p pair.held
    pub wanted : Want basis linear p pair.function pair.wanted

  -- the pair outside is what the other may be there
  pub record IsPairOutside (pair : Paired) (link : Link) (outer : Paired) : Type 0 where
    pub function : outer.function ≡ link.above
    pub held : Over basis.flow link.way pair.held outer.held
    pub wanted : Over basis.flow link.way pair.wanted outer.wanted

  -- it is so outside some link
  abbrev pub IsPairAbove : List Link → Paired → Paired → Type 0
  IsPairAbove links pair outer = (link : Link) × Contains links link × IsPairOutside pair link outer

  -- the list has just the pairs of functions
  pub record ArePairs (pairs : List Paired) : Type 0 where
    pub sound : (pair : Paired) → Contains pairs pair → IsPair pair
    pub all : (pair : Paired) → IsPair pair → Contains pairs pair
