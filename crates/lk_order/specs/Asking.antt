-- What is asked and known of names that mean one mutex.
use Rattle.std.specs.Prelude.{◌≡◌, ◌<◌, ◌-◌, ◌^◌, ℕ, Bool, List, Contains, length, Some, MatchOption, Option}
use Rattle.lk_facts.specs.Basis.{Basis}
use Rattle.lk_facts.specs.Flow.{Up}
use Rattle.lk_facts.specs.Program.{value_site_of}
use Rattle.lk_facts.specs.declared.way.Way.{Way}
use Rattle.lk_facts.specs.declared.way.Way.TheVariants.{Through, AsValue}
use Rattle.lk_order.specs.Mutexes.{Enters}
use Rattle.lk_order.specs.Same.{Same, HasSite, MeanOneLock, MeanOneLockOver, NotBothOrigins}
use Rattle.lk_links.specs.declared.link.Link.{Link}
use Rattle.lk_order.specs.declared.same.Goal.{Goal}

-- some of the links is by a call or creation
abbrev pub OneIsThrough : List Link → Type 0
OneIsThrough links = (link : Link) × Contains links link × (i : ℕ) × (link.way ≡ Through i)

-- the numbers of a goal are below those of functions and labels
pub record IsGoalBelow (functions labels : ℕ) (goal : Goal) : Type 0 where
  pub function : goal.function < functions
  pub first : goal.first < labels
  pub second : goal.second < labels

abbrev pub goal_of : (function first second : ℕ) → Goal
goal_of function first second = record { function = function; first = first; second = second }

module _ (basis : Basis) (linear : ℕ → Bool) where
  -- the names are the same
  abbrev pub IsSo : Goal → Type 0
  IsSo goal = Same basis linear goal.function goal.first goal.second

  -- the two labels are one each outside
  pub record AreUp (way : Way) (x y m n : ℕ) : Type 0 where
    pub first : Up basis.flow way x m
    pub second : Up basis.flow way y n

  -- what is asked outside a way into the function of the goal, by a point of h
  pub record IsOutsideGoal (goal : Goal) (h : ℕ) (way : Way) (outer : Goal) : Type 0 where
    pub function : outer.function ≡ h
    pub up : AreUp way goal.first goal.second outer.first outer.second

  -- by what is known the names of the goal are the same
  pub data Follows (known : List Goal) (goal : Goal) : Type 0 where
    one_lock : MeanOneLock basis linear goal.first goal.second → Follows known goal
    outside : NotBothOrigins basis linear goal.first goal.second → HasSite basis linear goal.function →
        ((p h i : ℕ) → Enters basis p h (Through i) goal.function →
        (outer : Goal) × IsOutsideGoal goal h (Through i) outer × Contains known outer) →
        ((i : ℕ) → value_site_of basis.program goal.function ≡ Some i →
        MeanOneLockOver basis linear (AsValue i) goal.first goal.second) → Follows known goal

  -- what is asked outside a goal that was asked is asked too
  abbrev pub AreAsked : List Goal → Type 0
  AreAsked goals =
      (goal outer : Goal) (p h i : ℕ) → Contains goals goal → Enters basis p h (Through i) goal.function →
      IsOutsideGoal goal h (Through i) outer → Contains goals outer

  -- the two labels are one each outside, or are not
  abbrev pub AreFoundUp : Way → ℕ → ℕ → Option (ℕ × ℕ) → Type 0
  AreFoundUp way x y found =
      MatchOption found ((m n : ℕ) → AreUp way x y m n → ⊥) (λ both. AreUp way x y both.0 both.1)

  -- what is asked outside a link into the function of the goal, or nothing is
  abbrev pub IsAskedOutside : Goal → Link → Option Goal → Type 0
  IsAskedOutside goal link found =
      MatchOption found ((outer : Goal) → IsOutsideGoal goal link.above link.way outer → ⊥)
      (IsOutsideGoal goal link.above link.way)

  -- what is asked outside the link is known, where it is a call or creation
  abbrev pub Agrees : List Goal → Goal → Link → Type 0
  Agrees known goal link =
      (i : ℕ) → link.way ≡ Through i →
      (outer : Goal) × IsOutsideGoal goal link.above (Through i) outer × Contains known outer

  -- through the function's own site, where it has one, the two mean one linear lock place alone
  abbrev pub AgreeAsValue : Goal → Type 0
  AgreeAsValue goal =
      (i : ℕ) → value_site_of basis.program goal.function ≡ Some i →
      MeanOneLockOver basis linear (AsValue i) goal.first goal.second

  -- some link asks it outside the goal
  abbrev pub IsAskedByOne : List Link → Goal → Goal → Type 0
  IsAskedByOne links goal outer =
      (link : Link) × Contains links link × IsOutsideGoal goal link.above link.way outer

  -- what is known is so
  abbrev pub AreKnown : List Goal → Type 0
  AreKnown known = (goal : Goal) → Contains known goal → IsSo goal

  -- more is known, and it is so
  pub record Learns (old new : List Goal) : Type 0 where
    pub kept : (goal : Goal) → Contains old goal → Contains new goal
    pub sound : AreKnown old → AreKnown new

  -- the goal is known, where it follows
  abbrev pub IsSettled : Goal → List Goal → Type 0
  IsSettled goal known = Follows known goal → Contains known goal

  -- what follows of what was asked is known
  abbrev pub AllKnown : List Goal → List Goal → Type 0
  AllKnown goals known = (goal : Goal) → Contains goals goal → IsSettled goal known

-- how much may still be known
abbrev pub unknown : List Goal → ℕ
unknown known = 2 ^ 64 - length known
