-- How the functions are found that may be entered more than once. Only the private
-- calls of this crate speak of it.
use Rattle.std.specs.Prelude.{◌≡◌, ◌<◌, ◌⊎◌, ◌↔◌, ◌||◌, ℕ, Bool, false, List, Some, Contains, length, slice_get}
use Rattle.std.specs.Option.{option_map_or}
use Rattle.lk_facts.specs.Many.{IsSiteOf}
use Rattle.lk_facts.specs.Program.{function_at, value_site_of}
use Rattle.lk_facts.specs.Reach.{IsOnCycle}
use Rattle.lk_facts.specs.declared.program.Program.{Program}
use Rattle.lk_sets.specs.Ids.{has_id}
use Rattle.lk_graph.specs.declared.again.Entering.{Entering}

module _ (program : Program) where
  -- the function is used as a value
  abbrev pub IsValue : ℕ → Type 0
  IsValue f = (i : ℕ) × (value_site_of program f ≡ Some i)

  -- f is this function, which is used as a value
  abbrev pub IsValueAt : ℕ → ℕ → Type 0
  IsValueAt function f = (function ≡ f) × IsValue function

  -- one of the first n points is a site of the function
  abbrev pub HasSite : ℕ → ℕ → Type 0
  HasSite n f = (q : ℕ) × (q < n) × IsSiteOf program f q

  -- one of the first n points is a site of the function to which control may come back, or two are its sites
  pub data HasSites (n f : ℕ) : Type 0 where
    again : (q : ℕ) → q < n → IsSiteOf program f q → IsOnCycle program q → HasSites n f
    two : (q r : ℕ) → q < n → r < n → IsSiteOf program f q → IsSiteOf program f r → (q ≡ r → ⊥) → HasSites n f

  -- what is known of the first n points: the functions that have a site there, and those that may be entered
  -- more than once for what these sites are, or that were known before
  pub record AreSitesBelow (n : ℕ) (first entered found : List ℕ) : Type 0 where
    pub once : (f : ℕ) → Contains entered f ↔ HasSite n f
    pub again : (f : ℕ) → Contains found f ↔ (Contains first f ⊎ HasSites n f)

  -- the point goes from the one function into the other
  abbrev pub IsEnteringAt : ℕ → Entering → Type 0
  IsEnteringAt q e = (function_at program q ≡ Some e.above) × IsSiteOf program e.below q

  -- those of the first n points
  abbrev pub AreEnterings : ℕ → List Entering → Type 0
  AreEnterings n found = (e : Entering) → Contains found e ↔ ((q : ℕ) × (q < n) × IsEnteringAt q e)

  -- the function may be entered more than once: for its own sites, or for those of a
  -- function that has a site of it
  pub data IsEnteredAgain : ℕ → Type 0 where
    value : {f : ℕ} → IsValue f → IsEnteredAgain f
    sites : {f : ℕ} → HasSites (length program.points) f → IsEnteredAgain f
    above : {f : ℕ} (g q : ℕ) → IsSiteOf program f q → function_at program q ≡ Some g →
        IsEnteredAgain g → IsEnteredAgain f

-- whether the point is on a cycle, or of a function that was found
abbrev pub is_many_at : Program → (cycles entered : List ℕ) → ℕ → Bool
is_many_at program cycles entered p =
    has_id cycles p || option_map_or (has_id entered) (function_at program p) false

-- a function that was there, or that one enters which was found
pub data IsReachedFrom (first : List ℕ) (enterings : List Entering) : ℕ → Type 0 where
  there : {f : ℕ} → Contains first f → IsReachedFrom first enterings f
  entered : (e : Entering) → Contains enterings e → IsReachedFrom first enterings e.above →
      IsReachedFrom first enterings e.below

-- e goes from f into g
abbrev pub GoesInto : ℕ → Entering → ℕ → Type 0
GoesInto f e g = (e.below ≡ g) × (e.above ≡ f)

-- the functions that the first k found ones enter are found too
abbrev pub AreEntered : List Entering → List ℕ → ℕ → Type 0
AreEntered enterings found k = (i : ℕ) (e : Entering) → i < k → slice_get found i ≡ Some e.above →
    Contains enterings e → Contains found e.below
