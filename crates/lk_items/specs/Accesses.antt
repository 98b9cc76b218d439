-- The accesses of points, as own items. Only the private calls of this crate speak of it.
use Rattle.std.specs.Prelude.{◌≡◌, ◌<◌, ℕ, false, List, Option, MatchOption, Contains, length, All}
use Rattle.lk_facts.specs.Doing.{Accesses}
use Rattle.lk_facts.specs.Facts.{FactTable, basis_of}
use Rattle.lk_facts.specs.LockSets.{LockSets, at_of}
use Rattle.lk_rise.specs.Correlations.{item_of, AreInRange}
use Rattle.lk_rise.specs.declared.correlations.Correlation.{Correlation}
use Rattle.lk_sets.specs.Ids.{has_id}

module _ (facts : FactTable) where
  -- p makes the access of the item, and no other
  pub record IsAccess (p : ℕ) (item : Correlation) : Type 0 where
    pub accesses : Accesses (basis_of facts) p item.function item.subject
    pub own : item.child ≡ false
    pub access : item.access ≡ p
    pub function : item.function < length facts.program.functions
    pub subject : item.subject < length facts.labels.entries
    pub only : (f x : ℕ) → Accesses (basis_of facts) p f x → (f ≡ item.function) × (x ≡ item.subject)

  -- p makes this access, or none
  abbrev pub IsAccessOf : ℕ → Option Correlation → Type 0
  IsAccessOf p found = MatchOption found ((f x : ℕ) → Accesses (basis_of facts) p f x → ⊥) (IsAccess p)

  -- an own item of a point, with the locks that are held there
  pub record IsOwn (held : LockSets) (entry : Correlation × List ℕ) : Type 0 where
    pub accesses : Accesses (basis_of facts) entry.0.access entry.0.function entry.0.subject
    pub own : entry.0.child ≡ false
    pub locks : (x : ℕ) → has_id entry.1 x ≡ has_id (at_of held entry.0.access) x

  -- those of the first n points
  pub record AreAccessesBelow (held : LockSets) (n : ℕ) (base : List (Correlation × List ℕ)) : Type 0 where
    pub each : All (IsOwn held) base
    pub all : (p f x : ℕ) → p < n → Accesses (basis_of facts) p f x →
        (set : List ℕ) × Contains base (item_of f false x p, set)
    pub in_range : AreInRange facts (length facts.labels.entries) base
