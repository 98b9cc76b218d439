-- Items with the locks that are held at each.
use Rattle.std.specs.Prelude.{◌≡◌, ℕ, ◌<◌, ◌==◌, ◌&&◌, Bool, false, List, Option, Some, length, is_some, slice_get, All}
use Rattle.std.proofs.Math.Bool.{beq}
use Rattle.std.specs.Map.{lookup}
use Rattle.std.specs.Option.{option_map_or}
use Rattle.lk_facts.specs.Facts.{FactTable}
use Rattle.lk_facts.specs.Items.{ItemTest, LockTest}
use Rattle.lk_facts.specs.Origins.{IsSetBelow}
use Rattle.lk_rise.specs.declared.correlations.Correlation.{Correlation}
use Rattle.lk_sets.specs.Ids.{has_id}

abbrev pub item_of : (f : ℕ) (child : Bool) (subject access : ℕ) → Correlation
item_of f child subject access = record { function = f; child = child; subject = subject; access = access }

abbrev pub is_same : Correlation → Correlation → Bool
is_same a b =
    a.function == b.function && (beq a.child b.child && (a.subject == b.subject && a.access == b.access))

-- the locks of an item, where it is there
abbrev pub set_of : List (Correlation × List ℕ) → Correlation → Option (List ℕ)
set_of entries item = lookup (is_same item) entries

-- whether the item is there
abbrev pub has_item : List (Correlation × List ℕ) → Correlation → Bool
has_item entries item = is_some (set_of entries item)

-- whether the lock is held at the item
abbrev pub has_lock : List (Correlation × List ℕ) → Correlation → ℕ → Bool
has_lock entries item x = option_map_or (λ set. has_id set x) (set_of entries item) false

abbrev pub has_of : List (Correlation × List ℕ) → ItemTest
has_of entries f child subject access = has_item entries (item_of f child subject access)

abbrev pub locks_of : List (Correlation × List ℕ) → LockTest
locks_of entries f child subject access x = has_lock entries (item_of f child subject access) x

-- no item is there twice: what a place has is what is read of its item
pub record AreCorrelations (entries : List (Correlation × List ℕ)) : Type 0 where
  pub each : (i : ℕ) (item : Correlation) (set : List ℕ) → slice_get entries i ≡ Some (item, set) →
      set_of entries item ≡ Some set

-- the numbers of an item are in range, where its subject is below this number, and
-- its locks are a set of labels
pub record IsEntryInRange (facts : FactTable) (subjects : ℕ) (entry : Correlation × List ℕ) : Type 0 where
  pub function : entry.0.function < length facts.program.functions
  pub subject : entry.0.subject < subjects
  pub access : entry.0.access < length facts.program.points
  pub locks : IsSetBelow (length facts.labels.entries) entry.1

abbrev pub AreInRange : FactTable → ℕ → List (Correlation × List ℕ) → Type 0
AreInRange facts subjects = All (IsEntryInRange facts subjects)
