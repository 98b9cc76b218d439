-- The items that are in conflict, and what racing items begin with. Only the private
-- calls of this crate speak of it.
use Rattle.std.specs.Prelude.{◌≡◌, ◌<◌, ◌⊎◌, ◌↔◌, ℕ, true, List, Contains}
use Rattle.lk_facts.specs.Facts.{FactTable, basis_of}
use Rattle.lk_facts.specs.Items.{HasLock}
use Rattle.lk_facts.specs.Racing.{Setting}
use Rattle.lk_conflict.specs.Kinds.{are_in_conflict, kind_of}
use Rattle.lk_rise.specs.Correlations.{IsEntryInRange, item_of}
use Rattle.lk_rise.specs.PointItems.{IsItemOf}
use Rattle.lk_rise.specs.declared.correlations.Correlation.{Correlation}
use Rattle.lk_rise.specs.declared.point_items.ItemAt.{ItemAt}
use Rattle.lk_sets.specs.Ids.{has_id}

module _ (facts : FactTable) (setting : Setting) where
  -- the item of a point of f may be at the location
  pub record MayBeAt (f o : ℕ) (i : ItemAt) : Type 0 where
    pub item : IsItemOf (basis_of facts) setting.has f i
    pub may : (basis_of facts).flow.all i.subject o ≡ true

  -- the item is in conflict with one of f for the location
  pub record IsInConflict (f o : ℕ) (i : ItemAt) : Type 0 where
    pub location : o < facts.program.locations
    pub here : MayBeAt f o i
    pub other : ItemAt
    pub there : MayBeAt f o other
    pub conflict : are_in_conflict setting.after (kind_of facts.program i) (kind_of facts.program other)
        ≡ true

  -- what a racing item of f for the location begins with, from an item of a point: the item, with
  -- the locks of the point's item
  pub record IsBasis (f o : ℕ) (i : ItemAt) (basis : Correlation × List ℕ) : Type 0 where
    pub item : basis.0 ≡ item_of f i.child o i.access
    pub is_locked : (x : ℕ) →
        (has_id basis.1 x ≡ true)
        ↔ HasLock (basis_of facts) setting.held setting.locks i.point i.source i.child i.access x
    pub in_range : IsEntryInRange facts facts.program.locations basis

  -- the bases of all items with the property come to those that were there, and no others
  pub record Adds (Q : ℕ → ℕ → ItemAt → Type 0) (old new : List (Correlation × List ℕ)) : Type 0 where
    pub kept : (basis : Correlation × List ℕ) → Contains old basis → Contains new basis
    pub sound : (basis : Correlation × List ℕ) → Contains new basis →
        Contains old basis ⊎ ((f o : ℕ) × (i : ItemAt) × Q f o i × IsBasis f o i basis)
    pub complete : (f o : ℕ) (i : ItemAt) → Q f o i →
        (basis : Correlation × List ℕ) × Contains new basis × IsBasis f o i basis
