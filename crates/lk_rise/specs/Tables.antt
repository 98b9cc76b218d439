-- How a table of items grows and how its locks become fewer. Only the private
-- calls of this crate speak of it.
use Rattle.std.specs.Prelude.{◌≡◌, ℕ, ◌<◌, ◌≤◌, ◌+◌, ◌⊎◌, ◌&&◌, ◌||◌, Bool, true, false, if◌then◌else◌, List, Option, Some, Contains, length, slice_get, sum_by}
use Rattle.std.specs.List.Sorted.{IsStrictlyIncreasing}
use Rattle.std.specs.Map.{values_of}
use Rattle.std.specs.Option.{option_map, option_map_or}
use Rattle.indexmap.specs.IndexMap.{insert_entry}
use Rattle.lk_facts.specs.Analysis.{held_table}
use Rattle.lk_facts.specs.Facts.{FactTable, basis_of}
use Rattle.lk_facts.specs.Items.{LockTest, Rises, HasLock}
use Rattle.lk_facts.specs.LockSets.{LockSets, keep_of}
use Rattle.lk_facts.specs.Origins.{flow_of, IsSetBelow}
use Rattle.lk_facts.specs.declared.source.Source.TheVariants.{ItemBelow}
use Rattle.lk_facts.specs.declared.way.Way.{Way}
use Rattle.lk_rise.specs.Above.{HasRisenLock}
use Rattle.lk_rise.specs.Correlations.{item_of, is_same, set_of, has_item, has_lock, AreInRange, IsEntryInRange}
use Rattle.lk_rise.specs.Links.{links_into}
use Rattle.lk_rise.specs.Rising.{Carries, Risen, subjects_below}
use Rattle.lk_rise.specs.declared.correlations.Correlation.{Correlation}
use Rattle.lk_links.specs.declared.link.Link.{Link}
use Rattle.lk_rise.specs.declared.rising.Rising.{Rising}
use Rattle.lk_rise.specs.declared.rising.Subjects.{Subjects}
use Rattle.lk_sets.specs.Ids.{has_id}

-- the set is what is left of the locks of an item once they have met another set, all of which
-- is left where the item is new
pub record IsLeft (entries : List (Correlation × List ℕ)) (item : Correlation)
    (set left : List ℕ) : Type 0 where
  pub sorted : IsStrictlyIncreasing left
  pub members : (x : ℕ) → has_id left x
      ≡ (has_id set x && option_map_or (λ old. has_id old x) (set_of entries item) true)
  pub lighter : (old : List ℕ) → set_of entries item ≡ Some old → length left < length old

-- the item is there, with locks of the set alone
pub record IsWithin (entries : List (Correlation × List ℕ)) (item : Correlation) (set : List ℕ) : Type 0 where
  pub old : List ℕ
  pub there : set_of entries item ≡ Some old
  pub within : (x : ℕ) → has_id old x ≡ true → has_id set x ≡ true

-- what is left of the locks is put at the item, as its last entry where it is new
pub record Puts (old new : List (Correlation × List ℕ)) (item : Correlation) (set : List ℕ) : Type 0 where
  pub left : List ℕ
  pub is_left : IsLeft old item set left
  pub is : new ≡ insert_entry is_same old item left
  pub found : (other : Correlation) →
      set_of new other ≡ (if is_same item other then Some left else set_of old other)

-- the item is there with locks of the set alone, or what is left of its locks is put; whether it
-- was there and has fewer is told
abbrev pub Offered : (old new : List (Correlation × List ℕ)) → Correlation → List ℕ → (fewer : Bool) → Type 0
Offered old new item set fewer =
    (IsWithin old item set × (new ≡ old) × (fewer ≡ false))
    ⊎ (Puts old new item set × (fewer ≡ has_item old item))

-- the item has only locks of the set
abbrev pub HasWithin : Correlation → List ℕ → List (Correlation × List ℕ) → Type 0
HasWithin item set entries = (y : ℕ) → has_lock entries item y ≡ true → has_id set y ≡ true

-- how many locks all items have together
unfoldable pub weight : List (Correlation × List ℕ) → ℕ
weight entries = sum_by length (values_of entries)

-- what the items rise in
pub record Setting : Type 0 where
  pub facts : FactTable
  pub held : LockSets
  pub base : List (Correlation × List ℕ)
  pub subjects : Subjects

abbrev pub setting : Rising → Setting
setting rising = record {
  facts = rising.facts.now;
  held = rising.held.now;
  base = rising.base.now;
  subjects = rising.subjects;
}

-- the item of the entry at a place
abbrev pub item_at : List (Correlation × List ℕ) → ℕ → Option Correlation
item_at entries i = option_map (λ entry. entry.0) (slice_get entries i)

-- the item above, for an item below and a subject
abbrev pub above_of : Link → Correlation → ℕ → Correlation
above_of link item x = item_of link.above (item.child || link.starts) x item.access

abbrev pub lock_in : LockTest → Correlation → ℕ → Bool
lock_in locks item y = locks item.function item.child item.subject item.access y

module _ (s : Setting) where
  abbrev pub HasRisen : Correlation → Type 0
  HasRisen item =
      Risen (basis_of s.facts) (Carries (flow_of s.facts.origins) s.subjects) s.base item.function item.child
      item.subject item.access

  abbrev pub IsCarried : Link → Correlation → ℕ → Type 0
  IsCarried link item x = Carries (flow_of s.facts.origins) s.subjects link.way item.subject x

  -- the rules allow the table of locks for the items that have risen
  pub record IsAllowed (locks : LockTest) : Type 0 where
    pub based : (item : Correlation) (set : List ℕ) (y : ℕ) → Contains s.base (item, set) →
        lock_in locks item y ≡ true → has_id set y ≡ true
    pub risen : (p f g t x a y : ℕ) (way : Way) (child above : Bool) →
        Rises (basis_of s.facts) p f way g child above → HasRisen (item_of g child t a) →
        Carries (flow_of s.facts.origins) s.subjects way t x → locks f above x a y ≡ true →
        HasLock (basis_of s.facts) (held_table s.held) locks p (ItemBelow way g child t) above a y

  -- all items have risen, with all locks of each table that the rules allow
  pub record IsSound (entries : List (Correlation × List ℕ)) : Type 0 where
    pub in_range : AreInRange s.facts (subjects_below s.facts s.subjects) entries
    pub items : (item : Correlation) → has_item entries item ≡ true → HasRisen item
    pub locks : (other : LockTest) → IsAllowed other → (item : Correlation) (y : ℕ) →
        has_item entries item ≡ true → lock_in other item y ≡ true → has_lock entries item y ≡ true

  -- items keep their places, and have no more locks than before
  pub record Grows (old new : List (Correlation × List ℕ)) : Type 0 where
    pub places : (i : ℕ) (item : Correlation) → item_at old i ≡ Some item → item_at new i ≡ Some item
    pub kept : (item : Correlation) → has_item old item ≡ true → has_item new item ≡ true
    pub fewer : (item : Correlation) (y : ℕ) → has_item old item ≡ true → has_lock new item y ≡ true →
        has_lock old item y ≡ true
    pub sound : IsSound old → IsSound new

  -- Steps of the work on a table. Items whose locks become fewer are put to those that are to
  -- rise again. Where those that it offers were all there, no item is new, and there is less to
  -- do by as much as is put to those.
  pub record Steps (Present : List (Correlation × List ℕ) →
      Type 0) (old new : List (Correlation × List ℕ)) (was again : List Correlation) : Type 0 where
    pub grows : Grows old new
    pub kept : (item : Correlation) (set : List ℕ) → set_of old item ≡ Some set →
        (set_of new item ≡ Some set) ⊎ Contains again item
    pub more : (item : Correlation) → Contains was item → Contains again item
    pub there : ((item : Correlation) → Contains was item → has_item old item ≡ true) → (item : Correlation) →
        Contains again item → has_item new item ≡ true
    pub same : Present old → (item : Correlation) → has_item new item ≡ true → has_item old item ≡ true
    pub falls : Present old → weight new + length again ≤ weight old + length was
    pub present : Present new

  -- steps after which something is done
  pub record Works (Present Done : List (Correlation × List ℕ) →
      Type 0) (old new : List (Correlation × List ℕ)) (was again : List Correlation) : Type 0 where
    pub steps : Steps Present old new was again
    pub done : Done new

  -- an item that has risen, with locks among which are those of each table that the rules allow
  pub record Fits (item : Correlation) (set : List ℕ) : Type 0 where
    pub risen : HasRisen item
    pub locks : (other : LockTest) → IsAllowed other → (y : ℕ) → lock_in other item y ≡ true →
        has_id set y ≡ true
    pub in_range : IsEntryInRange s.facts (subjects_below s.facts s.subjects) (item, set)

  -- the locks with which an item below rises by the link
  abbrev pub HasLockAbove : Link → (child : Bool) → List ℕ → ℕ → Type 0
  HasLockAbove link child set y =
      HasRisenLock (flow_of s.facts.origins) (keep_of s.held link.point) link.way (child || link.starts) set y

  -- the set may be met with the locks of each item above
  pub record IsOffer (link : Link) (item : Correlation) (set : List ℕ) : Type 0 where
    pub risen : (x : ℕ) → IsCarried link item x → HasRisen (above_of link item x)
    pub locks : (other : LockTest) → IsAllowed other → (x y : ℕ) → IsCarried link item x →
        lock_in other (above_of link item x) y ≡ true → has_id set y ≡ true
    pub below : IsSetBelow (length s.facts.labels.entries) set
    pub function : link.above < length s.facts.program.functions
    pub subject : item.subject < subjects_below s.facts s.subjects
    pub access : item.access < length s.facts.program.points

  -- each item above is there
  abbrev pub AreAbove : Link → Correlation → List (Correlation × List ℕ) → Type 0
  AreAbove link item entries = (x : ℕ) → IsCarried link item x →
      has_item entries (above_of link item x) ≡ true

  -- each item above has only locks of the set
  abbrev pub AreAboveWithin : Link → Correlation → List ℕ → List (Correlation × List ℕ) → Type 0
  AreAboveWithin link item set entries = (x y : ℕ) → IsCarried link item x →
      has_lock entries (above_of link item x) y ≡ true → has_id set y ≡ true

  -- each item above has only the locks with which this one rises
  abbrev pub AreMet : Link → Correlation → List ℕ → List (Correlation × List ℕ) → Type 0
  AreMet link item locks entries =
      (x y : ℕ) → IsCarried link item x → has_lock entries (above_of link item x) y ≡ true →
      HasLockAbove link item.child locks y

  -- the item has risen by each link into its function, these given by the functions that they go into
  abbrev pub HasPassed : List (List Link) → Correlation → List (Correlation × List ℕ) → Type 0
  HasPassed into item entries = (link : Link) → Contains (links_into into item.function) link →
      AreAbove link item entries

  -- and the items above have only the locks with which it rises, where it has these
  abbrev pub HasMet : List (List Link) → Correlation → List ℕ → List (Correlation × List ℕ) → Type 0
  HasMet into item set entries = (link : Link) → Contains (links_into into item.function) link →
      AreMet link item set entries

  -- so it is with the locks that it has, or it is to rise again
  abbrev pub IsSettled : List (List Link) → (again : List Correlation) → Correlation →
      List (Correlation × List ℕ) → Type 0
  IsSettled into again item entries =
      ((set : List ℕ) → set_of entries item ≡ Some set → HasMet into item set entries) ⊎ Contains again item

  -- the based item at the place of the base is there, with locks of its set alone
  abbrev pub HasBased : ℕ → List (Correlation × List ℕ) → Type 0
  HasBased i entries =
      (item : Correlation) (set : List ℕ) → slice_get s.base i ≡ Some (item, set) →
      (has_item entries item ≡ true) × ((y : ℕ) → has_lock entries item y ≡ true → has_id set y ≡ true)
