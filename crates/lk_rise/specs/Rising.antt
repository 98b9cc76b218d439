-- The accesses that rise from functions to those that run or start them, with the locks that are held at
-- each (LOCKSMITH: correlation).
use Rattle.std.specs.Prelude.{◌≡◌, ◌↔◌, ℕ, Bool, true, List, Contains, length}
use Rattle.lk_facts.specs.Basis.{Basis}
use Rattle.lk_facts.specs.Facts.{FactTable}
use Rattle.lk_facts.specs.Flow.{Flow, Over}
use Rattle.lk_facts.specs.Items.{ItemTest, LockTest, HeldTable, Rises, HasLock}
use Rattle.lk_facts.specs.declared.source.Source.TheVariants.{ItemBelow}
use Rattle.lk_facts.specs.declared.way.Way.{Way}
use Rattle.lk_rise.specs.Correlations.{item_of, has_of, locks_of}
use Rattle.lk_rise.specs.declared.correlations.Correlation.{Correlation}
use Rattle.lk_rise.specs.declared.rising.Subjects.{Subjects}
use Rattle.lk_rise.specs.declared.rising.Subjects.TheVariants.{AsOutside, AsTheyAre}
use Rattle.lk_sets.specs.Ids.{has_id}

-- what the subject s of an item below is above: all that the label s is outside, or s
abbrev pub Carries : Flow → Subjects → Way → ℕ → ℕ → Type 0
Carries flow AsOutside way s x = Over flow way s x
Carries flow AsTheyAre way s x = x ≡ s

-- the number that the subjects are below: that of the labels, or that of the locations
abbrev pub subjects_below : FactTable → Subjects → ℕ
subjects_below facts AsOutside = length facts.labels.entries
subjects_below facts AsTheyAre = facts.program.locations

module _ (basis : Basis) (carries : Way → ℕ → ℕ → Type 0) (base : List (Correlation × List ℕ)) where
  -- f has the item: it is a based one, or has risen
  pub data Risen : (f : ℕ) (child : Bool) (subject access : ℕ) → Type 0 where
    based : {f s a : ℕ} {child : Bool} (set : List ℕ) →
        Contains base (item_of f child s a, set) → Risen f child s a
    risen : {p f g s x a : ℕ} {way : Way} {child above : Bool} → Rises basis p f way g child above →
        Risen g child s a → carries way s x → Risen f above x a

  -- a table of locks that the rules allow: the locks of a based item are in each of its sets, and those of a
  -- risen one are among those with which it rises
  pub record AreRisenLocks (held : HeldTable) (has : ItemTest) (locks : LockTest) : Type 0 where
    pub based : (f : ℕ) (child : Bool) (s a x : ℕ) (set : List ℕ) → Contains base (item_of f child s a, set) →
        locks f child s a x ≡ true → has_id set x ≡ true
    pub risen : (p f g s x a y : ℕ) (way : Way) (child above : Bool) → Rises basis p f way g child above →
        has g child s a ≡ true → carries way s x → locks f above x a y ≡ true →
        HasLock basis held locks p (ItemBelow way g child s) above a y

  -- the items, with the greatest table of locks that the rules allow
  pub record AreRisen (held : HeldTable) (entries : List (Correlation × List ℕ)) : Type 0 where
    pub exact : (f : ℕ) (child : Bool) (s a : ℕ) → (has_of entries f child s a ≡ true) ↔ Risen f child s a
    pub within : AreRisenLocks held (has_of entries) (locks_of entries)
    pub greatest : (other : LockTest) → AreRisenLocks held (has_of entries) other →
        (f : ℕ) (child : Bool) (s a x : ℕ) → has_of entries f child s a ≡ true → other f child s a x ≡ true →
        locks_of entries f child s a x ≡ true
