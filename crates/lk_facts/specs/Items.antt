-- What each function accesses, itself and in what it runs and starts, and under which
-- locks (LOCKSMITH: correlation).
use Rattle.std.specs.Prelude.{◌≡◌, ℕ, Bool, true, false, ◌⊎◌}
use Rattle.lk_facts.specs.Basis.{Basis}
use Rattle.lk_facts.specs.Doing.{Accesses, Runs, Starts}
use Rattle.lk_facts.specs.Flow.{Over, RisesAs}
use Rattle.lk_facts.specs.Held.{PointTest}
use Rattle.lk_facts.specs.declared.source.Source.{Source}
use Rattle.lk_facts.specs.declared.source.Source.TheVariants.{OwnAccess, ItemBelow}
use Rattle.lk_facts.specs.declared.way.Way.{Way}

-- An item is a function, whether a thread that it started has the access (a child item) or its own
-- thread (an own item), the label of what is accessed, and the point of the access. A table of items,
-- and one of the locks of each.
abbrev pub ItemTest : Type 0
ItemTest = (f : ℕ) (child : Bool) (subject access : ℕ) → Bool

abbrev pub LockTest : Type 0
LockTest = (f : ℕ) (child : Bool) (subject access lock : ℕ) → Bool

-- the locks that are held at each point, and those that it keeps while it runs a function
pub record HeldTable : Type 0 where
  pub at : PointTest
  pub keep : PointTest

module _ (basis : Basis) where
  -- items of g rise at p to items of f: as they are where p runs g, and all as child items where it starts g
  pub data Rises (p f : ℕ) (way : Way) (g : ℕ) : (below above : Bool) → Type 0 where
    run : {child : Bool} → Runs basis p f way g → Rises p f way g child child
    start : {child : Bool} → Starts basis p f way g → Rises p f way g child true

  -- f has the item
  pub data HasItem : (f : ℕ) (child : Bool) (subject access : ℕ) → Type 0 where
    accessed : {p f x : ℕ} → Accesses basis p f x → HasItem f false x p
    risen : {p f g s x a : ℕ} {way : Way} {child above : Bool} → Rises p f way g child above →
        HasItem g child s a → Over basis.flow way s x → HasItem f above x a

  -- the live point p of f has the item, from this source
  pub data PointItem (has : ItemTest) (p f : ℕ) : Source → (child : Bool) (subject access : ℕ) → Type 0 where
    accessed : {x : ℕ} → Accesses basis p f x → PointItem has p f OwnAccess false x p
    risen : {g s x a : ℕ} {way : Way} {child above : Bool} → Rises p f way g child above →
        has g child s a ≡ true → Over basis.flow way s x →
        PointItem has p f (ItemBelow way g child s) above x a

  -- x is among the locks of an item of p: those held at p for its own access, else those of the item below
  -- that are locks outside too, and for an own item those that p keeps
  abbrev pub HasLock : HeldTable → LockTest → ℕ → Source → (child : Bool) (access x : ℕ) → Type 0
  HasLock held locks p OwnAccess child a x = held.at p x ≡ true
  HasLock held locks p (ItemBelow way g child s) above a x =
      ((y : ℕ) × (locks g child s a y ≡ true) × RisesAs basis.flow way y x)
      ⊎ ((above ≡ false) × (held.keep p x ≡ true))

  -- a table of locks that the rules allow: the locks of a function's item are among those of
  -- each equal item of its points
  abbrev pub AreItemLocks : HeldTable → ItemTest → LockTest → Type 0
  AreItemLocks held has locks =
      (p f : ℕ) (source : Source) (child : Bool) (s a x : ℕ) → PointItem has p f source child s a →
      locks f child s a x ≡ true → HasLock held locks p source child a x

  module _ (held : HeldTable) (has : ItemTest) (locks : LockTest) where
    -- Items that the rules close, with locks that they allow: a function has the items of its points.
    pub record AreClosedItems : Type 0 where
      pub closed : (p f : ℕ) (source : Source) (child : Bool) (s a : ℕ) → PointItem has p f source child s a →
          has f child s a ≡ true
      pub within : AreItemLocks held has locks

    -- There is no item that the rules don't ask for, and no lock is missing that they allow.
    pub record AreExactItems : Type 0 where
      pub least : (f : ℕ) (child : Bool) (s a : ℕ) → has f child s a ≡ true → HasItem f child s a
      pub greatest : (other : LockTest) → AreItemLocks held has other → (f : ℕ) (child : Bool) (s a x : ℕ) →
          has f child s a ≡ true → other f child s a x ≡ true → locks f child s a x ≡ true

    -- Items: the items of a program, with the greatest table of locks that the rules allow
    pub record AreItems : Type 0 where
      pub closed : AreClosedItems
      pub exact : AreExactItems
