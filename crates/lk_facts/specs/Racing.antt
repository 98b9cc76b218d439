-- Which accesses race, and under which locks (LOCKSMITH: sharing, by meeting a thread's effect with what
-- its creator does afterwards).
use Rattle.std.specs.Prelude.{◌≡◌, ℕ, Bool, true, ◌⊎◌}
use Rattle.lk_facts.specs.Basis.{Basis}
use Rattle.lk_facts.specs.Held.{PointTest}
use Rattle.lk_facts.specs.Items.{ItemTest, LockTest, HeldTable, Rises, PointItem, HasLock}
use Rattle.lk_facts.specs.Program.{IsLocation, writes_at}
use Rattle.lk_facts.specs.declared.source.Source.{Source}
use Rattle.lk_facts.specs.declared.source.Source.TheVariants.{ItemBelow}
use Rattle.lk_facts.specs.declared.way.Way.{Way}

-- what the races of a program rest on: which points come after which, the items, the locks held
-- at points, and those of items
pub record Setting : Type 0 where
  pub after : PointTest
  pub has : ItemTest
  pub held : HeldTable
  pub locks : LockTest

module _ (basis : Basis) (setting : Setting) where
  -- f has a conflict for the location o: between a child item of p, which a thread has that is started at p
  -- or below, and an item of the later point q
  pub record Conflict (f o p : ℕ) (source : Source) (s a q : ℕ) (source' : Source) (child : Bool)
      (t b : ℕ) : Type 0 where
    pub location : IsLocation basis.program o
    pub first : PointItem basis setting.has p f source true s a
    pub second : PointItem basis setting.has q f source' child t b
    pub later : setting.after p q ≡ true
    pub first_may : basis.flow.all s o ≡ true
    pub second_may : basis.flow.all t o ≡ true
    pub write : (writes_at basis.program a ≡ true) ⊎ (writes_at basis.program b ≡ true)

  -- the item of p is one of the two of a conflict of f for o
  pub data Conflicts (f o : ℕ) : (p : ℕ) (source : Source) (child : Bool) (access : ℕ) → Type 0 where
    first : {p s a q t b : ℕ} {source source' : Source} {child : Bool} →
        Conflict f o p source s a q source' child t b → Conflicts f o p source true a
    second : {p s a q t b : ℕ} {source source' : Source} {child : Bool} →
        Conflict f o p source s a q source' child t b → Conflicts f o q source' child b

  -- f has the racing item
  pub data Races : (f : ℕ) (child : Bool) (location access : ℕ) → Type 0 where
    conflict : {p f o a : ℕ} {source : Source} {child : Bool} →
        Conflicts f o p source child a → Races f child o a
    risen : {p f g o a : ℕ} {way : Way} {child above : Bool} → Rises basis p f way g child above →
        Races g child o a → Races f above o a

  -- a table of locks that the rules allow: the locks of a racing item are among those of
  -- each item that it comes from
  pub record AreRaceLocks (races : ItemTest) (locks : LockTest) : Type 0 where
    pub conflict : (f o p : ℕ) (source : Source) (child : Bool) (a x : ℕ) → Conflicts f o p source child a →
        locks f child o a x ≡ true → HasLock basis setting.held setting.locks p source child a x
    pub risen : (p f g o a x : ℕ) (way : Way) (child above : Bool) → Rises basis p f way g child above →
        races g child o a ≡ true → locks f above o a x ≡ true →
        HasLock basis setting.held locks p (ItemBelow way g child o) above a x

  module _ (races : ItemTest) (locks : LockTest) where
    -- Racing items that the rules close, with locks that they allow.
    pub record AreClosedRaces : Type 0 where
      pub conflict : (f o p : ℕ) (source : Source) (child : Bool) (a : ℕ) → Conflicts f o p source child a →
          races f child o a ≡ true
      pub risen : (p f g o a : ℕ) (way : Way) (child above : Bool) → Rises basis p f way g child above →
          races g child o a ≡ true → races f above o a ≡ true
      pub within : AreRaceLocks races locks

    -- There is no racing item that the rules don't ask for, and no lock is missing that they allow.
    pub record AreExactRaces : Type 0 where
      pub least : (f : ℕ) (child : Bool) (o a : ℕ) → races f child o a ≡ true → Races f child o a
      pub greatest : (other : LockTest) → AreRaceLocks races other → (f : ℕ) (child : Bool) (o a x : ℕ) →
          races f child o a ≡ true → other f child o a x ≡ true → locks f child o a x ≡ true

    -- Racing: the racing items of a program, with the greatest table of locks that the rules allow
    pub record AreRaces : Type 0 where
      pub closed : AreClosedRaces
      pub exact : AreExactRaces
