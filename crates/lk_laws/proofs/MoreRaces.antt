-- Where more points come after one another and there are more items, there are more races; and what the rules ask for is in each table that
-- they close.
use Rattle.std.proofs.Common.{◌≡◌, ℕ, Bool, true, false}
use Rattle.lk_facts.specs.Basis.{Basis}
use Rattle.lk_facts.specs.Items.{ItemTest, LockTest, HeldTable, HasItem, PointItem, AreClosedItems}
use Rattle.lk_facts.specs.Racing.{Setting, Conflict, Conflicts, Races, AreClosedRaces}
use Rattle.lk_facts.specs.declared.source.Source.{Source}
use Rattle.lk_facts.specs.declared.source.Source.TheVariants.{OwnAccess, ItemBelow}
use Rattle.lk_laws.specs.Laws.{IsWithin}

abbrev pub HasWithin : ItemTest → ItemTest → Type 0
HasWithin has has' = (f : ℕ) (child : Bool) (s a : ℕ) → has f child s a ≡ true → has' f child s a ≡ true

module _ (basis : Basis) where
  pub more_items : {has has' : ItemTest} → HasWithin has has' → {p f s a : ℕ} {source : Source} {child : Bool} → PointItem basis has p f source child s a → PointItem basis has' p f source child s a
  more_items items (PointItem.accessed here) = PointItem.accessed here
  more_items items (PointItem.risen rises here over) = PointItem.risen rises (items _ _ _ _ here) over

  -- an item is in each table that the rules close
  pub item_in : (held : HeldTable) (has : ItemTest) (locks : LockTest) → AreClosedItems basis held has locks → {f s a : ℕ} {child : Bool} → HasItem basis f child s a → has f child s a ≡ true
  item_in held has locks table (HasItem.accessed {p} {f} {x} here) = table.closed p f OwnAccess false x p (PointItem.accessed here)
  item_in held has locks table (HasItem.risen {p} {f} {g} {s} {x} {a} {way} {child} {above} rises below over) =
      table.closed p f (ItemBelow way g child s) above x a (PointItem.risen rises (item_in held has locks table below) over)

  -- so is a racing item
  pub race_in : (setting : Setting) (races : ItemTest) (locks : LockTest) → AreClosedRaces basis setting races locks → {f o a : ℕ} {child : Bool} → Races basis setting f child o a → races f child o a ≡ true
  race_in setting races locks table (Races.conflict {p} {f} {o} {a} {source} {child} is) = table.conflict f o p source child a is
  race_in setting races locks table (Races.risen {p} {f} {g} {o} {a} {way} {child} {above} rises below) =
      table.risen p f g o a way child above rises (race_in setting races locks table below)

module _ (basis : Basis) (less more : Setting) (later : IsWithin less.after more.after) (items : HasWithin less.has more.has) where
  more_conflict : {f o p s a q t b : ℕ} {source source' : Source} {child : Bool} → Conflict basis less f o p source s a q source' child t b → Conflict basis more f o p source s a q source' child t b
  more_conflict both = record {
    location = both.location;
    first = more_items basis items both.first;
    second = more_items basis items both.second;
    later = later _ _ both.later;
    first_may = both.first_may;
    second_may = both.second_may;
    write = both.write;
  }

  pub more_conflicts : {f o p a : ℕ} {source : Source} {child : Bool} → Conflicts basis less f o p source child a → Conflicts basis more f o p source child a
  more_conflicts (Conflicts.first both) = Conflicts.first (more_conflict both)
  more_conflicts (Conflicts.second both) = Conflicts.second (more_conflict both)

  pub more_races : {f o a : ℕ} {child : Bool} → Races basis less f child o a → Races basis more f child o a
  more_races (Races.conflict is) = Races.conflict (more_conflicts is)
  more_races (Races.risen rises race) = Races.risen rises (more_races race)
