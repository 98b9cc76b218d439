-- What the analysis says of a program, from its points to a verdict for each location.
use Rattle.std.specs.Prelude.{◌≡◌, ◌↔◌, ℕ, Bool, true, List}
use Rattle.lk_facts.specs.Basis.{Basis}
use Rattle.lk_facts.specs.Held.{PointTest, AreLockSets, at_test, keep_test}
use Rattle.lk_facts.specs.Items.{ItemTest, LockTest, HeldTable, AreItems}
use Rattle.lk_facts.specs.LockSets.{LockSets}
use Rattle.lk_facts.specs.Many.{IsLinear}
use Rattle.lk_facts.specs.Racing.{AreRaces}
use Rattle.lk_facts.specs.Reach.{After}
use Rattle.lk_facts.specs.Verdicts.{AreVerdicts}
use Rattle.lk_facts.specs.declared.program.Program.{Program}
use Rattle.lk_facts.specs.declared.verdict.Verdict.{Verdict}

-- the locks at points and those that points keep
abbrev pub held_table : LockSets → HeldTable
held_table held = record { at = at_test held; keep = keep_test held }

-- the test tells which points can come after which
abbrev pub IsOrder : Program → PointTest → Type 0
IsOrder program after = (p q : ℕ) → (after p q ≡ true) ↔ After program p q

-- the test tells the linear lock places
abbrev pub IsLinearTest : Program → (ℕ → Bool) → Type 0
IsLinearTest program linear = (q : ℕ) → (linear q ≡ true) ↔ IsLinear program q

-- The verdicts of a program: those of its racing items with their locks, which rest on its items with theirs,
-- on the locks that are held at its points, on the order of these, and on which lock places are linear.
pub record AreVerdictsOf (basis : Basis) (found : List Verdict) : Type 0 where
  pub held : LockSets
  pub lock_sets : AreLockSets basis held
  pub after : PointTest
  pub order : IsOrder basis.program after
  pub has : ItemTest
  pub item_locks : LockTest
  pub items : AreItems basis (held_table held) has item_locks
  pub races : ItemTest
  pub race_locks : LockTest
  pub racing : AreRaces basis
      (record { after = after; has = has; held = held_table held; locks = item_locks }) races race_locks
  pub linear : ℕ → Bool
  pub is_linear : IsLinearTest basis.program linear
  pub verdicts : AreVerdicts basis races race_locks linear found
