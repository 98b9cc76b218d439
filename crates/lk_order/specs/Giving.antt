-- What a point locks, itself or in what it runs, where sets say it of functions.
use Rattle.std.specs.Prelude.{◌≡◌, ℕ, true, List, Some, length}
use Rattle.lk_facts.specs.Basis.{Basis}
use Rattle.lk_facts.specs.Doing.{Runs}
use Rattle.lk_facts.specs.Flow.{Flow, Over}
use Rattle.lk_facts.specs.Program.{exit_of}
use Rattle.lk_facts.specs.declared.program.Program.{Program}
use Rattle.lk_facts.specs.declared.way.Way.{Way}
use Rattle.lk_held.specs.Releasing.{has_in}
use Rattle.lk_links.specs.declared.link.Link.{Link}
use Rattle.lk_order.specs.Mutexes.{Locks}
use Rattle.lk_order.specs.declared.giving.By.{By}
use Rattle.lk_order.specs.declared.giving.By.TheVariants.{Functions, Exits}

-- how many sets there are: one for each function, or for each point
abbrev pub count_of : Program → By → ℕ
count_of program Functions = length program.functions
count_of program Exits = length program.points

-- the set of a function has the label: that of its number, or that of its exit
abbrev pub Has : Program → By → List (List ℕ) → ℕ → ℕ → Type 0
Has program Functions sets g y = has_in sets g y ≡ true
Has program Exits sets g y = (e : ℕ) × (exit_of program g ≡ Some e) × (has_in sets e y ≡ true)

-- x is what some label of the function of the link is outside it
abbrev pub IsOutside : Flow → (ℕ → ℕ → Type 0) → ℕ → Link → Type 0
IsOutside flow has x link = (y : ℕ) × has link.below y × Over flow link.way y x

module _ (basis : Basis) (has : ℕ → ℕ → Type 0) where
  -- p gives x: it locks the mutex of this name, or runs a function that has a label which is x outside
  pub data Gives (p x : ℕ) : Type 0 where
    itself : {f : ℕ} → Locks basis p f x → Gives p x
    below : {f g y : ℕ} {way : Way} → Runs basis p f way g → has g y → Over basis.flow way y x → Gives p x
