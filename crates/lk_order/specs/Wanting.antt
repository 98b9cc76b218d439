-- Sets of the labels that functions want, as far as they are known.
use Rattle.std.specs.Prelude.{◌≡◌, ℕ, true, List, Some}
use Rattle.lk_facts.specs.Basis.{Basis}
use Rattle.lk_facts.specs.Program.{function_at}
use Rattle.lk_held.specs.Releasing.{has_in}
use Rattle.lk_order.specs.Giving.{Gives, Has}
use Rattle.lk_order.specs.declared.giving.By.TheVariants.{Functions}

-- what p gives, by the sets, is in the set of its function
abbrev pub HasWanted : Basis → ℕ → List (List ℕ) → Type 0
HasWanted basis p sets =
    (f x : ℕ) → function_at basis.program p ≡ Some f → Gives basis (Has basis.program Functions sets) p x →
    has_in sets f x ≡ true
