-- What holds of the trees that numbers stand for. Each law is the contract of a function.
use Rattle.std.specs.Prelude.{ℕ, ◌≡◌, ◌↔◌}
use Rattle.lk_types.specs.Table.{Table, IsKnown}
use Rattle.lk_types.specs.Building.{IsTable, IsLonger}
use Rattle.lk_typed.specs.Ty.{Ty, Means}
use Rattle.lk_typed.specs.Meaning.{meaning}

-- a number means one tree
abbrev pub NumbersMeanOneTree : Type 0
NumbersMeanOneTree = (table : Table) → IsTable table → (t : ℕ) → IsKnown table t → (a : Ty) →
    Means table.types t a ↔ (a ≡ meaning table t)

-- two numbers of a table never mean the same tree
abbrev pub TreesDiffer : Type 0
TreesDiffer = (table : Table) → IsTable table → (t u : ℕ) → IsKnown table t → IsKnown table u →
    meaning table t ≡ meaning table u → t ≡ u

-- a longer table keeps what its older numbers mean
abbrev pub MeaningsStay : Type 0
MeaningsStay = (old new : Table) → IsTable old → IsLonger old new → (t : ℕ) → IsKnown old t →
    meaning new t ≡ meaning old t
