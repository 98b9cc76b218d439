-- What an initialiser makes of the type of its object.
use Rattle.std.specs.Prelude.{ℕ, ◌≡◌, ◌*◌, ◌⊎◌, true, false, Option, MatchOption, nat_le}
use Rattle.lk_tree.specs.declared.declaration.Init.{Init, out-Init}
use Rattle.lk_types.specs.Table.{Table}
use Rattle.lk_typed.specs.DeclaratorRules.{elements, most_elements}
use Rattle.lk_typed.specs.Initialisers.{completed_by, size_of_init}
use Rattle.lk_typed.specs.Meaning.{meaning}
use Rattle.lk_typed.specs.Ty.{Ty, Array}
use Rattle.lk_check_decl.specs.Composites.{Stands}
use Rattle.lk_check_decl.specs.Storing.{IsOver}
use Rattle.lk_check_decl.specs.declared.completing.ArrayParts.{ArrayParts}

-- an array without a size has elements of this type; anything else is left as it is by an initialiser
abbrev pub IsUnsized : Table → Ty → Option ℕ → Type 0
IsUnsized table tree element =
    MatchOption element ((init : Init) → completed_by init tree ≡ tree) (λ u. tree ≡ Array (meaning table u) 0)

-- the size that an initialiser gives to an array of such elements
abbrev pub GivesSize : Init → Ty → ℕ → Type 0
GivesSize init tree size = (element : Ty) (n : ℕ) → tree ≡ Array element n →
    size_of_init element (out-Init init) ≡ size

-- the elements of an array as a tree, and how many there are
abbrev pub elements_in : Table → ArrayParts → Ty × ℕ
elements_in table parts = (meaning table parts.element, parts.count)

-- an array of so many elements was made; or they are too many, or it is over one of the bounds of a table
abbrev pub IsSizedBy : Table → Table → Ty → ℕ → Option ℕ → Type 0
IsSizedBy old new element size answer =
    MatchOption answer ((nat_le (size * elements element) most_elements ≡ false) ⊎ IsOver old (Array element size) true)
    (λ u. (nat_le (size * elements element) most_elements ≡ true) × Stands new (Array element size) u)
