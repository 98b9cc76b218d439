-- The cells that the parts of a local name, in their order.
use Rattle.std.proofs.Common.{◌≡◌, ◌++◌, ℕ, List, ◌∷◌, refl}
use Rattle.lk_base.specs.declared.spot.Spot.{Spot}
use Rattle.lk_typed.specs.Absent.{Path, cells_named}
use Rattle.lk_typed.specs.declared.initialiser.LocalPart.{LocalPart}
use Rattle.lk_typed.specs.declared.initialiser.LocalValue.TheVariants as value
use Rattle.lk_elab_init.specs.Cells.{cells_of_text}

pub text_cells : (path : Path) (ty n : ℕ) (spot : Spot) (bytes : List ℕ) (others : List LocalPart) →
    cells_named (record { path = path; ty = ty; value = value.Text spot n bytes } ∷ others) ≡ cells_of_text path 0 bytes ++ cells_named others
text_cells path ty n spot bytes others = refl
