-- The cells that the parts of a local name (C99 6.7.8, 21).
use Rattle.std.specs.Prelude.{ℕ, suc, ◌++◌, List, [], ◌∷◌}
use Rattle.lk_base.specs.declared.cell.CellStep.TheVariants.{Index}
use Rattle.lk_typed.specs.Absent.{Path}
use Rattle.lk_elab_init.specs.declared.givens.Beginning.{Beginning}
use Rattle.lk_elab_init.specs.declared.givens.Beginning.TheVariants as begins
use Rattle.lk_elab_init.specs.declared.givens.PartGiven.{PartGiven}

-- those of the bytes of a text, the first of which is the element i
abbrev pub cells_of_text : Path → ℕ → List ℕ → List Path
cells_of_text path i [] = []
cells_of_text path i (byte ∷ bytes) = (path ++ Index i ∷ []) ∷ cells_of_text path (suc i) bytes

abbrev pub cells_begun : Path → Beginning → List Path
cells_begun path (begins.Value e) = path ∷ []
cells_begun path (begins.Bytes spot n bytes) = cells_of_text path 0 bytes
cells_begun path begins.Word = path ∷ []

-- those that an initialiser names
abbrev pub cells_given : List PartGiven → List Path
cells_given [] = []
cells_given (one ∷ others) = cells_begun one.path one.begins ++ cells_given others
