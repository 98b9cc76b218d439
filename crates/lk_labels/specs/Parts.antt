-- The labels of the parts of a statement.
use Rattle.std.specs.Prelude.{List, [], ◌∷◌, ◌++◌}
use Rattle.lk_tree.specs.declared.statement.BlockItem.TheOpen.{BlockItem-F}
use Rattle.lk_tree.specs.declared.statement.BlockItem.{BlockItem, out-BlockItem}
use Rattle.lk_tree.specs.declared.statement.Stmt.{Stmt}
use Rattle.lk_tree.specs.declared.statement.StmtForm.{StmtForm}
use Rattle.lk_typed.specs.Labels.{Label, labels}

abbrev pub labels_of_item : BlockItem-F BlockItem StmtForm Stmt → List Label
labels_of_item (BlockItem-F.Declare node) = []
labels_of_item (BlockItem-F.Stmt inner) = labels inner

-- in the order of the text
abbrev pub labels_of_items : List BlockItem → List Label
labels_of_items [] = []
labels_of_items (i ∷ is) = labels_of_item (out-BlockItem i) ++ labels_of_items is
