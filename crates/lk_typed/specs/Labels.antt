-- The labels of a function (C99 6.2.1, 3 and 6.8.1): all that stand in its body.
use Rattle.std.specs.Prelude.{ℕ, Bool, ◌&&◌, ◌++◌, List, [], ◌∷◌, Option, Some, None, nat_lt, nat_eq}
use Rattle.std.specs.List.{list_any}
use Rattle.std.specs.Cmp.Lexicographic.{pointwise}
use Rattle.lk_tree.specs.declared.statement.BlockItem.TheOpen.{BlockItem-F, StmtForm-F, Stmt-F}
use Rattle.lk_tree.specs.declared.statement.BlockItem.TheFolds.{fold-Stmt}
use Rattle.lk_tree.specs.declared.statement.Stmt.{Stmt}

-- a label: its name, and the number of its node
pub record Label : Type 0 where
  pub name : List ℕ
  pub ordinal : ℕ

-- the labels of a part of a body, once its nodes are known by their numbers
abbrev pub Found : Type 0
Found = ℕ → List Label

abbrev pub all_of : List (List Label) → List Label
all_of [] = []
all_of (found ∷ others) = found ++ all_of others

abbrev pub of_optional : Option (List Label) → List Label
of_optional None = []
of_optional (Some found) = found

abbrev pub in_item : BlockItem-F (List Label) Found (List Label) → List Label
in_item (BlockItem-F.Declare node) = []
in_item (BlockItem-F.Stmt inner) = inner

abbrev pub in_form : StmtForm-F (List Label) Found (List Label) → Found
in_form (StmtForm-F.Label name inner) n = record { name = name; ordinal = n } ∷ inner
in_form (StmtForm-F.Case value inner) n = inner
in_form (StmtForm-F.Default inner) n = inner
in_form (StmtForm-F.Block items) n = all_of items
in_form (StmtForm-F.Do value) n = []
in_form (StmtForm-F.If condition taken other) n = taken ++ of_optional other
in_form (StmtForm-F.Switch value inner) n = inner
in_form (StmtForm-F.While condition inner) n = inner
in_form (StmtForm-F.Until inner condition) n = inner
in_form (StmtForm-F.For start condition step inner) n = inner
in_form (StmtForm-F.Goto name) n = []
in_form StmtForm-F.Continue n = []
in_form StmtForm-F.Break n = []
in_form (StmtForm-F.Return value) n = []

abbrev pub in_stmt : Stmt-F (List Label) Found (List Label) → List Label
in_stmt node = node.form node.ordinal

-- the labels of a statement, in the order of the text
unfoldable pub labels : Stmt → List Label
labels = fold-Stmt (List Label) Found (List Label) in_item in_form in_stmt

abbrev pub is_name : List ℕ → List ℕ → Bool
is_name a b = pointwise nat_eq a b

-- whether a label of this name stands in the list
abbrev pub has_label : List Label → List ℕ → Bool
has_label found name = list_any (λ l. is_name name l.name) found

-- whether one stands there before the node with this number
abbrev pub has_label_before : List Label → List ℕ → ℕ → Bool
has_label_before found name n = list_any (λ l. is_name name l.name && nat_lt l.ordinal n) found
