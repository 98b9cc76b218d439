-- The labels of a statement by its form.
use Rattle.std.proofs.Common.{◌≡◌, ◌∙◌, ◌++◌, List, [], ◌∷◌, Option, Some, map, refl, sym, ap}
use Rattle.lk_tree.specs.declared.statement.BlockItem.TheFolds.{fold-BlockItem, fold-StmtForm, fold_out-BlockItem, fold_out-Stmt, fold_out-StmtForm, map-StmtForm, map-BlockItem}
use Rattle.lk_tree.specs.declared.statement.BlockItem.TheOpen.{BlockItem-F, StmtForm-F}
use Rattle.lk_tree.specs.declared.statement.BlockItem.{BlockItem, out-BlockItem}
use Rattle.lk_tree.specs.declared.statement.Stmt.{Stmt}
use Rattle.lk_tree.specs.declared.statement.StmtForm.{StmtForm, out-StmtForm, out-roll-StmtForm}
use Rattle.lk_tree.specs.declared.statement.StmtForm.TheVariants as form
use Rattle.lk_tree.specs.declared.expression.Expr.{Expr}
use Rattle.lk_typed.specs.Labels.{Found, Label, all_of, in_form, in_item, in_stmt, labels}
use Rattle.lk_labels.specs.Parts.{labels_of_item, labels_of_items}

unfoldable item_labels : BlockItem → List Label
item_labels = fold-BlockItem (List Label) Found (List Label) in_item in_form in_stmt

unfoldable form_labels : StmtForm → Found
form_labels = fold-StmtForm (List Label) Found (List Label) in_item in_form in_stmt

abbrev folded : StmtForm-F BlockItem StmtForm Stmt → StmtForm-F (List Label) Found (List Label)
folded = map-StmtForm BlockItem StmtForm Stmt (List Label) Found (List Label) item_labels form_labels labels

labels_by_form : (s : Stmt) → labels s ≡ in_form (folded (out-StmtForm s.form)) s.ordinal
unfolding labels form_labels item_labels
labels_by_form s =
    fold_out-Stmt (List Label) Found (List Label) in_item in_form in_stmt s ∙ ap (λ (f : Found). f s.ordinal) (fold_out-StmtForm (List Label) Found (List Label) in_item in_form in_stmt s.form)

one_item : (i : BlockItem) → item_labels i ≡ labels_of_item (out-BlockItem i)
unfolding item_labels labels form_labels
one_item i = fold_out-BlockItem (List Label) Found (List Label) in_item in_form in_stmt i ∙ by (out-BlockItem i)
  where
    by : (f : BlockItem-F BlockItem StmtForm Stmt) → in_item (map-BlockItem BlockItem StmtForm Stmt (List Label) Found (List Label) item_labels form_labels labels f) ≡ labels_of_item f
    by (BlockItem-F.Declare node) = refl
    by (BlockItem-F.Stmt inner) = refl

all_items : (is : List BlockItem) → all_of (map item_labels is) ≡ labels_of_items is
all_items [] = refl
all_items (i ∷ is) = ap (λ xs. xs ++ all_of (map item_labels is)) (one_item i) ∙ ap (λ xs. labels_of_item (out-BlockItem i) ++ xs) (all_items is)

a_block : (f : StmtForm) (items : List BlockItem) → f ≡ form.Block items → out-StmtForm f ≡ StmtForm-F.Block items
a_block f items is = ap out-StmtForm (is ∙ sym (form.rolls-Block items)) ∙ out-roll-StmtForm (StmtForm-F.Block items)

an_if : (f : StmtForm) (e : Expr) (taken : Stmt) (other : Option Stmt) → f ≡ form.If e taken other → out-StmtForm f ≡ StmtForm-F.If e taken other
an_if f e taken other is = ap out-StmtForm (is ∙ sym (form.rolls-If e taken other)) ∙ out-roll-StmtForm (StmtForm-F.If e taken other)

pub labels_of_block : (s : Stmt) (items : List BlockItem) → s.form ≡ form.Block items → labels s ≡ labels_of_items items
labels_of_block s items is = labels_by_form s ∙ (ap (λ f. in_form (folded f) s.ordinal) (a_block s.form items is) ∙ all_items items)

pub labels_of_if : (s : Stmt) (e : Expr) (taken other : Stmt) → s.form ≡ form.If e taken (Some other) → labels s ≡ labels taken ++ labels other
labels_of_if s e taken other is = labels_by_form s ∙ ap (λ f. in_form (folded f) s.ordinal) (an_if s.form e taken (Some other) is)
