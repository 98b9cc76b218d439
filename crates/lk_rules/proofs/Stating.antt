-- What a statement tells, by its form.
use Rattle.std.proofs.Common.{◌≡◌, ◌∙◌, ℕ, List, [], ◌∷◌, Some, None, map, refl, ap}
use Rattle.lk_tree.specs.declared.statement.BlockItem.TheFolds.{fold-BlockItem, fold-StmtForm, fold_out-BlockItem, fold_out-Stmt, fold_out-StmtForm, map-StmtForm, map-BlockItem}
use Rattle.lk_tree.specs.declared.statement.BlockItem.TheOpen.{BlockItem-F, StmtForm-F}
use Rattle.lk_tree.specs.declared.statement.BlockItem.{BlockItem, out-BlockItem}
use Rattle.lk_tree.specs.declared.statement.Stmt.{Stmt}
use Rattle.lk_tree.specs.declared.statement.StmtForm.{StmtForm, out-StmtForm}
use Rattle.lk_typed.specs.Statements.{StmtTeller, of_form, of_item, of_stmt, statement}
use Rattle.lk_rules.specs.Statements.{form_told, item_told, told_of}

unfoldable item_folded : BlockItem → StmtTeller
item_folded = fold-BlockItem StmtTeller (ℕ → StmtTeller) StmtTeller of_item of_form of_stmt

unfoldable form_folded : StmtForm → ℕ → StmtTeller
form_folded = fold-StmtForm StmtTeller (ℕ → StmtTeller) StmtTeller of_item of_form of_stmt

abbrev folded : StmtForm-F BlockItem StmtForm Stmt → StmtForm-F StmtTeller (ℕ → StmtTeller) StmtTeller
folded = map-StmtForm BlockItem StmtForm Stmt StmtTeller (ℕ → StmtTeller) StmtTeller item_folded form_folded statement

by_form : (s : Stmt) → statement s ≡ of_form (folded (out-StmtForm s.form)) s.ordinal
unfolding statement form_folded item_folded
by_form s =
    fold_out-Stmt StmtTeller (ℕ → StmtTeller) StmtTeller of_item of_form of_stmt s ∙
    ap (λ (f : ℕ → StmtTeller). f s.ordinal) (fold_out-StmtForm StmtTeller (ℕ → StmtTeller) StmtTeller of_item of_form of_stmt s.form)

one_item : (i : BlockItem) → item_folded i ≡ item_told (out-BlockItem i)
unfolding item_folded statement form_folded
one_item i = fold_out-BlockItem StmtTeller (ℕ → StmtTeller) StmtTeller of_item of_form of_stmt i ∙ by (out-BlockItem i)
  where
    by : (f : BlockItem-F BlockItem StmtForm Stmt) → of_item (map-BlockItem BlockItem StmtForm Stmt StmtTeller (ℕ → StmtTeller) StmtTeller item_folded form_folded statement f) ≡ item_told f
    by (BlockItem-F.Declare node) = refl
    by (BlockItem-F.Stmt inner) = refl

all_items : (is : List BlockItem) → map item_folded is ≡ map (λ i. item_told (out-BlockItem i)) is
all_items [] = refl
all_items (i ∷ is) = ap (λ x. x ∷ map item_folded is) (one_item i) ∙ ap (λ xs. item_told (out-BlockItem i) ∷ xs) (all_items is)

folds_told : (f : StmtForm-F BlockItem StmtForm Stmt) → folded f ≡ form_told f
folds_told (StmtForm-F.Label name inner) = refl
folds_told (StmtForm-F.Case value inner) = refl
folds_told (StmtForm-F.Default inner) = refl
folds_told (StmtForm-F.Block items) = ap StmtForm-F.Block (all_items items)
folds_told (StmtForm-F.Do e) = refl
folds_told (StmtForm-F.If e taken None) = refl
folds_told (StmtForm-F.If e taken (Some other)) = refl
folds_told (StmtForm-F.Switch e inner) = refl
folds_told (StmtForm-F.While e inner) = refl
folds_told (StmtForm-F.Until inner e) = refl
folds_told (StmtForm-F.For start condition step inner) = refl
folds_told (StmtForm-F.Goto name) = refl
folds_told StmtForm-F.Continue = refl
folds_told StmtForm-F.Break = refl
folds_told (StmtForm-F.Return e) = refl

-- what a statement tells, of what its parts tell
pub statements_follow_their_forms : (s : Stmt) (f : StmtForm-F BlockItem StmtForm Stmt) → out-StmtForm s.form ≡ f → statement s ≡ told_of f s.ordinal
statements_follow_their_forms s f is = by_form s ∙ (ap (λ f. of_form (folded f) s.ordinal) is ∙ ap (λ f. of_form f s.ordinal) (folds_told f))
