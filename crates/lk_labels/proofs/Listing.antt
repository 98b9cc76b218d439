-- The items of a block, one after the other.
use Rattle.std.proofs.Common.{◌≡◌, ◌∙◌, ◌+◌, ◌<◌, ℕ, List, ◌∷◌, length, get_or, drop, sym, ap}
use Rattle.std.proofs.lemmas.List.{drop_more}
use Rattle.lk_tree.specs.declared.declaration.Declare.{Declare}
use Rattle.lk_tree.specs.declared.statement.BlockItem.TheOpen.{BlockItem-F}
use Rattle.lk_tree.specs.declared.statement.BlockItem.{BlockItem, out-BlockItem, out-roll-BlockItem}
use Rattle.lk_tree.specs.declared.statement.BlockItem.TheVariants as item
use Rattle.lk_tree.specs.declared.statement.Stmt.{Stmt}
use Rattle.lk_typed.specs.Labels.{labels}
use Rattle.lk_labels.specs.Leasts.{Leasts, put_labels}
use Rattle.lk_labels.specs.Parts.{labels_of_item, labels_of_items}
use Rattle.lk_labels.proofs.Putting.{put_both}

module _ (leasts new : Leasts) (i : BlockItem) where
  pub declaration_put : (node : Declare) → i ≡ item.Declare node → new ≡ leasts → new ≡ put_labels leasts (labels_of_item (out-BlockItem i))
  declaration_put node is same = same ∙ ap (λ f. put_labels leasts (labels_of_item f)) (sym (ap out-BlockItem (is ∙ sym (item.rolls-Declare node)) ∙ out-roll-BlockItem (BlockItem-F.Declare node)))

  pub statement_put : (inner : Stmt) → i ≡ item.Stmt inner → new ≡ put_labels leasts (labels inner) → new ≡ put_labels leasts (labels_of_item (out-BlockItem i))
  statement_put inner is put = put ∙ ap (λ f. put_labels leasts (labels_of_item f)) (sym (ap out-BlockItem (is ∙ sym (item.rolls-Stmt inner)) ∙ out-roll-BlockItem (BlockItem-F.Stmt inner)))

-- the labels of one more item are put
pub one_put : (before leasts new : Leasts) (items : List BlockItem) (k : ℕ) (i : BlockItem) → k < length items → i ≡ get_or items k i →
    put_labels before (labels_of_items items) ≡ put_labels leasts (labels_of_items (drop k items)) → new ≡ put_labels leasts (labels_of_item (out-BlockItem i)) →
    put_labels before (labels_of_items items) ≡ put_labels new (labels_of_items (drop (k + 1) items))
one_put before leasts new items k i below is all put =
    let rest = labels_of_items (drop (k + 1) items) in
    all ∙ (ap (λ xs. put_labels leasts (labels_of_items xs)) (drop_more items k i below ∙ ap (λ x. x ∷ drop (k + 1) items) (sym is)) ∙
    (put_both leasts (labels_of_item (out-BlockItem i)) rest ∙ ap (λ found. put_labels found rest) (sym put)))
