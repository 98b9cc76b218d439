-- What the nodes of a statement have of their own is at places of the statement.
use Rattle.std.proofs.Common.{◌≡◌, ◌∙◌, inl, inr, ℕ, None, Some, List, [], ◌∷◌, ◌++◌, map, refl, sym, subst}
use Rattle.lk_base.specs.declared.spot.Spot.{Spot}
use Rattle.lk_lower_expr.specs.Owned.{Owned, all_of, owned, owned_in, of_first, in_item, in_form, in_stmt, owned_by}
use Rattle.lk_spots.specs.TypedPlaces as t
use Rattle.lk_spots.specs.TypedPlaces.{TypedStmtSpots, TypedStmtFormSpots, TypedItemSpots, TypedItemFormSpots}
use Rattle.lk_typed.specs.Stands.{IsIn}
use Rattle.lk_typed.specs.declared.statement.TypedItem.{TypedItem, out-TypedItem}
use Rattle.lk_typed.specs.declared.statement.TypedItem.TheFolds.{fold-TypedItem, fold-TypedStmtForm, fold_out-TypedItem, fold_out-TypedStmt, fold_out-TypedStmtForm, map-TypedItem, map-TypedStmtForm}
use Rattle.lk_typed.specs.declared.statement.TypedItem.TheOpen.{TypedItem-F, TypedStmtForm-F}
use Rattle.lk_typed.specs.declared.statement.TypedStmt.{TypedStmt}
use Rattle.lk_typed.specs.declared.statement.TypedStmtForm.{TypedStmtForm, out-TypedStmtForm}
use Rattle.lk_types.specs.declared.c_type.CType.{CType}
use Rattle.lk_point_spots.proofs.Owners.{OwnedSpots, both, first_owned, inits_owned, optional_owned, owned_spots}

module _ (P : Spot → Type 0) (form : ℕ → CType) where
  -- ---- a layer, with what its parts have

  abbrev form_owned : TypedStmtForm → List Owned
  form_owned = fold-TypedStmtForm (List Owned) (List Owned) (List Owned) (in_item form) (in_form form) (in_stmt form)

  abbrev item_owned : TypedItem → List Owned
  item_owned = fold-TypedItem (List Owned) (List Owned) (List Owned) (in_item form) (in_form form) (in_stmt form)

  abbrev form_layer : TypedStmtForm-F TypedItem TypedStmtForm TypedStmt → TypedStmtForm-F (List Owned) (List Owned) (List Owned)
  form_layer = map-TypedStmtForm TypedItem TypedStmtForm TypedStmt (List Owned) (List Owned) (List Owned) item_owned form_owned (owned_by form)

  abbrev item_layer : TypedItem-F TypedItem TypedStmtForm TypedStmt → TypedItem-F (List Owned) (List Owned) (List Owned)
  item_layer = map-TypedItem TypedItem TypedStmtForm TypedStmt (List Owned) (List Owned) (List Owned) item_owned form_owned (owned_by form)

  stmt_is : (s : TypedStmt) → owned_by form s ≡ form_owned s.form
  unfolding owned_by
  stmt_is s = fold_out-TypedStmt (List Owned) (List Owned) (List Owned) (in_item form) (in_form form) (in_stmt form) s

  form_is : (f : TypedStmtForm) → form_owned f ≡ in_form form (form_layer (out-TypedStmtForm f))
  unfolding owned_by
  form_is f = fold_out-TypedStmtForm (List Owned) (List Owned) (List Owned) (in_item form) (in_form form) (in_stmt form) f

  item_is : (i : TypedItem) → item_owned i ≡ in_item form (item_layer (out-TypedItem i))
  unfolding owned_by
  item_is i = fold_out-TypedItem (List Owned) (List Owned) (List Owned) (in_item form) (in_form form) (in_stmt form) i

  each_item : (items : List TypedItem) → ((a : TypedItem) → IsIn a items → OwnedSpots P (item_owned a)) → OwnedSpots P (all_of (map item_owned items))
  each_item [] each = tt
  each_item (one ∷ others) each = both P (item_owned one) (all_of (map item_owned others)) (each one (inl refl)) (each_item others (λ a is. each a (inr is)))

  -- ---- statements

  mutual
    pub stmt_owned : {s : TypedStmt} → TypedStmtSpots P s → OwnedSpots P (owned_by form s)
    stmt_owned {s} (t.typed_stmt at spots) = subst (OwnedSpots P) (sym (stmt_is s ∙ form_is s.form)) (form_spots spots)

    form_spots : {x : TypedStmtForm-F TypedItem TypedStmtForm TypedStmt} → TypedStmtFormSpots P x → OwnedSpots P (in_form form (form_layer x))
    form_spots (t.label x) = stmt_owned x
    form_spots (t.case x) = stmt_owned x
    form_spots (t.default x) = stmt_owned x
    form_spots (t.block {items = items} each) = each_item items (λ a is. item_spots (each a is))
    form_spots (t.do_expr {e = e} there) = optional_owned P form e there
    form_spots (t.if_else {e = c} {yes = a} {no = None} x y there) =
        both P (owned form c) (owned_by form a ++ []) (owned_spots P form x) (both P (owned_by form a) [] (stmt_owned y) tt)
    form_spots (t.if_else {e = c} {yes = a} {no = Some b} x y there) =
        both P (owned form c) (owned_by form a ++ owned_by form b) (owned_spots P form x) (both P (owned_by form a) (owned_by form b) (stmt_owned y) (stmt_owned (there b refl)))
    form_spots (t.switch {e = v} {inner = a} x y) = both P (owned form v) (owned_by form a) (owned_spots P form x) (stmt_owned y)
    form_spots (t.while {e = c} {inner = a} x y) = both P (owned form c) (owned_by form a) (owned_spots P form x) (stmt_owned y)
    form_spots (t.until {e = c} {inner = a} x y) = both P (owned_by form a) (owned form c) (stmt_owned x) (owned_spots P form y)
    form_spots (t.for {start = f} {condition = c} {next = s} {inner = a} x y z w) =
        both P (of_first form f) (owned_in form c ++ (owned_in form s ++ owned_by form a)) (first_owned P form x)
        (both P (owned_in form c) (owned_in form s ++ owned_by form a) (optional_owned P form c y) (both P (owned_in form s) (owned_by form a) (optional_owned P form s z) (stmt_owned w)))
    form_spots t.goto = tt
    form_spots t.continue = tt
    form_spots t.break = tt
    form_spots (t.return {e = e} there) = optional_owned P form e there

    item_spots : {i : TypedItem} → TypedItemSpots P i → OwnedSpots P (item_owned i)
    item_spots {i} (t.typed_item spots) = subst (OwnedSpots P) (sym (item_is i)) (item_form_spots spots)

    item_form_spots : {x : TypedItem-F TypedItem TypedStmtForm TypedStmt} → TypedItemFormSpots P x → OwnedSpots P (in_item form (item_layer x))
    item_form_spots (t.item_declare {inits = list} each) = inits_owned P form list each
    item_form_spots (t.item_stmt x) = stmt_owned x
