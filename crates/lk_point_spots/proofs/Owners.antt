-- What nodes have of their own, texts, allocations and hidden slots, is at places of the typed tree.
use Rattle.std.proofs.Common.{◌≡◌, ◌∙◌, inl, inr, ℕ, Option, None, Some, List, [], ◌∷◌, ◌++◌, map, refl, sym, ap, subst}
use Rattle.std.specs.List.{AllByRecursion}
use Rattle.lk_base.specs.declared.spot.Spot.{Spot}
use Rattle.lk_lower_expr.specs.Names.{Node}
use Rattle.lk_lower_expr.specs.Owned.{Owned, text, allocation, hidden, Finder, all_of, hidden_of, of_callee, of_library, of_form, of_expr, owned, owned_in, of_value, of_parts, of_static_parts, of_inits, of_first}
use Rattle.lk_spots.specs.Places.{Each, IfThere}
use Rattle.lk_spots.specs.TypedPlaces as t
use Rattle.lk_spots.specs.TypedPlaces.{TypedExprSpots, TypedFormSpots, CalleeSpots, LibraryCallSpots, LocalInitSpots, LocalValueSpots, TypedFirstSpots}
use Rattle.lk_typed.specs.Stands.{IsIn}
use Rattle.lk_typed.specs.declared.expression.Callee.{Callee, out-Callee}
use Rattle.lk_typed.specs.declared.expression.Callee.TheFolds.{fold-Callee, fold-LibraryCall, fold-TypedForm, fold_out-Callee, fold_out-LibraryCall, fold_out-TypedExpr, fold_out-TypedForm, map-Callee, map-LibraryCall, map-TypedForm}
use Rattle.lk_typed.specs.declared.expression.Callee.TheOpen.{Callee-F, TypedForm-F, LibraryCall-F}
use Rattle.lk_typed.specs.declared.expression.TypedExpr.{TypedExpr}
use Rattle.lk_typed.specs.declared.expression.TypedForm.{TypedForm, out-TypedForm}
use Rattle.lk_typed.specs.declared.initialiser.LocalPart.{LocalPart}
use Rattle.lk_typed.specs.declared.initialiser.LocalValue.{LocalValue}
use Rattle.lk_typed.specs.declared.initialiser.StaticPart.{StaticPart}
use Rattle.lk_typed.specs.declared.library.LibraryCall.{LibraryCall, out-LibraryCall}
use Rattle.lk_typed.specs.declared.statement.LocalInit.{LocalInit}
use Rattle.lk_typed.specs.declared.statement.TypedFirst.{TypedFirst}
use Rattle.lk_types.specs.declared.c_type.CType.{CType}
use Rattle.lk_types.specs.declared.c_type.CType.TheVariants.{Void, Int, ThreadId, Mutex, Cond, Pointer, Array, Struct, Function, Opaque}
use Rattle.lk_point_spots.proofs.Lists as lists

module _ (P : Spot → Type 0) where
  abbrev pub OwnedSpot : Owned → Type 0
  OwnedSpot (text node bytes) = P node.spot
  OwnedSpot (allocation node type one) = P node.spot
  OwnedSpot (hidden node) = P node.spot

  abbrev pub OwnedSpots : List Owned → Type 0
  OwnedSpots list = AllByRecursion OwnedSpot list

  pub both : (xs ys : List Owned) → OwnedSpots xs → OwnedSpots ys → OwnedSpots (xs ++ ys)
  both = lists.both OwnedSpot

  module _ (form : ℕ → CType) where
    -- ---- a layer, with what its parts have

    abbrev Find : Type 0
    Find = Finder form

    abbrev form_owned : TypedForm → Find
    form_owned = fold-TypedForm (List Owned) Find Find (List Owned) (of_callee form) (of_form form) (of_library form) (of_expr form)

    abbrev call_owned : LibraryCall → Find
    call_owned = fold-LibraryCall (List Owned) Find Find (List Owned) (of_callee form) (of_form form) (of_library form) (of_expr form)

    abbrev callee_owned : Callee → List Owned
    callee_owned = fold-Callee (List Owned) Find Find (List Owned) (of_callee form) (of_form form) (of_library form) (of_expr form)

    abbrev form_layer : TypedForm-F Callee TypedForm LibraryCall TypedExpr → TypedForm-F (List Owned) Find Find (List Owned)
    form_layer = map-TypedForm Callee TypedForm LibraryCall TypedExpr (List Owned) Find Find (List Owned) callee_owned form_owned call_owned (owned form)

    abbrev call_layer : LibraryCall-F Callee TypedForm LibraryCall TypedExpr → LibraryCall-F (List Owned) Find Find (List Owned)
    call_layer = map-LibraryCall Callee TypedForm LibraryCall TypedExpr (List Owned) Find Find (List Owned) callee_owned form_owned call_owned (owned form)

    abbrev callee_layer : Callee-F Callee TypedForm LibraryCall TypedExpr → Callee-F (List Owned) Find Find (List Owned)
    callee_layer = map-Callee Callee TypedForm LibraryCall TypedExpr (List Owned) Find Find (List Owned) callee_owned form_owned call_owned (owned form)

    abbrev node_of : TypedExpr → Node
    node_of e = record { ordinal = e.ordinal; spot = e.spot; type = e.ty }

    expr_is : (e : TypedExpr) → owned form e ≡ form_owned e.form (node_of e)
    unfolding owned
    expr_is e = fold_out-TypedExpr (List Owned) Find Find (List Owned) (of_callee form) (of_form form) (of_library form) (of_expr form) e

    form_is : (f : TypedForm) → form_owned f ≡ of_form form (form_layer (out-TypedForm f))
    unfolding owned
    form_is f = fold_out-TypedForm (List Owned) Find Find (List Owned) (of_callee form) (of_form form) (of_library form) (of_expr form) f

    call_is : (call : LibraryCall) → call_owned call ≡ of_library form (call_layer (out-LibraryCall call))
    unfolding owned
    call_is call = fold_out-LibraryCall (List Owned) Find Find (List Owned) (of_callee form) (of_form form) (of_library form) (of_expr form) call

    callee_is : (callee : Callee) → callee_owned callee ≡ of_callee form (callee_layer (out-Callee callee))
    unfolding owned
    callee_is callee = fold_out-Callee (List Owned) Find Find (List Owned) (of_callee form) (of_form form) (of_library form) (of_expr form) callee

    -- ---- expressions

    hidden_spots : (type : CType) (node : Node) → P node.spot → OwnedSpots (hidden_of form type node)
    hidden_spots Void node place = tt
    hidden_spots (Int k) node place = (place, tt)
    hidden_spots ThreadId node place = (place, tt)
    hidden_spots Mutex node place = (place, tt)
    hidden_spots Cond node place = (place, tt)
    hidden_spots (Pointer u) node place = (place, tt)
    hidden_spots (Array u n) node place = (place, tt)
    hidden_spots (Struct s) node place = (place, tt)
    hidden_spots (Function result params dots) node place = (place, tt)
    hidden_spots (Opaque n) node place = (place, tt)

    each_owned : (xs : List TypedExpr) → ((a : TypedExpr) → IsIn a xs → OwnedSpots (owned form a)) → OwnedSpots (all_of (map (owned form) xs))
    each_owned [] each = tt
    each_owned (x ∷ xs) each = both (owned form x) (all_of (map (owned form) xs)) (each x (inl refl)) (each_owned xs (λ a is. each a (inr is)))

    mutual
      pub owned_spots : {e : TypedExpr} → TypedExprSpots P e → OwnedSpots (owned form e)
      owned_spots {e} (t.typed place spots) =
          subst OwnedSpots (sym (expr_is e ∙ ap (λ (f : Find). f (node_of e)) (form_is e.form))) (form_spots spots (node_of e) place)

      form_spots : {x : TypedForm-F Callee TypedForm LibraryCall TypedExpr} → TypedFormSpots P x → (node : Node) → P node.spot → OwnedSpots (of_form form (form_layer x) node)
      form_spots t.object node place = tt
      form_spots t.text node place = (place, tt)
      form_spots (t.member x) node place = owned_spots x
      form_spots (t.arrow x) node place = owned_spots x
      form_spots (t.index {pointer = a} {offset = b} x y) node place = both (owned form a) (owned form b) (owned_spots x) (owned_spots y)
      form_spots (t.indirection x) node place = owned_spots x
      form_spots (t.paren x) node place = owned_spots x
      form_spots t.number node place = tt
      form_spots t.function node place = tt
      form_spots (t.address x) node place = owned_spots x
      form_spots (t.unary x) node place = owned_spots x
      form_spots (t.binary {left = a} {right = b} x y) node place = both (owned form a) (owned form b) (owned_spots x) (owned_spots y)
      form_spots (t.and {left = a} {right = b} x y) node place = (place, both (owned form a) (owned form b) (owned_spots x) (owned_spots y))
      form_spots (t.or {left = a} {right = b} x y) node place = (place, both (owned form a) (owned form b) (owned_spots x) (owned_spots y))
      form_spots (t.choice {condition = c} {taken = a} {other = b} x y z) node place =
          both (hidden_of form (form node.type) node) (owned form c ++ (owned form a ++ owned form b)) (hidden_spots (form node.type) node place)
          (both (owned form c) (owned form a ++ owned form b) (owned_spots x) (both (owned form a) (owned form b) (owned_spots y) (owned_spots z)))
      form_spots (t.comma {left = a} {right = b} x y) node place = both (owned form a) (owned form b) (owned_spots x) (owned_spots y)
      form_spots (t.assign {place = a} {given = b} x y) node place = both (owned form a) (owned form b) (owned_spots x) (owned_spots y)
      form_spots (t.compound {place = a} {given = b} x y) node place = both (owned form a) (owned form b) (owned_spots x) (owned_spots y)
      form_spots (t.step x) node place = owned_spots x
      form_spots (t.call {callee = callee} {arguments = xs} spots each) node place =
          both (callee_owned callee) (all_of (map (owned form) xs)) (subst OwnedSpots (sym (callee_is callee)) (callee_spots spots)) (each_owned xs (λ a is. owned_spots (each a is)))
      form_spots (t.library {call = call} spots) node place = subst (λ (f : Find). OwnedSpots (f node)) (sym (call_is call)) (library_spots spots node place)
      form_spots (t.extern {arguments = xs} each) node place = each_owned xs (λ a is. owned_spots (each a is))
      form_spots t.size node place = tt
      form_spots (t.load x) node place = owned_spots x
      form_spots (t.decay x) node place = owned_spots x
      form_spots (t.convert x) node place = owned_spots x
      form_spots (t.discard x) node place = owned_spots x
      form_spots t.null node place = tt

      callee_spots : {x : Callee-F Callee TypedForm LibraryCall TypedExpr} → CalleeSpots P x → OwnedSpots (of_callee form (callee_layer x))
      callee_spots t.named = tt
      callee_spots (t.pointed x) = owned_spots x

      library_spots : {x : LibraryCall-F Callee TypedForm LibraryCall TypedExpr} → LibraryCallSpots P x → (node : Node) → P node.spot → OwnedSpots (of_library form (call_layer x) node)
      library_spots (t.create {id = a} {argument = b} x y) node place = both (owned form a) (owned form b) (owned_spots x) (owned_spots y)
      library_spots (t.join x) node place = owned_spots x
      library_spots (t.detach x) node place = owned_spots x
      library_spots (t.exit_thread x) node place = owned_spots x
      library_spots t.self_id node place = tt
      library_spots (t.equal {left = a} {right = b} x y) node place = both (owned form a) (owned form b) (owned_spots x) (owned_spots y)
      library_spots (t.init x) node place = owned_spots x
      library_spots (t.destroy x) node place = owned_spots x
      library_spots (t.lock x) node place = owned_spots x
      library_spots (t.unlock x) node place = owned_spots x
      library_spots (t.signal x) node place = owned_spots x
      library_spots (t.wait {cond = a} {mutex = b} x y) node place = both (owned form a) (owned form b) (owned_spots x) (owned_spots y)
      library_spots (t.allocate {size = None} there) node place = (place, tt)
      library_spots (t.allocate {size = Some e} there) node place = (place, owned_spots (there e refl))
      library_spots (t.free x) node place = owned_spots x
      library_spots (t.exit {status = None} there) node place = tt
      library_spots (t.exit {status = Some e} there) node place = owned_spots (there e refl)
      library_spots (t.scan x) node place = owned_spots x
      library_spots (t.print {format = a} {arguments = xs} x each) node place =
          both (owned form a) (all_of (map (owned form) xs)) (owned_spots x) (each_owned xs (λ a is. owned_spots (each a is)))
      library_spots (t.compute {arguments = xs} each) node place = each_owned xs (λ a is. owned_spots (each a is))

    -- ---- initialisers

    pub optional_owned : (e : Option TypedExpr) → IfThere (TypedExprSpots P) e → OwnedSpots (owned_in form e)
    optional_owned None there = tt
    optional_owned (Some e) there = owned_spots (there e refl)

    value_owned : {is : LocalValue} → LocalValueSpots P is → OwnedSpots (of_value form is)
    value_owned (t.given x) = owned_spots x
    value_owned (t.bytes at) = tt
    value_owned t.ready = tt

    parts_owned : (named : List LocalPart) → Each (λ (one : LocalPart). LocalValueSpots P one.value) named → OwnedSpots (of_parts form named)
    parts_owned [] each = tt
    parts_owned (one ∷ others) each = both (of_value form one.value) (of_parts form others) (value_owned (each one (inl refl))) (parts_owned others (λ a is. each a (inr is)))

    pub inits_owned : (list : List LocalInit) → Each (LocalInitSpots P) list → OwnedSpots (of_inits form list)
    inits_owned [] each = tt
    inits_owned (one ∷ others) each = both (of_parts form one.named) (of_inits form others) (parts_owned one.named (each one (inl refl))) (inits_owned others (λ a is. each a (inr is)))

    pub first_owned : {f : TypedFirst} → TypedFirstSpots P f → OwnedSpots (of_first form f)
    first_owned (t.first_value {e = e} there) = optional_owned e there
    first_owned (t.first_declare {inits = list} each) = inits_owned list each

    pub static_owned : (parts : List StaticPart) → Each (λ (one : StaticPart). IfThere (TypedExprSpots P) one.pointer) parts → OwnedSpots (of_static_parts form parts)
    static_owned [] each = tt
    static_owned (one ∷ others) each =
        both (owned_in form one.pointer) (of_static_parts form others) (optional_owned one.pointer (each one (inl refl))) (static_owned others (λ a is. each a (inr is)))
