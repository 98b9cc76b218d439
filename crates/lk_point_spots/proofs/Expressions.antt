-- The steps of an expression stand at places of the expression.
use Rattle.std.proofs.Common.{◌≡◌, ◌∙◌, inl, inr, None, Some, List, [], ◌∷◌, map, refl, sym, ap, subst}
use Rattle.lk_base.specs.declared.spot.Spot.{Spot}
use Rattle.lk_facts.specs.declared.action.Action.TheVariants as does
use Rattle.lk_lower_expr.specs.Expressions.{part, form_part, library_part, callee_part, of_callee, of_form, of_library, of_expr}
use Rattle.lk_lower_expr.specs.Library.{Called}
use Rattle.lk_lower_expr.specs.Names.{Names, Node}
use Rattle.lk_lower_expr.specs.Naming.{node_of}
use Rattle.lk_lower_expr.specs.Parts.{Part}
use Rattle.lk_lower_expr.specs.Values.{slot_named}
use Rattle.lk_spots.specs.TypedPlaces as t
use Rattle.lk_spots.specs.TypedPlaces.{TypedExprSpots, TypedFormSpots, CalleeSpots, LibraryCallSpots}
use Rattle.lk_typed.specs.Stands.{IsIn}
use Rattle.lk_typed.specs.declared.expression.Callee.{Callee, out-Callee}
use Rattle.lk_typed.specs.declared.expression.Callee.TheFolds.{fold_out-Callee, fold_out-LibraryCall, fold_out-TypedExpr, fold_out-TypedForm, map-Callee, map-LibraryCall, map-TypedForm}
use Rattle.lk_typed.specs.declared.expression.Callee.TheOpen.{Callee-F, TypedForm-F, LibraryCall-F}
use Rattle.lk_typed.specs.declared.expression.TypedExpr.{TypedExpr}
use Rattle.lk_typed.specs.declared.expression.TypedForm.{TypedForm, out-TypedForm}
use Rattle.lk_typed.specs.declared.library.LibraryCall.{LibraryCall, out-LibraryCall}
use Rattle.lk_point_spots.proofs.Calls.{CalledSpots, call_spots, extern_spots, on_one_spots, create_spots, wait_spots, allocate_spots, scan_spots, print_spots, compute_spots, equal_spots, exit_thread_spots, exit_spots}
use Rattle.lk_point_spots.proofs.Rules.{name_spots, comma_spots, and_spots, or_spots, choice_spots, assign_spots, compound_spots, change_spots, load_spots, decay_spots, convert_spots}
use Rattle.lk_point_spots.proofs.Walks.{PartSpots, PartsSpots, one_spots, stands_spots, paren_spots}

module _ (P : Spot → Type 0) (names : Names) where
  -- ---- a layer, with the steps of its parts

  abbrev form_layer : TypedForm-F Callee TypedForm LibraryCall TypedExpr → TypedForm-F Called (Node → Part) (Node → Part) Part
  form_layer = map-TypedForm Callee TypedForm LibraryCall TypedExpr Called (Node → Part) (Node → Part) Part (callee_part names) (form_part names) (library_part names) (part names)

  abbrev call_layer : LibraryCall-F Callee TypedForm LibraryCall TypedExpr → LibraryCall-F Called (Node → Part) (Node → Part) Part
  call_layer = map-LibraryCall Callee TypedForm LibraryCall TypedExpr Called (Node → Part) (Node → Part) Part (callee_part names) (form_part names) (library_part names) (part names)

  abbrev callee_layer : Callee-F Callee TypedForm LibraryCall TypedExpr → Callee-F Called (Node → Part) (Node → Part) Part
  callee_layer = map-Callee Callee TypedForm LibraryCall TypedExpr Called (Node → Part) (Node → Part) Part (callee_part names) (form_part names) (library_part names) (part names)

  expr_is : (e : TypedExpr) → part names e ≡ form_part names e.form (node_of e)
  unfolding part form_part
  expr_is e = fold_out-TypedExpr Called (Node → Part) (Node → Part) Part (of_callee names) (of_form names) (of_library names) (of_expr names) e

  form_is : (f : TypedForm) → form_part names f ≡ of_form names (form_layer (out-TypedForm f))
  unfolding part form_part library_part callee_part
  form_is f = fold_out-TypedForm Called (Node → Part) (Node → Part) Part (of_callee names) (of_form names) (of_library names) (of_expr names) f

  call_is : (call : LibraryCall) → library_part names call ≡ of_library names (call_layer (out-LibraryCall call))
  unfolding part form_part library_part callee_part
  call_is call = fold_out-LibraryCall Called (Node → Part) (Node → Part) Part (of_callee names) (of_form names) (of_library names) (of_expr names) call

  callee_is : (callee : Callee) → callee_part names callee ≡ of_callee names (callee_layer (out-Callee callee))
  unfolding part form_part library_part callee_part
  callee_is callee = fold_out-Callee Called (Node → Part) (Node → Part) Part (of_callee names) (of_form names) (of_library names) (of_expr names) callee

  -- ---- the operands

  each_part : (xs : List TypedExpr) → ((a : TypedExpr) → IsIn a xs → PartSpots P (part names a)) → PartsSpots P (map (part names) xs)
  each_part [] each = tt
  each_part (x ∷ xs) each = (each x (inl refl), each_part xs (λ a is. each a (inr is)))

  mutual
    pub part_spots : {e : TypedExpr} → TypedExprSpots P e → PartSpots P (part names e)
    part_spots {e} (t.typed place form) =
        subst (PartSpots P) (sym (expr_is e ∙ ap (λ (f : Node → Part). f (node_of e)) (form_is e.form))) (form_spots form (node_of e) place)

    form_spots : {x : TypedForm-F Callee TypedForm LibraryCall TypedExpr} → TypedFormSpots P x → (node : Node) → P node.spot → PartSpots P (of_form names (form_layer x) node)
    form_spots (t.object {from = storage}) node place = name_spots P names node place (slot_named names.slot storage) storage
    form_spots t.text node place = one_spots P names node place [] _ _ tt
    form_spots (t.member {place = a} x) node place = one_spots P names node place (part names a ∷ []) _ _ (part_spots x, tt)
    form_spots (t.arrow {pointer = a} x) node place = one_spots P names node place (part names a ∷ []) _ _ (part_spots x, tt)
    form_spots (t.index {pointer = a} {offset = b} x y) node place = one_spots P names node place (part names a ∷ part names b ∷ []) _ _ (part_spots x, (part_spots y, tt))
    form_spots (t.indirection {pointer = a} x) node place = stands_spots P names node place (part names a) (part_spots x)
    form_spots (t.paren {inner = a} x) node place = paren_spots P names node place (part names a).slot (part names a) (part_spots x)
    form_spots t.number node place = one_spots P names node place [] _ _ tt
    form_spots t.function node place = one_spots P names node place [] _ _ tt
    form_spots (t.address {place = a} x) node place = stands_spots P names node place (part names a) (part_spots x)
    form_spots (t.unary {operand = a} x) node place = one_spots P names node place (part names a ∷ []) _ _ (part_spots x, tt)
    form_spots (t.binary {left = a} {right = b} x y) node place = one_spots P names node place (part names a ∷ part names b ∷ []) _ _ (part_spots x, (part_spots y, tt))
    form_spots (t.and {left = a} {right = b} x y) node place = and_spots P names node place (part names a) (part names b) (part_spots x) (part_spots y)
    form_spots (t.or {left = a} {right = b} x y) node place = or_spots P names node place (part names a) (part names b) (part_spots x) (part_spots y)
    form_spots (t.choice {condition = c} {taken = a} {other = b} x y z) node place =
        choice_spots P names node place (part names c) (part names a) (part names b) (part_spots x) (part_spots y) (part_spots z)
    form_spots (t.comma {left = a} {right = b} x y) node place = comma_spots P names node place (part names a) (part names b) (part_spots x) (part_spots y)
    form_spots (t.assign {place = a} {given = b} x y) node place = assign_spots P names node place (part names a) (part_spots x) (part names b) (part_spots y)
    form_spots (t.compound {op = op} {place = a} {given = b} {type = u} x y) node place =
        compound_spots P names node place (part names a) (part_spots x) op (part names b) u (part_spots y)
    form_spots (t.step {op = operator} {change = change} {place = a} {type = u} x) node place = change_spots P names node place (part names a) (part_spots x) operator change u
    form_spots (t.call {callee = callee} {arguments = xs} spots each) node place =
        call_spots P names node place (callee_part names callee) (map (part names) xs)
        (subst (CalledSpots P) (sym (callee_is callee)) (callee_spots spots)) (each_part xs (λ a is. part_spots (each a is)))
    form_spots (t.library {call = call} spots) node place =
        subst (λ (f : Node → Part). PartSpots P (f node)) (sym (call_is call)) (library_spots spots node place)
    form_spots (t.extern {entity = entity} {arguments = xs} each) node place = extern_spots P names node place entity (map (part names) xs) (each_part xs (λ a is. part_spots (each a is)))
    form_spots t.size node place = one_spots P names node place [] _ _ tt
    form_spots (t.load {place = a} x) node place = load_spots P names node place (part names a) (part_spots x)
    form_spots (t.decay {place = a} x) node place = decay_spots P names node place (part names a) (part_spots x)
    form_spots (t.convert {inner = a} x) node place = convert_spots P names node place (part names a) (part_spots x)
    form_spots (t.discard {inner = a} x) node place = stands_spots P names node place (part names a) (part_spots x)
    form_spots t.null node place = one_spots P names node place [] _ _ tt

    callee_spots : {x : Callee-F Callee TypedForm LibraryCall TypedExpr} → CalleeSpots P x → CalledSpots P (of_callee names (callee_layer x))
    callee_spots t.named = tt
    callee_spots (t.pointed x) = part_spots x

    library_spots : {x : LibraryCall-F Callee TypedForm LibraryCall TypedExpr} → LibraryCallSpots P x → (node : Node) → P node.spot → PartSpots P (of_library names (call_layer x) node)
    library_spots (t.create {id = a} {entity = entity} {argument = b} x y) node place = create_spots P names node place (part names a) entity (part names b) (part_spots x) (part_spots y)
    library_spots (t.join {thread = a} x) node place = on_one_spots P names node place does.Join (part names a) (part_spots x)
    library_spots (t.detach {thread = a} x) node place = on_one_spots P names node place does.Detach (part names a) (part_spots x)
    library_spots (t.exit_thread {result = a} x) node place = exit_thread_spots P names node place (part names a) (part_spots x)
    library_spots t.self_id node place = one_spots P names node place [] _ _ tt
    library_spots (t.equal {left = a} {right = b} x y) node place = equal_spots P names node place (part names a) (part names b) (part_spots x) (part_spots y)
    library_spots (t.init {place = a} x) node place = on_one_spots P names node place does.Init (part names a) (part_spots x)
    library_spots (t.destroy {place = a} x) node place = on_one_spots P names node place does.Destroy (part names a) (part_spots x)
    library_spots (t.lock {place = a} x) node place = on_one_spots P names node place does.Lock (part names a) (part_spots x)
    library_spots (t.unlock {place = a} x) node place = on_one_spots P names node place does.Unlock (part names a) (part_spots x)
    library_spots (t.signal {place = a} x) node place = on_one_spots P names node place does.Signal (part names a) (part_spots x)
    library_spots (t.wait {cond = a} {mutex = b} x y) node place = wait_spots P names node place (part names a) (part names b) (part_spots x) (part_spots y)
    library_spots (t.allocate {type = u} {size = None} {zeroed = zeroed} there) node place = allocate_spots P names node place u None zeroed tt
    library_spots (t.allocate {type = u} {size = Some e} {zeroed = zeroed} there) node place = allocate_spots P names node place u (Some (part names e)) zeroed (part_spots (there e refl))
    library_spots (t.free {pointer = a} x) node place = on_one_spots P names node place does.Free (part names a) (part_spots x)
    library_spots (t.exit {status = None} there) node place = exit_spots P names node place None tt
    library_spots (t.exit {status = Some e} there) node place = exit_spots P names node place (Some (part names e)) (part_spots (there e refl))
    library_spots (t.scan {pointer = a} x) node place = scan_spots P names node place (part names a) (part_spots x)
    library_spots (t.print {format = a} {arguments = xs} x each) node place =
        print_spots P names node place (part names a) (map (part names) xs) (part_spots x) (each_part xs (λ a is. part_spots (each a is)))
    library_spots (t.compute {arguments = xs} each) node place = compute_spots P names node place (map (part names) xs) (each_part xs (λ a is. part_spots (each a is)))
