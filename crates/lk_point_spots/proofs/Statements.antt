-- The steps of a statement stand at places of the statement, or at declared names of locals.
use Rattle.std.proofs.Common.{◌≡◌, ◌∙◌, inl, inr, ℕ, ◌++◌, Option, None, Some, List, [], ◌∷◌, length, map, refl, sym, ap, subst}
use Rattle.std.specs.Prelude.{⊤}
use Rattle.lk_base.specs.declared.cell.CellStep.{CellStep}
use Rattle.lk_base.specs.declared.spot.Spot.{Spot}
use Rattle.lk_facts.specs.declared.place.Place.{Place}
use Rattle.lk_lower_expr.specs.Expressions.{part}
use Rattle.lk_lower_expr.specs.Initialisers as initialisers
use Rattle.lk_lower_expr.specs.Names.{Names}
use Rattle.lk_lower_expr.specs.Parts.{Part}
use Rattle.lk_lower_expr.specs.Statements as rules
use Rattle.lk_lower_expr.specs.Statements.{Flow, all_in, body_goals, body_walk, first_in, first_or, flow, form_flow, inside_loop, inside_switch, item_flow, of_form, of_item, of_stmt, to}
use Rattle.lk_lower_expr.specs.declared.goals.Goals.{Goals}
use Rattle.lk_spots.specs.Places.{Each, IfThere}
use Rattle.lk_spots.specs.TypedPlaces as t
use Rattle.lk_spots.specs.TypedPlaces.{TypedExprSpots, LocalInitSpots, LocalValueSpots, TypedFirstSpots, TypedStmtSpots, TypedStmtFormSpots, TypedItemSpots, TypedItemFormSpots}
use Rattle.lk_typed.specs.Stands.{IsIn}
use Rattle.lk_typed.specs.declared.expression.Storage.TheVariants as storage
use Rattle.lk_typed.specs.declared.expression.TypedExpr.{TypedExpr}
use Rattle.lk_typed.specs.declared.initialiser.AbsentCells.{AbsentCells}
use Rattle.lk_typed.specs.declared.initialiser.LocalPart.{LocalPart}
use Rattle.lk_typed.specs.declared.initialiser.LocalValue.{LocalValue}
use Rattle.lk_typed.specs.declared.statement.LocalInit.{LocalInit}
use Rattle.lk_typed.specs.declared.statement.SwitchCase.{SwitchCase}
use Rattle.lk_typed.specs.declared.statement.TypedFirst.{TypedFirst}
use Rattle.lk_typed.specs.declared.statement.TypedItem.{TypedItem, out-TypedItem}
use Rattle.lk_typed.specs.declared.statement.TypedItem.TheFolds.{fold_out-TypedItem, fold_out-TypedStmt, fold_out-TypedStmtForm, map-TypedItem, map-TypedStmtForm}
use Rattle.lk_typed.specs.declared.statement.TypedItem.TheOpen.{TypedItem-F, TypedStmtForm-F}
use Rattle.lk_typed.specs.declared.statement.TypedStmt.{TypedStmt}
use Rattle.lk_typed.specs.declared.statement.TypedStmtForm.{TypedStmtForm, out-TypedStmtForm}
use Rattle.lk_point_spots.proofs.Calls.{OptionalSpots}
use Rattle.lk_point_spots.proofs.Declared.{numbered_spots, values_spots}
use Rattle.lk_point_spots.proofs.Expressions.{part_spots}
use Rattle.lk_point_spots.proofs.Walks.{StepsSpots, WalkSpots, PartSpots, goes_spots}

module _ (P : Spot → Type 0) where
  pub record FlowSpots (a : Flow) : Type 0 where
    pub steps : (go : Goals) → WalkSpots P (a.all go)

  leads_spots : (goal : Goals → ℕ) → FlowSpots (rules.leads goal)
  leads_spots goal = record { steps = λ go. tt }

  -- ---- statements one after the other

  abbrev FlowsSpots : List Flow → Type 0
  FlowsSpots [] = ⊤
  FlowsSpots (a ∷ others) = FlowSpots a × FlowsSpots others

  all_in_spots : (flows : List Flow) (go : Goals) → FlowsSpots flows → WalkSpots P (all_in flows go)
  all_in_spots [] go all = tt
  all_in_spots (a ∷ others) go all = (all.0.steps (to (first_in others go) go), all_in_spots others go all.1)

  in_turn_spots : (flows : List Flow) → FlowsSpots flows → FlowSpots (rules.in_turn flows)
  in_turn_spots flows all = record { steps = λ go. all_in_spots flows go all }

  computed_spots : (a : Part) → PartSpots P a → FlowSpots (rules.computed a)
  computed_spots a x = record { steps = λ go. goes_spots P a go.next x }

  case_spots : (o : ℕ) (a : Flow) → FlowSpots a → FlowSpots (rules.case_flow o a)
  case_spots o a x = record { steps = x.steps }

  for_steps_spots : (spot : Spot) (c : Option Part) (body past : ℕ) → P spot → StepsSpots P (rules.for_steps spot c body past)
  for_steps_spots spot None body past place = (place, tt)
  for_steps_spots spot (Some c) body past place = (place, (place, tt))

  goes_of_spots : (a : Option Part) (on : ℕ) → OptionalSpots P a → WalkSpots P (rules.goes_of a on)
  goes_of_spots None on x = tt
  goes_of_spots (Some a) on x = goes_spots P a on x

  -- ---- statements of one node

  module _ (names : Names) (o : ℕ) (spot : Spot) (place : P spot) where
    label_spots : (a : Flow) → FlowSpots a → FlowSpots (rules.label_flow names o spot a)
    label_spots a x = record { steps = λ go. ((place, tt), x.steps go) }

    if_spots : (c : Part) (a b : Flow) → PartSpots P c → FlowSpots a → FlowSpots b → FlowSpots (rules.if_flow names o spot c a b)
    if_spots c a b x y z = record { steps = λ go. ((place, tt), (goes_spots P c (names.at o 0) x, (y.steps go, z.steps go))) }

    switch_spots : (v : Part) (cases : List SwitchCase) (default : Option ℕ) (a : Flow) → PartSpots P v → FlowSpots a → FlowSpots (rules.switch_flow names o spot v cases default a)
    switch_spots v cases default a x y = record { steps = λ go. ((place, tt), (goes_spots P v (names.at o 0) x, y.steps (inside_switch go))) }

    while_spots : (c : Part) (a : Flow) → PartSpots P c → FlowSpots a → FlowSpots (rules.while_flow names o spot c a)
    while_spots c a x y = record { steps = λ go. ((place, (place, tt)), (goes_spots P c (names.at o 1) x, y.steps (inside_loop (names.at o 0) go))) }

    until_spots : (a : Flow) (c : Part) → FlowSpots a → PartSpots P c → FlowSpots (rules.until_flow names o spot a c)
    until_spots a c x y = record { steps = λ go. ((place, (place, tt)), (x.steps (inside_loop c.first go), goes_spots P c (names.at o 1) y)) }

    for_spots : (f : Flow) (c s : Option Part) (a : Flow) → FlowSpots f → OptionalSpots P c → OptionalSpots P s → FlowSpots a → FlowSpots (rules.for_flow names o spot f c s a)
    for_spots f c s a x y z w = record {
      steps = λ go. (
        for_steps_spots spot c (a.first (inside_loop (first_or s (names.at o 0)) go)) go.next place,
        (
          x.steps (to (names.at o 0) go),
          (goes_of_spots c (names.at o 1) y, (goes_of_spots s (names.at o 0) z, w.steps (inside_loop (first_or s (names.at o 0)) go))),
        ),
      );
    }

    return_spots : (a : Option Part) → OptionalSpots P a → FlowSpots (rules.return_flow names o spot a)
    return_spots None x = record { steps = λ go. (place, tt) }
    return_spots (Some a) x = record { steps = λ go. ((place, tt), goes_spots P a (names.at o 0) x) }

  module _ (names : Names) where
    expression_spots : (e : Option TypedExpr) → IfThere (TypedExprSpots P) e → FlowSpots (rules.expression_flow names e)
    expression_spots None there = leads_spots (λ go. go.next)
    expression_spots (Some e) there = computed_spots (part names e) (part_spots P names (there e refl))

    optional_spots : (e : Option TypedExpr) → IfThere (TypedExprSpots P) e → OptionalSpots P (rules.part_of names e)
    optional_spots None there = tt
    optional_spots (Some e) there = part_spots P names (there e refl)

  -- ---- locals, where each declared name stands at such a place

  module _ (names : Names) (place : ℕ → List CellStep → Place) (declared : (l : ℕ) → P (names.declared l).spot) where
    value_flow_spots : (local slot : ℕ) {is : LocalValue} → LocalValueSpots P is → FlowSpots (rules.value_flow names local slot is)
    value_flow_spots local slot (t.given {e = e} x) =
        record { steps = λ go. ((declared local, tt), goes_spots P (part names e) (names.at (names.declared local).ordinal 0) (part_spots P names x)) }
    value_flow_spots local slot (t.bytes at) = leads_spots (λ go. go.next)
    value_flow_spots local slot t.ready = leads_spots (λ go. go.next)

    whole_spots : (local slot : ℕ) (named : List LocalPart) → Each (λ (one : LocalPart). LocalValueSpots P one.value) named → FlowSpots (rules.whole_flow names local slot named)
    whole_spots local slot [] each = leads_spots (λ go. go.next)
    whole_spots local slot (one ∷ others) each = value_flow_spots local slot (each one (inl refl))

    object_spots : (local : ℕ) (named : List LocalPart) (absent : List AbsentCells) → Each (λ (one : LocalPart). LocalValueSpots P one.value) named →
        FlowSpots (rules.object_flow names place local named absent)
    object_spots local named absent each =
        let node = names.declared local in
        let root = names.object (storage.Local local) in
        let deeds = initialisers.parts_deeds names node root 0 named in
        record {
          steps = λ go. (
            numbered_spots P (names.at node.ordinal) node.spot 0 (deeds ++ initialisers.fills_deeds names node (place local) root (length deeds) absent) go.next (declared local),
            values_spots P names node root named 0 each,
          );
        }

    init_by_spots : (slot : Option ℕ) (one : LocalInit) → LocalInitSpots P one → FlowSpots (rules.init_by names place slot one)
    init_by_spots None one each = object_spots one.local one.named one.absent each
    init_by_spots (Some slot) one each = whole_spots one.local slot one.named each

    each_init : (list : List LocalInit) → Each (LocalInitSpots P) list → FlowsSpots (map (rules.init_flow names place) list)
    each_init [] each = tt
    each_init (one ∷ others) each = (init_by_spots (names.slot one.local) one (each one (inl refl)), each_init others (λ a is. each a (inr is)))

    inits_spots : (list : List LocalInit) → Each (LocalInitSpots P) list → FlowSpots (rules.inits_flow names place list)
    inits_spots list each = in_turn_spots (map (rules.init_flow names place) list) (each_init list each)

    first_spots : {f : TypedFirst} → TypedFirstSpots P f → FlowSpots (rules.first_flow names place f)
    first_spots (t.first_value {e = e} there) = expression_spots names e there
    first_spots (t.first_declare {inits = list} each) = inits_spots list each

    -- ---- a layer, with the steps of its parts

    abbrev FormFlow : Type 0
    FormFlow = (o : ℕ) → Spot → Flow

    abbrev form_layer : TypedStmtForm-F TypedItem TypedStmtForm TypedStmt → TypedStmtForm-F Flow FormFlow Flow
    form_layer = map-TypedStmtForm TypedItem TypedStmtForm TypedStmt Flow FormFlow Flow (item_flow names place) (form_flow names place) (flow names place)

    abbrev item_layer : TypedItem-F TypedItem TypedStmtForm TypedStmt → TypedItem-F Flow FormFlow Flow
    item_layer = map-TypedItem TypedItem TypedStmtForm TypedStmt Flow FormFlow Flow (item_flow names place) (form_flow names place) (flow names place)

    stmt_is : (s : TypedStmt) → flow names place s ≡ form_flow names place s.form s.ordinal s.spot
    unfolding flow form_flow item_flow
    stmt_is s = fold_out-TypedStmt Flow FormFlow Flow (of_item names place) (of_form names place) (of_stmt names place) s

    form_is : (f : TypedStmtForm) → form_flow names place f ≡ of_form names place (form_layer (out-TypedStmtForm f))
    unfolding flow form_flow item_flow
    form_is f = fold_out-TypedStmtForm Flow FormFlow Flow (of_item names place) (of_form names place) (of_stmt names place) f

    item_is : (i : TypedItem) → item_flow names place i ≡ of_item names place (item_layer (out-TypedItem i))
    unfolding flow form_flow item_flow
    item_is i = fold_out-TypedItem Flow FormFlow Flow (of_item names place) (of_form names place) (of_stmt names place) i

    each_item : (items : List TypedItem) → ((a : TypedItem) → IsIn a items → FlowSpots (item_flow names place a)) → FlowsSpots (map (item_flow names place) items)
    each_item [] each = tt
    each_item (one ∷ others) each = (each one (inl refl), each_item others (λ a is. each a (inr is)))

    -- ---- statements

    mutual
      pub stmt_spots : {s : TypedStmt} → TypedStmtSpots P s → FlowSpots (flow names place s)
      stmt_spots {s} (t.typed_stmt at form) =
          subst FlowSpots (sym (stmt_is s ∙ ap (λ (f : FormFlow). f s.ordinal s.spot) (form_is s.form))) (form_spots form s.ordinal s.spot at)

      form_spots : {x : TypedStmtForm-F TypedItem TypedStmtForm TypedStmt} → TypedStmtFormSpots P x → (o : ℕ) (spot : Spot) → P spot → FlowSpots (of_form names place (form_layer x) o spot)
      form_spots (t.label {inner = a} x) o spot at = label_spots names o spot at (flow names place a) (stmt_spots x)
      form_spots (t.case {inner = a} x) o spot at = case_spots o (flow names place a) (stmt_spots x)
      form_spots (t.default {inner = a} x) o spot at = case_spots o (flow names place a) (stmt_spots x)
      form_spots (t.block {items = items} each) o spot at = in_turn_spots (map (item_flow names place) items) (each_item items (λ a is. item_spots (each a is)))
      form_spots (t.do_expr {e = e} there) o spot at = expression_spots names e there
      form_spots (t.if_else {e = c} {yes = a} {no = None} x y there) o spot at =
          if_spots names o spot at (part names c) (flow names place a) (rules.otherwise None) (part_spots P names x) (stmt_spots y) (leads_spots (λ go. go.next))
      form_spots (t.if_else {e = c} {yes = a} {no = Some b} x y there) o spot at =
          if_spots names o spot at (part names c) (flow names place a) (flow names place b) (part_spots P names x) (stmt_spots y) (stmt_spots (there b refl))
      form_spots (t.switch {e = v} {cases = cases} {default_ = default} {inner = a} x y) o spot at =
          switch_spots names o spot at (part names v) cases default (flow names place a) (part_spots P names x) (stmt_spots y)
      form_spots (t.while {e = c} {inner = a} x y) o spot at = while_spots names o spot at (part names c) (flow names place a) (part_spots P names x) (stmt_spots y)
      form_spots (t.until {e = c} {inner = a} x y) o spot at = until_spots names o spot at (flow names place a) (part names c) (stmt_spots x) (part_spots P names y)
      form_spots (t.for {start = f} {condition = c} {next = s} {inner = a} x y z w) o spot at =
          for_spots names o spot at (rules.first_flow names place f) (rules.part_of names c) (rules.part_of names s) (flow names place a)
          (first_spots x) (optional_spots names c y) (optional_spots names s z) (stmt_spots w)
      form_spots (t.goto {label_ = label}) o spot at = leads_spots (λ go. names.at label 0)
      form_spots t.continue o spot at = leads_spots (λ go. go.continues)
      form_spots t.break o spot at = leads_spots (λ go. go.breaks)
      form_spots (t.return {e = e} there) o spot at = return_spots names o spot at (rules.part_of names e) (optional_spots names e there)

      item_spots : {i : TypedItem} → TypedItemSpots P i → FlowSpots (item_flow names place i)
      item_spots {i} (t.typed_item form) = subst FlowSpots (sym (item_is i)) (item_form_spots form)

      item_form_spots : {x : TypedItem-F TypedItem TypedStmtForm TypedStmt} → TypedItemFormSpots P x → FlowSpots (of_item names place (item_layer x))
      item_form_spots (t.item_declare {inits = list} each) = inits_spots list each
      item_form_spots (t.item_stmt x) = stmt_spots x

    pub body_spots : (o : ℕ) (spot : Spot) (block : TypedStmt) → P spot → TypedStmtSpots P block → WalkSpots P (body_walk names place o spot block)
    body_spots o spot block at spots = ((at, (at, (at, tt))), (stmt_spots spots).steps (body_goals names place o))
