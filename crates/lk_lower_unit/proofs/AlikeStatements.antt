-- Each statement and each initialiser has the same steps whatever the numbers are.
use Rattle.std.proofs.Common.{ap, sym, subst, ◌∙◌, ◌≡◌, ◌+◌, ℕ, Option, None, Some, List, [], ◌∷◌, ◌++◌, length, length-append, map, refl}
use Rattle.std.specs.Prelude.{suc, false}
use Rattle.lk_base.specs.declared.cell.CellStep.{CellStep}
use Rattle.lk_base.specs.declared.cell.CellStep.TheVariants.{Field, Index}
use Rattle.lk_base.specs.declared.spot.Spot.{Spot}
use Rattle.lk_facts.specs.declared.action.Action.{Action}
use Rattle.lk_facts.specs.declared.action.Action.TheVariants as does
use Rattle.lk_facts.specs.declared.place.Place.{Place}
use Rattle.lk_lower_expr.specs.Expressions.{part}
use Rattle.lk_lower_expr.specs.Initialisers as initialisers
use Rattle.lk_lower_expr.specs.Names.{Names, Node}
use Rattle.lk_lower_expr.specs.Parts.{Part}
use Rattle.lk_lower_expr.specs.Statements as rules
use Rattle.lk_lower_expr.specs.Statements.{Flow, all_in, body_walk, flow, form_flow, item_flow, of_form, of_item, of_stmt, to}
use Rattle.lk_lower_expr.specs.Statics.{all_ended, ended, pointers_deeds, static_walk}
use Rattle.lk_lower_expr.specs.Statics as statics
use Rattle.lk_lower_expr.specs.Walk.{Walk, nothing, own, ◌then◌}
use Rattle.lk_lower_expr.specs.declared.goals.Goals.{Goals}
use Rattle.lk_lower_expr.specs.declared.step.Deed.{Deed}
use Rattle.lk_lower_expr.specs.declared.step.Step.{Step}
use Rattle.lk_lower_unit.proofs.Alike.{Alike, AlikeNames, AlikeParts, AlikeSlots, goes_alike}
use Rattle.lk_lower_unit.proofs.AlikeTrees.{parts_alike}
use Rattle.lk_lower_unit.specs.Pointers.{pointer_deeds, pointer_walk}
use Rattle.lk_typed.specs.declared.expression.Storage.TheVariants as storage
use Rattle.lk_typed.specs.declared.expression.TypedExpr.{TypedExpr}
use Rattle.lk_typed.specs.declared.initialiser.AbsentCells.{AbsentCells}
use Rattle.lk_typed.specs.declared.initialiser.LocalPart.{LocalPart}
use Rattle.lk_typed.specs.declared.initialiser.LocalValue.{LocalValue}
use Rattle.lk_typed.specs.declared.initialiser.LocalValue.TheVariants as value
use Rattle.lk_typed.specs.declared.initialiser.StaticPart.{StaticPart}
use Rattle.lk_typed.specs.declared.statement.LocalInit.{LocalInit}
use Rattle.lk_typed.specs.declared.statement.TypedFirst.{TypedFirst}
use Rattle.lk_typed.specs.declared.statement.TypedFirst.TheVariants as for_first
use Rattle.lk_typed.specs.declared.statement.TypedItem.{TypedItem, roll-TypedItem}
use Rattle.lk_typed.specs.declared.statement.TypedItem.TheFolds.{fold-roll-TypedItem, fold-roll-TypedStmt, fold-roll-TypedStmtForm, ind-TypedStmt, map-TypedItem, map-TypedStmtForm}
use Rattle.lk_typed.specs.declared.statement.TypedItem.TheOpen.{TypedItem-F, TypedStmtForm-F, TypedStmt-F}
use Rattle.lk_typed.specs.declared.statement.TypedStmt.{TypedStmt, roll-TypedStmt}
use Rattle.lk_typed.specs.declared.statement.TypedStmtForm.{TypedStmtForm, roll-TypedStmtForm}

abbrev With : {A : Type 0} → (A → Type 0) → Type 0
With {A} Q = (a : A) × Q a

-- ---- lists of steps

pub joined : {A : Type 0} (xs ys vs ws : List A) → length xs ≡ length vs → length ys ≡ length ws → length (xs ++ ys) ≡ length (vs ++ ws)
joined xs ys vs ws left right = length-append xs ys ∙ ap (λ n. n + length ys) left ∙ ap (λ n. length vs + n) right ∙ sym (length-append vs ws)

numbered_counted : (at : ℕ → ℕ) (spot : Spot) (k : ℕ) (deeds : List Deed) (on : ℕ) → length (initialisers.numbered at spot k deeds on) ≡ length deeds
numbered_counted at spot k [] on = refl
numbered_counted at spot k (deed ∷ []) on = refl
numbered_counted at spot k (deed ∷ (next ∷ others)) on = ap suc (numbered_counted at spot (suc k) (next ∷ others) on)

ended_counted : (steps : List Step) → length (map ended steps) ≡ length steps
ended_counted [] = refl
ended_counted (step ∷ steps) = ap suc (ended_counted steps)

pub ended_alike : (w v : Walk) → Alike w v → Alike (all_ended w) (all_ended v)
ended_alike nothing nothing is = tt
ended_alike nothing (own p t) is = absurd is
ended_alike nothing (c then d) is = absurd is
ended_alike (own o s) nothing is = absurd is
ended_alike (own o s) (own p t) is = (is.0, ended_counted s ∙ is.1 ∙ sym (ended_counted t))
ended_alike (own o s) (c then d) is = absurd is
ended_alike (a then b) nothing is = absurd is
ended_alike (a then b) (own p t) is = absurd is
ended_alike (a then b) (c then d) is = (ended_alike a c is.0, ended_alike b d is.1)

module _ (n m : Names) (names : AlikeNames n m) where
  -- ---- initialisers: at a declared name on each side

  module _ (node edon : Node) (root toor : ℕ) where
    along_alike : (k t u : ℕ) (path : List CellStep) → length (initialisers.along n node k t path) ≡ length (initialisers.along m edon k u path)
    along_alike k t u [] = refl
    along_alike k t u (Field f ∷ path) = ap suc (along_alike (suc k) _ _ path)
    along_alike k t u (Index i ∷ path) = ap (λ c. suc (suc c)) (along_alike (suc (suc k)) _ _ path)

    settled_alike : (k : ℕ) (path : List CellStep) (c d : Option ℕ) (x y : ℕ → Action) → length (initialisers.settled n node root k path c x) ≡ length (initialisers.settled m edon toor k path d y)
    settled_alike k path c d x y = ap suc (joined _ _ _ _ (along_alike k _ _ path) refl)

    texts_alike : (k : ℕ) (path : List CellStep) (text i : ℕ) (bytes : List ℕ) → length (initialisers.text_deeds n node root k path text i bytes) ≡ length (initialisers.text_deeds m edon toor k path text i bytes)
    texts_alike k path text i [] = refl
    texts_alike k path text i (byte ∷ others) = joined
        (initialisers.settled n node root k (path ++ (Index i ∷ [])) (Some (n.at text i)) (λ pointer. does.Write pointer (n.at text i) false))
        (initialisers.text_deeds n node root (initialisers.past_part k (path ++ (Index i ∷ []))) path text (suc i) others)
        (initialisers.settled m edon toor k (path ++ (Index i ∷ [])) (Some (m.at text i)) (λ pointer. does.Write pointer (m.at text i) false))
        (initialisers.text_deeds m edon toor (initialisers.past_part k (path ++ (Index i ∷ []))) path text (suc i) others)
        (settled_alike k (path ++ (Index i ∷ [])) (Some (n.at text i)) (Some (m.at text i)) (λ pointer. does.Write pointer (n.at text i) false) (λ pointer. does.Write pointer (m.at text i) false))
        (texts_alike (initialisers.past_part k (path ++ (Index i ∷ []))) path text (suc i) others)

    part_alike : (k : ℕ) (path : List CellStep) (is : LocalValue) → length (initialisers.part_deeds n node root k path is) ≡ length (initialisers.part_deeds m edon toor k path is)
    part_alike k path (value.Expr e) =
        settled_alike k path (Some (part n e).first) (Some (part m e).first) (λ pointer. does.Write pointer (part n e).value false) (λ pointer. does.Write pointer (part m e).value false)
    part_alike k path (value.Text spot text bytes) = texts_alike k path text 0 bytes
    part_alike k path value.Ready = settled_alike k path None None does.Init does.Init

    parts_alike_from : (named : List LocalPart) (k j : ℕ) → k ≡ j → length (initialisers.parts_deeds n node root k named) ≡ length (initialisers.parts_deeds m edon toor j named)
    parts_alike_from [] k j same = refl
    parts_alike_from (one ∷ others) k j same = subst (λ i. length (initialisers.parts_deeds n node root k (one ∷ others)) ≡ length (initialisers.parts_deeds m edon toor i (one ∷ others))) same
        (joined _ _ _ _ (part_alike k one.path one.value) (parts_alike_from others _ _ (ap (λ c. k + c) (part_alike k one.path one.value))))

    fills_alike : (place ecalp : List CellStep → Place) (k j : ℕ) (absent : List AbsentCells) → k ≡ j →
        length (initialisers.fills_deeds n node place root k absent) ≡ length (initialisers.fills_deeds m edon ecalp toor j absent)
    fills_alike place ecalp k j [] same = refl
    fills_alike place ecalp k j (cells ∷ others) same =
        subst (λ i. length (initialisers.fills_deeds n node place root k (cells ∷ others)) ≡ length (initialisers.fills_deeds m edon ecalp toor i (cells ∷ others))) same
        (joined
        (initialisers.settled n node root k cells.first None (λ pointer. does.Fill pointer (place cells.first) cells.named))
        (initialisers.fills_deeds n node place root (initialisers.past_part k cells.first) others)
        (initialisers.settled m edon toor k cells.first None (λ pointer. does.Fill pointer (ecalp cells.first) cells.named))
        (initialisers.fills_deeds m edon ecalp toor (initialisers.past_part k cells.first) others)
        (settled_alike k cells.first None None (λ pointer. does.Fill pointer (place cells.first) cells.named) (λ pointer. does.Fill pointer (ecalp cells.first) cells.named))
        (fills_alike place ecalp (initialisers.past_part k cells.first) (initialisers.past_part k cells.first) others refl))

    bytes_counted : (o : Names) (at : Node) (spot : Spot) (k t : ℕ) (path : List CellStep) (i : ℕ) (bytes : List ℕ) → length (initialisers.byte_steps o at spot k t path i bytes) ≡ length bytes
    bytes_counted o at spot k t path i [] = refl
    bytes_counted o at spot k t path i (byte ∷ others) = ap suc (bytes_counted o at spot _ t path (suc i) others)

    value_alike : (k j t u : ℕ) (path : List CellStep) (is : LocalValue) → Alike (initialisers.value_walk n node k t path is) (initialisers.value_walk m edon j u path is)
    value_alike k j t u path (value.Expr e) = goes_alike (part n e) (part m e) (parts_alike n m names e) _ _
    value_alike k j t u path (value.Text spot text bytes) = (refl, bytes_counted n node spot k _ path 0 bytes ∙ sym (bytes_counted m edon spot j _ path 0 bytes))
    value_alike k j t u path value.Ready = tt

    values_alike : (named : List LocalPart) (k j : ℕ) → Alike (initialisers.values_walk n node root k named) (initialisers.values_walk m edon toor j named)
    values_alike [] k j = tt
    values_alike (one ∷ others) k j = (values_alike others _ _, value_alike k j _ _ one.path one.value)

    -- ---- of static storage

    pointer_alike : (k : ℕ) (path : List CellStep) (e : Option TypedExpr) → length (pointer_deeds n node root k path e) ≡ length (pointer_deeds m edon toor k path e)
    pointer_alike k path None = refl
    pointer_alike k path (Some e) =
        settled_alike k path (Some (part n e).first) (Some (part m e).first) (λ pointer. does.Write pointer (part n e).value false) (λ pointer. does.Write pointer (part m e).value false)

    pointers_alike : (parts : List StaticPart) (k j : ℕ) → k ≡ j → length (pointers_deeds n node root k parts) ≡ length (pointers_deeds m edon toor j parts)
    pointers_alike [] k j same = refl
    pointers_alike (one ∷ others) k j same =
        subst (λ i. length (pointers_deeds n node root k (one ∷ others)) ≡ length (pointers_deeds m edon toor i (one ∷ others))) same
        (joined _ _ _ _ (pointer_alike k one.path one.pointer) (pointers_alike others _ _ (ap (λ c. k + c) (pointer_alike k one.path one.pointer))))

    pointer_walk_alike : (k j : ℕ) (path : List CellStep) (e : Option TypedExpr) → Alike (pointer_walk n node k path e) (pointer_walk m edon j path e)
    pointer_walk_alike k j path None = tt
    pointer_walk_alike k j path (Some e) = goes_alike (part n e) (part m e) (parts_alike n m names e) _ _

    pointer_walks_alike : (parts : List StaticPart) (k j : ℕ) → Alike (statics.values_walk n node root k parts) (statics.values_walk m edon toor j parts)
    pointer_walks_alike [] k j = tt
    pointer_walks_alike (one ∷ others) k j = (pointer_walks_alike others _ _, pointer_walk_alike k j one.path one.pointer)

  -- the initialiser of an object of static storage
  pub static_alike : (node : Node) (root toor : ℕ) (parts : List StaticPart) → Alike (static_walk n node root parts) (static_walk m node toor parts)
  static_alike node root toor parts =
      ended_alike (own node.ordinal (initialisers.numbered (n.at node.ordinal) node.spot 0 (pointers_deeds n node root 0 parts) 0) then statics.values_walk n node root 0 parts) (own node.ordinal (initialisers.numbered (m.at node.ordinal) node.spot 0 (pointers_deeds m node toor 0 parts) 0) then statics.values_walk m node toor 0 parts)
      ((refl, counted), pointer_walks_alike node node root toor parts 0 0)
    where
      counted : length (initialisers.numbered (n.at node.ordinal) node.spot 0 (pointers_deeds n node root 0 parts) 0) ≡ length (initialisers.numbered (m.at node.ordinal) node.spot 0 (pointers_deeds m node toor 0 parts) 0)
      counted =
          numbered_counted (n.at node.ordinal) node.spot 0 (pointers_deeds n node root 0 parts) 0 ∙ pointers_alike node node root toor parts 0 0 refl ∙
          sym (numbered_counted (m.at node.ordinal) node.spot 0 (pointers_deeds m node toor 0 parts) 0)

  -- ---- statements

  abbrev pub AlikeFlows : Flow → Flow → Type 0
  AlikeFlows a b = (go og : Goals) → Alike (a.all go) (b.all og)

  module _ (places secalp : ℕ → List CellStep → Place) where
    slot_alike : (local s t : ℕ) (a b : Part) → AlikeParts a b → AlikeFlows (rules.slot_flow n local s a) (rules.slot_flow m local t b)
    slot_alike local s t a b is go og = ((names.declared local, refl), goes_alike a b is _ _)

    value_flow_alike : (local s t : ℕ) (is : LocalValue) → AlikeFlows (rules.value_flow n local s is) (rules.value_flow m local t is)
    value_flow_alike local s t (value.Expr e) go og = slot_alike local s t _ _ (parts_alike n m names e) go og
    value_flow_alike local s t (value.Text spot text bytes) go og = tt
    value_flow_alike local s t value.Ready go og = tt

    whole_alike : (local s t : ℕ) (named : List LocalPart) → AlikeFlows (rules.whole_flow n local s named) (rules.whole_flow m local t named)
    whole_alike local s t [] go og = tt
    whole_alike local s t (one ∷ others) go og = value_flow_alike local s t one.value go og

    deeds_of : Names → (ℕ → List CellStep → Place) → ℕ → List LocalPart → List AbsentCells → List Deed
    deeds_of o p local named absent =
        let node = o.declared local in
        let root = o.object (storage.Local local) in
        let deeds = initialisers.parts_deeds o node root 0 named in deeds ++ initialisers.fills_deeds o node (p local) root (length deeds) absent

    object_counted : (local : ℕ) (named : List LocalPart) (absent : List AbsentCells) → length (deeds_of n places local named absent) ≡ length (deeds_of m secalp local named absent)
    unfolding deeds_of
    object_counted local named absent =
        let node = n.declared local in
        let edon = m.declared local in
        let root = n.object (storage.Local local) in
        let toor = m.object (storage.Local local) in
        let parts = parts_alike_from node edon root toor named 0 0 refl in
        joined (initialisers.parts_deeds n node root 0 named) (initialisers.fills_deeds n node (places local) root (length (initialisers.parts_deeds n node root 0 named)) absent)
        (initialisers.parts_deeds m edon toor 0 named) (initialisers.fills_deeds m edon (secalp local) toor (length (initialisers.parts_deeds m edon toor 0 named)) absent)
        parts (fills_alike node edon root toor (places local) (secalp local) _ _ absent parts)

    object_alike : (local : ℕ) (named : List LocalPart) (absent : List AbsentCells) → AlikeFlows (rules.object_flow n places local named absent) (rules.object_flow m secalp local named absent)
    unfolding deeds_of
    object_alike local named absent go og = (
      (names.declared local, steps),
      values_alike (n.declared local) (m.declared local) (n.object (storage.Local local)) (m.object (storage.Local local)) named 0 0,
    )
      where
        steps : length (initialisers.numbered (n.at (n.declared local).ordinal) (n.declared local).spot 0 (deeds_of n places local named absent) go.next) ≡
            length (initialisers.numbered (m.at (m.declared local).ordinal) (m.declared local).spot 0 (deeds_of m secalp local named absent) og.next)
        steps =
            numbered_counted (n.at (n.declared local).ordinal) (n.declared local).spot 0 (deeds_of n places local named absent) go.next ∙ object_counted local named absent ∙
            sym (numbered_counted (m.at (m.declared local).ordinal) (m.declared local).spot 0 (deeds_of m secalp local named absent) og.next)

    init_by_alike : (s t : Option ℕ) (one : LocalInit) → AlikeSlots s t → AlikeFlows (rules.init_by n places s one) (rules.init_by m secalp t one)
    init_by_alike None None one slots go og = object_alike one.local one.named one.absent go og
    init_by_alike None (Some t) one slots go og = absurd slots
    init_by_alike (Some s) None one slots go og = absurd slots
    init_by_alike (Some s) (Some t) one slots go og = whole_alike one.local s t one.named go og

    inits_alike : (list : List LocalInit) → AlikeFlows (rules.inits_flow n places list) (rules.inits_flow m secalp list)
    inits_alike [] go og = tt
    inits_alike (one ∷ others) go og = (init_by_alike (n.slot one.local) (m.slot one.local) one (names.slot one.local) _ _, inits_alike others go og)

    expression_alike : (e : Option TypedExpr) → AlikeFlows (rules.expression_flow n e) (rules.expression_flow m e)
    expression_alike None go og = tt
    expression_alike (Some e) go og = goes_alike (part n e) (part m e) (parts_alike n m names e) _ _

    first_alike : (is : TypedFirst) → AlikeFlows (rules.first_flow n places is) (rules.first_flow m secalp is)
    first_alike (for_first.Expr e) = expression_alike e
    first_alike (for_first.Declare list) = inits_alike list

    goes_of_alike : (e : Option TypedExpr) (on off : ℕ) → Alike (rules.goes_of (rules.part_of n e) on) (rules.goes_of (rules.part_of m e) off)
    goes_of_alike None on off = tt
    goes_of_alike (Some e) on off = goes_alike (part n e) (part m e) (parts_alike n m names e) on off

    for_steps_alike : (spot : Spot) (e : Option TypedExpr) (body past ydob tsap : ℕ) → length (rules.for_steps spot (rules.part_of n e) body past) ≡ length (rules.for_steps spot (rules.part_of m e) ydob tsap)
    for_steps_alike spot None body past ydob tsap = refl
    for_steps_alike spot (Some e) body past ydob tsap = refl

    return_alike : (o : ℕ) (spot : Spot) (e : Option TypedExpr) → AlikeFlows (rules.return_flow n o spot (rules.part_of n e)) (rules.return_flow m o spot (rules.part_of m e))
    return_alike o spot None go og = (refl, refl)
    return_alike o spot (Some e) go og = ((refl, refl), goes_alike (part n e) (part m e) (parts_alike n m names e) _ _)

    -- ---- one layer, where the statements in it are alike

    abbrev PStmt : TypedStmt → Type 0
    PStmt s = AlikeFlows (flow n places s) (flow m secalp s)

    abbrev PForm : TypedStmtForm → Type 0
    PForm f = (o : ℕ) (spot : Spot) → AlikeFlows (form_flow n places f o spot) (form_flow m secalp f o spot)

    abbrev PItem : TypedItem → Type 0
    PItem i = AlikeFlows (item_flow n places i) (item_flow m secalp i)

    abbrev FormFlow : Type 0
    FormFlow = ℕ → Spot → Flow

    items_alike : (items : List (With PItem)) → AlikeFlows (rules.in_turn (map (item_flow n places) (map (λ a. a.0) items))) (rules.in_turn (map (item_flow m secalp) (map (λ a. a.0) items)))
    items_alike [] go og = tt
    items_alike (item ∷ items) go og = (item.1 _ _, items_alike items go og)

    abbrev item_below : TypedItem-F (With PItem) (With PForm) (With PStmt) → TypedItem-F TypedItem TypedStmtForm TypedStmt
    item_below = map-TypedItem (With PItem) (With PForm) (With PStmt) TypedItem TypedStmtForm TypedStmt (λ a. a.0) (λ a. a.0) (λ a. a.0)

    abbrev form_below : TypedStmtForm-F (With PItem) (With PForm) (With PStmt) → TypedStmtForm-F TypedItem TypedStmtForm TypedStmt
    form_below = map-TypedStmtForm (With PItem) (With PForm) (With PStmt) TypedItem TypedStmtForm TypedStmt (λ a. a.0) (λ a. a.0) (λ a. a.0)

    abbrev item_by : Names → (ℕ → List CellStep → Place) → TypedItem-F TypedItem TypedStmtForm TypedStmt → Flow
    item_by o p x = of_item o p (map-TypedItem TypedItem TypedStmtForm TypedStmt Flow FormFlow Flow (item_flow o p) (form_flow o p) (flow o p) x)

    abbrev form_by : Names → (ℕ → List CellStep → Place) → TypedStmtForm-F TypedItem TypedStmtForm TypedStmt → FormFlow
    form_by o p x = of_form o p (map-TypedStmtForm TypedItem TypedStmtForm TypedStmt Flow FormFlow Flow (item_flow o p) (form_flow o p) (flow o p) x)

    in_item : (y : TypedItem-F (With PItem) (With PForm) (With PStmt)) → AlikeFlows (item_by n places (item_below y)) (item_by m secalp (item_below y))
    in_item (TypedItem-F.Declare list) = inits_alike list
    in_item (TypedItem-F.Stmt a) = a.1

    in_form : (y : TypedStmtForm-F (With PItem) (With PForm) (With PStmt)) (o : ℕ) (spot : Spot) → AlikeFlows (form_by n places (form_below y) o spot) (form_by m secalp (form_below y) o spot)
    in_form (TypedStmtForm-F.Label a) o spot = λ go og. ((refl, refl), a.1 _ _)
    in_form (TypedStmtForm-F.Case a) o spot = λ go og. a.1 _ _
    in_form (TypedStmtForm-F.Default a) o spot = λ go og. a.1 _ _
    in_form (TypedStmtForm-F.Block items) o spot = items_alike items
    in_form (TypedStmtForm-F.Do e) o spot = expression_alike e
    in_form (TypedStmtForm-F.If c a None) o spot = λ go og. ((refl, refl), (goes_alike _ _ (parts_alike n m names c) _ _, (a.1 _ _, tt)))
    in_form (TypedStmtForm-F.If c a (Some b)) o spot = λ go og. ((refl, refl), (goes_alike _ _ (parts_alike n m names c) _ _, (a.1 _ _, b.1 _ _)))
    in_form (TypedStmtForm-F.Switch v cases default a) o spot = λ go og. ((refl, refl), (goes_alike _ _ (parts_alike n m names v) _ _, a.1 _ _))
    in_form (TypedStmtForm-F.While c a) o spot = λ go og. ((refl, refl), (goes_alike _ _ (parts_alike n m names c) _ _, a.1 _ _))
    in_form (TypedStmtForm-F.Until a c) o spot = λ go og. ((refl, refl), (a.1 _ _, goes_alike _ _ (parts_alike n m names c) _ _))
    in_form (TypedStmtForm-F.For f c s a) o spot = λ go og. ((refl, for_steps_alike spot c _ _ _ _), (first_alike f _ _, (goes_of_alike c _ _, (goes_of_alike s _ _, a.1 _ _))))
    in_form (TypedStmtForm-F.Goto label) o spot = λ go og. tt
    in_form TypedStmtForm-F.Continue o spot = λ go og. tt
    in_form TypedStmtForm-F.Break o spot = λ go og. tt
    in_form (TypedStmtForm-F.Return e) o spot = return_alike o spot e

    -- ---- what the folds give

    item_rolled : (o : Names) (p : ℕ → List CellStep → Place) (x : TypedItem-F TypedItem TypedStmtForm TypedStmt) → item_flow o p (roll-TypedItem x) ≡ item_by o p x
    unfolding flow form_flow item_flow
    item_rolled o p x = fold-roll-TypedItem Flow FormFlow Flow (of_item o p) (of_form o p) (of_stmt o p) x

    form_rolled : (o : Names) (p : ℕ → List CellStep → Place) (x : TypedStmtForm-F TypedItem TypedStmtForm TypedStmt) → form_flow o p (roll-TypedStmtForm x) ≡ form_by o p x
    unfolding flow form_flow item_flow
    form_rolled o p x = fold-roll-TypedStmtForm Flow FormFlow Flow (of_item o p) (of_form o p) (of_stmt o p) x

    stmt_rolled : (o : Names) (p : ℕ → List CellStep → Place) (x : TypedStmt-F TypedItem TypedStmtForm TypedStmt) → flow o p (roll-TypedStmt x) ≡ form_flow o p x.form x.ordinal x.spot
    unfolding flow form_flow item_flow
    stmt_rolled o p x = fold-roll-TypedStmt Flow FormFlow Flow (of_item o p) (of_form o p) (of_stmt o p) x

    both_by : {A : Type 0} (R : A → A → Type 0) (a b c d : A) → a ≡ c → b ≡ d → R c d → R a b
    both_by R a b c d left right is = subst (λ x. R x b) (sym left) (subst (λ y. R c y) (sym right) is)

    item_step : (x : TypedItem-F TypedItem TypedStmtForm TypedStmt) (y : TypedItem-F (With PItem) (With PForm) (With PStmt)) → item_below y ≡ x → PItem (roll-TypedItem x)
    item_step x y is = both_by AlikeFlows _ _ _ _ (item_rolled n places x) (item_rolled m secalp x) (subst (λ z. AlikeFlows (item_by n places z) (item_by m secalp z)) is (in_item y))

    form_step : (x : TypedStmtForm-F TypedItem TypedStmtForm TypedStmt) (y : TypedStmtForm-F (With PItem) (With PForm) (With PStmt)) → form_below y ≡ x → PForm (roll-TypedStmtForm x)
    form_step x y is o spot =
        both_by AlikeFlows _ _ _ _ (ap (λ (f : FormFlow). f o spot) (form_rolled n places x)) (ap (λ (f : FormFlow). f o spot) (form_rolled m secalp x))
        (subst (λ z. AlikeFlows (form_by n places z o spot) (form_by m secalp z o spot)) is (in_form y o spot))

    stmt_step : (x : TypedStmt-F TypedItem TypedStmtForm TypedStmt) → PForm x.form → PStmt (roll-TypedStmt x)
    stmt_step x form = both_by AlikeFlows _ _ _ _ (stmt_rolled n places x) (stmt_rolled m secalp x) (form x.ordinal x.spot)

    pub flows_alike : (s : TypedStmt) → AlikeFlows (flow n places s) (flow m secalp s)
    flows_alike = ind-TypedStmt PItem PForm PStmt (λ x y is. item_step x y is) (λ x y is. form_step x y is) (λ x y is. stmt_step x (subst PForm (ap (λ z. z.form) is) y.form.1))

    -- the definition of a function
    pub body_alike : (o : ℕ) (spot : Spot) (block : TypedStmt) → Alike (body_walk n places o spot block) (body_walk m secalp o spot block)
    body_alike o spot block = ((refl, refl), flows_alike block _ _)
