-- The addresses that the points of static initialisers give: each is right for its point, in the empty context.
use Rattle.std.proofs.Common.{◌≡◌, ℕ, ℤ, Bool, true, false, List, [], ◌∷◌, ◌++◌, map, neg_ℤ, Some, inl, inr, refl, sym, ap, subst, ◌∙◌, length}
use Rattle.std.proofs.lemmas.Bool.{true≢false}
use Rattle.std.proofs.lemmas.Option.{same_Some}
use Rattle.std.specs.List.{slice_get}
use Rattle.lk_arith.specs.declared.operators.Op.TheVariants.{Add, Subtract}
use Rattle.lk_base.specs.declared.cell.CellStep.{CellStep}
use Rattle.lk_base.specs.declared.cell.CellStep.TheVariants.{Field, Index}
use Rattle.lk_base.specs.declared.kind.Kind.{Kind}
use Rattle.lk_base.specs.declared.kind.Kind.TheVariants as kind
use Rattle.lk_birth.specs.Begins.{StartsRight}
use Rattle.lk_cells.specs.Parts.{sel_of, node_along}
use Rattle.lk_facts.specs.EdgeRules.{value, target, place, IsEdge}
use Rattle.lk_facts.specs.EdgeRules.IsEdge.{row}
use Rattle.lk_facts.specs.Initials.{IsMoved, GivesAddress, GivesFunction}
use Rattle.lk_facts.specs.Initials.GivesAddress.{root, text, member, element, index, plus, minus, converted}
use Rattle.lk_facts.specs.Initials.GivesFunction.{function as of_function, converted as function_converted}
use Rattle.lk_facts.specs.Initials.IsMoved.{in_array, of_member, of_object}
use Rattle.lk_facts.specs.Labels.{LabelTable}
use Rattle.lk_facts.specs.Program.{action_at, function_at}
use Rattle.lk_facts.specs.Typed.{GivesForm, IsRootType, IsConversion, Moves}
use Rattle.lk_facts.specs.Typed.IsConversion.{numbers, truth, same, to_void, from_void, threads}
use Rattle.lk_facts.specs.declared.action.Action.TheVariants as action
use Rattle.lk_facts.specs.declared.edge.Edge.{Edge}
use Rattle.lk_facts.specs.declared.edge.Mark.TheVariants.{Plain}
use Rattle.lk_facts.specs.declared.label_entry.LabelName.{LabelName}
use Rattle.lk_facts.specs.declared.program.Program.{Program}
use Rattle.lk_laws.proofs.NodesThere.{function_too}
use Rattle.lk_laws.proofs.RowEnds.{rows_give}
use Rattle.lk_laws.proofs.VoidNodes.{void_too}
use Rattle.lk_laws.specs.FlowLaws.{type_of}
use Rattle.lk_laws.specs.RowLaws.{Joins, JoinsTargets}
use Rattle.lk_right.proofs.Carrying.{carried}
use Rattle.lk_right.proofs.Carrying.Crosses.{stays}
use Rattle.lk_right.proofs.Conversions.{object_type, form_void, form_function, no_function, same_right, to_void_right, from_void_right}
use Rattle.lk_right.proofs.Paths.{place_along}
use Rattle.lk_right.proofs.Pointers.{part_right, field_right}
use Rattle.lk_right.proofs.Rooted.{object_right, function_right as code_right}
use Rattle.lk_right.proofs.Sees.{has_pointer, sees_type, sees_form}
use Rattle.lk_right.specs.Contexts.{Home, home_of}
use Rattle.lk_right.specs.Laws.{IsAnalysed}
use Rattle.lk_right.specs.Right.{IsPlaceAt, IsPointerRight, IsFunctionRight}
use Rattle.lk_types.specs.Equal.{IsAlike}
use Rattle.lk_types.specs.Nodes.{Node, node_of, first}
use Rattle.lk_types.specs.Table.{Table, type_at}
use Rattle.lk_types.specs.Walks.{is_void}
use Rattle.lk_types.specs.declared.c_type.CType.{CType}
use Rattle.lk_types.specs.declared.c_type.CType.TheVariants.{Void, Int, ThreadId, Pointer, Array, Struct}
use Rattle.lk_types.specs.declared.node.Base.TheVariants.{Start}
use Rattle.lk_values.specs.declared.cell.Pointer.{Pointer as PointerTo}
use Rattle.lk_values.specs.declared.value.Value.TheVariants as of

-- paths that end in two elements of one array
last_same : (path : List CellStep) (a b : CellStep) → sel_of a ≡ sel_of b → map sel_of (path ++ a ∷ []) ≡ map sel_of (path ++ b ∷ [])
last_same [] a b same_sel = ap (λ s. s ∷ []) same_sel
last_same (st ∷ path) a b same_sel = ap (λ sels. sel_of st ∷ sels) (last_same path a b same_sel)

-- a pointer moves within its array
moved_same : (front next : List CellStep) (past after : Bool) (n : ℤ) → IsMoved front past n next after → map sel_of front ≡ map sel_of next
moved_same front next past after n (in_array path k m was now by h) = last_same path (Index k) (Index m) refl
moved_same front next past after n (of_member path k was now by h) = refl
moved_same front next past after n (of_object was now by h) = refl

module _ (program : Program) (labels : LabelTable) (es : List Edge) (ok : IsAnalysed program labels es) where
  abbrev table : Table
  table = program.types

  abbrev Alike : ℕ → ℕ → Type 0
  Alike a b = IsAlike program.types.types a b

  abbrev ty : LabelName → ℕ
  ty x = type_of program x

  -- a point gives a value of one type
  one_given : (p : ℕ) (f g : CType) → GivesForm program p f → GivesForm program p g → Some f ≡ Some g
  one_given p f g h k = sym h.2 ∙ (ap (λ t. slice_get table.types t) (same_Some h.0 k.0 (sym h.1 ∙ k.1)) ∙ k.2)

  no_number : (p t : ℕ) (k : Kind) → GivesForm program p (Int k) → GivesForm program p (Pointer t) → ⊥
  no_number p t k h g = absurd (by (one_given p (Int k) (Pointer t) h g))
    where
      by : Some (Int k) ≡ Some (Pointer t) → ⊥
      by h = absurd cc

  no_thread : (p t : ℕ) → GivesForm program p ThreadId → GivesForm program p (Pointer t) → ⊥
  no_thread p t h g = absurd (by (one_given p ThreadId (Pointer t) h g))
    where
      by : Some ThreadId ≡ Some (Pointer t) → ⊥
      by h = absurd cc

  module _ (homes : List Home) where
    -- a pointer to another element is right where this one is
    pub moved_right : (o : ℕ) (path next : List CellStep) (past after : Bool) (X : LabelName → Type 0) (c : List ℕ) → map sel_of path ≡ map sel_of next →
        IsPointerRight program labels es homes (record { part = record { object = o; path = path }; past = past }) X c → IsPointerRight program labels es homes (record { part = record { object = o; path = next }; past = after }) X c
    moved_right o path next past after X c same_place right = record {
      home = right.home;
      lives_in = right.lives_in;
      origin = right.origin;
      place = place_along program right.home.root path next right.origin same_place right.place;
      held_by = right.held_by;
      is = right.is;
      aim = right.aim;
      aims = right.aims;
      flows = right.flows;
    }

    -- ---- the points of static initialisers

    abbrev Stands : ℕ → Type 0
    Stands p = function_at program p ≡ Some (length program.functions)

    abbrev pointer_at : ℕ → List CellStep → Bool → PointerTo
    pointer_at o path past = record { part = record { object = o; path = path }; past = past }

    abbrev IsRightAt : ℕ → ℕ → List CellStep → Bool → Type 0
    IsRightAt p o path past = IsPointerRight program labels es homes (pointer_at o path past) (value program p) []

    -- the object of a root, or a string literal
    whole_right : (p r o : ℕ) → slice_get homes o ≡ Some (home_of r []) → Joins program (place program r) (target program p) → ((x y : LabelName) → place program r x → target program p y → IsEdge program x y Plain) → IsRightAt p o [] false
    whole_right p r o lives joins edge =
        object_right program labels es ok homes r p o [] [] lives joins.0.0 joins.1.0 joins.0.1 joins.1.1 (edge joins.0.0 joins.1.0 joins.0.1 joins.1.1) (λ l named. inl refl)

    -- a member
    member_right : (p a k o : ℕ) (path : List CellStep) → Stands p → action_at program p ≡ Some (action.Field a k) → ((t : ℕ) → GivesForm program a (Pointer t) → IsRightAt a o path false) → IsRightAt p o (path ++ Field k ∷ []) false
    member_right p a k o path stands fields below =
        let is = ok.lowered.typed p (length program.functions) (action.Field a k) fields stands in
        let right = below is.2.0 is.2.1 in
        field_right program labels es ok homes p (length program.functions) a k [] stands fields (pointer_at o path false) right
        (sees_type program labels es ok homes a [] (pointer_at o path false) right is.0 is.2 (form_void program labels es ok is.0 (Struct is.3.0) is.3.1))

    -- the first element of an array, or another one
    element_right : (p a b k o : ℕ) (path : List CellStep) → Stands p → action_at program p ≡ Some (action.Index a b true) → ((t : ℕ) → GivesForm program a (Pointer t) → IsRightAt a o path false) → IsRightAt p o (path ++ Index k ∷ []) false
    element_right p a b k o path stands indexes below =
        let is = ok.lowered.typed p (length program.functions) (action.Index a b true) indexes stands in
        let right = below is.2.0 is.2.1 in
        let leads = sees_form program labels es ok homes a [] (pointer_at o path false) right (Array is.0 is.1) is.2 refl in
        let joins = (rows_give program ok.table ok.in_range ok.lowered).rows p (length program.functions) (action.Index a b true) indexes stands in
        part_right program labels es ok homes p a [] (pointer_at o path false) right leads (Index k) refl joins.0.0 joins.1.0 joins.0.1 joins.1.1
        (row p (length program.functions) (action.Index a b true) indexes stands (refl, joins.0.1, joins.1.1))

    -- a pointer that moves
    shifted_right : (p a b o : ℕ) (path next : List CellStep) (past after : Bool) (n : ℤ) → IsMoved path past n next after → Moves program a b p → ((t : ℕ) → GivesForm program a (Pointer t) → IsRightAt a o path past) →
        ((u v : LabelName) → target program a u → target program p v → IsEdge program u v Plain) → JoinsTargets program (value program a) (value program p) → IsRightAt p o next after
    shifted_right p a b o path next past after n moved moves below edges joins =
        let right = moved_right o path next past after (value program a) [] (moved_same path next past after n moved) (below moves.1.0 moves.1.1) in
        carried program labels es ok Plain (value program a) (value program p) edges joins homes stays (of.Pointer (pointer_at o next after)) (λ has. right) (has_pointer program labels es ok p moves.3.0 moves.3.1)

    module _ (begins : StartsRight program) where
      -- the part that an address leads to is of the type to which its point's pointer leads
      begun_type : (p a r o : ℕ) (path : List CellStep) (past : Bool) (t : ℕ) → Stands p → GivesAddress program p r path past → GivesForm program p (Pointer t) → is_void (type_at table t) ≡ false → slice_get homes o ≡ Some (home_of r []) →
          (right : IsRightAt a o path past) → Alike (ty right.origin) t
      begun_type p a r o path past t stands gives form plain lives right =
          let part = begins p r path past t stands gives form in
          let roots : right.home.root ≡ r = ap (λ (home : Home). home.root) (same_Some right.home (home_of r []) (sym right.lives_in ∙ lives)) in
          let place = subst (λ q. IsPlaceAt program q path right.origin) roots right.place in
          let types : place.ty ≡ part.ty = one_root_type r place.ty part.ty place.of part.of in
          let leads = subst (λ q. node_along table (first (Start q)) path ≡ Some (node_of table right.origin.node)) types place.leads in
          let node = same_Some (node_of table right.origin.node) part.part (sym leads ∙ part.leads) in
          elim part.right [
            | inl void ↦ absurd (true≢false (sym void ∙ plain))
            | inr alike ↦ subst (λ (n : Node). Alike n.type t) (sym node) alike
          ]
        where
          one_root_type : (q s u : ℕ) → IsRootType program q s → IsRootType program q u → s ≡ u
          one_root_type q s u h k = cc

      -- a conversion
      converted_right : (p a to r o : ℕ) (path : List CellStep) (past : Bool) → Stands p → action_at program p ≡ Some (action.Convert a to) → GivesAddress program p r path past → slice_get homes o ≡ Some (home_of r []) →
          ((t : ℕ) → GivesForm program a (Pointer t) → IsRightAt a o path past) → (t : ℕ) → GivesForm program p (Pointer t) → IsConversion program a p → IsRightAt p o path past
      converted_right p a to r o path past stands converts gives lives below t form (numbers from into) = absurd (no_number p t into.0 into.1 form)
      converted_right p a to r o path past stands converts gives lives below t form (truth from into) = absurd (no_number p t kind.Bool into form)
      converted_right p a to r o path past stands converts gives lives below t form (same u from into) =
          same_right program labels es ok homes p (length program.functions) a to [] stands converts u from into (of.Pointer (pointer_at o path past)) (λ has. below from.0 from.1) (has_pointer program labels es ok p into.0 into.1)
      converted_right p a to r o path past stands converts gives lives below t form (to_void u from object into) =
          to_void_right program labels es ok homes p (length program.functions) a to [] stands converts (pointer_at o path past) (below from.0 from.1) from.0 from.1 (void_too table ok.table from.0 u from.2 ∙ (object_type table u object).0) into
      converted_right p a to r o path past stands converts gives lives below t form (from_void u from into object) =
          let right = below from.0 from.1 in
          let plain : is_void (type_at table into.0) ≡ false = void_too table ok.table into.0 u into.2 ∙ (object_type table u object).0 in
          from_void_right program labels es ok homes p (length program.functions) a to [] stands converts (pointer_at o path past) right from into.0 into.1 plain (begun_type p a r o path past into.0 stands gives into.1 plain lives right)
      converted_right p a to r o path past stands converts gives lives below t form (threads from into) = absurd (no_thread p t into form)

      -- The address that a point of a static initialiser gives is right for the point, where its object is at home in the root and the empty
      -- context.
      pub address_right : (p r : ℕ) (path : List CellStep) (past : Bool) → GivesAddress program p r path past → Stands p → (o : ℕ) → slice_get homes o ≡ Some (home_of r []) → (t : ℕ) → GivesForm program p (Pointer t) → IsRightAt p o path past
      address_right p r path past (root p' r' at) stands o lives t form =
          whole_right p r o lives ((rows_give program ok.table ok.in_range ok.lowered).rows p (length program.functions) (action.Root r) at stands)
          (λ x y is leads. row p (length program.functions) (action.Root r) at stands (refl, is, leads))
      address_right p r path past (text p' r' at) stands o lives t form =
          whole_right p r o lives ((rows_give program ok.table ok.in_range ok.lowered).rows p (length program.functions) (action.Text r) at stands)
          (λ x y is leads. row p (length program.functions) (action.Text r) at stands (refl, is, leads))
      address_right p r path past (member p' a k r' front at below) stands o lives t form =
          member_right p a k o front stands at (λ u gives. address_right a r front false below (ok.lowered.operands p (action.Field a k) at ∙ stands) o lives u gives)
      address_right p r path past (element p' a b k r' front at number below) stands o lives t form =
          element_right p a b k o front stands at (λ u gives. address_right a r front false below ((ok.lowered.operands p (action.Index a b true) at).0 ∙ stands) o lives u gives)
      address_right p r path past (index p' a b r' n front next was after at number below moved) stands o lives t form =
          let joins = (rows_give program ok.table ok.in_range ok.lowered).rows p (length program.functions) (action.Index a b false) at stands in
          shifted_right p a b o front path was past n moved (ok.lowered.typed p (length program.functions) (action.Index a b false) at stands)
          (λ u gives. address_right a r front was below ((ok.lowered.operands p (action.Index a b false) at).0 ∙ stands) o lives u gives)
          (λ u v x y. row p (length program.functions) (action.Index a b false) at stands (refl, x, y)) (λ is. joins)
      address_right p r path past (plus p' a b r' n front next was after at number below moved) stands o lives t form =
          let joins = (rows_give program ok.table ok.in_range ok.lowered).rows p (length program.functions) (action.Binary Add a b) at stands in
          elim (ok.lowered.typed p (length program.functions) (action.Binary Add a b) at stands) [
            | inl alike ↦ absurd (no_number p t alike.0 alike.3 form)
            | inr moves ↦ shifted_right p a b o front path was past n moved moves
                (λ u gives. address_right a r front was below ((ok.lowered.operands p (action.Binary Add a b) at).0 ∙ stands) o lives u gives)
                (λ u v x y. row p (length program.functions) (action.Binary Add a b) at stands (refl, x, y)) (λ is. joins (has_pointer program labels es ok p t form))
          ]
      address_right p r path past (minus p' a b r' n front next was after at number below moved) stands o lives t form =
          let joins = (rows_give program ok.table ok.in_range ok.lowered).rows p (length program.functions) (action.Binary Subtract a b) at stands in
          elim (ok.lowered.typed p (length program.functions) (action.Binary Subtract a b) at stands) [
            | inl alike ↦ absurd (no_number p t alike.0 alike.3 form)
            | inr other ↦ elim other [
              | inl moves ↦ shifted_right p a b o front path was past (neg_ℤ n) moved moves
                  (λ u gives. address_right a r front was below ((ok.lowered.operands p (action.Binary Subtract a b) at).0 ∙ stands) o lives u gives)
                  (λ u v x y. row p (length program.functions) (action.Binary Subtract a b) at stands (refl, x, y)) (λ is. joins (has_pointer program labels es ok p t form))
              | inr compares ↦ absurd (no_number p t kind.Long compares.3 form)
            ]
          ]
      address_right p r path past (converted p' a to r' front was at below) stands o lives t form =
          converted_right p a to r o path past stands at (converted p a to r path past at below) lives
          (λ u gives. address_right a r path past below (ok.lowered.operands p (action.Convert a to) at ∙ stands) o lives u gives) t form (ok.lowered.typed p (length program.functions) (action.Convert a to) at stands).1

    -- ---- pointers to functions

    -- the pointer to a function
    named_right : (p f g : ℕ) → function_at program p ≡ Some f → action_at program p ≡ Some (action.Func g) → IsFunctionRight program labels es homes g (value program p) []
    named_right p f g stands names =
        let joins = (rows_give program ok.table ok.in_range ok.lowered).rows p f (action.Func g) names stands in
        let site = (ok.lowered.value_sites g).1 (p, names) in
        code_right program labels es ok homes g p site.0 [] site.1 joins.0.0 joins.1.0 joins.0.1 joins.1.1 (row p f (action.Func g) names stands (refl, joins.0.1, joins.1.1))

    function_converted_right : (p f a to g : ℕ) → function_at program p ≡ Some f → action_at program p ≡ Some (action.Convert a to) → ((t : ℕ) → GivesForm program a (Pointer t) → IsFunctionRight program labels es homes g (value program a) []) →
        (t : ℕ) → GivesForm program p (Pointer t) → IsConversion program a p → IsFunctionRight program labels es homes g (value program p) []
    function_converted_right p f a to g stands converts below t form (numbers from into) = absurd (no_number p t into.0 into.1 form)
    function_converted_right p f a to g stands converts below t form (truth from into) = absurd (no_number p t kind.Bool into form)
    function_converted_right p f a to g stands converts below t form (same u from into) = same_right program labels es ok homes p f a to [] stands converts u from into (of.Function g) (below from.0 from.1)
    function_converted_right p f a to g stands converts below t form (to_void u from object into) =
        absurd (no_function program labels es ok homes a g from.0 [] from.1 (function_too table ok.table from.0 u from.2 ∙ (object_type table u object).1) (below from.0 from.1))
    function_converted_right p f a to g stands converts below t form (from_void u from into object) = absurd (no_function program labels es ok homes a g from.0 [] from.1 (form_function program labels es ok from.0 Void from.2) (below from.0 from.1))
    function_converted_right p f a to g stands converts below t form (threads from into) = absurd (no_thread p t into form)

    -- The pointer to a function that a point gives by its name, or by conversions of that, is right for the point.
    pub function_right : (p g : ℕ) → GivesFunction program p g → (f : ℕ) → function_at program p ≡ Some f → (t : ℕ) → GivesForm program p (Pointer t) → IsFunctionRight program labels es homes g (value program p) []
    function_right p g (of_function p' g' at) f stands t form = named_right p f g stands at
    function_right p g (function_converted p' a to g' at below) f stands t form =
        function_converted_right p f a to g stands at (λ u gives. function_right a g below f (ok.lowered.operands p (action.Convert a to) at ∙ stands) u gives) t form (ok.lowered.typed p f (action.Convert a to) at stands).1
