-- Edges (LOCKSMITH: label flow): what is at one label may be at another. An edge
-- joins two labels of one type.
use Rattle.std.specs.Prelude.{◌≡◌, ◌↔◌, ◌⊎◌, ℕ, suc, true, false, Option, Some, None, List, [], ◌∷◌, slice_get}
use Rattle.lk_facts.specs.LabelRules.{IsPart, IsWhole, form_of, leads_inside, is_function}
use Rattle.lk_facts.specs.Paths.{opposite, HasEdge}
use Rattle.lk_facts.specs.Places.{AreDifferent}
use Rattle.lk_facts.specs.Program.{action_at, function_at, value_type_at, site_at, parameter_of, root_of_function, root_at, value_site_of}
use Rattle.lk_facts.specs.Typed.{GivesForm, PointsToForm}
use Rattle.lk_facts.specs.declared.action.Action.{Action}
use Rattle.lk_facts.specs.declared.action.Action.TheVariants as action
use Rattle.lk_facts.specs.declared.edge.Edge.{Edge}
use Rattle.lk_facts.specs.declared.edge.Mark.{Mark}
use Rattle.lk_facts.specs.declared.edge.Mark.TheVariants.{Plain, Enter, Leave}
use Rattle.lk_facts.specs.declared.label_entry.LabelName.{LabelName}
use Rattle.lk_facts.specs.declared.program.Program.{Program}
use Rattle.lk_facts.specs.declared.root.Holder.{Holder}
use Rattle.lk_facts.specs.declared.root.Holder.TheVariants.{Root, Slot, Result, Point}
use Rattle.lk_facts.specs.declared.root.Root.{Root as RootOf}
use Rattle.lk_facts.specs.declared.root.RootKind.{RootKind}
use Rattle.lk_facts.specs.declared.root.RootKind.TheVariants.{Argv, Args}
use Rattle.lk_types.specs.Equal.{IsAlike}
use Rattle.lk_types.specs.declared.c_type.CType.TheVariants.{Void, Pointer}
use Rattle.lk_types.specs.declared.node.Sel.{Sel}
use Rattle.lk_types.specs.declared.node.Sel.TheVariants.{Target, Element, Field, Part}

module _ (program : Program) where
  -- X.s, the part of a value or place to which the step leads
  abbrev pub Of : (LabelName → Type 0) → Sel → LabelName → Type 0
  Of X s u = (x : LabelName) × X x × IsPart program x s u

  -- the label u is a member, an element or a Part of the label x
  pub record IsInside (x : LabelName) (s : Sel) (u : LabelName) : Type 0 where
    pub inside : leads_inside (form_of program.types x.node) s ≡ true
    pub part : IsPart program x s u

  abbrev pub In : (LabelName → Type 0) → Sel → LabelName → Type 0
  In X s u = (x : LabelName) × X x × IsInside x s u

  -- what a point gives, and what that points to
  abbrev pub value : ℕ → LabelName → Type 0
  value p = IsWhole program (Point p)

  abbrev pub target : ℕ → LabelName → Type 0
  target p = Of (value p) Target

  abbrev pub place : ℕ → LabelName → Type 0
  place r = IsWhole program (Root r)

  abbrev pub slot : (f s : ℕ) → LabelName → Type 0
  slot f s = IsWhole program (Slot f s)

  abbrev pub result : ℕ → LabelName → Type 0
  result f = IsWhole program (Result f)

  -- the slot or root of the parameter k of a function, counted from 1
  abbrev pub parameter : (f k : ℕ) → LabelName → Type 0
  parameter f k u = (h : Holder) × (parameter_of program f k ≡ Some h) × IsWhole program h u

  -- the function itself
  abbrev pub code : ℕ → LabelName → Type 0
  code f u = (r : ℕ) × (root_of_function program f ≡ Some r) × place r u

  -- what an allocation makes: the object of its root, or with a count an element of the array
  abbrev pub allocated : ℕ → Option ℕ → LabelName → Type 0
  allocated r None = place r
  allocated r (Some n) = In (place r) Element

  -- Loc: an edge with the mark joins the two labels
  abbrev pub Loc : Mark → (X Y : LabelName → Type 0) → LabelName → LabelName → Mark → Type 0
  Loc mark X Y u v m = (m ≡ mark) × X u × Y v

  -- Sub: it joins what two values or places point to; where neither is a pointer there is nothing
  abbrev pub Sub : Mark → (X Y : LabelName → Type 0) → LabelName → LabelName → Mark → Type 0
  Sub mark X Y = Loc mark (Of X Target) (Of Y Target)

  abbrev pub NoEdge : LabelName → LabelName → Mark → Type 0
  NoEdge u v m = ⊥

  -- a conversion (C99 6.3.2.3): to an equal type but for the sizes of arrays, to `void *`, and from `void *`
  pub data Converts (a p : ℕ) (u v : LabelName) (m : Mark) : Type 0 where
    same : (s t : ℕ) → value_type_at program a ≡ Some s → value_type_at program p ≡ Some t →
        IsAlike program.types.types s t → Sub Plain (value a) (value p) u v m → Converts a p u v m
    to_void : (t : ℕ) → GivesForm program a (Pointer t) → PointsToForm program p Void →
        Loc Plain (target a) (In (target p) (Part t)) u v m → Converts a p u v m
    from_void : (t : ℕ) → PointsToForm program a Void → GivesForm program p (Pointer t) →
        Loc Plain (In (target a) (Part t)) (target p) u v m → Converts a p u v m

  -- the arguments of a call or creation at the site of p
  abbrev pub Passes : (p g : ℕ) → List ℕ → LabelName → LabelName → Mark → Type 0
  Passes p g args u v m =
      (i k a : ℕ) × (site_at program p ≡ Some i) × (slice_get args k ≡ Some a)
      × Sub (Enter i) (value a) (parameter g (suc k)) u v m

  -- the result of a call at the site of p
  abbrev pub GivesBack : (p g : ℕ) → LabelName → LabelName → Mark → Type 0
  GivesBack p g u v m = (i : ℕ) × (site_at program p ≡ Some i) × Sub (Leave i) (result g) (value p) u v m

  -- the arguments of a call of what a points to
  abbrev pub PassesThrough : (a : ℕ) → List ℕ → LabelName → LabelName → Mark → Type 0
  PassesThrough a args u v m =
      (k b : ℕ) × (slice_get args k ≡ Some b) × Sub Plain (value b) (Of (target a) (Field (suc k))) u v m

  abbrev pub Returns : (f : ℕ) → Option ℕ → LabelName → LabelName → Mark → Type 0
  Returns f None = NoEdge
  Returns f (Some a) = Sub Plain (value a) (result f)

  -- What the action of the point p of the function f joins. A Binary whose value is a pointer moves its left
  -- operand (C99 6.5.6). The Write of a static initialiser is one like others.
  abbrev pub Row : (p f : ℕ) → Action → LabelName → LabelName → Mark → Type 0
  Row p f (action.Value number ty) = NoEdge
  Row p f (action.Null ty) = NoEdge
  Row p f (action.Func g) = Loc Plain (code g) (target p)
  Row p f action.SelfId = NoEdge
  Row p f (action.Root r) = Loc Plain (place r) (target p)
  Row p f (action.Text r) = Loc Plain (place r) (target p)
  Row p f (action.Field a k) = Loc Plain (In (target a) (Field k)) (target p)
  Row p f (action.Index a b true) = Loc Plain (In (target a) Element) (target p)
  Row p f (action.Index a b false) = Sub Plain (value a) (value p)
  Row p f (action.Read a raw) = Sub Plain (target a) (value p)
  Row p f (action.Write a b raw) = Sub Plain (value b) (target a)
  Row p f (action.SlotRead s) = Sub Plain (slot f s) (value p)
  Row p f (action.SlotWrite s a) = Sub Plain (value a) (slot f s)
  Row p f (action.Unary op a) = NoEdge
  Row p f (action.Binary op a b) = Sub Plain (value a) (value p)
  Row p f (action.Compute args ty equal) = NoEdge
  Row p f (action.Convert a ty) = Converts a p
  Row p f (action.Branch a) = NoEdge
  Row p f (action.Switch a cases) = NoEdge
  Row p f action.Skip = NoEdge
  Row p f (action.Call g args) = λ u v m. Passes p g args u v m ⊎ GivesBack p g u v m
  Row p f (action.PointerCall a args) =
      λ u v m. PassesThrough a args u v m ⊎ Sub Plain (Of (target a) (Field 0)) (value p) u v m
  Row p f (action.Return a) = Returns f a
  Row p f (action.Create g a) = Passes p g (a ∷ [])
  Row p f (action.StoreId a) = NoEdge
  Row p f (action.Join a) = NoEdge
  Row p f (action.Detach a) = NoEdge
  Row p f action.ExitThread = NoEdge
  Row p f action.ExitProcess = NoEdge
  Row p f (action.Lock a) = NoEdge
  Row p f (action.Unlock a) = NoEdge
  Row p f (action.Release cond mutex) = NoEdge
  Row p f (action.Retake a) = NoEdge
  Row p f (action.Init a) = NoEdge
  Row p f (action.Destroy a) = NoEdge
  Row p f (action.Signal a) = NoEdge
  Row p f (action.Allocate ty count zero r) = Loc Plain (allocated r count) (In (target p) (Part ty))
  Row p f (action.Free a) = NoEdge
  Row p f (action.Scan a) = NoEdge
  Row p f (action.Fill a place named) = NoEdge

  abbrev pub IsRootOf : RootKind → ℕ → Type 0
  IsRootOf kind r = (root : RootOf) × (root_at program r ≡ Some root) × (root.kind ≡ kind)

  -- x is what the result (k = 0) or the parameter k of the function u points to
  pub record IsBehind (u : LabelName) (k : ℕ) (x : LabelName) : Type 0 where
    pub function : is_function (form_of program.types u.node) ≡ true
    pub points : Of (IsPart program u (Field k)) Target x

  -- The edges are the least with these. Where an edge joins two pointers, what they point to is one thing,
  -- and is joined both ways; what it joins it joins part by part; and of functions the results flow with it,
  -- and the parameters against it.
  pub data IsEdge : LabelName → LabelName → Mark → Type 0 where
    row : {u v : LabelName} {m : Mark} (p f : ℕ) (act : Action) → action_at program p ≡ Some act →
        function_at program p ≡ Some f → Row p f act u v m → IsEdge u v m
    -- main's parameters, where it has any (C99 5.1.2.2.1)
    argv : {u v : LabelName} {m : Mark} (r : ℕ) → IsRootOf Argv r →
        Loc Plain (In (place r) Element) (Of (parameter program.main 2) Target) u v m → IsEdge u v m
    args : {u v : LabelName} {m : Mark} (r q : ℕ) → IsRootOf Args r → IsRootOf Argv q →
        Loc Plain (In (place r) Element) (Of (In (place q) Element) Target) u v m → IsEdge u v m
    -- a function that is used as a value
    passed : {u v : LabelName} {m : Mark} (g i k : ℕ) → value_site_of program g ≡ Some i →
        Sub (Enter i) (Of (code g) (Field (suc k))) (parameter g (suc k)) u v m → IsEdge u v m
    given_back : {u v : LabelName} {m : Mark} (g i : ℕ) → value_site_of program g ≡ Some i →
        Sub (Leave i) (result g) (Of (code g) (Field 0)) u v m → IsEdge u v m
    -- 1: pointers
    forth : {u v x y : LabelName} {m : Mark} → IsEdge u v m → IsPart program u Target x →
        IsPart program v Target y → IsEdge x y m
    back : {u v x y : LabelName} {m : Mark} → IsEdge u v m → IsPart program u Target x →
        IsPart program v Target y → IsEdge y x (opposite m)
    -- 2: structs, arrays and what `void *` points to
    inside : {u v x y : LabelName} {m : Mark} (s : Sel) → IsEdge u v m → IsInside u s x →
        IsInside v s y → IsEdge x y m
    -- 3: functions
    results : {u v x y : LabelName} {m : Mark} → IsEdge u v m → IsBehind u 0 x → IsBehind v 0 y → IsEdge x y m
    parameters : {u v x y : LabelName} {m : Mark} (k : ℕ) → IsEdge u v m → IsBehind u (suc k) x →
        IsBehind v (suc k) y → IsEdge y x (opposite m)

  -- the edges between numbers of labels
  abbrev pub IsEdgeOf : List LabelName → ℕ → ℕ → Mark → Type 0
  IsEdgeOf names a b m =
      (x y : LabelName) × (slice_get names a ≡ Some x) × (slice_get names b ≡ Some y) × IsEdge x y m

  -- the list has just the edges, each once
  pub record AreEdges (names : List LabelName) (es : List Edge) : Type 0 where
    pub each : (a b : ℕ) (m : Mark) → HasEdge es a b m ↔ IsEdgeOf names a b m
    pub different : AreDifferent es
