-- No edge of a row is lost: where points are typed, what the row of an action joins is there. Sub is
-- nothing only where neither side is a pointer. Each action has the ends that its row of the edges
-- joins (LOCKSMITH: label flow).
use Rattle.std.specs.Prelude.{◌≡◌, ◌<◌, ◌⊎◌, ℕ, suc, length, true, false, Option, Some, None, List, slice_get, ⊤}
use Rattle.lk_facts.specs.EdgeRules.{Of, In, IsRootOf, value, target, place, slot, result, parameter, code, allocated}
use Rattle.lk_facts.specs.InRange.{IsInRange}
use Rattle.lk_facts.specs.Lowered.{IsLowered}
use Rattle.lk_facts.specs.Program.{action_at, function_at, parameter_of, site_at, value_type_at}
use Rattle.lk_facts.specs.Typed.{IsForm, GivesForm, PointsToForm}
use Rattle.lk_facts.specs.declared.action.Action.{Action}
use Rattle.lk_facts.specs.declared.action.Action.TheVariants as action
use Rattle.lk_facts.specs.declared.label_entry.LabelName.{LabelName}
use Rattle.lk_facts.specs.declared.program.Program.{Program}
use Rattle.lk_facts.specs.declared.root.Holder.{Holder}
use Rattle.lk_facts.specs.declared.root.RootKind.TheVariants.{Argv, Args}
use Rattle.lk_laws.specs.FlowLaws.{type_of}
use Rattle.lk_types.specs.Building.{IsTable}
use Rattle.lk_types.specs.Equal.{IsAlike}
use Rattle.lk_types.specs.Table.{type_at}
use Rattle.lk_types.specs.Walks.{is_void}
use Rattle.lk_types.specs.declared.c_type.CType.TheVariants.{Void, Pointer}
use Rattle.lk_types.specs.declared.node.Sel.TheVariants.{Target, Element, Field, Part}

module _ (program : Program) where
  -- there is one
  abbrev pub HasOne : (LabelName → Type 0) → Type 0
  HasOne X = (x : LabelName) × X x

  -- both ends of an edge are there
  abbrev pub Joins : (X Y : LabelName → Type 0) → Type 0
  Joins X Y = HasOne X × HasOne Y

  -- there is one, and it is a pointer
  abbrev pub HasPointer : (LabelName → Type 0) → Type 0
  HasPointer X = (x : LabelName) × X x × ((t : ℕ) × IsForm program.types (type_of program x) (Pointer t))

  -- where one side is a pointer, both are, and what they point to is there
  abbrev pub JoinsTargets : (X Y : LabelName → Type 0) → Type 0
  JoinsTargets X Y = (HasPointer X ⊎ HasPointer Y) → Joins (Of program X Target) (Of program Y Target)

  -- a conversion of a pointer to its own type, to `void *`, and from there (C99 6.3.2.3)
  pub record JoinsConverted (a p : ℕ) : Type 0 where
    pub same : (s t : ℕ) → value_type_at program a ≡ Some s → value_type_at program p ≡ Some t →
        IsAlike program.types.types s t → JoinsTargets (value program a) (value program p)
    pub to_void : (t : ℕ) → GivesForm program a (Pointer t) → PointsToForm program p Void →
        is_void (type_at program.types t) ≡ false →
        Joins (target program a) (In program (target program p) (Part t))
    pub from_void : (t : ℕ) → PointsToForm program a Void → GivesForm program p (Pointer t) →
        is_void (type_at program.types t) ≡ false →
        Joins (In program (target program a) (Part t)) (target program p)

  -- the arguments of a call or creation at the site of p
  abbrev pub JoinsArguments : (p g : ℕ) → List ℕ → Type 0
  JoinsArguments p g args = (i k a : ℕ) → site_at program p ≡ Some i → slice_get args k ≡ Some a →
      JoinsTargets (value program a) (parameter program g (suc k))

  -- the arguments of a call of what a points to
  abbrev pub JoinsArgumentsThrough : (a : ℕ) → List ℕ → Type 0
  JoinsArgumentsThrough a args = (k b : ℕ) → slice_get args k ≡ Some b →
      JoinsTargets (value program b) (Of program (target program a) (Field (suc k)))

  abbrev pub JoinsReturned : (f : ℕ) → Option ℕ → Type 0
  JoinsReturned f None = ⊤
  JoinsReturned f (Some a) = JoinsTargets (value program a) (result program f)

  -- what the row of the action joins is there
  abbrev pub RowJoins : (p f : ℕ) → Action → Type 0
  RowJoins p f (action.Value number ty) = ⊤
  RowJoins p f (action.Null ty) = ⊤
  RowJoins p f (action.Func g) = Joins (code program g) (target program p)
  RowJoins p f action.SelfId = ⊤
  RowJoins p f (action.Root r) = Joins (place program r) (target program p)
  RowJoins p f (action.Text r) = Joins (place program r) (target program p)
  RowJoins p f (action.Field a k) = Joins (In program (target program a) (Field k)) (target program p)
  RowJoins p f (action.Index a b true) = Joins (In program (target program a) Element) (target program p)
  RowJoins p f (action.Index a b false) = Joins (target program a) (target program p)
  RowJoins p f (action.Read a raw) = JoinsTargets (target program a) (value program p)
  RowJoins p f (action.Write a b raw) = JoinsTargets (value program b) (target program a)
  RowJoins p f (action.SlotRead s) = JoinsTargets (slot program f s) (value program p)
  RowJoins p f (action.SlotWrite s a) = JoinsTargets (value program a) (slot program f s)
  RowJoins p f (action.Unary op a) = ⊤
  RowJoins p f (action.Binary op a b) =
      HasPointer (value program p) → Joins (target program a) (target program p)
  RowJoins p f (action.Compute args ty equal) = ⊤
  RowJoins p f (action.Convert a ty) = JoinsConverted a p
  RowJoins p f (action.Branch a) = ⊤
  RowJoins p f (action.Switch a cases) = ⊤
  RowJoins p f action.Skip = ⊤
  RowJoins p f (action.Call g args) =
      JoinsArguments p g args × JoinsTargets (result program g) (value program p)
  RowJoins p f (action.PointerCall a args) =
      JoinsArgumentsThrough a args × JoinsTargets (Of program (target program a) (Field 0)) (value program p)
  RowJoins p f (action.Return a) = JoinsReturned f a
  RowJoins p f (action.Create g a) = JoinsTargets (value program a) (parameter program g 1)
  RowJoins p f (action.StoreId a) = ⊤
  RowJoins p f (action.Join a) = ⊤
  RowJoins p f (action.Detach a) = ⊤
  RowJoins p f action.ExitThread = ⊤
  RowJoins p f action.ExitProcess = ⊤
  RowJoins p f (action.Lock a) = ⊤
  RowJoins p f (action.Unlock a) = ⊤
  RowJoins p f (action.Release cond mutex) = ⊤
  RowJoins p f (action.Retake a) = ⊤
  RowJoins p f (action.Init a) = ⊤
  RowJoins p f (action.Destroy a) = ⊤
  RowJoins p f (action.Signal a) = ⊤
  RowJoins p f (action.Allocate ty count zero r) =
      Joins (allocated program r count) (In program (target program p) (Part ty))
  RowJoins p f (action.Free a) = ⊤
  RowJoins p f (action.Scan a) = ⊤
  RowJoins p f (action.Fill a place named) = ⊤

  -- what the site of a function joins that is used as a value
  pub record JoinsAsValue (g : ℕ) : Type 0 where
    pub parameters : (k : ℕ) →
        JoinsTargets (Of program (code program g) (Field (suc k))) (parameter program g (suc k))
    pub result : JoinsTargets (result program g) (Of program (code program g) (Field 0))

  -- what main's arguments join (C99 5.1.2.2.1): the pointers to the strings with what its second parameter
  -- points to, where it has one, and the chars of the strings with what these pointers point to
  pub record JoinsMain : Type 0 where
    pub argv : (r : ℕ) (h : Holder) → IsRootOf program Argv r → parameter_of program program.main 2 ≡ Some h →
        Joins (In program (place program r) Element) (Of program (parameter program program.main 2) Target)
    pub args : (r q : ℕ) → IsRootOf program Args r → IsRootOf program Argv q →
        Joins (In program (place program r) Element)
        (Of program (In program (place program q) Element) Target)

  -- each row gives its edges, and so does each function, and so do main's arguments
  pub record GivesEdges : Type 0 where
    pub rows : (p f : ℕ) (act : Action) → action_at program p ≡ Some act →
        function_at program p ≡ Some f → RowJoins p f act
    pub values : (g : ℕ) → g < length program.functions → JoinsAsValue g
    pub arguments : JoinsMain

abbrev pub RowsGiveEdges : Type 0
RowsGiveEdges = (program : Program) → IsTable program.types → IsInRange program → IsLowered program →
    GivesEdges program
