-- The types of what points take and give (C99 6.3, 6.5, 7.20; POSIX pthread_*), by their actions.
use Rattle.std.specs.Prelude.{◌≡◌, ◌⊎◌, ◌<◌, ℕ, ℤ, suc, Bool, true, false, List, [], ◌∷◌, Option, None, Some, length, slice_get, ⊤}
use Rattle.lk_arith.specs.Kinds.{IsValue}
use Rattle.lk_arith.specs.declared.operators.Op.{Op}
use Rattle.lk_arith.specs.declared.operators.Op.TheVariants as op
use Rattle.lk_arith.specs.declared.operators.UnaryOp.{UnaryOp}
use Rattle.lk_arith.specs.declared.operators.UnaryOp.TheVariants as unary
use Rattle.lk_base.specs.declared.kind.Kind.{Kind}
use Rattle.lk_base.specs.declared.kind.Kind.TheVariants as kind
use Rattle.lk_facts.specs.Program.{value_type_at, slots_of, result_of, root_of_function, parameter_of, root_at}
use Rattle.lk_facts.specs.declared.action.Action.{Action}
use Rattle.lk_facts.specs.declared.action.Action.TheVariants as action
use Rattle.lk_base.specs.declared.cell.CellStep.{CellStep}
use Rattle.lk_base.specs.declared.cell.CellStep.TheVariants.{Field as ToField, Index as ToIndex}
use Rattle.lk_facts.specs.declared.program.Program.{Program}
use Rattle.lk_facts.specs.declared.root.Holder.{Holder}
use Rattle.lk_facts.specs.declared.root.Holder.TheVariants as holder
use Rattle.lk_facts.specs.declared.root.Root.{Root}
use Rattle.lk_facts.specs.declared.root.RootKind.{RootKind}
use Rattle.lk_facts.specs.declared.root.RootKind.TheVariants.{Global, Static, Local, Heap, Text, Argv, Args, Function as FunctionRoot}
use Rattle.lk_types.specs.Equal.{IsAlike}
use Rattle.lk_types.specs.Nodes.{node_of}
use Rattle.lk_types.specs.Objects.{is_cell}
use Rattle.lk_types.specs.Table.{Table, members_of, type_at}
use Rattle.lk_types.specs.declared.c_type.CType.{CType}
use Rattle.lk_types.specs.declared.c_type.CType.TheVariants.{Void, Int, ThreadId, Mutex, Cond, Pointer, Array, Struct, Function, Opaque}
use Rattle.lk_types.specs.declared.member.StructMember.{StructMember}

-- the type has the form
abbrev pub IsForm : Table → ℕ → CType → Type 0
IsForm table t form = slice_get table.types t ≡ Some form

-- the struct type s has the member k, of type t
abbrev pub IsMember : Table → (s k t : ℕ) → Type 0
IsMember table s k t =
    (number : ℕ) × IsForm table s (Struct number)
    × ((member : StructMember) × (slice_get (members_of table number) k ≡ Some member) × (member.ty ≡ t))

-- the steps lead from an object of type t to a part of type u that is there
pub data HasPartAt (table : Table) : (t : ℕ) → List CellStep → (u : ℕ) → Type 0 where
  whole : (t : ℕ) → HasPartAt table t [] t
  field : (t k m : ℕ) (path : List CellStep) (u : ℕ) → IsMember table t k m → HasPartAt table m path u →
      HasPartAt table t (ToField k ∷ path) u
  index : (t i e n : ℕ) (path : List CellStep) (u : ℕ) → IsForm table t (Array e n) → i < n →
      HasPartAt table e path u → HasPartAt table t (ToIndex i ∷ path) u

-- a type of objects: not void, and not that of a function (C99 6.2.5)
abbrev pub IsObjectForm : CType → Type 0
IsObjectForm Void = ⊥
IsObjectForm (Int k) = ⊤
IsObjectForm ThreadId = ⊤
IsObjectForm Mutex = ⊤
IsObjectForm Cond = ⊤
IsObjectForm (Pointer t) = ⊤
IsObjectForm (Array t n) = ⊤
IsObjectForm (Struct s) = ⊤
IsObjectForm (Function result params dots) = ⊥
IsObjectForm (Opaque n) = ⊤

abbrev pub IsObjectType : Table → ℕ → Type 0
IsObjectType table t = (form : CType) × IsForm table t form × IsObjectForm form

module _ (program : Program) where
  -- the point gives no value
  abbrev pub GivesNone : ℕ → Type 0
  GivesNone p = value_type_at program p ≡ None

  -- the point gives a value of the type, but for the sizes of arrays
  abbrev pub Gives : ℕ → ℕ → Type 0
  Gives p t = (u : ℕ) × (value_type_at program p ≡ Some u) × IsAlike program.types.types u t

  -- the point gives a value of a type of the form
  abbrev pub GivesForm : ℕ → CType → Type 0
  GivesForm p form = (t : ℕ) × (value_type_at program p ≡ Some t) × IsForm program.types t form

  -- the point gives a number of some kind, or of int
  abbrev pub GivesNumber : ℕ → Type 0
  GivesNumber p = (k : Kind) × GivesForm p (Int k)

  abbrev pub GivesInt : ℕ → Type 0
  GivesInt p = GivesForm p (Int kind.Int)

  -- the point gives a pointer to the type, but for the sizes of arrays
  abbrev pub PointsTo : ℕ → ℕ → Type 0
  PointsTo p t = (u : ℕ) × GivesForm p (Pointer u) × IsAlike program.types.types u t

  -- the point gives a pointer to a type of the form
  abbrev pub PointsToForm : ℕ → CType → Type 0
  PointsToForm p form = (t : ℕ) × GivesForm p (Pointer t) × IsForm program.types t form

  abbrev pub GivesPointer : ℕ → Type 0
  GivesPointer p = (t : ℕ) × GivesForm p (Pointer t)

  -- the point gives a number, a pointer or a thread id
  abbrev pub GivesScalar : ℕ → Type 0
  GivesScalar p = GivesNumber p ⊎ GivesPointer p ⊎ GivesForm p ThreadId

  -- the point gives the result of a function that returns the type: nothing for void
  abbrev pub GivesResult : ℕ → ℕ → Type 0
  GivesResult p t = (IsForm program.types t Void × GivesNone p) ⊎ Gives p t

  -- the points give values of these types, in order
  pub data AreGiven : List ℕ → List ℕ → Type 0 where
    none : AreGiven [] []
    more : (a t : ℕ) (args types : List ℕ) → Gives a t → AreGiven args types → AreGiven (a ∷ args) (t ∷ types)

  -- both operands and the value are numbers of one kind
  abbrev pub AreAlike : (a b p : ℕ) → Type 0
  AreAlike a b p = (k : Kind) × GivesForm a (Int k) × GivesForm b (Int k) × GivesForm p (Int k)

  -- a pointer moves by a number, and stays of its type
  abbrev pub Moves : (a b p : ℕ) → Type 0
  Moves a b p = (t : ℕ) × PointsTo a t × GivesNumber b × PointsTo p t

  -- two pointers to one type are compared or subtracted, which gives a number of the kind
  abbrev pub Compares : Kind → (a b p : ℕ) → Type 0
  Compares k a b p = (t : ℕ) × PointsTo a t × PointsTo b t × GivesForm p (Int k)

  -- two numbers of one kind are compared
  abbrev pub ComparesNumbers : (a b p : ℕ) → Type 0
  ComparesNumbers a b p = (k : Kind) × GivesForm a (Int k) × GivesForm b (Int k) × GivesInt p

  abbrev pub IsComparison : (a b p : ℕ) → Type 0
  IsComparison a b p = ComparesNumbers a b p ⊎ Compares kind.Int a b p

  -- a shift has the type of its left operand
  abbrev pub IsShift : (a b p : ℕ) → Type 0
  IsShift a b p = (k : Kind) × GivesForm a (Int k) × GivesNumber b × GivesForm p (Int k)

  -- the operands and the value of a binary operator (C99 6.5.5 to 6.5.12)
  abbrev pub IsBinary : Op → (a b p : ℕ) → Type 0
  IsBinary op.Multiply a b p = AreAlike a b p
  IsBinary op.Divide a b p = AreAlike a b p
  IsBinary op.Remainder a b p = AreAlike a b p
  IsBinary op.Add a b p = AreAlike a b p ⊎ Moves a b p
  IsBinary op.Subtract a b p = AreAlike a b p ⊎ Moves a b p ⊎ Compares kind.Long a b p
  IsBinary op.ShiftLeft a b p = IsShift a b p
  IsBinary op.ShiftRight a b p = IsShift a b p
  IsBinary op.Less a b p = IsComparison a b p
  IsBinary op.Greater a b p = IsComparison a b p
  IsBinary op.LessOrEqual a b p = IsComparison a b p
  IsBinary op.GreaterOrEqual a b p = IsComparison a b p
  IsBinary op.Equal a b p = IsComparison a b p
  IsBinary op.NotEqual a b p = IsComparison a b p
  IsBinary op.And a b p = AreAlike a b p
  IsBinary op.Xor a b p = AreAlike a b p
  IsBinary op.Or a b p = AreAlike a b p

  -- the operand and the value of a unary operator (C99 6.5.3.3)
  abbrev pub IsUnary : UnaryOp → (a p : ℕ) → Type 0
  IsUnary unary.Plus a p = (k : Kind) × GivesForm a (Int k) × GivesForm p (Int k)
  IsUnary unary.Negate a p = (k : Kind) × GivesForm a (Int k) × GivesForm p (Int k)
  IsUnary unary.Complement a p = (k : Kind) × GivesForm a (Int k) × GivesForm p (Int k)
  IsUnary unary.Not a p = (GivesNumber a ⊎ GivesPointer a) × GivesInt p

  -- an operand that points into an array, of which one element is given, or to an element,
  -- from which the pointer moves
  abbrev pub IsIndex : Bool → (a b p : ℕ) → Type 0
  IsIndex true a b p = (e n : ℕ) × PointsToForm a (Array e n) × GivesNumber b × PointsTo p e
  IsIndex false a b p = Moves a b p

  -- the function's type is that of its root
  abbrev pub IsFunctionType : ℕ → CType → Type 0
  IsFunctionType f form =
      (r : ℕ) × (root : Root) × (root_of_function program f ≡ Some r) × (root_at program r ≡ Some root)
      × IsForm program.types root.ty form

  -- the arguments and the value of a call of a function of this type
  abbrev pub IsCall : CType → List ℕ → ℕ → Type 0
  IsCall form args p =
      (result : ℕ) × (params : List ℕ) × (dots : Bool) × (form ≡ Function result params dots)
      × AreGiven args params × GivesResult p result

  -- the slot of a function has the type
  abbrev pub IsSlot : (f s t : ℕ) → Type 0
  IsSlot f s t = (slots : List ℕ) × (slots_of program f ≡ Some slots) × (slice_get slots s ≡ Some t)

  -- the root r has the type
  abbrev pub IsRootType : (r t : ℕ) → Type 0
  IsRootType r t = (root : Root) × (root_at program r ≡ Some root) × (root.ty ≡ t)

  -- what holds a parameter or a value has the type
  abbrev pub IsHolderType : Holder → ℕ → Type 0
  IsHolderType (holder.Root r) t = IsRootType r t
  IsHolderType (holder.Slot f s) t = IsSlot f s t
  IsHolderType (holder.Result f) t = result_of program f ≡ Some t
  IsHolderType (holder.Point p) t = value_type_at program p ≡ Some t

  -- the root of an allocation at p: it has the type, or is an array of it without
  -- a size where there is a count
  abbrev pub IsAllocated : (p r t : ℕ) → Option ℕ → Type 0
  IsAllocated p r t None =
      (root : Root) × (root_at program r ≡ Some root) × (root.kind ≡ Heap true)
      × (root.point ≡ Some p) × (root.ty ≡ t)
  IsAllocated p r t (Some n) =
      (root : Root) × (root_at program r ≡ Some root) × (root.kind ≡ Heap false) × (root.point ≡ Some p)
      × IsForm program.types root.ty (Array t 0)

  -- the number of the elements of an allocation is a size_t (C99 7.20.3)
  abbrev pub IsCount : Option ℕ → Type 0
  IsCount None = ⊤
  IsCount (Some n) = GivesForm n (Int kind.ULong)

  -- the type is of integers, and the number is one of its values
  abbrev pub IsNumberOf : ℤ → ℕ → Type 0
  IsNumberOf number t = (k : Kind) × IsForm program.types t (Int k) × IsValue k number

  -- the object is of static storage, or one of the function's frame (C99 6.2.4)
  abbrev pub IsObjectOfKind : (f : ℕ) → Option ℕ → RootKind → Type 0
  IsObjectOfKind f owner Global = ⊤
  IsObjectOfKind f owner Static = ⊤
  IsObjectOfKind f owner Local = owner ≡ Some f
  IsObjectOfKind f owner (Heap one) = ⊥
  IsObjectOfKind f owner Text = ⊥
  IsObjectOfKind f owner Argv = ⊥
  IsObjectOfKind f owner Args = ⊥
  IsObjectOfKind f owner FunctionRoot = ⊥

  abbrev pub IsObjectIn : (f r : ℕ) → Type 0
  IsObjectIn f r = (root : Root) × (root_at program r ≡ Some root) × IsObjectOfKind f root.function root.kind

  -- a conversion (C99 6.3): of numbers; of a pointer to _Bool; of a pointer to its own type; of a pointer to
  -- an object to `void *` and back; of a thread id to its own type
  pub data IsConversion (a p : ℕ) : Type 0 where
    numbers : GivesNumber a → GivesNumber p → IsConversion a p
    truth : GivesPointer a → GivesForm p (Int kind.Bool) → IsConversion a p
    same : (t : ℕ) → PointsTo a t → PointsTo p t → IsConversion a p
    to_void : (t : ℕ) → PointsTo a t → IsObjectType program.types t → PointsToForm p Void → IsConversion a p
    from_void : (t : ℕ) → PointsToForm a Void → PointsTo p t → IsObjectType program.types t → IsConversion a p
    threads : GivesForm a ThreadId → GivesForm p ThreadId → IsConversion a p

  abbrev pub AreTwoThreads : List ℕ → Type 0
  AreTwoThreads args = (a b : ℕ) × (args ≡ a ∷ b ∷ []) × GivesForm a ThreadId × GivesForm b ThreadId

  -- a function that a thread can start at takes and returns a `void *` (POSIX pthread_create)
  abbrev pub IsStartRoutine : ℕ → Type 0
  IsStartRoutine g =
      (pointer void : ℕ) × IsForm program.types void Void × IsForm program.types pointer (Pointer void)
      × IsFunctionType g (Function pointer (pointer ∷ []) false)

  -- what holds a parameter of a function is a slot or an object of its frame
  abbrev pub IsHolderIn : ℕ → Holder → Type 0
  IsHolderIn f (holder.Root r) =
      (root : Root) × (root_at program r ≡ Some root) × (root.kind ≡ Local) × (root.function ≡ Some f)
  IsHolderIn f (holder.Slot g s) = g ≡ f
  IsHolderIn f (holder.Result g) = ⊥
  IsHolderIn f (holder.Point p) = ⊥

  -- a return gives the function's result; one without a value gives none (C99 6.8.6.4, 6.9.1)
  abbrev pub IsReturn : (f : ℕ) → Option ℕ → Type 0
  IsReturn f None = ⊤
  IsReturn f (Some a) = (t : ℕ) × (result_of program f ≡ Some t) × Gives a t

  -- an object of the type is one cell: it holds a value, or is a mutex or a condition variable
  abbrev pub HoldsCell : ℕ → Type 0
  HoldsCell t = is_cell (type_at program.types t) ≡ true

  -- what the action of the point p of the function f takes and gives
  abbrev pub IsTyped : (p f : ℕ) → Action → Type 0
  IsTyped p f (action.Value number ty) = (value_type_at program p ≡ Some ty) × IsNumberOf number ty
  IsTyped p f (action.Null ty) = (value_type_at program p ≡ Some ty) × GivesPointer p
  IsTyped p f (action.Func g) =
      (r t : ℕ) × (root_of_function program g ≡ Some r) × IsRootType r t × PointsTo p t
  IsTyped p f action.SelfId = GivesForm p ThreadId
  IsTyped p f (action.Root r) = IsObjectIn f r × ((t : ℕ) × IsRootType r t × PointsTo p t)
  IsTyped p f (action.Text r) = (t : ℕ) × IsRootType r t × PointsTo p t
  IsTyped p f (action.Field a member) =
      (s t : ℕ) × PointsTo a s × IsMember program.types s member t × PointsTo p t
  IsTyped p f (action.Index a b into) = IsIndex into a b p
  IsTyped p f (action.Read a raw) = (t : ℕ) × PointsTo a t × Gives p t × GivesScalar p
  IsTyped p f (action.Write a b raw) = (t : ℕ) × PointsTo a t × Gives b t × GivesScalar b × GivesNone p
  IsTyped p f (action.SlotRead s) = (t : ℕ) × IsSlot f s t × Gives p t
  IsTyped p f (action.SlotWrite s a) = (t : ℕ) × IsSlot f s t × Gives a t × GivesNone p
  IsTyped p f (action.Unary op a) = IsUnary op a p
  IsTyped p f (action.Binary op a b) = IsBinary op a b p
  IsTyped p f (action.Compute args ty equal) = GivesResult p ty × (equal ≡ true → AreTwoThreads args)
  IsTyped p f (action.Convert a ty) = (value_type_at program p ≡ Some ty) × IsConversion a p
  IsTyped p f (action.Branch a) = (GivesNumber a ⊎ GivesPointer a) × GivesNone p
  IsTyped p f (action.Switch a cases) = GivesNumber a × GivesNone p
  IsTyped p f action.Skip = GivesNone p
  IsTyped p f (action.Call g args) = (form : CType) × IsFunctionType g form × IsCall form args p
  IsTyped p f (action.PointerCall a args) = (form : CType) × PointsToForm a form × IsCall form args p
  IsTyped p f (action.Return a) = IsReturn f a × GivesNone p
  IsTyped p f (action.Create g a) = IsStartRoutine g × PointsToForm a Void × GivesInt p
  IsTyped p f (action.StoreId a) = PointsToForm a ThreadId × GivesNone p
  IsTyped p f (action.Join a) = GivesForm a ThreadId × GivesInt p
  IsTyped p f (action.Detach a) = GivesForm a ThreadId × GivesInt p
  IsTyped p f action.ExitThread = GivesNone p
  IsTyped p f action.ExitProcess = GivesNone p
  IsTyped p f (action.Lock a) = PointsToForm a Mutex × GivesInt p
  IsTyped p f (action.Unlock a) = PointsToForm a Mutex × GivesInt p
  IsTyped p f (action.Release cond mutex) = PointsToForm cond Cond × PointsToForm mutex Mutex × GivesInt p
  IsTyped p f (action.Retake a) = PointsToForm a Mutex × GivesNone p
  IsTyped p f (action.Init a) = (PointsToForm a Mutex ⊎ PointsToForm a Cond) × (GivesInt p ⊎ GivesNone p)
  IsTyped p f (action.Destroy a) = (PointsToForm a Mutex ⊎ PointsToForm a Cond) × GivesInt p
  IsTyped p f (action.Signal a) = PointsToForm a Cond × GivesInt p
  IsTyped p f (action.Allocate ty count zero root) =
      IsCount count × IsAllocated p root ty count × PointsToForm p Void
  IsTyped p f (action.Free a) = PointsToForm a Void × GivesNone p
  IsTyped p f (action.Scan a) = PointsToForm a (Int kind.Char) × (GivesInt p ⊎ GivesNone p)
  IsTyped p f (action.Fill a place named) =
      PointsTo a (node_of program.types place.node).type
      × HoldsCell (node_of program.types place.node).type × GivesNone p

  -- the function's parameters and its result have the types of its root, which is its own
  pub record IsFunctionTyped (f : ℕ) : Type 0 where
    pub result : ℕ
    pub params : List ℕ
    pub dots : Bool
    pub of : IsFunctionType f (Function result params dots)
    pub gives : (t : ℕ) → result_of program f ≡ Some t → IsAlike program.types.types t result
    pub takes : (k t : ℕ) → slice_get params k ≡ Some t →
        (holder : Holder) × (u : ℕ) × (parameter_of program f (suc k) ≡ Some holder) × IsHolderIn f holder
        × IsHolderType holder u × IsAlike program.types.types u t
    pub takes_no_more : parameter_of program f (suc (length params)) ≡ None
