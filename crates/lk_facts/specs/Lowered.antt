-- What the points of a program keep that were made from its typed tree.
use Rattle.std.specs.Prelude.{◌≡◌, ◌↔◌, ◌<◌, ◌⊎◌, ℕ, suc, Bool, true, false, [], ◌∷◌, List, Option, Some, None, length, slice_get, ⊤}
use Rattle.lk_base.specs.declared.kind.Kind.TheVariants.{Char}
use Rattle.lk_facts.specs.InRange.{AllOperands}
use Rattle.lk_facts.specs.Initials.{IsWritten}
use Rattle.lk_facts.specs.LabelRules.{AreVoidParts, IsWithin, form_of}
use Rattle.lk_facts.specs.Live.{IsReached}
use Rattle.lk_facts.specs.Places.{AreDifferent}
use Rattle.lk_facts.specs.Program.{action_at, next_of, live_at, function_at, site_at, entry_of, exit_of, value_site_of, root_at, place_at, parameter_of, root_of_function, function_of_root, IsLocation, IsLockPlace}
use Rattle.lk_facts.specs.Reach.{IsNext}
use Rattle.lk_facts.specs.Typed.{IsForm, HasPartAt, IsRootType, IsHolderType, IsNumberOf, IsTyped, IsFunctionTyped}
use Rattle.lk_facts.specs.declared.action.Action.{Action}
use Rattle.lk_facts.specs.declared.action.Action.TheVariants as action
use Rattle.lk_facts.specs.declared.action.Action.TheVariants.{Func, Skip, Release, Retake, Return, Text as OfText}
use Rattle.lk_base.specs.declared.cell.CellStep.{CellStep}
use Rattle.lk_facts.specs.declared.initial.Initial.{Initial}
use Rattle.lk_facts.specs.declared.initial.InitialValue.{InitialValue}
use Rattle.lk_facts.specs.declared.initial.InitialValue.TheVariants as value
use Rattle.lk_facts.specs.declared.place.Place.{Place}
use Rattle.lk_facts.specs.declared.program.Program.{Program}
use Rattle.lk_facts.specs.declared.root.Root.{Root}
use Rattle.lk_facts.specs.declared.root.Holder.{Holder}
use Rattle.lk_facts.specs.declared.root.RootKind.{RootKind}
use Rattle.lk_facts.specs.declared.root.RootKind.TheVariants.{Global, Static, Local, Heap, Text, Argv, Args, Function as FunctionRoot}
use Rattle.lk_types.specs.Equal.{IsAlike}
use Rattle.lk_types.specs.Objects.{is_mutex, is_value}
use Rattle.lk_types.specs.declared.c_type.CType.TheVariants.{Array, Cond, Int, Mutex, Pointer}

-- who has a site: a live call or creation, or a function that is used as a value
pub data Owner : Type 0 where
  point : ℕ → Owner
  function : ℕ → Owner

-- how many successors a point has where it isn't an exit: of a Branch two, of a Switch one a case and one
-- more, of a Create one where it made a thread and one where it failed; none where the thread ends (C99 6.8;
-- POSIX pthread_create, pthread_exit)
abbrev pub ways_of : Action → ℕ
ways_of (action.Branch a) = 2
ways_of (action.Switch a cases) = suc (length cases)
ways_of (action.Create f a) = 2
ways_of action.ExitThread = 0
ways_of action.ExitProcess = 0
ways_of (action.Value number ty) = 1
ways_of (action.Null ty) = 1
ways_of (action.Func f) = 1
ways_of action.SelfId = 1
ways_of (action.Root r) = 1
ways_of (action.Text r) = 1
ways_of (action.Field a member) = 1
ways_of (action.Index a b into) = 1
ways_of (action.Read a raw) = 1
ways_of (action.Write a b raw) = 1
ways_of (action.SlotRead s) = 1
ways_of (action.SlotWrite s a) = 1
ways_of (action.Unary op a) = 1
ways_of (action.Binary op a b) = 1
ways_of (action.Compute args ty equal) = 1
ways_of (action.Convert a ty) = 1
ways_of action.Skip = 1
ways_of (action.Call f args) = 1
ways_of (action.PointerCall a args) = 1
ways_of (action.Return a) = 1
ways_of (action.StoreId a) = 1
ways_of (action.Join a) = 1
ways_of (action.Detach a) = 1
ways_of (action.Lock a) = 1
ways_of (action.Unlock a) = 1
ways_of (action.Release cond mutex) = 1
ways_of (action.Retake a) = 1
ways_of (action.Init a) = 1
ways_of (action.Destroy a) = 1
ways_of (action.Signal a) = 1
ways_of (action.Allocate ty count zero root) = 1
ways_of (action.Free a) = 1
ways_of (action.Scan a) = 1
ways_of (action.Fill a place named) = 1

-- the function that an action names: it calls it, starts a thread there, or gives a pointer to it
abbrev pub named_function : Action → Option ℕ
named_function (action.Func f) = Some f
named_function (action.Call f args) = Some f
named_function (action.Create f a) = Some f
named_function (action.Value number ty) = None
named_function (action.Null ty) = None
named_function action.SelfId = None
named_function (action.Root r) = None
named_function (action.Text r) = None
named_function (action.Field a member) = None
named_function (action.Index a b into) = None
named_function (action.Read a raw) = None
named_function (action.Write a b raw) = None
named_function (action.SlotRead s) = None
named_function (action.SlotWrite s a) = None
named_function (action.Unary op a) = None
named_function (action.Binary op a b) = None
named_function (action.Compute args ty equal) = None
named_function (action.Convert a ty) = None
named_function (action.Branch a) = None
named_function (action.Switch a cases) = None
named_function action.Skip = None
named_function (action.PointerCall a args) = None
named_function (action.Return a) = None
named_function (action.StoreId a) = None
named_function (action.Join a) = None
named_function (action.Detach a) = None
named_function action.ExitThread = None
named_function action.ExitProcess = None
named_function (action.Lock a) = None
named_function (action.Unlock a) = None
named_function (action.Release cond mutex) = None
named_function (action.Retake a) = None
named_function (action.Init a) = None
named_function (action.Destroy a) = None
named_function (action.Signal a) = None
named_function (action.Allocate ty count zero root) = None
named_function (action.Free a) = None
named_function (action.Scan a) = None
named_function (action.Fill a place named) = None

-- a root whose parts are cells: a text's can't be written, and a function has none
abbrev pub holds_cells : RootKind → Bool
holds_cells Global = true
holds_cells Static = true
holds_cells Local = true
holds_cells (Heap one) = true
holds_cells Text = false
holds_cells Argv = true
holds_cells Args = true
holds_cells FunctionRoot = false

module _ (program : Program) where
  abbrev pub IsSite : ℕ → Owner → Type 0
  IsSite i (Owner.point p) = site_at program p ≡ Some i
  IsSite i (Owner.function f) = value_site_of program f ≡ Some i

  -- one has the site, and no other
  pub record IsSiteOfOne (i : ℕ) : Type 0 where
    pub owner : Owner
    pub has : IsSite i owner
    pub only : (other : Owner) → IsSite i other → other ≡ owner

  -- a point gives a pointer to the function
  abbrev pub IsUsedAsValue : ℕ → Type 0
  IsUsedAsValue f = (p : ℕ) × (action_at program p ≡ Some (Func f))

  -- the root has a part of the type there
  abbrev pub HasPart : ℕ → List CellStep → ℕ → Type 0
  HasPart r path u = (t : ℕ) × IsRootType program r t × HasPartAt program.types t path u

  -- A cell of the type t may begin with the value. Of an address it isn't asked what it leads to: a pointer
  -- may have gone through `void *` to another type (C99 6.3.2.3, 1), and the size of an array may come behind
  -- the initialiser (C99 6.2.2, 4).
  abbrev pub MayBegin : (t : ℕ) → InitialValue → Type 0
  MayBegin t (value.Number n) = IsNumberOf program n t
  MayBegin t value.Null = (u : ℕ) × IsForm program.types t (Pointer u)
  MayBegin t (value.Function f) =
      (u form : ℕ) × IsForm program.types t (Pointer u)
      × ((r : ℕ) × (root_of_function program f ≡ Some r) × IsRootType program r form)
      × IsAlike program.types.types u form
  MayBegin t (value.Address r path past) = (u : ℕ) × IsForm program.types t (Pointer u)
  MayBegin t value.Ready = IsForm program.types t Mutex ⊎ IsForm program.types t Cond

  -- the cell is a part of its object, and may begin with its value
  abbrev pub IsInitial : Initial → Type 0
  IsInitial initial = (t : ℕ) × HasPart initial.root initial.path t × MayBegin t initial.value

  -- the entry of a function does nothing, stands in it, and is nobody's successor
  pub record IsEntry (f p : ℕ) : Type 0 where
    pub stands : function_at program p ≡ Some f
    pub skips : action_at program p ≡ Some Skip
    pub first : (q : ℕ) → IsNext program q p → ⊥

  -- the exit of a function does nothing, stands in it, and has no successors
  pub record IsExit (f p : ℕ) : Type 0 where
    pub stands : function_at program p ≡ Some f
    pub skips : action_at program p ≡ Some Skip
    pub last : next_of program p ≡ []

  abbrev pub IsExitOfOne : ℕ → Type 0
  IsExitOfOne p = (f : ℕ) × (exit_of program f ≡ Some p)

  -- a text is an array of the char that it has bytes for (C99 6.4.5)
  pub record IsText (r : ℕ) : Type 0 where
    pub root : Root
    pub of : root_at program r ≡ Some root
    pub kind : root.kind ≡ Text
    pub char : ℕ
    pub is_char : IsForm program.types char (Int Char)
    pub bytes : IsForm program.types root.ty (Array char (length root.bytes))

  -- the type is of pointers to char
  abbrev pub IsString : ℕ → Type 0
  IsString t = (char : ℕ) × IsForm program.types t (Pointer char) × IsForm program.types char (Int Char)

  -- the strings of main's arguments have a root
  abbrev pub HasStrings : Type 0
  HasStrings = (r : ℕ) × (root : Root) × (root_at program r ≡ Some root) × (root.kind ≡ Args)

  -- the objects of main's arguments (C99 5.1.2.2.1): the pointers to the strings,
  -- and the chars of the strings
  abbrev pub IsArgument : RootKind → ℕ → Type 0
  IsArgument Global t = ⊤
  IsArgument Static t = ⊤
  IsArgument Local t = ⊤
  IsArgument (Heap one) t = ⊤
  IsArgument Text t = ⊤
  IsArgument Argv t = (string n : ℕ) × IsForm program.types t (Array string n) × IsString string × HasStrings
  IsArgument Args t =
      (char n : ℕ) × IsForm program.types t (Array char n) × IsForm program.types char (Int Char)
  IsArgument FunctionRoot t = ⊤

  -- the place is a part of the object of such a root
  pub record IsPartOfObject (place : Place) : Type 0 where
    pub root : Root
    pub of : root_at program place.root ≡ Some root
    pub cells : holds_cells root.kind ≡ true
    pub within : IsWithin program.types root.ty place.node

  -- the place of a cell with a value, and that of a mutex; a condition variable is neither
  abbrev pub IsPlaceOfValue : Place → Type 0
  IsPlaceOfValue place = IsPartOfObject place × (is_value (form_of program.types place.node) ≡ true)

  abbrev pub IsPlaceOfMutex : Place → Type 0
  IsPlaceOfMutex place = IsPartOfObject place × (is_mutex (form_of program.types place.node) ≡ true)

  pub record IsLowered : Type 0 where
    -- operands and successors of a point stand in its function
    pub operands : (p : ℕ) (action : Action) → action_at program p ≡ Some action →
        AllOperands (λ a. function_at program a ≡ function_at program p) action
    pub successors : (p q : ℕ) → IsNext program p q → function_at program q ≡ function_at program p
    -- each operand, slot, parameter and result has the type that its action needs
    pub typed : (p f : ℕ) (action : Action) → action_at program p ≡ Some action →
        function_at program p ≡ Some f → IsTyped program p f action
    pub functions : (f : ℕ) → f < length program.functions → IsFunctionTyped program f
    -- the root of a function stands for it
    pub function_roots : (f r : ℕ) → (root_of_function program f ≡ Some r)
        ↔ (function_of_root program r ≡ Some f)
    -- each number below that of the sites is the site of exactly one live call or creation, or
    -- function that is used as a value
    pub sites : (i : ℕ) → i < program.sites → IsSiteOfOne i
    pub value_sites : (f : ℕ) → ((i : ℕ) × (value_site_of program f ≡ Some i)) ↔ IsUsedAsValue f
    -- functions begin at their entries, and their returns lead to their exits
    pub entries : (f e : ℕ) → entry_of program f ≡ Some e → IsEntry f e
    pub exits : (f e : ℕ) → exit_of program f ≡ Some e → IsExit f e
    pub returns : (p f e : ℕ) (a : Option ℕ) → action_at program p ≡ Some (Return a) →
        function_at program p ≡ Some f → exit_of program f ≡ Some e → next_of program p ≡ e ∷ []
    -- each other point of a function has as many successors as its action asks for
    pub ways : (p f : ℕ) (action : Action) → action_at program p ≡ Some action →
        function_at program p ≡ Some f → f < length program.functions → (IsExitOfOne p → ⊥) →
        length (next_of program p) ≡ ways_of action
    -- a wait takes the mutex again that it gave back, before anything else (POSIX pthread_cond_wait)
    pub waits : (p q cond mutex : ℕ) → action_at program p ≡ Some (Release cond mutex) → IsNext program p q →
        action_at program q ≡ Some (Retake mutex)
    -- `main` begins at the start of the program alone: no point calls it, starts a
    -- thread there, or takes its address
    pub mains : (p : ℕ) (action : Action) → action_at program p ≡ Some action →
        named_function action ≡ Some program.main → ⊥
    -- live is what is reached
    pub live : (p : ℕ) → (live_at program p ≡ true) ↔ IsReached program.points program.functions p
    -- A text's bytes are there, and so is each cell that an initialiser of static storage names. It may begin
    -- with its value, and a point writes each pointer.
    pub texts : (p r : ℕ) → action_at program p ≡ Some (OfText r) → IsText r
    pub initials : (i : ℕ) (initial : Initial) →
        slice_get program.initials i ≡ Some initial → IsInitial initial
    pub written : (i : ℕ) (initial : Initial) → slice_get program.initials i ≡ Some initial →
        IsWritten program initial initial.value
    -- void has the Parts that points give it
    pub parts : AreVoidParts program
    -- main's arguments, and its second parameter, which points to them
    pub arguments : (r : ℕ) (root : Root) → root_at program r ≡ Some root → IsArgument root.kind root.ty
    pub argv : (holder : Holder) (t : ℕ) → parameter_of program program.main 2 ≡ Some holder →
        IsHolderType program holder t →
        (string : ℕ) × IsForm program.types t (Pointer string) × IsString string
    -- the locations are the places of cells with values, and the lock places those of mutexes
    pub locations : (place : Place) → ((n : ℕ) × IsLocation program n × (place_at program n ≡ Some place))
        ↔ IsPlaceOfValue place
    pub locks : (place : Place) → ((n : ℕ) × IsLockPlace program n × (place_at program n ≡ Some place))
        ↔ IsPlaceOfMutex place
    -- no place has two numbers
    pub places_differ : AreDifferent program.places
