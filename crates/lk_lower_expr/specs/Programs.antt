-- The program that checked sources become, whole: besides its points its functions, roots, slots, places and
-- what its storage begins with.
use Rattle.std.specs.Prelude.{◌≡◌, ◌↔◌, ◌<◌, ◌⊎◌, ◌-◌, ◌++◌, ℕ, All, zero, suc, Bool, true, false, List, [], ◌∷◌, Option, None, Some, length, map, take, slice_get, get_or, ⊤}
use Rattle.std.specs.List.{Contains}
use Rattle.lk_base.specs.declared.cell.CellStep.{CellStep}
use Rattle.lk_base.specs.declared.kind.Kind.TheVariants.{Char}
use Rattle.lk_base.specs.declared.spot.Spot.{Spot}
use Rattle.lk_facts.specs.Lowered.{IsPlaceOfValue, IsPlaceOfMutex}
use Rattle.lk_facts.specs.Places.{AreDifferent}
use Rattle.lk_facts.specs.Program.{site_at, value_site_of, root_at, place_at, IsLocation, IsLockPlace}
use Rattle.lk_facts.specs.Typed.{IsForm}
use Rattle.lk_facts.specs.declared.function.Function.{Function}
use Rattle.lk_facts.specs.declared.initial.Initial.{Initial}
use Rattle.lk_facts.specs.declared.initial.InitialValue.{InitialValue}
use Rattle.lk_facts.specs.declared.initial.InitialValue.TheVariants as begins
use Rattle.lk_facts.specs.declared.place.Place.{Place}
use Rattle.lk_facts.specs.declared.program.Program.{Program}
use Rattle.lk_facts.specs.declared.root.Holder.{Holder}
use Rattle.lk_facts.specs.declared.root.Holder.TheVariants as holder
use Rattle.lk_facts.specs.declared.root.Root.{Root}
use Rattle.lk_facts.specs.declared.root.RootKind.{RootKind}
use Rattle.lk_facts.specs.declared.root.RootKind.TheVariants as kind
use Rattle.lk_lower_expr.specs.Lowering as lowering
use Rattle.lk_lower_expr.specs.Lowering.{Numbers, Counts, declaration_of, ArePoints}
use Rattle.lk_lower_expr.specs.Names.{Node}
use Rattle.lk_lower_expr.specs.Cells.{cell_node}
use Rattle.lk_lower_expr.specs.Owned.{Owned, text, allocation, hidden, owned_by, of_static_parts}
use Rattle.lk_typed.specs.declared.entity.Declaration.{Declaration}
use Rattle.lk_typed.specs.declared.entity.Entity.{Entity}
use Rattle.lk_typed.specs.declared.entity.EntityKind.TheVariants as entity_kind
use Rattle.lk_typed.specs.declared.entity.Linkage.{Linkage}
use Rattle.lk_typed.specs.declared.entity.Linkage.TheVariants as linkage
use Rattle.lk_typed.specs.declared.initialiser.StaticObject.{StaticObject}
use Rattle.lk_typed.specs.declared.initialiser.StaticPart.{StaticPart}
use Rattle.lk_typed.specs.declared.initialiser.StaticValue.{StaticValue}
use Rattle.lk_typed.specs.declared.initialiser.StaticValue.TheVariants as value
use Rattle.lk_typed.specs.declared.unit.Body.{Body}
use Rattle.lk_typed.specs.declared.unit.Local.{Local}
use Rattle.lk_typed.specs.declared.whole.Linked.{Linked}
use Rattle.lk_typed.specs.declared.whole.Whole.{Whole}
use Rattle.lk_typed.specs.declared.whole.WholeEntity.{WholeEntity}
use Rattle.lk_types.specs.Predeclared.{kind_id}
use Rattle.lk_types.specs.Table.{type_at}
use Rattle.lk_types.specs.declared.c_type.CType.{CType}
use Rattle.lk_types.specs.declared.c_type.CType.TheVariants.{Array, Pointer, Function as FunctionType}

-- one place of a source stands before another: by its file, line and column
abbrev pub IsSpotBefore : Spot → Spot → Type 0
IsSpotBefore a b =
    (a.file < b.file) ⊎ ((a.file ≡ b.file) × ((a.line < b.line) ⊎ ((a.line ≡ b.line) × (a.col < b.col))))

-- an object of external linkage is a global, each other one of static storage is static
abbrev pub kind_of : Linkage → RootKind
kind_of linkage.External = kind.Global
kind_of linkage.Internal = kind.Static
kind_of linkage.None = kind.Static

-- the body b of the source s, among these sources
pub record IsBody (sources : List Linked) (s b : ℕ) (linked : Linked) (body : Body) : Type 0 where
  pub source : slice_get sources s ≡ Some linked
  pub at : slice_get linked.unit.bodies b ≡ Some body

-- the source s has the body b, which is a function of the program
abbrev pub HasFunction : List Linked → (s b k : ℕ) → Type 0
HasFunction sources s b k = (k ≡ 0) × ((linked : Linked) × (body : Body) × IsBody sources s b linked body)

-- the program's number of a type of a source
abbrev pub type_here : Linked → ℕ → ℕ
type_here linked t = get_or linked.types t 0

-- the type t of the source s is a type of the program
abbrev pub IsTypeHere : List Linked → (s t here : ℕ) → Type 0
IsTypeHere sources s t here =
    (linked : Linked) × (slice_get sources s ≡ Some linked) × (slice_get linked.types t ≡ Some here)

-- the entity e of the source s is defined there, by this declaration
pub record IsDefined (whole : Whole) (s e : ℕ) (linked : Linked) (entity : Entity) (here : WholeEntity)
    (by : Declaration) : Type 0 where
  pub source : slice_get whole.sources s ≡ Some linked
  pub at : slice_get linked.unit.entities e ≡ Some entity
  pub number : ℕ
  pub numbered : slice_get linked.entities e ≡ Some number
  pub is : slice_get whole.entities number ≡ Some here
  pub there : here.defined ≡ Some (s, e)
  pub declared : declaration_of entity ≡ Some by

module _ (whole : Whole) (numbers : Numbers) where
  -- ---- what objects of static storage begin with

  abbrev pub value_here : (s : ℕ) → StaticValue → InitialValue
  value_here s (value.Number n) = begins.Number n
  value_here s value.Null = begins.Null
  value_here s (value.Function e) =
      begins.Function (lowering.function_of whole numbers (lowering.definition_of whole numbers s e))
  value_here s (value.Address e path past) =
      begins.Address (lowering.root_of_entity whole numbers (lowering.definition_of whole numbers s e)) path
      past
  value_here s (value.Text node path past) = begins.Address (numbers.root s node) path past
  value_here s value.Ready = begins.Ready

  abbrev pub initial_here : (s : ℕ) → StaticObject → StaticPart → Initial
  initial_here s object part = record {
    root = lowering.root_of_entity whole numbers (lowering.definition_of whole numbers s object.entity);
    path = part.path;
    value = value_here s part.value;
  }

  abbrev pub initials_of_objects : (s : ℕ) → List StaticObject → List Initial
  initials_of_objects s [] = []
  initials_of_objects s (object ∷ others) =
      map (initial_here s object) object.parts ++ initials_of_objects s others

  -- those of all sources, the first of them the source s
  abbrev pub initials_from : (s : ℕ) → List Linked → List Initial
  initials_from s [] = []
  initials_from s (linked ∷ others) =
      initials_of_objects s linked.unit.objects ++ initials_from (suc s) others

module _ (whole : Whole) (numbers : Numbers) (program : Program) where
  abbrev pub function_around : (s : ℕ) → Option ℕ → Option ℕ
  function_around s None = None
  function_around s (Some b) = Some (numbers.function s b)

  -- ---- roots: what is declared or allocated at a node

  abbrev pub root : RootKind → (ty : ℕ) → Spot → List ℕ → Option ℕ → Option ℕ → List ℕ → Root
  root kind ty spot name function point bytes =
      record { kind = kind; ty = ty; spot = spot; name = name; function = function; point = point; bytes = bytes }

  -- the node owns something in a body, or in an initialiser of static storage
  pub data Owns (s : ℕ) (linked : Linked) (owned : Owned) : Option ℕ → Type 0 where
    in_body : (b : ℕ) (body : Body) → IsBody whole.sources s b linked body →
        Contains (owned_by (type_at linked.unit.types) body.block) owned →
        Owns s linked owned (Some (numbers.function s b))
    in_static : (object : StaticObject) → slice_get whole.sources s ≡ Some linked →
        Contains linked.unit.objects object →
        Contains (of_static_parts (type_at linked.unit.types) object.parts) owned → Owns s linked owned None

  -- one object of a type, or an array of them without a size
  pub data IsAllocatedType (t : ℕ) : (one : Bool) → ℕ → Type 0 where
    one : IsAllocatedType t true t
    many : (u : ℕ) → IsForm program.types u (Array t 0) → IsAllocatedType t false u

  pub data IsRoot (s : ℕ) : (o : ℕ) → Root → Type 0 where
    of_object : (e : ℕ) (linked : Linked) (entity : Entity) (here : WholeEntity) (by : Declaration) →
        IsDefined whole s e linked entity here by → entity.kind ≡ entity_kind.Object →
        IsRoot s by.ordinal (root (kind_of entity.linkage) here.ty by.spot entity.name (function_around s entity.body) None [])
    of_function : (b : ℕ) (linked : Linked) (body : Body) (entity : Entity) (here : WholeEntity)
        (by : Declaration) → IsBody whole.sources s b linked body →
        IsDefined whole s body.entity linked entity here by →
        IsRoot s by.ordinal (root kind.Function here.ty by.spot entity.name (Some (numbers.function s b)) None [])
    of_local : (b l : ℕ) (linked : Linked) (body : Body) (is : Local) → IsBody whole.sources s b linked body →
        slice_get body.locals l ≡ Some is → is.is_slot ≡ false →
        IsRoot s is.ordinal (root kind.Local (type_here linked is.ty) is.spot is.name (Some (numbers.function s b)) None [])
    of_text : (linked : Linked) (node : Node) (bytes : List ℕ) (function : Option ℕ) →
        Owns s linked (text node bytes) function →
        IsRoot s node.ordinal (root kind.Text (type_here linked node.type) node.spot [] None None (bytes ++ (0 ∷ [])))
    of_allocation : (linked : Linked) (node : Node) (t u : ℕ) (single : Bool) (function : Option ℕ) →
        Owns s linked (allocation node t single) function → IsAllocatedType (type_here linked t) single u →
        IsRoot s node.ordinal (root (kind.Heap single) u node.spot [] function (Some (numbers.point s node.ordinal 0)) [])

  -- main's arguments stand before all other roots, where it has parameters (C99 5.1.2.2.1)
  abbrev pub arguments : ℕ → ℕ
  arguments zero = 0
  arguments (suc parameters) = 2

  pub record AreArguments (at : Spot) : Type 0 where
    pub string : ℕ
    pub strings : ℕ
    pub chars : ℕ
    pub string_form : IsForm program.types string (Pointer (kind_id Char))
    pub strings_form : IsForm program.types strings (Array string 0)
    pub chars_form : IsForm program.types chars (Array (kind_id Char) 0)
    pub argv : root_at program 0 ≡ Some (root kind.Argv strings at [] None None [])
    pub args : root_at program 1 ≡ Some (root kind.Args chars at [] None None [])

  abbrev pub HasRoot : (s o k : ℕ) → Type 0
  HasRoot s o k = (k ≡ 0) × ((is : Root) × IsRoot s o is)

  -- the body that defines main, and its declared name
  pub record IsMain (s b : ℕ) (body : Body) (by : Declaration) : Type 0 where
    pub linked : Linked
    pub of : IsBody whole.sources s b linked body
    pub entity : Entity
    pub here : WholeEntity
    pub at : slice_get whole.entities whole.main ≡ Some here
    pub is : IsDefined whole s body.entity linked entity here by
    pub numbered : program.main ≡ numbers.function s b

  abbrev pub HaveArguments : ℕ → Spot → Type 0
  HaveArguments zero at = ⊤
  HaveArguments (suc parameters) at = AreArguments at

  pub record AreRoots : Type 0 where
    pub s : ℕ
    pub b : ℕ
    pub body : Body
    pub by : Declaration
    pub main : IsMain s b body by
    pub arguments_ : HaveArguments body.parameters by.spot
    pub order : Counts HasRoot (arguments body.parameters) (length program.roots - arguments body.parameters)
        (λ s o k. numbers.root s o)
    pub each : (s o : ℕ) (is : Root) → IsRoot s o is → root_at program (numbers.root s o) ≡ Some is

  -- ---- slots and functions

  -- a slot of a body with its type: a local, or the value of a node
  pub data IsSlot (s b : ℕ) : (o type : ℕ) → Type 0 where
    of_declared : (l : ℕ) (linked : Linked) (body : Body) (is : Local) →
        IsBody whole.sources s b linked body → slice_get body.locals l ≡ Some is → is.is_slot ≡ true →
        IsSlot s b is.ordinal (type_here linked is.ty)
    of_value : (linked : Linked) (body : Body) (node : Node) → IsBody whole.sources s b linked body →
        Contains (owned_by (type_at linked.unit.types) body.block) (hidden node) →
        IsSlot s b node.ordinal (type_here linked node.type)

  abbrev pub HasSlot : (s b t o k : ℕ) → Type 0
  HasSlot s b t o k = (t ≡ s) × (k ≡ 0) × ((type : ℕ) × IsSlot s b o type)

  -- what holds a parameter
  abbrev pub holder_by : (slot : Bool) → (function s o : ℕ) → Holder
  holder_by true function s o = holder.Slot function (numbers.slot s o)
  holder_by false function s o = holder.Root (numbers.root s o)

  abbrev pub holder_of : (function s : ℕ) → Local → Holder
  holder_of function s is = holder_by is.is_slot function s is.ordinal

  pub record IsFunction (s b : ℕ) (linked : Linked) (body : Body) (is : Function) : Type 0 where
    pub entity : Entity
    pub here : WholeEntity
    pub by : Declaration
    pub defined : IsDefined whole s body.entity linked entity here by
    pub name : is.name ≡ entity.name
    pub root_ : is.root ≡ numbers.root s by.ordinal
    pub entry : is.entry ≡ numbers.point s body.ordinal 0
    pub exit : is.exit ≡ numbers.point s body.ordinal 2
    pub parameters : is.parameters
        ≡ map (holder_of (numbers.function s b) s) (take body.parameters body.locals)
    pub result : (params : List ℕ) × (dots : Bool)
        × IsForm program.types here.ty (FunctionType is.result params dots)
    pub order : Counts (HasSlot s b) 0 (length is.slots) (λ t o k. numbers.slot t o)
    pub slots : (o type : ℕ) → IsSlot s b o type → slice_get is.slots (numbers.slot s o) ≡ Some type

  pub record AreFunctions : Type 0 where
    pub order : Counts (HasFunction whole.sources) 0 (length program.functions)
        (λ s b k. numbers.function s b)
    pub each : (s b : ℕ) (linked : Linked) (body : Body) → IsBody whole.sources s b linked body →
        (is : Function) × (slice_get program.functions (numbers.function s b) ≡ Some is)
        × IsFunction s b linked body is

  -- ---- places and sites

  -- one place stands before another: by the place of its root in the text, then by its root, then by its
  -- part, members in their order
  pub record IsPlaceBefore (a b : Place) : Type 0 where
    pub ra : Root
    pub rb : Root
    pub of_a : root_at program a.root ≡ Some ra
    pub of_b : root_at program b.root ≡ Some rb
    pub before : IsSpotBefore ra.spot rb.spot
        ⊎ ((ra.spot ≡ rb.spot) × ((a.root < b.root) ⊎ ((a.root ≡ b.root) × (a.node.number < b.node.number))))

  -- the locations are the places of cells with values, and the lock places those of
  -- mutexes; both stand in their order
  pub record ArePlaces : Type 0 where
    pub values : (place : Place) → ((n : ℕ) × IsLocation program n × (place_at program n ≡ Some place))
        ↔ IsPlaceOfValue program place
    pub mutexes : (place : Place) → ((n : ℕ) × IsLockPlace program n × (place_at program n ≡ Some place))
        ↔ IsPlaceOfMutex program place
    pub locations : (n m : ℕ) (a b : Place) → IsLocation program n → IsLocation program m → n < m →
        place_at program n ≡ Some a → place_at program m ≡ Some b → IsPlaceBefore a b
    pub locks : (n m : ℕ) (a b : Place) → IsLockPlace program n → IsLockPlace program m → n < m →
        place_at program n ≡ Some a → place_at program m ≡ Some b → IsPlaceBefore a b

  -- the sites of points in their order, and then those of functions in theirs
  pub record AreSites : Type 0 where
    pub points : (p q i j : ℕ) → site_at program p ≡ Some i → site_at program q ≡ Some j → p < q → i < j
    pub then_functions : (p f i j : ℕ) → site_at program p ≡ Some i → value_site_of program f ≡ Some j → i < j
    pub functions : (f g i j : ℕ) → value_site_of program f ≡ Some i →
        value_site_of program g ≡ Some j → f < g → i < j

  -- the program's types are those of the sources, and such as roots need besides
  pub record AreProgramTypes : Type 0 where
    pub more : List CType
    pub kept : program.types.types ≡ whole.types.types ++ more
    pub members : program.types.members ≡ whole.types.members

  -- of each type of each source the number of the pointer to it is that of a pointer to it
  abbrev pub ArePointers : Type 0
  ArePointers = (s t here : ℕ) → IsTypeHere whole.sources s t here →
      IsForm program.types (numbers.pointer here) (Pointer here)

  -- the nodes of cells are those of the program's types
  abbrev pub AreNodes : Type 0
  AreNodes = (ty : ℕ) (path : List CellStep) → numbers.node ty path ≡ cell_node program.types ty path

  -- a program made of the sources, with these numbers
  pub record IsMadeWith : Type 0 where
    pub points : ArePoints whole numbers program
    pub roots : AreRoots
    pub functions : AreFunctions
    pub initials : program.initials ≡ initials_from whole numbers 0 whole.sources
    pub places : ArePlaces
    pub sites : AreSites
    pub types : AreProgramTypes
    pub pointers : ArePointers
    pub nodes : AreNodes

-- a program made of the sources
abbrev pub IsMadeOf : Whole → Program → Type 0
IsMadeOf whole program = (numbers : Numbers) × IsMadeWith whole numbers program

-- more than so many locations and lock places, by the roots and types of a
-- program that is made of the sources
pub record HasMorePlaces (whole : Whole) (most : ℕ) : Type 0 where
  pub numbers : Numbers
  pub program : Program
  pub roots : AreRoots whole numbers program
  pub types : AreProgramTypes whole numbers program
  pub places : List Place
  pub each : All (λ place. IsPlaceOfValue program place ⊎ IsPlaceOfMutex program place) places
  pub different : AreDifferent places
  pub many : most < length places
