-- Labels (LOCKSMITH: a label for each level of each type): what pointers may point to, and
-- in which order labels stand.
use Rattle.std.specs.Prelude.{◌≡◌, ◌↔◌, ◌<◌, ◌≤◌, ◌⊎◌, ℕ, Bool, true, false, not, List, [], ◌∷◌, ◌++◌, map, filter_map, length, slice_get, Option, Some, Contains, AllPairs, MatchOption, min, ◌-◌, ◌^◌, nat_eq, ⊤}
use Rattle.std.specs.Option.{option_map_or}
use Rattle.lk_facts.specs.Labels.{LabelTable}
use Rattle.lk_facts.specs.Places.{AreDifferent, IsMissing}
use Rattle.lk_facts.specs.Program.{action_at, place_of, place_at, root_at, function_at}
use Rattle.lk_facts.specs.Typed.{GivesForm, IsHolderType, PointsToForm}
use Rattle.lk_facts.specs.declared.action.Action.TheVariants.{Allocate, Convert}
use Rattle.lk_facts.specs.declared.label_entry.LabelEntry.{LabelEntry}
use Rattle.lk_facts.specs.declared.label_entry.LabelName.{LabelName}
use Rattle.lk_facts.specs.declared.program.Program.{Program}
use Rattle.lk_facts.specs.declared.root.Holder.{Holder}
use Rattle.lk_facts.specs.declared.root.Holder.TheVariants.{Root, Slot, Result, Point}
use Rattle.lk_facts.specs.declared.root.RootKind.{RootKind}
use Rattle.lk_facts.specs.declared.root.RootKind.TheVariants as kind
use Rattle.lk_types.specs.Nodes.{Node, IsNode, node_of, first, step}
use Rattle.lk_types.specs.Objects.{is_mutex, numbers_from}
use Rattle.lk_types.specs.Table.{Table, type_at, fields_of, least_of}
use Rattle.lk_types.specs.Walks.{is_void}
use Rattle.lk_types.specs.declared.c_type.CType.{CType}
use Rattle.lk_types.specs.declared.c_type.CType.TheVariants.{Void, Int, ThreadId, Mutex, Cond, Pointer, Array, Struct, Function, Opaque}
use Rattle.lk_types.specs.declared.node.Base.TheVariants.{Start}
use Rattle.lk_types.specs.declared.node.NodeId.{NodeId}
use Rattle.lk_types.specs.declared.node.Sel.{Sel}
use Rattle.lk_types.specs.declared.node.Sel.TheVariants.{Target, Element, Field, Part}

abbrev pub is_function : CType → Bool
is_function Void = false
is_function (Int k) = false
is_function ThreadId = false
is_function Mutex = false
is_function Cond = false
is_function (Pointer t) = false
is_function (Array t n) = false
is_function (Struct s) = false
is_function (Function result params dots) = true
is_function (Opaque n) = false

-- a step from a node of this form leads to a place or a function. One from a function leads to its result or
-- to a parameter of it, which are values.
abbrev pub leads_to_place : CType → Sel → Bool
leads_to_place form Target = true
leads_to_place form Element = true
leads_to_place form (Field k) = not (is_function form)
leads_to_place form (Part t) = true

-- a step from a place of this form leads into a part of it
abbrev pub leads_inside : CType → Sel → Bool
leads_inside form Target = false
leads_inside form Element = true
leads_inside form (Field k) = not (is_function form)
leads_inside form (Part t) = true

module _ (table : Table) where
  -- the form of a node's type
  abbrev pub form_of : NodeId → CType
  form_of n = type_at table (node_of table n).type

  -- the step leads from the node m to the node n
  pub record Steps (m : NodeId) (s : Sel) (n : NodeId) : Type 0 where
    pub node : IsNode table n
    pub leads : step table (node_of table m) s ≡ Some (node_of table n)

  -- n is the Start of the type
  pub record IsStart (t : ℕ) (n : NodeId) : Type 0 where
    pub node : IsNode table n
    pub first : node_of table n ≡ first (Start t)

  -- a node of a type: its Start, or that to which a step leads from one
  pub data IsNodeOf (t : ℕ) : NodeId → Type 0 where
    start : (n : NodeId) → IsStart t n → IsNodeOf t n
    part : (m n : NodeId) (s : Sel) → IsNodeOf t m → Steps m s n → IsNodeOf t n

  -- The node names a place or a function. The Start does so where a root has the type (`whole`); that of a
  -- slot, a result or a point names its value.
  pub data NamesPlace (t : ℕ) (whole : Bool) : NodeId → Type 0 where
    start : (n : NodeId) → whole ≡ true → IsStart t n → NamesPlace t whole n
    part : (m n : NodeId) (s : Sel) → IsNodeOf t m → leads_to_place (form_of m) s ≡ true → Steps m s n →
        NamesPlace t whole n

  -- a node that is reached from the Start without Target
  pub data IsWithin (t : ℕ) : NodeId → Type 0 where
    start : (n : NodeId) → IsStart t n → IsWithin t n
    part : (m n : NodeId) (s : Sel) → IsWithin t m → leads_inside (form_of m) s ≡ true →
        Steps m s n → IsWithin t n

  -- the steps from a node, in order: Target, Element, Field by number, Part in the order of the table
  abbrev pub sels : ℕ → List Sel
  sels t =
      Target ∷ Element ∷ map Field (numbers_from 0 (length (fields_of table (type_at table t)))) ++
      map Part table.parts

  -- the parts of a node, in order
  abbrev pub parts_of : Node → List Node
  parts_of node = filter_map (step table node) (sels node.type)

  -- Where the nodes `seen` are listed and those `ahead` come next, the walk goes on with the nodes listed
  -- last: depth first, each node once and before its parts.
  pub data Walk : (seen ahead listed : List Node) → Type 0 where
    done : (seen : List Node) → Walk seen [] []
    again : (node : Node) (seen ahead more : List Node) → Contains seen node → Walk seen ahead more →
        Walk seen (node ∷ ahead) more
    fresh : (node : Node) (seen ahead below more : List Node) → IsMissing seen node →
        Walk (seen ++ node ∷ []) (parts_of node) below → Walk (seen ++ node ∷ below) ahead more →
        Walk seen (node ∷ ahead) (node ∷ below ++ more)

  -- in the walk from the Start of the type the node m comes before n
  pub record ComesBefore (t : ℕ) (m n : NodeId) : Type 0 where
    pub walk : List Node
    pub is : Walk [] (first (Start t) ∷ []) walk
    pub i : ℕ
    pub j : ℕ
    pub m_at : slice_get walk i ≡ Some (node_of table m)
    pub n_at : slice_get walk j ≡ Some (node_of table n)
    pub less : i < j

abbrev pub is_root : Holder → Bool
is_root (Root r) = true
is_root (Slot f s) = false
is_root (Result f) = false
is_root (Point p) = false

-- the order of holders: roots, slots, results, points, and those of one kind by their numbers
abbrev pub StandsBefore : Holder → Holder → Type 0
StandsBefore (Root r) (Root q) = r < q
StandsBefore (Root r) (Slot g l) = ⊤
StandsBefore (Root r) (Result g) = ⊤
StandsBefore (Root r) (Point q) = ⊤
StandsBefore (Slot f k) (Root q) = ⊥
StandsBefore (Slot f k) (Slot g l) = (f < g) ⊎ ((f ≡ g) × (k < l))
StandsBefore (Slot f k) (Result g) = ⊤
StandsBefore (Slot f k) (Point q) = ⊤
StandsBefore (Result f) (Root q) = ⊥
StandsBefore (Result f) (Slot g l) = ⊥
StandsBefore (Result f) (Result g) = f < g
StandsBefore (Result f) (Point q) = ⊤
StandsBefore (Point p) (Root q) = ⊥
StandsBefore (Point p) (Slot g l) = ⊥
StandsBefore (Point p) (Result g) = ⊥
StandsBefore (Point p) (Point q) = p < q

-- a root that is there but once, wherever threads and contexts are: no local and no allocation
abbrev pub is_global_kind : RootKind → Bool
is_global_kind kind.Global = true
is_global_kind kind.Static = true
is_global_kind kind.Local = false
is_global_kind (kind.Heap one) = false
is_global_kind kind.Text = true
is_global_kind kind.Argv = true
is_global_kind kind.Args = true
is_global_kind kind.Function = true

module _ (program : Program) where
  -- a root, a slot, a result or a point that gives a value: it has a type
  abbrev pub IsHolder : Holder → Type 0
  IsHolder h = (t : ℕ) × IsHolderType program h t

  -- all holders in their order
  pub record AreHolders (holders : List Holder) : Type 0 where
    pub each : (h : Holder) → Contains holders h ↔ IsHolder h
    pub ordered : AllPairs StandsBefore holders

  -- the number of a holder, which of a root is its own
  abbrev pub IsNumberOfHolder : Holder → ℕ → Type 0
  IsNumberOfHolder h n = (holders : List Holder) × AreHolders holders × (slice_get holders n ≡ Some h)

  -- a label: a holder, and a node of its type that names a place or a function
  abbrev pub IsLabel : LabelName → Type 0
  IsLabel x = (t : ℕ) × IsHolderType program x.holder t × NamesPlace program.types t (is_root x.holder) x.node

  -- an origin: a label of a root whose node is reached without Target
  abbrev pub IsOrigin : LabelName → Type 0
  IsOrigin x =
      (r t : ℕ) × (x.holder ≡ Root r) × IsHolderType program (Root r) t × IsWithin program.types t x.node

  abbrev pub is_lock_name : LabelName → Bool
  is_lock_name x = is_mutex (form_of program.types x.node)

  -- a holder that is there but once: a root other than a local or an allocation, or a point of a static
  -- initialiser, which is a step of no function
  abbrev pub is_global_holder : Holder → Bool
  is_global_holder (Root r) = option_map_or (λ root. is_global_kind root.kind) (root_at program r) false
  is_global_holder (Slot f s) = false
  is_global_holder (Result f) = false
  is_global_holder (Point p) =
      option_map_or (λ f. nat_eq f (length program.functions)) (function_at program p) false

  -- the label is the location or lock place with this number
  abbrev pub IsPlaceNumber : LabelName → ℕ → Type 0
  IsPlaceNumber x n = (r : ℕ) × (x.holder ≡ Root r) × (place_at program n ≡ Some (place_of r x.node))

  abbrev pub IsNoPlace : LabelName → Type 0
  IsNoPlace x = (n : ℕ) → IsPlaceNumber x n → ⊥

  -- the order of labels: the locations and the lock places in theirs, then the rest by their holders, and
  -- those of one holder as the walk of its nodes comes to them
  pub data IsBefore (x y : LabelName) : Type 0 where
    places : (n m : ℕ) → IsPlaceNumber x n → IsPlaceNumber y m → n < m → IsBefore x y
    place_first : (n : ℕ) → IsPlaceNumber x n → IsNoPlace y → IsBefore x y
    holders : IsNoPlace x → IsNoPlace y → StandsBefore x.holder y.holder → IsBefore x y
    nodes : (t : ℕ) → IsNoPlace x → IsNoPlace y → x.holder ≡ y.holder → IsHolderType program x.holder t →
        ComesBefore program.types t x.node y.node → IsBefore x y

  -- what is known of a label. A number of a holder that is none of 32 bits is given as the last of these.
  pub record IsEntryOf (x : LabelName) (entry : LabelEntry) : Type 0 where
    pub root : (n : ℕ) → IsNumberOfHolder x.holder n → entry.root ≡ min n (2 ^ 32 - 1)
    pub origin : (entry.is_origin ≡ true) ↔ IsOrigin x
    pub lock : entry.is_lock ≡ is_lock_name x
    pub global : entry.is_global ≡ is_global_holder x.holder

  -- y is the part of x, in the same holder, to which the step leads
  pub record IsPart (x : LabelName) (s : Sel) (y : LabelName) : Type 0 where
    pub holder : y.holder ≡ x.holder
    pub steps : Steps program.types x.node s y.node

  -- x is the Start of the holder: its value, or of a root its place
  pub record IsWhole (h : Holder) (x : LabelName) : Type 0 where
    pub holder : x.holder ≡ h
    pub ty : ℕ
    pub has : IsHolderType program h ty
    pub start : IsStart program.types ty x.node

  -- the label l is that of what the point's value points to
  abbrev pub IsTargetOf : LabelTable → ℕ → ℕ → Type 0
  IsTargetOf labels p l =
      (x y : LabelName) × IsWhole (Point p) x × IsPart x Target y × (slice_get labels.names l ≡ Some y)

  -- the labels of the program: each once, in their order, with what is known of each, and
  -- with the target of each point
  pub record AreLabels (labels : LabelTable) : Type 0 where
    pub each : (x : LabelName) → Contains labels.names x ↔ IsLabel x
    pub different : AreDifferent labels.names
    pub ordered : AllPairs IsBefore labels.names
    pub entries : (l : ℕ) (x : LabelName) (entry : LabelEntry) → slice_get labels.names l ≡ Some x →
        slice_get labels.entries l ≡ Some entry → IsEntryOf x entry
    pub points : length labels.targets ≡ length program.points
    pub targets : (p : ℕ) (target : Option ℕ) → slice_get labels.targets p ≡ Some target →
        MatchOption target ((l : ℕ) → IsTargetOf labels p l → ⊥) (IsTargetOf labels p)

  -- The point gives void a Part: it allocates an object of the type, or converts a pointer to it to or from
  -- `void *`. Types that differ in the sizes of arrays alone count as the one with the least number.
  pub data GivesPart (p : ℕ) : ℕ → Type 0 where
    allocates : (t : ℕ) (count : Option ℕ) (clear : Bool) (r : ℕ) →
        action_at program p ≡ Some (Allocate t count clear r) → GivesPart p (least_of program.types t)
    to_void : (a ty t : ℕ) → action_at program p ≡ Some (Convert a ty) → GivesForm program a (Pointer t) →
        PointsToForm program p Void → is_void (type_at program.types t) ≡ false →
        GivesPart p (least_of program.types t)
    from_void : (a ty t : ℕ) → action_at program p ≡ Some (Convert a ty) → PointsToForm program a Void →
        GivesForm program p (Pointer t) → is_void (type_at program.types t) ≡ false →
        GivesPart p (least_of program.types t)

  -- the point is the first one that gives this Part
  pub record IsFirstOf (t p : ℕ) : Type 0 where
    pub gives : GivesPart p t
    pub first : (q : ℕ) → GivesPart q t → p ≤ q

  -- the Parts of void are those that points give, in the order of the first point of each
  pub record AreVoidParts : Type 0 where
    pub each : (t : ℕ) → Contains program.types.parts t ↔ ((p : ℕ) × GivesPart p t)
    pub ordered : AllPairs (λ t u. (p q : ℕ) → IsFirstOf t p → IsFirstOf u q → p < q) program.types.parts

  -- there are more labels than this
  pub record HasMoreLabels (count : ℕ) : Type 0 where
    pub names : List LabelName
    pub labels : (x : LabelName) → Contains names x → IsLabel x
    pub different : AreDifferent names
    pub more : count < length names
