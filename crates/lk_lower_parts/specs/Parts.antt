-- The Parts of void that points give.
use Rattle.std.specs.Prelude.{◌≡◌, ◌↔◌, ◌<◌, ◌≤◌, ◌++◌, ℕ, Bool, true, false, List, [], ◌∷◌, Option, None, Some, Contains, AllPairs, slice_get}
use Rattle.std.specs.Option.{option_and_then, option_map, option_map_or}
use Rattle.lk_facts.specs.LabelRules.{AreVoidParts}
use Rattle.lk_facts.specs.declared.action.Action.{Action}
use Rattle.lk_facts.specs.declared.action.Action.TheVariants as action
use Rattle.lk_facts.specs.declared.point.Point.{Point}
use Rattle.lk_facts.specs.declared.program.Program.{Program}
use Rattle.lk_types.specs.Table.{Table, least_of}
use Rattle.lk_types.specs.Walks.{is_void}
use Rattle.lk_types.specs.declared.c_type.CType.{CType}
use Rattle.lk_types.specs.declared.c_type.CType.TheVariants.{Void, Int, ThreadId, Mutex, Cond, Pointer, Array, Struct, Function, Opaque}

-- in each program with these points and types they are the Parts of void
abbrev pub AreVoidPartsOf : Table → List Point → List ℕ → Type 0
AreVoidPartsOf table points parts = (program : Program) → program.points ≡ points →
    program.types ≡ record table { parts = parts } → AreVoidParts program

-- ---- Only the private calls of this crate speak of what follows.

-- what a pointer points to
abbrev pub pointee : CType → Option ℕ
pointee Void = None
pointee (Int k) = None
pointee ThreadId = None
pointee Mutex = None
pointee Cond = None
pointee (Pointer t) = Some t
pointee (Array t n) = None
pointee (Struct s) = None
pointee (Function result params dots) = None
pointee (Opaque n) = None

-- what a conversion of a pointer to `void *` or from it gives void, where it is said whether
-- each of the two points to void
abbrev pub converted_by : (from_void to_void : Bool) → (from to : ℕ) → Option ℕ
converted_by true true from to = None
converted_by true false from to = Some to
converted_by false true from to = Some from
converted_by false false from to = None

module _ (table : Table) where
  -- what a type points to, where it is a pointer
  abbrev pub target_of : ℕ → Option ℕ
  target_of t = option_and_then pointee (slice_get table.types t)

  abbrev pub is_void_type : ℕ → Bool
  is_void_type t = option_map_or is_void (slice_get table.types t) false

  -- what a conversion of a pointer to a type to a pointer to another gives void
  abbrev pub converted : (from to : ℕ) → Option ℕ
  converted from to = converted_by (is_void_type from) (is_void_type to) from to

  -- what the value of a point points to, where it is a pointer
  abbrev pub pointed : Point → Option ℕ
  pointed point = option_and_then target_of point.value

  module _ (points : List Point) where
    -- what the point gives void where it converts the value of the point a
    abbrev pub by_conversion : Point → (a : ℕ) → Option ℕ
    by_conversion point a =
        option_and_then (λ from. option_and_then (converted from) (pointed point))
        (option_and_then pointed (slice_get points a))

    -- the type that a point with this action gives void
    abbrev pub given_by : Point → Action → Option ℕ
    given_by point (action.Value number ty) = None
    given_by point (action.Null ty) = None
    given_by point (action.Func f) = None
    given_by point action.SelfId = None
    given_by point (action.Root r) = None
    given_by point (action.Text r) = None
    given_by point (action.Field a member) = None
    given_by point (action.Index a b into) = None
    given_by point (action.Read a raw) = None
    given_by point (action.Write a b raw) = None
    given_by point (action.SlotRead s) = None
    given_by point (action.SlotWrite s a) = None
    given_by point (action.Unary op a) = None
    given_by point (action.Binary op a b) = None
    given_by point (action.Compute args ty equal) = None
    given_by point (action.Convert a ty) = by_conversion point a
    given_by point (action.Branch a) = None
    given_by point (action.Switch a cases) = None
    given_by point action.Skip = None
    given_by point (action.Call f args) = None
    given_by point (action.PointerCall a args) = None
    given_by point (action.Return a) = None
    given_by point (action.Create f a) = None
    given_by point (action.StoreId a) = None
    given_by point (action.Join a) = None
    given_by point (action.Detach a) = None
    given_by point action.ExitThread = None
    given_by point action.ExitProcess = None
    given_by point (action.Lock a) = None
    given_by point (action.Unlock a) = None
    given_by point (action.Release cond mutex) = None
    given_by point (action.Retake a) = None
    given_by point (action.Init a) = None
    given_by point (action.Destroy a) = None
    given_by point (action.Signal a) = None
    given_by point (action.Allocate ty count zero root) = Some ty
    given_by point (action.Free a) = None
    given_by point (action.Scan a) = None
    given_by point (action.Fill a place named) = None

    abbrev pub given_of : Point → Option ℕ
    given_of point = given_by point point.action

    -- the Part that the point p gives void
    abbrev pub part_at : ℕ → Option ℕ
    part_at p = option_map (least_of table) (option_and_then given_of (slice_get points p))

-- of the Part that each point gives
module _ (at : ℕ → Option ℕ) where
  -- the point p is the first one that gives this Part
  pub record IsFirstAt (t p : ℕ) : Type 0 where
    pub gives : at p ≡ Some t
    pub first : (q : ℕ) → at q ≡ Some t → p ≤ q

  -- the Parts that points before k give, in the order of the first point of each
  pub record AreGivenBefore (k : ℕ) (parts : List ℕ) : Type 0 where
    pub each : (t : ℕ) → Contains parts t ↔ ((p : ℕ) × (p < k) × (at p ≡ Some t))
    pub ordered : AllPairs (λ t u. (p q : ℕ) → IsFirstAt t p → IsFirstAt u q → p < q) parts

-- the numbers that are listed are marked
abbrev pub AreMarkedParts : (seen : List Bool) → (parts : List ℕ) → Type 0
AreMarkedParts seen parts = (t : ℕ) → (slice_get seen t ≡ Some true) ↔ Contains parts t

-- a number is added where it isn't there
pub data IsWith (t : ℕ) (old new : List ℕ) : Type 0 where
  there : Contains old t → new ≡ old → IsWith t old new
  added : (Contains old t → ⊥) → new ≡ old ++ t ∷ [] → IsWith t old new
