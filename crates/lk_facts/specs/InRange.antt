-- When the numbers in the parts of a program are in range.
use Rattle.std.specs.Prelude.{ℕ, ◌≡◌, ◌<◌, ◌≤◌, ◌^◌, true, ◌&&◌, length, All, IfSome, is_some, ⊤}
use Rattle.lk_facts.specs.Effects.{effect_of, entered}
use Rattle.lk_facts.specs.declared.action.Action.{Action}
use Rattle.lk_facts.specs.declared.action.Action.TheVariants as action
use Rattle.lk_facts.specs.declared.effect.Effect.{Effect}
use Rattle.lk_facts.specs.declared.effect.Effect.TheVariants as effect
use Rattle.lk_facts.specs.declared.function.Function.{Function}
use Rattle.lk_facts.specs.declared.initial.Initial.{Initial}
use Rattle.lk_facts.specs.declared.initial.InitialValue.{InitialValue}
use Rattle.lk_facts.specs.declared.initial.InitialValue.TheVariants as value
use Rattle.lk_facts.specs.declared.place.Place.{Place}
use Rattle.lk_facts.specs.declared.point.Point.{Point}
use Rattle.lk_facts.specs.declared.program.Program.{Program}
use Rattle.lk_facts.specs.declared.root.Holder.{Holder}
use Rattle.lk_facts.specs.declared.root.Holder.TheVariants as holder
use Rattle.lk_facts.specs.declared.root.Root.{Root}
use Rattle.lk_facts.specs.declared.sizes.Sizes.{Sizes}

abbrev pub sizes_of : Program → Sizes
sizes_of program = record {
  points = length program.points;
  functions = length program.functions;
  roots = length program.roots;
  types = length program.types.types;
  sites = program.sites;
}

-- the fact holds of each operand of an action
abbrev pub AllOperands : (ℕ → Type 0) → Action → Type 0
AllOperands P (action.Value number ty) = ⊤
AllOperands P (action.Null ty) = ⊤
AllOperands P (action.Func f) = ⊤
AllOperands P action.SelfId = ⊤
AllOperands P (action.Root r) = ⊤
AllOperands P (action.Text r) = ⊤
AllOperands P (action.Field a member) = P a
AllOperands P (action.Index a b into) = P a × P b
AllOperands P (action.Read a raw) = P a
AllOperands P (action.Write a b raw) = P a × P b
AllOperands P (action.SlotRead s) = ⊤
AllOperands P (action.SlotWrite s a) = P a
AllOperands P (action.Unary op a) = P a
AllOperands P (action.Binary op a b) = P a × P b
AllOperands P (action.Compute args ty equal) = All P args
AllOperands P (action.Convert a ty) = P a
AllOperands P (action.Branch a) = P a
AllOperands P (action.Switch a cases) = P a
AllOperands P action.Skip = ⊤
AllOperands P (action.Call f args) = All P args
AllOperands P (action.PointerCall a args) = P a × All P args
AllOperands P (action.Return a) = IfSome a P
AllOperands P (action.Create f a) = P a
AllOperands P (action.StoreId a) = P a
AllOperands P (action.Join a) = P a
AllOperands P (action.Detach a) = P a
AllOperands P action.ExitThread = ⊤
AllOperands P action.ExitProcess = ⊤
AllOperands P (action.Lock a) = P a
AllOperands P (action.Unlock a) = P a
AllOperands P (action.Release cond mutex) = P cond × P mutex
AllOperands P (action.Retake a) = P a
AllOperands P (action.Init a) = P a
AllOperands P (action.Destroy a) = P a
AllOperands P (action.Signal a) = P a
AllOperands P (action.Allocate ty count zero root) = IfSome count P
AllOperands P (action.Free a) = P a
AllOperands P (action.Scan a) = P a
AllOperands P (action.Fill a place named) = P a

abbrev pub IsPlaceInRange : Sizes → Place → Type 0
IsPlaceInRange sizes place = place.root < sizes.roots

-- the functions, roots and types that an action names are there
abbrev pub AreNamesInRange : Sizes → Action → Type 0
AreNamesInRange sizes (action.Value number ty) = ty < sizes.types
AreNamesInRange sizes (action.Null ty) = ty < sizes.types
AreNamesInRange sizes (action.Func f) = f < sizes.functions
AreNamesInRange sizes action.SelfId = ⊤
AreNamesInRange sizes (action.Root r) = r < sizes.roots
AreNamesInRange sizes (action.Text r) = r < sizes.roots
AreNamesInRange sizes (action.Field a member) = ⊤
AreNamesInRange sizes (action.Index a b into) = ⊤
AreNamesInRange sizes (action.Read a raw) = ⊤
AreNamesInRange sizes (action.Write a b raw) = ⊤
AreNamesInRange sizes (action.SlotRead s) = ⊤
AreNamesInRange sizes (action.SlotWrite s a) = ⊤
AreNamesInRange sizes (action.Unary op a) = ⊤
AreNamesInRange sizes (action.Binary op a b) = ⊤
AreNamesInRange sizes (action.Compute args ty equal) = ty < sizes.types
AreNamesInRange sizes (action.Convert a ty) = ty < sizes.types
AreNamesInRange sizes (action.Branch a) = ⊤
AreNamesInRange sizes (action.Switch a cases) = ⊤
AreNamesInRange sizes action.Skip = ⊤
AreNamesInRange sizes (action.Call f args) = f < sizes.functions
AreNamesInRange sizes (action.PointerCall a args) = ⊤
AreNamesInRange sizes (action.Return a) = ⊤
AreNamesInRange sizes (action.Create f a) = f < sizes.functions
AreNamesInRange sizes (action.StoreId a) = ⊤
AreNamesInRange sizes (action.Join a) = ⊤
AreNamesInRange sizes (action.Detach a) = ⊤
AreNamesInRange sizes action.ExitThread = ⊤
AreNamesInRange sizes action.ExitProcess = ⊤
AreNamesInRange sizes (action.Lock a) = ⊤
AreNamesInRange sizes (action.Unlock a) = ⊤
AreNamesInRange sizes (action.Release cond mutex) = ⊤
AreNamesInRange sizes (action.Retake a) = ⊤
AreNamesInRange sizes (action.Init a) = ⊤
AreNamesInRange sizes (action.Destroy a) = ⊤
AreNamesInRange sizes (action.Signal a) = ⊤
AreNamesInRange sizes (action.Allocate ty count zero root) = (ty < sizes.types) × (root < sizes.roots)
AreNamesInRange sizes (action.Free a) = ⊤
AreNamesInRange sizes (action.Scan a) = ⊤
AreNamesInRange sizes (action.Fill a place named) = IsPlaceInRange sizes place

pub record IsActionInRange (sizes : Sizes) (action : Action) : Type 0 where
  pub operands : AllOperands (λ a. a < sizes.points) action
  pub names : AreNamesInRange sizes action

-- the operand is a point, or the function that it goes into is there
abbrev pub IsEffectInRange : Sizes → Effect → Type 0
IsEffectInRange sizes effect.Nothing = ⊤
IsEffectInRange sizes (effect.Reads a) = a < sizes.points
IsEffectInRange sizes (effect.Writes a) = a < sizes.points
IsEffectInRange sizes (effect.Takes a) = a < sizes.points
IsEffectInRange sizes (effect.Frees a) = a < sizes.points
IsEffectInRange sizes (effect.Runs f) = f < sizes.functions
IsEffectInRange sizes (effect.RunsThrough a) = a < sizes.points
IsEffectInRange sizes (effect.Starts f) = f < sizes.functions

-- a live call or creation has a site in range, and nothing else has one
pub record IsSited (sizes : Sizes) (point : Point) : Type 0 where
  pub exactly : is_some point.site ≡ (point.live && is_some (entered (effect_of point.action)))
  pub in_range : IfSome point.site (λ i. i < sizes.sites)

pub record IsPointInRange (sizes : Sizes) (point : Point) : Type 0 where
  pub action : IsActionInRange sizes point.action
  pub value : IfSome point.value (λ t. t < sizes.types)
  pub next : All (λ q. q < sizes.points) point.next
  pub function : point.function ≤ sizes.functions
  pub live : point.live ≡ true → point.function < sizes.functions
  pub site : IsSited sizes point

abbrev pub IsHolderInRange : Sizes → Holder → Type 0
IsHolderInRange sizes (holder.Root r) = r < sizes.roots
IsHolderInRange sizes (holder.Slot f s) = f < sizes.functions
IsHolderInRange sizes (holder.Result f) = f < sizes.functions
IsHolderInRange sizes (holder.Point p) = p < sizes.points

pub record IsFunctionInRange (sizes : Sizes) (function : Function) : Type 0 where
  pub root : function.root < sizes.roots
  pub entry : function.entry < sizes.points
  pub exit : function.exit < sizes.points
  pub parameters : All (IsHolderInRange sizes) function.parameters
  pub few_parameters : length function.parameters < 2 ^ 32
  pub slots : All (λ t. t < sizes.types) function.slots
  pub few_slots : length function.slots < 2 ^ 32
  pub result : function.result < sizes.types
  pub value_site : IfSome function.value_site (λ i. i < sizes.sites)

pub record IsRootInRange (sizes : Sizes) (root : Root) : Type 0 where
  pub ty : root.ty < sizes.types
  pub function : IfSome root.function (λ f. f < sizes.functions)
  pub point : IfSome root.point (λ p. p < sizes.points)

abbrev pub IsInitialValueInRange : Sizes → InitialValue → Type 0
IsInitialValueInRange sizes (value.Number n) = ⊤
IsInitialValueInRange sizes value.Null = ⊤
IsInitialValueInRange sizes (value.Function f) = f < sizes.functions
IsInitialValueInRange sizes (value.Address root path past) = root < sizes.roots
IsInitialValueInRange sizes value.Ready = ⊤

pub record IsInitialInRange (sizes : Sizes) (initial : Initial) : Type 0 where
  pub root : initial.root < sizes.roots
  pub value : IsInitialValueInRange sizes initial.value

pub record ArePartsInRange (sizes : Sizes) (program : Program) : Type 0 where
  pub points : All (IsPointInRange sizes) program.points
  pub functions : All (IsFunctionInRange sizes) program.functions
  pub roots : All (IsRootInRange sizes) program.roots
  pub places : All (IsPlaceInRange sizes) program.places
  pub initials : All (IsInitialInRange sizes) program.initials

pub record IsInRange (program : Program) : Type 0 where
  pub few_points : length program.points ≤ 65536
  pub few_places : length program.places ≤ 65536
  pub few_functions : length program.functions < 2 ^ 32
  pub few_roots : length program.roots < 2 ^ 32
  pub main : program.main < length program.functions
  pub locations : program.locations ≤ length program.places
  pub parts : ArePartsInRange (sizes_of program) program
