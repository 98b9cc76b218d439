-- The parts of an object of static storage that its initialiser names, as the typed tree has them.
use Rattle.std.specs.Prelude.{ℕ, ◌≡◌, ◌++◌, ◌<◌, true, Some, None, List, [], ◌∷◌, ℤ, slice_get}
use Rattle.lk_base.specs.declared.cell.CellStep.{CellStep}
use Rattle.lk_base.specs.declared.kind.Kind.{Kind}
use Rattle.lk_base.specs.declared.kind.Kind.TheVariants as kinds
use Rattle.lk_tree.specs.declared.expression.Expr.{Expr}
use Rattle.lk_tree.specs.declared.statement.Unit.{Unit}
use Rattle.lk_types.specs.declared.c_type.CType.{CType}
use Rattle.lk_typed.specs.Addresses.{value}
use Rattle.lk_typed.specs.Conversions.{converted_address}
use Rattle.lk_typed.specs.Elaborated.{InPlace, typing_at}
use Rattle.lk_typed.specs.Env.{Env, Name, converted_to}
use Rattle.lk_typed.specs.Initialised as spec
use Rattle.lk_typed.specs.Meaning.{meaning, IsReady}
use Rattle.lk_typed.specs.Nodes.{AnExpression}
use Rattle.lk_typed.specs.StaticInits.{AreByteParts, AreStaticParts, IsPointerTo, IsStaticValue, IsTruthOf}
use Rattle.lk_typed.specs.Tables.{Tables}
use Rattle.lk_typed.specs.Ty.{Ty, Int, Means, is_pointer, kind_of}
use Rattle.lk_typed.specs.Typing.{Address, Inside, Typing}
use Rattle.lk_typed.specs.Units.{IsNode}
use Rattle.lk_typed.specs.declared.constant.Constant.{Constant}
use Rattle.lk_typed.specs.declared.entity.Entity.{Entity}
use Rattle.lk_typed.specs.declared.initialiser.StaticObject.{StaticObject}
use Rattle.lk_typed.specs.declared.initialiser.StaticPart.{StaticPart}
use Rattle.lk_typed.specs.declared.initialiser.StaticValue.{StaticValue}
use Rattle.lk_typed.specs.declared.initialiser.StaticValue.TheVariants as begins
use Rattle.lk_elaborator.specs.Leading.{Leads}
use Rattle.lk_elaborator.specs.Telling.{IsTold}
use Rattle.lk_elaborator.specs.declared.elaborator.Elaborator.{Elaborator}
use Rattle.lk_elab_init.specs.Giving.{AreGivenAs, IsGivenAs, element_in}
use Rattle.lk_elab_init.specs.Reaching.{address_in, position_in}
use Rattle.lk_elab_init.specs.declared.givens.PartGiven.{PartGiven}
use Rattle.lk_elab_init.specs.declared.positions.Position.{Position}
use Rattle.lk_elab_init.specs.declared.positions.Reached.{Reached}
use Rattle.lk_elaborate.specs.LocalParts.{AreTold, OfTold}
use Rattle.lk_elaborate.specs.Outside.{LeadsOutside, tables_of}
use Rattle.lk_elaborate.specs.declared.static_values.Begun.{Begun}
use Rattle.lk_elaborate.specs.declared.static_values.Scalar.{Scalar}
use Rattle.lk_elaborate.specs.declared.static_values.Scalar.TheVariants as scalar
use Rattle.lk_elaborate.specs.declared.statics.Elements.{Elements}

-- ---- values

-- what a pointer begins with, by the address that it is
abbrev pub PointsAt : Elaborator → Address → StaticValue → Type 0
PointsAt walk address is = (tables : Tables) → Leads walk tables → IsPointerTo tables address is

abbrev pub PointsTo : Elaborator → Reached → StaticValue → Type 0
PointsTo walk address is = PointsAt walk (address_in address) is

abbrev pub PointsInside : Elaborator → Position → StaticValue → Type 0
PointsInside walk place is = PointsAt walk (Inside (position_in place)) is

-- its value is this as an integer constant expression
pub record HasConstantValue (p : InPlace) (constant : Constant) : Type 0 where
  pub typing : Typing
  pub found : typing_at p ≡ Some typing
  pub is : (value typing).constant ≡ constant

-- whether an address, as a `_Bool`, is 0 or 1
abbrev pub IsTruth : Elaborator → Expr → ℤ → Type 0
IsTruth walk e z =
    (at_end : Env) (p : InPlace) → p.1 ≡ e → IsTold at_end walk p.0 (AnExpression p.1) → (x : Typing) →
    typing_at p ≡ Some x → (tables : Tables) → IsTruthOf tables (converted_address (value x)) z

abbrev pub IsTruthFor : Elaborator → Kind → Expr → ℤ → Type 0
IsTruthFor walk kind e z = (kind ≡ kinds.Bool) × IsTruth walk e z

-- an integer of a kind begins with this
abbrev pub BeginsInteger : Elaborator → Kind → Expr → Begun → Type 0
BeginsInteger walk kind e begun =
    (tables : Tables) (at_end : Env) (p : InPlace) → p.1 ≡ e → IsTold at_end walk p.0 (AnExpression p.1) →
    IsStaticValue tables p (Int kind) begun.value begun.pointer

abbrev pub BeginsWithNumber : Elaborator → Kind → Expr → ℤ → Type 0
BeginsWithNumber walk kind e z =
    (tables : Tables) (at_end : Env) (p : InPlace) → p.1 ≡ e → IsTold at_end walk p.0 (AnExpression p.1) →
    IsStaticValue tables p (Int kind) (begins.Number z) None

-- a pointer begins with this
abbrev pub BeginsPointer : Elaborator → Expr → StaticValue → Type 0
BeginsPointer walk e is =
    (tables : Tables) → Leads walk tables → (at_end : Env) (p : InPlace) → p.1 ≡ e →
    IsTold at_end walk p.0 (AnExpression p.1) → (x : Typing) → typing_at p ≡ Some x →
    IsPointerTo tables (converted_address (value x)) is

-- the code's word for a scalar type
abbrev pub IsScalar : Ty → Scalar → Type 0
IsScalar t (scalar.Integer kind) = kind_of t ≡ Some kind
IsScalar t scalar.Pointer = is_pointer t ≡ true

abbrev pub GivesStaticValue : Elaborator → Elaborator → ℕ → Expr → Begun → Type 0
GivesStaticValue old new ty e begun =
    OfTold old new (λ externs unit tables. (env : Env) (t : Ty) → meaning old.types ty ≡ t →
    IsNode externs unit (converted_to env t) (AnExpression e) →
    IsStaticValue tables (converted_to env t, e) t begun.value begun.pointer)

-- ---- parts

-- these are what a part that an initialiser names becomes
abbrev pub ArePartsFor : Tables → spec.PartGiven → List StaticPart → Type 0
ArePartsFor tables part made = (given : List spec.PartGiven) (others : List StaticPart) →
    AreStaticParts tables given others → AreStaticParts tables (part ∷ given) (made ++ others)

abbrev pub GivesStaticPart : Elaborator → Elaborator → PartGiven → List StaticPart → Type 0
GivesStaticPart old new given made =
    OfTold old new (λ externs unit tables. (part : spec.PartGiven) →
    IsGivenAs externs unit old.types given part → ArePartsFor tables part made)

abbrev pub GivesStaticParts : Elaborator → Elaborator → List PartGiven → List StaticPart → Type 0
GivesStaticParts old new givens made =
    OfTold old new (λ externs unit tables. (parts : List spec.PartGiven) →
    AreGivenAs externs unit old.types givens parts → AreStaticParts tables parts made)

-- the value of an expression is what the part begins with
pub record BeginsValue (old new : Elaborator) (given : PartGiven) (e : Expr)
    (made : StaticPart) : Type 0 where
  pub path : made.path ≡ given.path
  pub ty : made.ty ≡ given.ty
  pub begun : GivesStaticValue old new given.ty e (record { value = made.value; pointer = made.pointer })

-- the bytes of a literal, as elements of an array
abbrev pub AreBytesOf : Elements → List CellStep → List ℕ → List StaticPart → Type 0
AreBytesOf elements path bytes made = (tables : Tables) → Means tables.types elements.ty (Int elements.kind) →
    AreByteParts tables path elements.kind 0 bytes made

-- that initialises a part, whose type is an array of them
abbrev pub ArePartsOfText : Elaborator → PartGiven → List ℕ → List StaticPart → Type 0
ArePartsOfText walk given bytes made =
    (k : Kind) × (element_in (meaning walk.types given.ty) ≡ Some (Int k)) ×
    ((tables : Tables) → IsReady walk.types → Leads walk tables → AreByteParts tables given.path k 0 bytes made)

-- in tables without locals
abbrev pub GivesPartsOutside : Elaborator → Elaborator → List PartGiven → List StaticPart → Type 0
GivesPartsOutside old new givens made =
    (externs : List Name) (unit : Unit) → AreTold externs unit old →
    (types : List CType) (entities : List Entity) → LeadsOutside new types entities →
    (parts : List spec.PartGiven) → AreGivenAs externs unit old.types givens parts →
    AreStaticParts (tables_of types entities []) parts made

-- ---- objects

-- they stand before the node with this number
abbrev pub AreBefore : List StaticObject → ℕ → Type 0
AreBefore objects n = (o : ℕ) (a : StaticObject) → slice_get objects o ≡ Some a → a.ordinal < n
