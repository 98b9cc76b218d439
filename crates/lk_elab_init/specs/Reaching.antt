-- Where address constants point, in the words of the rules (C99 6.6, 9).
use Rattle.std.specs.Prelude.{ℕ, ◌≡◌, Bool, true, false, Some}
use Rattle.lk_tree.specs.declared.expression.Expr.{Expr}
use Rattle.lk_types.specs.Table.{Table}
use Rattle.lk_typed.specs.Addresses.{inside, member_at, value}
use Rattle.lk_typed.specs.Conversions.{converted_address}
use Rattle.lk_typed.specs.Elaborated.{InPlace, StandsFor, typing_at}
use Rattle.lk_typed.specs.Env as env
use Rattle.lk_typed.specs.Env.{Env, Name}
use Rattle.lk_typed.specs.Nodes.{AnExpression}
use Rattle.lk_typed.specs.Ty.{Ty, Pointer, Struct, is_array}
use Rattle.lk_typed.specs.Typing as spec
use Rattle.lk_typed.specs.Typing.{AtObject, AtText, FunctionAddress, Inside, NotAddress, Nowhere, NullAddress, Typing}
use Rattle.lk_typed.specs.Typings.{IsTyping}
use Rattle.lk_found.specs.Addresses.{declared_address, kept_of}
use Rattle.lk_found.specs.declared.addresses.Address.{Address}
use Rattle.lk_found.specs.declared.addresses.Address.TheVariants as kept
use Rattle.lk_elaborator.specs.Fields.{IsFieldNumber}
use Rattle.lk_elaborator.specs.Telling.{IsTold}
use Rattle.lk_elaborator.specs.declared.elaborator.Elaborator.{Elaborator}
use Rattle.lk_elab_init.specs.declared.positions.Anchor.{Anchor}
use Rattle.lk_elab_init.specs.declared.positions.Anchor.TheVariants as anchor
use Rattle.lk_elab_init.specs.declared.positions.Position.{Position}
use Rattle.lk_elab_init.specs.declared.positions.Reached.{Reached}
use Rattle.lk_elab_init.specs.declared.positions.Reached.TheVariants as code
use Rattle.lk_elab_init.specs.declared.reached.Kept.{Kept}
use Rattle.lk_elab_init.specs.declared.reached.ValueKept.{ValueKept}

-- ---- the code's words for what address constants point to

abbrev pub anchor_in : Anchor → spec.Anchor
anchor_in (anchor.Object n) = AtObject n
anchor_in (anchor.Text n) = AtText n

abbrev pub position_in : Position → spec.Position
position_in place =
    record { anchor = anchor_in place.anchor; steps = place.steps; is_element = place.is_element; index = place.index; count = place.count }

abbrev pub address_in : Reached → spec.Address
address_in code.Null = NullAddress
address_in (code.Function n) = FunctionAddress n
address_in (code.Inside place) = Inside (position_in place)

-- ---- what the checker keeps of an address

-- it is that of a function or of a place
abbrev pub is_reached : Address → Bool
is_reached kept.NotAddress = false
is_reached kept.Null = false
is_reached kept.Function = true
is_reached (kept.Inside place) = true
is_reached kept.Nowhere = false

-- it is what was found of the expression
pub record IsKept (table : Table) (p : InPlace) (found : Kept) : Type 0 where
  pub typing : Typing
  pub has : typing_at p ≡ Some typing
  pub is : IsTyping table found.typing typing
  pub address : found.address ≡ kept_of typing.address

-- its address is kept so
pub record HasAddress (p : InPlace) (address : Address) : Type 0 where
  pub typing : Typing
  pub has : typing_at p ≡ Some typing
  pub is : address ≡ kept_of typing.address

-- and that of its value
pub record IsValueKept (x : Typing) (found : ValueKept) : Type 0 where
  pub address : found.address ≡ kept_of (value x).address
  pub element : found.is_element ≡ is_array x.type

pub record HasValueKept (p : InPlace) (found : ValueKept) : Type 0 where
  pub typing : Typing
  pub has : typing_at p ≡ Some typing
  pub is : IsValueKept typing found

-- whether its value is a null pointer constant
pub record HasNullValue (p : InPlace) (null : Bool) : Type 0 where
  pub typing : Typing
  pub has : typing_at p ≡ Some typing
  pub is : null ≡ (value typing).is_null

-- where an address is that moved from this position
pub data MovesFrom (position : spec.Position) : spec.Address → Type 0 where
  unknown : MovesFrom position NotAddress
  outside : MovesFrom position Nowhere
  along : (k : ℕ) → MovesFrom position (Inside (record position { index = k }))

-- ---- what is reached by an expression, wherever it stands and what was found at its nodes is true

abbrev pub OfTyping : Elaborator → Expr → (Typing → Type 0) → Type 0
OfTyping walk e Says = (at_end : Env) (p : InPlace) → p.1 ≡ e → IsTold at_end walk p.0 (AnExpression p.1) →
    (x : Typing) → typing_at p ≡ Some x → Says x

-- the address that it is, or the place that it names
abbrev pub IsReached : Elaborator → Expr → Reached → Type 0
IsReached walk e r = OfTyping walk e (λ x. x.address ≡ address_in r)

-- where the checker kept this of it
abbrev pub IsReachedAs : Elaborator → Expr → Address → Reached → Type 0
IsReachedAs walk e address r = OfTyping walk e (λ x. address ≡ kept_of x.address → x.address ≡ address_in r)

-- the address that its value is
abbrev pub IsValueReached : Elaborator → Expr → Reached → Type 0
IsValueReached walk e r = OfTyping walk e (λ x. (value x).address ≡ address_in r)

-- and that of this value converted to a pointer
abbrev pub IsConvertedReached : Elaborator → Expr → Reached → Type 0
IsConvertedReached walk e r = OfTyping walk e (λ x. converted_address (value x) ≡ address_in r)

-- an address that moved from that of its value, of which the checker kept this
abbrev pub IsMovedTo : Elaborator → Expr → Address → Reached → Type 0
IsMovedTo walk e address r =
    OfTyping walk e (λ x. (a : spec.Address) →
    ((position : spec.Position) → (value x).address ≡ Inside position → MovesFrom position a) →
    address ≡ kept_of a → a ≡ address_in r)

-- what a name stands for
pub record IsNamed (p : InPlace) (r : Reached) : Type 0 where
  pub declared : env.Declared
  pub stands : StandsFor p declared
  pub address : declared_address declared declared.meaning ≡ address_in r

-- ---- members

-- an address of a member, whose struct has this number and whose members the state knows
pub record IsMemberAt (walk : Elaborator) (name : Name) (at : spec.Address) (t : Ty)
    (r : Reached) : Type 0 where
  pub s : ℕ
  pub type : t ≡ Struct s
  pub k : ℕ
  pub number : IsFieldNumber walk.names.structs s name k
  pub address : (a : spec.Address) → is_reached (kept_of a) ≡ true →
      a ≡ inside (member_at k) at → a ≡ address_in r

abbrev pub IsMemberOf : Elaborator → Expr → Name → Reached → Type 0
IsMemberOf walk object name r = OfTyping walk object (λ x. IsMemberAt walk name x.address x.type r)

-- of what the value points to
abbrev pub IsMemberBehind : Elaborator → Expr → Name → Reached → Type 0
IsMemberBehind walk pointer name r =
    OfTyping walk pointer (λ x. (t : Ty) × ((value x).type ≡ Pointer t) × IsMemberAt walk name (value x).address t r)
