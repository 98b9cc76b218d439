-- What is known of an expression that has a type, and what a rule says of a node.
use Rattle.std.specs.Prelude.{ℕ, Bool, true, false, Option, Some, None, List, [], ◌∷◌, ℤ, if◌then◌else◌}
use Rattle.lk_base.specs.declared.cell.CellStep.{CellStep}
use Rattle.lk_base.specs.declared.kind.Kind.{Kind}
use Rattle.lk_base.specs.declared.code.Code.{Code}
use Rattle.lk_arith.specs.Conversions.{is_zero}
use Rattle.lk_typed.specs.declared.constant.Constant.{Constant}
use Rattle.lk_typed.specs.declared.constant.Constant.TheVariants.{NotConstant, Undefined, Known}
use Rattle.lk_typed.specs.Ty.{Ty, Void, Int, ThreadId, Mutex, Cond, Pointer, Array, Struct, Function, Opaque}
use Rattle.lk_typed.specs.Env.{Declared, Additions}

-- the value of a constant, where it is known
abbrev pub known_value : Constant → Option ℤ
known_value NotConstant = None
known_value Undefined = None
known_value (Known z) = Some z

-- what has static storage: the object that the declaration at a node declares, or the text at a
-- node (C99 6.2.4, 3; 6.4.5, 5)
pub data Anchor : Type 0 where
  AtObject : ℕ → Anchor
  AtText : ℕ → Anchor

-- a place in it: an element of an array, or one past the last; what is no element counts as
-- an array of one (C99 6.5.6, 7)
pub record Position : Type 0 where
  pub anchor : Anchor
  -- the steps to the array, or to what is no element
  pub steps : List CellStep
  pub is_element : Bool
  pub index : ℕ
  -- how many elements the array has; the most that an array may have where its size isn't known
  pub count : ℕ

-- what an address constant points to, or where a place of static storage is (C99 6.6, 9)
pub data Address : Type 0 where
  NotAddress : Address
  NullAddress : Address
  -- the function that the declaration at this node declares
  FunctionAddress : ℕ → Address
  Inside : Position → Address
  -- arithmetic on an address that leaves its array and its end, or a part of what isn't there
  Nowhere : Address

pub record Typing : Type 0 where
  pub type : Ty
  -- whether it is a place: an lvalue (C99 6.3.2.1, 1)
  pub is_place : Bool
  pub constant : Constant
  -- whether it is a null pointer constant (C99 6.3.2.3, 3)
  pub is_null : Bool
  pub address : Address

-- a value of this type that is no constant
abbrev pub value_of_type : Ty → Typing
value_of_type t =
    record { type = t; is_place = false; constant = NotConstant; is_null = false; address = NotAddress }

-- a place of this type
abbrev pub place_of_type : Ty → Address → Typing
place_of_type t address =
    record { type = t; is_place = true; constant = NotConstant; is_null = false; address = address }

-- an integer constant expression of value 0 is a null pointer constant (C99 6.3.2.3, 3)
abbrev pub is_null_value : Constant → Bool
is_null_value NotConstant = false
is_null_value Undefined = false
is_null_value (Known a) = is_zero a

-- a value of an integer kind, and what constant it is
abbrev pub integer : Kind → Constant → Typing
integer k c =
    record { type = Int k; is_place = false; constant = c; is_null = is_null_value c; address = NotAddress }

-- what an operand, an argument or a right side is turned into where it stands: an array into a pointer to its
-- first element, a function into a pointer to it (C99 6.3.2.1, 3 and 4)
abbrev pub decayed : Ty → Ty
decayed Void = Void
decayed (Int k) = Int k
decayed ThreadId = ThreadId
decayed Mutex = Mutex
decayed Cond = Cond
decayed (Pointer t) = Pointer t
decayed (Array t n) = Pointer t
decayed (Struct s) = Struct s
decayed (Function result params dots) = Pointer (Function result params dots)
decayed (Opaque n) = Opaque n

-- ---- how an expression is written, where a rule asks for that

pub record Look : Type 0 where
  -- what the name stands for that it is, perhaps in parentheses
  pub word : Option Declared
  -- the same, perhaps with parentheses and & round it
  pub routine : Option Declared
  -- the bytes of the string literal that it is
  pub text : Option (List ℕ)
  -- whether it is a sizeof
  pub is_sizeof : Bool
  -- whether it is a product of a sizeof with an operand that holds none
  pub is_product : Bool
  -- whether a sizeof stands in it
  pub holds_sizeof : Bool

abbrev pub plain_look : Bool → Look
plain_look holds =
    record { word = None; routine = None; text = None; is_sizeof = false; is_product = false; holds_sizeof = holds }

-- what is found of an expression in an environment: its typing, where it has one, how it
-- is written, and what it adds
pub record Judged : Type 0 where
  pub typing : Option Typing
  pub look : Look
  pub adds : Additions

-- what is found of a type name: the type, where it has one, whether a sizeof stands in it, and what it adds
pub record Named : Type 0 where
  pub type : Option Ty
  pub holds_sizeof : Bool
  pub adds : Additions

-- ---- what a rule says of a node

pub data Verdict : Type 0 where
  -- no fault holds there, and this is its typing
  Typed : Typing → Verdict
  -- these codes hold there, one at least, and it has no typing
  Broken : List Code → Verdict
  -- it has neither: something in it has no typing, or a declaration is faulty
  Silent : Verdict

-- the typing, unless a code holds
abbrev pub unless : List Code → Typing → Verdict
unless [] typing = Typed typing
unless (code ∷ others) typing = Broken (code ∷ others)

-- a code where something holds
abbrev pub if_so : Bool → Code → List Code
if_so holds code = if holds then code ∷ [] else []

-- the codes that a rule names, or else this one: 22 where 'no other code names it'
abbrev pub or_at_least : List Code → Code → List Code
or_at_least [] code = code ∷ []
or_at_least (named ∷ others) code = named ∷ others

abbrev pub typing_of : Verdict → Option Typing
typing_of (Typed typing) = Some typing
typing_of (Broken codes) = None
typing_of Silent = None

-- what constant an expression is, missing where it has no typing; a place is none (C99 6.6, 6)
abbrev pub constant_in : Option Typing → Option Constant
constant_in None = None
constant_in (Some typing) = Some typing.constant

abbrev pub codes_of : Verdict → List Code
codes_of (Typed typing) = []
codes_of (Broken codes) = codes
codes_of Silent = []

-- a rule over the typings of parts, where they all have one
abbrev pub with_one : Option Typing → (Typing → Verdict) → Verdict
with_one None rule = Silent
with_one (Some a) rule = rule a

abbrev pub with_two : Option Typing → Option Typing → (Typing → Typing → Verdict) → Verdict
with_two a b rule = with_one a (λ x. with_one b (λ y. rule x y))

abbrev pub with_type : Option Ty → (Ty → Verdict) → Verdict
with_type None rule = Silent
with_type (Some t) rule = rule t
