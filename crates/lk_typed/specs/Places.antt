-- The operators before and behind an operand (C99 6.5.2.1, 6.5.2.3, 6.5.2.4, 6.5.3), and sizeof.
use Rattle.std.specs.Prelude.{ℕ, Bool, false, not, ◌&&◌, ◌||◌, Option, Some, None, List, [], ◌∷◌, ◌++◌, if◌then◌else◌}
use Rattle.lk_base.specs.declared.kind.Kind.{Kind}
use Rattle.lk_base.specs.declared.kind.Kind.TheVariants as kind
use Rattle.lk_base.specs.declared.code.Code.{Code}
use Rattle.lk_base.specs.declared.code.Code.TheVariants.{Mismatch, NotAPlace, Incomplete, SizeofStruct}
use Rattle.lk_arith.specs.declared.operators.UnaryOp.{UnaryOp}
use Rattle.lk_arith.specs.declared.operators.UnaryOp.TheVariants as u
use Rattle.lk_arith.specs.Conversions.{promoted}
use Rattle.lk_arith.specs.Operators.{unary_kind}
use Rattle.lk_tree.specs.declared.operators.PrefixOperator.{PrefixOperator}
use Rattle.lk_tree.specs.declared.operators.PrefixOperator.TheVariants as prefix
use Rattle.lk_typed.specs.Ty.{Ty, Pointer, kind_of, target_of, struct_of, is_void, is_integer, is_pointer, is_function}
use Rattle.lk_typed.specs.Env.{Name, Field, Members, NotYet, Begun, Known as KnownMembers, Faulty, members_of, field_of, number_of_field}
use Rattle.lk_typed.specs.declared.constant.Constant.TheVariants.{NotConstant}
use Rattle.lk_typed.specs.Typing.{Typing, Address, Verdict, Typed, Broken, Silent, value_of_type, place_of_type, integer, if_so, unless}
use Rattle.lk_typed.specs.Sizes.{is_complete, is_broken, holds_struct_or_lock, bytes_in, constant_of_bytes}
use Rattle.lk_typed.specs.Addresses.{inside, member_at, moved, value}
use Rattle.lk_typed.specs.Constants.{unary_constant}
use Rattle.lk_typed.specs.Operators.{is_condition, is_steppable, must_be, by_row}

-- ---- & and * (C99 6.5.3.2)

-- & takes a place or a function; of a place it keeps the address
abbrev pub address_of : Typing → Typing
address_of e =
    record { type = Pointer e.type; is_place = false; constant = NotConstant; is_null = false; address = e.address }

abbrev pub is_addressable : Typing → Bool
is_addressable e = e.is_place || is_function e.type

abbrev pub address_rule : Typing → Verdict
address_rule e = unless (if_so (not (is_addressable e)) NotAPlace) (address_of e)

-- what * gives: a function from a pointer to one, else a place, of any type but void; & of it gives the
-- address back (C99 6.5.3.2, 3)
abbrev pub pointed : Typing → Ty → Option Typing
pointed e target =
    if is_void target then None
    else Some (record { type = target; is_place = not (is_function target); constant = NotConstant; is_null = false; address = e.address })

abbrev pub indirect : Typing → Option Ty → Option Typing
indirect e None = None
indirect e (Some target) = pointed e target

abbrev pub indirection_rule : Typing → Verdict
indirection_rule e = by_row (must_be is_pointer e.type) (indirect e (target_of e.type))

-- ---- + - ~ ! (C99 6.5.3.3)

abbrev pub at_promoted_kind : UnaryOp → Typing → Option Kind → Option Typing
at_promoted_kind o e None = None
at_promoted_kind o e (Some k) =
    Some (integer (unary_kind o (promoted k)) (unary_constant o (promoted k) e.constant))

abbrev pub arithmetic_rule : UnaryOp → Typing → Verdict
arithmetic_rule o e = by_row (must_be is_integer e.type) (at_promoted_kind o e (kind_of e.type))

-- ! of a pointer is no constant
abbrev pub not_of : Typing → Option Kind → Typing
not_of e None = integer kind.Int NotConstant
not_of e (Some k) = integer kind.Int (unary_constant u.Not (promoted k) e.constant)

abbrev pub not_rule : Typing → Verdict
not_rule e = unless (must_be is_condition e.type) (not_of e (kind_of e.type))

-- & alone takes its operand as it is, the others take its value
abbrev pub operand_of : PrefixOperator → Typing → Typing
operand_of prefix.Address e = e
operand_of prefix.Indirection e = value e
operand_of prefix.Plus e = value e
operand_of prefix.Minus e = value e
operand_of prefix.Complement e = value e
operand_of prefix.Not e = value e

abbrev pub rule_of : PrefixOperator → Typing → Verdict
rule_of prefix.Address e = address_rule e
rule_of prefix.Indirection e = indirection_rule e
rule_of prefix.Plus e = arithmetic_rule u.Plus e
rule_of prefix.Minus e = arithmetic_rule u.Negate e
rule_of prefix.Complement e = arithmetic_rule u.Complement e
rule_of prefix.Not e = not_rule e

-- the operators before an operand
abbrev pub prefix_rule : PrefixOperator → Typing → Verdict
prefix_rule o e = rule_of o (operand_of o e)

-- ---- e[i] (C99 6.5.2.1): *(e + i), with the pointer on the left

abbrev pub element_of : Typing → Typing → Option Ty → Option Typing
element_of e i None = None
element_of e i (Some target) = Some (place_of_type target (moved e.address i.constant))

-- both are values
abbrev pub index_rule : List Members → Typing → Typing → Verdict
index_rule structs e i =
    by_row (must_be (is_steppable structs) e.type ++ must_be is_integer i.type)
    (element_of e i (target_of e.type))

-- ---- . and -> (C99 6.5.2.3)

abbrev pub member_in : Address → ℕ → Option Field → Verdict
member_in address k None = Broken (Mismatch ∷ [])
member_in address k (Some field) = Typed (place_of_type field.type (inside (member_at k) address))

-- a member of a struct; what it says of an incomplete one differs between . and ->
abbrev pub member_of : Code → Address → Name → Members → Verdict
member_of when_incomplete address name NotYet = Broken (when_incomplete ∷ [])
member_of when_incomplete address name Begun = Broken (when_incomplete ∷ [])
member_of when_incomplete address name (KnownMembers fields) =
    member_in address (number_of_field fields name) (field_of fields name)
member_of when_incomplete address name Faulty = Silent

abbrev pub dot_of : List Members → Typing → Name → Option ℕ → Verdict
dot_of structs e name None = Broken (Mismatch ∷ [])
dot_of structs e name (Some s) = if e.is_place then member_of Mismatch e.address name (members_of structs s)
    else Broken (Mismatch ∷ [])

-- . takes a place of struct type
abbrev pub dot_rule : List Members → Typing → Name → Verdict
dot_rule structs e name = dot_of structs e name (struct_of e.type)

-- what -> says of its pointer's target: of a struct its member; of void 22; of
-- another incomplete type 25; else 22
abbrev pub arrow_target : List Members → Typing → Name → Ty → Option ℕ → Verdict
arrow_target structs e name target None =
    if is_void target || is_function target || is_complete structs target then Broken (Mismatch ∷ [])
    else Broken (Incomplete ∷ [])
arrow_target structs e name target (Some s) = member_of Incomplete e.address name (members_of structs s)

abbrev pub arrow_of : List Members → Typing → Name → Option Ty → Verdict
arrow_of structs e name None = Broken (must_be is_pointer e.type)
arrow_of structs e name (Some target) = arrow_target structs e name target (struct_of target)

-- -> takes a value
abbrev pub arrow_rule : List Members → Typing → Name → Verdict
arrow_rule structs e name = arrow_of structs e name (target_of e.type)

-- ---- ++ and -- (C99 6.5.2.4, 6.5.3.1): of a place that holds an integer or a pointer to a complete object type

abbrev pub is_counted : List Members → Ty → Bool
is_counted structs t = is_integer t || is_steppable structs t

abbrev pub step_rule : List Members → Typing → Verdict
step_rule structs e =
    unless (if_so (not e.is_place) NotAPlace ++ must_be (is_counted structs) e.type) (value_of_type e.type)

-- ---- sizeof (C99 6.5.3.4): of a complete object type; of one that holds a struct, mutex or condition variable only in an allocation's size

abbrev pub sizeof_codes : List Members → Bool → Ty → List Code
sizeof_codes structs in_size t =
    if_so (not (is_complete structs t)) Incomplete ++
    if_so (holds_struct_or_lock t && not in_size) SizeofStruct

abbrev pub sizeof_rule : List Members → Bool → Ty → Verdict
sizeof_rule structs in_size t =
    if is_broken structs t then Silent
    else unless (sizeof_codes structs in_size t) (integer kind.ULong (constant_of_bytes (bytes_in t)))
