-- What the code keeps of an address constant: whether it stays in its array; not whose place it is. And the
-- address that an operator or a name gives where it gives a typing.
use Rattle.std.specs.Prelude.{◌&&◌, Option, Some, None, if◌then◌else◌}
use Rattle.lk_tree.specs.declared.operators.BinaryOperator.{BinaryOperator}
use Rattle.lk_tree.specs.declared.operators.BinaryOperator.TheVariants as binary
use Rattle.lk_tree.specs.declared.operators.PrefixOperator.{PrefixOperator}
use Rattle.lk_tree.specs.declared.operators.PrefixOperator.TheVariants as prefix
use Rattle.lk_typed.specs.Addresses.{moved, moved_back, value}
use Rattle.lk_typed.specs.Conversions.{converted_address}
use Rattle.lk_typed.specs.Env as env
use Rattle.lk_typed.specs.Ty.{Ty, is_integer, is_pointer}
use Rattle.lk_typed.specs.Typing as spec
use Rattle.lk_typed.specs.Typing.{Position, Typing}
use Rattle.lk_typed.specs.Words.{address_of_storage}
use Rattle.lk_typed.specs.declared.constant.Constant.{Constant}
use Rattle.lk_found.specs.declared.addresses.Address.{Address}
use Rattle.lk_found.specs.declared.addresses.Address.TheVariants as address
use Rattle.lk_found.specs.declared.addresses.Place.{Place}

abbrev pub place_of : Position → Place
place_of position = record { index = position.index; count = position.count }

abbrev pub kept_of : spec.Address → Address
kept_of spec.NotAddress = address.NotAddress
kept_of spec.NullAddress = address.Null
kept_of (spec.FunctionAddress n) = address.Function
kept_of (spec.Inside position) = address.Inside (place_of position)
kept_of spec.Nowhere = address.Nowhere

-- ---- what operators and names give

-- a pointer moves by an integer on its right
abbrev pub moved_by_operator : BinaryOperator → spec.Address → Constant → spec.Address
moved_by_operator binary.Add address by = moved address by
moved_by_operator binary.Subtract address by = moved_back address by
moved_by_operator binary.Or address by = spec.NotAddress
moved_by_operator binary.And address by = spec.NotAddress
moved_by_operator binary.BitOr address by = spec.NotAddress
moved_by_operator binary.BitXor address by = spec.NotAddress
moved_by_operator binary.BitAnd address by = spec.NotAddress
moved_by_operator binary.Equal address by = spec.NotAddress
moved_by_operator binary.NotEqual address by = spec.NotAddress
moved_by_operator binary.Less address by = spec.NotAddress
moved_by_operator binary.Greater address by = spec.NotAddress
moved_by_operator binary.LessEqual address by = spec.NotAddress
moved_by_operator binary.GreaterEqual address by = spec.NotAddress
moved_by_operator binary.ShiftLeft address by = spec.NotAddress
moved_by_operator binary.ShiftRight address by = spec.NotAddress
moved_by_operator binary.Multiply address by = spec.NotAddress
moved_by_operator binary.Divide address by = spec.NotAddress
moved_by_operator binary.Remainder address by = spec.NotAddress

-- of two values
abbrev pub binary_address : BinaryOperator → Typing → Typing → spec.Address
binary_address op a b =
    if is_pointer a.type && is_integer b.type then moved_by_operator op a.address b.constant
    else spec.NotAddress

-- & keeps the address of a place, * that of a value
abbrev pub prefix_address : PrefixOperator → Typing → spec.Address
prefix_address prefix.Address e = e.address
prefix_address prefix.Indirection e = (value e).address
prefix_address prefix.Plus e = spec.NotAddress
prefix_address prefix.Minus e = spec.NotAddress
prefix_address prefix.Complement e = spec.NotAddress
prefix_address prefix.Not e = spec.NotAddress

-- a value has its address once it is converted to a pointer
abbrev pub cast_address : Ty → Typing → spec.Address
cast_address target v = if is_pointer target then converted_address v else spec.NotAddress

abbrev pub declared_address : env.Declared → env.Meaning → spec.Address
declared_address d (env.AnObject t is_static) = address_of_storage is_static d.ordinal
declared_address d (env.AFunction t) = spec.FunctionAddress d.ordinal
declared_address d (env.ATypedef t) = spec.NotAddress
declared_address d (env.AnEnumerator z) = spec.NotAddress
declared_address d (env.AnInitialiserWord t) = spec.NotAddress
declared_address d env.AFaultyName = spec.NotAddress

abbrev pub name_address : Option env.Declared → spec.Address
name_address None = spec.NotAddress
name_address (Some d) = declared_address d d.meaning
