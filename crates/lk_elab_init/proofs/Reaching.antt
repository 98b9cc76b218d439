-- Addresses, by what the checker keeps of them.
use Rattle.std.proofs.Common.{◌≡◌, ◌∙◌, ◌++◌, ℕ, Bool, true, false, List, [], ◌∷◌, refl, sym, ap, subst}
use Rattle.std.specs.Prelude.{if◌then◌else◌, nat_lt}
use Rattle.std.proofs.lemmas.Bool.{false≢true}
use Rattle.lk_base.specs.declared.cell.CellStep.{CellStep}
use Rattle.lk_base.specs.declared.cell.CellStep.TheVariants.{Field}
use Rattle.lk_tree.specs.declared.operators.BinaryOperator.{BinaryOperator}
use Rattle.lk_tree.specs.declared.operators.BinaryOperator.TheVariants as binary
use Rattle.lk_typed.specs.Addresses as spec
use Rattle.lk_typed.specs.Addresses.{count_of, inside, member_at, moved, moved_back, steps_to, value, value_at}
use Rattle.lk_typed.specs.Conversions.{converted_address}
use Rattle.lk_typed.specs.Ty.{Ty, Void, Int, ThreadId, Mutex, Cond, Pointer, Array, Struct, Function, Opaque, is_array, is_pointer}
use Rattle.lk_typed.specs.Typing as typing
use Rattle.lk_typed.specs.Typing.{Inside, NotAddress, Nowhere, NullAddress, FunctionAddress, Typing}
use Rattle.lk_typed.specs.declared.constant.Constant.{Constant}
use Rattle.lk_typed.specs.declared.constant.Constant.TheVariants as constant
use Rattle.lk_found.specs.Addresses.{binary_address, cast_address, kept_of, moved_by_operator}
use Rattle.lk_found.specs.declared.addresses.Address.{Address}
use Rattle.lk_found.specs.declared.addresses.Address.TheVariants as kept
use Rattle.lk_found.specs.declared.addresses.Place.{Place}
use Rattle.lk_elab_init.specs.Reaching.{MovesFrom, is_reached, position_in}
use Rattle.lk_elab_init.specs.Reaching.MovesFrom.{unknown, outside, along}
use Rattle.lk_elab_init.specs.declared.positions.Position.{Position}

-- ---- parts of places

module _ (self place : Position) (is : place ≡ record self { steps = steps_to (position_in self) }) where
  pub first_is : (count : ℕ) → position_in (record { anchor = place.anchor; steps = place.steps; is_element = true; index = 0; count = count }) ≡ spec.first_element count (position_in self)
  first_is count = ap (λ (p : Position). position_in (record { anchor = p.anchor; steps = p.steps; is_element = true; index = 0; count = count })) is

  pub member_is : (k : ℕ) (steps : List CellStep) → steps ≡ place.steps ++ Field k ∷ [] →
      position_in (record { anchor = place.anchor; steps = steps; is_element = false; index = 0; count = 1 }) ≡ spec.member_at k (position_in self)
  member_is k steps steps_is =
      ap (λ (s : List CellStep). position_in (record { anchor = place.anchor; steps = s; is_element = false; index = 0; count = 1 })) steps_is ∙
      ap (λ (p : Position). position_in (record { anchor = p.anchor; steps = p.steps ++ Field k ∷ []; is_element = false; index = 0; count = 1 })) is

-- ---- what is kept

abbrev is_place : Address → Bool
is_place kept.NotAddress = false
is_place kept.Null = false
is_place kept.Function = false
is_place (kept.Inside place) = true
is_place kept.Nowhere = false

abbrev index_in : Address → ℕ
index_in kept.NotAddress = 0
index_in kept.Null = 0
index_in kept.Function = 0
index_in (kept.Inside place) = place.index
index_in kept.Nowhere = 0

abbrev count_in : Address → ℕ
count_in kept.NotAddress = 0
count_in kept.Null = 0
count_in kept.Function = 0
count_in (kept.Inside place) = place.count
count_in kept.Nowhere = 0

abbrev is_null : Address → Bool
is_null kept.NotAddress = false
is_null kept.Null = true
is_null kept.Function = false
is_null (kept.Inside place) = false
is_null kept.Nowhere = false

no_place : (there : Place) (other : Address) → kept.Inside there ≡ other → is_place other ≡ false → ⊥
no_place there other e none = false≢true (sym none ∙ sym (ap is_place e))

pub null_kept : (a : typing.Address) → kept.Null ≡ kept_of a → a ≡ NullAddress
null_kept NotAddress e = absurd (false≢true (sym (ap is_null e)))
null_kept NullAddress e = refl
null_kept (FunctionAddress n) e = absurd (false≢true (sym (ap is_null e)))
null_kept (Inside position) e = absurd (false≢true (sym (ap is_null e)))
null_kept Nowhere e = absurd (false≢true (sym (ap is_null e)))

-- ---- places that move

pub moved_there : (q : typing.Position) (a : typing.Address) (there : Place) → MovesFrom q a → kept.Inside there ≡ kept_of a → a ≡ Inside (record q { index = there.index })
moved_there q _ there unknown e = absurd (no_place there kept.NotAddress e refl)
moved_there q _ there outside e = absurd (no_place there kept.Nowhere e refl)
moved_there q _ there (along k) e = ap (λ n. Inside (record q { index = n })) (sym (ap index_in e))

moves_within : (q : typing.Position) (b : Bool) (k : ℕ) → MovesFrom q (if b then Inside (record q { index = k }) else Nowhere)
moves_within q true k = along k
moves_within q false k = outside

pub moves : (q : typing.Position) (c : Constant) → MovesFrom q (moved (Inside q) c)
moves q constant.NotConstant = unknown
moves q constant.Undefined = outside
moves q (constant.Known n) = moves_within q _ _

moves_back : (q : typing.Position) (c : Constant) → MovesFrom q (moved_back (Inside q) c)
moves_back q constant.NotConstant = unknown
moves_back q constant.Undefined = outside
moves_back q (constant.Known n) = moves_within q _ _

moves_by : (q : typing.Position) (o : BinaryOperator) (c : Constant) → MovesFrom q (moved_by_operator o (Inside q) c)
moves_by q binary.Add c = moves q c
moves_by q binary.Subtract c = moves_back q c
moves_by q binary.Or c = unknown
moves_by q binary.And c = unknown
moves_by q binary.BitOr c = unknown
moves_by q binary.BitXor c = unknown
moves_by q binary.BitAnd c = unknown
moves_by q binary.Equal c = unknown
moves_by q binary.NotEqual c = unknown
moves_by q binary.Less c = unknown
moves_by q binary.Greater c = unknown
moves_by q binary.LessEqual c = unknown
moves_by q binary.GreaterEqual c = unknown
moves_by q binary.ShiftLeft c = unknown
moves_by q binary.ShiftRight c = unknown
moves_by q binary.Multiply c = unknown
moves_by q binary.Divide c = unknown
moves_by q binary.Remainder c = unknown

moves_if : (q : typing.Position) (b : Bool) (a : typing.Address) → MovesFrom q a → MovesFrom q (if b then a else NotAddress)
moves_if q true a is = is
moves_if q false a is = unknown

pub binary_moves : (q : typing.Position) (o : BinaryOperator) (y z : Typing) → y.address ≡ Inside q → MovesFrom q (binary_address o y z)
binary_moves q o y z is =
    moves_if q _ _ (subst (λ a. MovesFrom q (moved_by_operator o a z.constant)) (sym is) (moves_by q o z.constant))

pub index_moves : (q : typing.Position) (y z : Typing) → y.address ≡ Inside q → MovesFrom q (moved y.address z.constant)
index_moves q y z is = subst (λ a. MovesFrom q (moved a z.constant)) (sym is) (moves q z.constant)

-- ---- members, and first elements

part_there : (b : Bool) (part : typing.Position) → is_reached (kept_of (if b then Inside part else Nowhere)) ≡ true → (if b then Inside part else Nowhere) ≡ Inside part
part_there true part is = refl
part_there false part is = absurd (false≢true is)

pub member_there : (q : typing.Position) (k : ℕ) (a : typing.Address) → is_reached (kept_of a) ≡ true → a ≡ inside (member_at k) (Inside q) → a ≡ Inside (member_at k q)
member_there q k a is e = e ∙ part_there (nat_lt q.index q.count) (member_at k q) (ap (λ b. is_reached (kept_of b)) (sym e) ∙ is)

first_there : (b : Bool) (q : typing.Position) (n : ℕ) (there : Place) → kept.Inside there ≡ kept_of (if b then Inside (spec.first_element n q) else Nowhere) →
    (if b then Inside (spec.first_element n q) else Nowhere) ≡ Inside (spec.first_element there.count q)
first_there true q n there e = ap (λ m. Inside (spec.first_element m q)) (sym (ap count_in e))
first_there false q n there e = absurd (no_place there kept.Nowhere e refl)

first_in : (t : Ty) (x : Typing) (q : typing.Position) (there : Place) → is_array t ≡ true → x.address ≡ Inside q → kept.Inside there ≡ kept_of (value_at t x).address →
    (value_at t x).address ≡ Inside (spec.first_element there.count q)
first_in Void x q there is at e = absurd (false≢true is)
first_in (Int k) x q there is at e = absurd (false≢true is)
first_in ThreadId x q there is at e = absurd (false≢true is)
first_in Mutex x q there is at e = absurd (false≢true is)
first_in Cond x q there is at e = absurd (false≢true is)
first_in (Pointer t) x q there is at e = absurd (false≢true is)
first_in (Array t n) x q there is at e =
    let same = ap (inside (spec.first_element (count_of n))) at in
    same ∙ first_there (nat_lt q.index q.count) q (count_of n) there (e ∙ ap kept_of same)
first_in (Struct s) x q there is at e = absurd (false≢true is)
first_in (Function result params dots) x q there is at e = absurd (false≢true is)
first_in (Opaque n) x q there is at e = absurd (false≢true is)

pub array_value : (x : Typing) (q : typing.Position) (there : Place) → is_array x.type ≡ true → x.address ≡ Inside q → kept.Inside there ≡ kept_of (value x).address →
    (value x).address ≡ Inside (spec.first_element there.count q)
array_value x q there is at e = first_in x.type x q there is at e

-- ---- values that are no arrays

read_there : (place : Bool) (x : Typing) → is_reached (kept_of (if place then typing.value_of_type x.type else x).address) ≡ true →
    (if place then typing.value_of_type x.type else x).address ≡ x.address
read_there true x is = absurd (false≢true is)
read_there false x is = refl

plain_in : (t : Ty) (x : Typing) → is_array t ≡ false → is_reached (kept_of (value_at t x).address) ≡ true → (value_at t x).address ≡ x.address
plain_in Void x not_array is = read_there x.is_place x is
plain_in (Int k) x not_array is = read_there x.is_place x is
plain_in ThreadId x not_array is = read_there x.is_place x is
plain_in Mutex x not_array is = read_there x.is_place x is
plain_in Cond x not_array is = read_there x.is_place x is
plain_in (Pointer t) x not_array is = read_there x.is_place x is
plain_in (Array t n) x not_array is = absurd (false≢true (sym not_array))
plain_in (Struct s) x not_array is = read_there x.is_place x is
plain_in (Function result params dots) x not_array is = refl
plain_in (Opaque n) x not_array is = read_there x.is_place x is

pub plain_value : (x : Typing) → is_array x.type ≡ false → is_reached (kept_of (value x).address) ≡ true → (value x).address ≡ x.address
plain_value x not_array is = plain_in x.type x not_array is

-- the value of an array is no function
abbrev is_function_kept : Address → Bool
is_function_kept kept.NotAddress = false
is_function_kept kept.Null = false
is_function_kept kept.Function = true
is_function_kept (kept.Inside place) = false
is_function_kept kept.Nowhere = false

no_part : (b : Bool) (q : typing.Position) → is_function_kept (kept_of (if b then Inside q else Nowhere)) ≡ true → ⊥
no_part true q is = false≢true is
no_part false q is = false≢true is

no_first : (n : ℕ) (a : typing.Address) → is_function_kept (kept_of (inside (spec.first_element n) a)) ≡ true → ⊥
no_first n NotAddress is = false≢true is
no_first n NullAddress is = false≢true is
no_first n (FunctionAddress f) is = false≢true is
no_first n (Inside q) is = no_part (nat_lt q.index q.count) (spec.first_element n q) is
no_first n Nowhere is = false≢true is

function_in : (t : Ty) (x : Typing) → kept.Function ≡ kept_of (value_at t x).address → (value_at t x).address ≡ x.address
function_in Void x e = read_there x.is_place x (ap is_reached (sym e))
function_in (Int k) x e = read_there x.is_place x (ap is_reached (sym e))
function_in ThreadId x e = read_there x.is_place x (ap is_reached (sym e))
function_in Mutex x e = read_there x.is_place x (ap is_reached (sym e))
function_in Cond x e = read_there x.is_place x (ap is_reached (sym e))
function_in (Pointer t) x e = read_there x.is_place x (ap is_reached (sym e))
function_in (Array t n) x e = absurd (no_first (count_of n) x.address (ap is_function_kept (sym e)))
function_in (Struct s) x e = read_there x.is_place x (ap is_reached (sym e))
function_in (Function result params dots) x e = refl
function_in (Opaque n) x e = read_there x.is_place x (ap is_reached (sym e))

pub function_value : (x : Typing) → kept.Function ≡ kept_of (value x).address → (value x).address ≡ x.address
function_value x e = function_in x.type x e

-- ---- casts

cast_there : (b : Bool) (a : typing.Address) → is_reached (kept_of (if b then a else NotAddress)) ≡ true → (if b then a else NotAddress) ≡ a
cast_there true a is = refl
cast_there false a is = absurd (false≢true is)

pub cast_reached : (t : Ty) (v : Typing) → is_reached (kept_of (cast_address t v)) ≡ true → cast_address t v ≡ converted_address v
cast_reached t v is = cast_there (is_pointer t) (converted_address v) is
