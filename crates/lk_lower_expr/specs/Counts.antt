-- How many steps of its own the node of an expression has, where that depends on types.
use Rattle.std.specs.Prelude.{ℕ, Bool, true, false, ◌||◌, nat_eq, if◌then◌else◌, suc, List, [], ◌∷◌, Option, None, Some}
use Rattle.lk_base.specs.declared.kind.Kind.TheVariants.{Int as IntKind}
use Rattle.lk_lower_expr.specs.Library.{is_text}
use Rattle.lk_lower_expr.specs.Names.{Names}
use Rattle.lk_lower_expr.specs.Parts.{Part, first_of, place_of}
use Rattle.lk_typed.specs.declared.expression.TypedExpr.{TypedExpr}
use Rattle.lk_types.specs.Table.{Table, type_at}
use Rattle.lk_lower_expr.specs.Values.{is_pointer}
use Rattle.lk_types.specs.Predeclared.{kind_id}
use Rattle.lk_types.specs.declared.c_type.CType.{CType}
use Rattle.lk_types.specs.declared.c_type.CType.TheVariants.{Void, Int, ThreadId, Mutex, Cond, Pointer, Array, Struct, Function, Opaque}

abbrev pub is_void : CType → Bool
is_void Void = true
is_void (Int k) = false
is_void ThreadId = false
is_void Mutex = false
is_void Cond = false
is_void (Pointer t) = false
is_void (Array t n) = false
is_void (Struct s) = false
is_void (Function result params dots) = false
is_void (Opaque n) = false

-- the name of an object, by the slot for which it stands
abbrev pub name_count : Option ℕ → ℕ
name_count None = 1
name_count (Some slot) = 0

abbrev pub choice_count : CType → ℕ
choice_count form = if is_void form then 1 else 4

abbrev pub compound_count : (place computed : ℕ) → ℕ
compound_count place computed = if nat_eq place computed then 3 else 5

abbrev pub step_count : CType → (place computed : ℕ) → ℕ
step_count form place computed =
    if nat_eq place computed
    then (if is_pointer form || nat_eq computed (kind_id IntKind) then 4 else 5) else 6

-- how many of these expressions are of type `char *`
abbrev pub text_count : Table → List TypedExpr → ℕ
text_count table [] = 0
text_count table (e ∷ others) = if is_text (type_at table e.ty) then suc (text_count table others)
    else text_count table others

-- ---- which step gives the value

abbrev pub choice_step : CType → ℕ
choice_step form = if is_void form then 0 else 3

abbrev pub compound_step : (place computed : ℕ) → ℕ
compound_step place computed = if nat_eq place computed then 1 else 3

-- the step that is written
abbrev pub written_step : CType → (place computed : ℕ) → ℕ
written_step form place computed =
    if nat_eq place computed
    then (if is_pointer form || nat_eq computed (kind_id IntKind) then 2 else 3) else 4

-- ---- where an expression begins

-- where a place is read at once: it begins with the place, but for a slot
abbrev pub place_first : Names → Part → ℕ → ℕ
place_first names a node = first_of (place_of names a.slot a) (names.at node 0)

-- ---- where control goes on

-- behind a way of `?:`, which has a step of its own there but for void
abbrev pub way_on : CType → (own on : ℕ) → ℕ
way_on form own on = if is_void form then on else own

-- in `printf` at the next read of a text, where there are more of them
abbrev pub on_by : (left next on : ℕ) → ℕ
on_by left next on = if nat_eq left 0 then on else next
