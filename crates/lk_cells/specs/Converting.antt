-- What conversions give of values: a value, or the cause by which C calls them undefined; nothing for values
-- that they don't take (C99 6.3).
use Rattle.std.specs.Prelude.{ℕ, Bool, true, false, not, Option, None, Some, slice_get, option_and_then, if◌then◌else◌, nat_eq, ◌&&◌, ◌||◌}
use Rattle.std.specs.Option.{option_map_or, option_eq}
use Rattle.lk_arith.specs.Conversions.{truth, convert}
use Rattle.lk_base.specs.declared.kind.Kind.{Kind}
use Rattle.lk_cells.specs.Parts.{form_of, type_along}
use Rattle.lk_values.specs.declared.cell.Pointer.{Pointer as PointerTo}
use Rattle.lk_cells.specs.declared.state.State.{State}
use Rattle.lk_values.specs.declared.value.Value.{Value}
use Rattle.lk_values.specs.declared.value.Value.TheVariants.{Number, Pointer, Function, Null, Thread, Indeterminate}
use Rattle.lk_values.specs.declared.why.Why.TheVariants as why
use Rattle.lk_types.specs.Table.{Table}
use Rattle.lk_types.specs.declared.c_type.CType.{CType}
use Rattle.lk_types.specs.declared.c_type.CType.TheVariants as type
use Rattle.lk_cells.specs.Computing.{Computed, gives, undefined_by}

-- whether a type is void
abbrev pub is_void : CType → Bool
is_void type.Void = true
is_void (type.Int k) = false
is_void type.ThreadId = false
is_void type.Mutex = false
is_void type.Cond = false
is_void (type.Pointer t) = false
is_void (type.Array t n) = false
is_void (type.Struct n) = false
is_void (type.Function result params dots) = false
is_void (type.Opaque n) = false

-- what a pointer type points to
abbrev pub target_of : CType → Option ℕ
target_of type.Void = None
target_of (type.Int k) = None
target_of type.ThreadId = None
target_of type.Mutex = None
target_of type.Cond = None
target_of (type.Pointer t) = Some t
target_of (type.Array t n) = None
target_of (type.Struct n) = None
target_of (type.Function result params dots) = None
target_of (type.Opaque n) = None

-- whether a type is `void *`
abbrev pub is_void_pointer : Table → Option ℕ → Bool
is_void_pointer table t =
    option_map_or is_void (option_and_then (form_of table) (option_and_then target_of (option_and_then (form_of table) t))) false

-- a value converted to an integer kind; an address is converted to _Bool alone, as
-- whether it isn't null (C99 6.3.1.2)
abbrev pub to_kind : Kind → Value → Computed
to_kind k (Number j n) = gives (Number k (convert k n))
to_kind k (Pointer p) = gives (Number k (truth true))
to_kind k (Function f) = gives (Number k (truth true))
to_kind k Null = gives (Number k (truth false))
to_kind k (Thread t) = None
to_kind k Indeterminate = None

-- a thread id stays as it is
abbrev pub to_id : Value → Computed
to_id (Number j n) = None
to_id (Pointer p) = None
to_id (Function f) = None
to_id Null = None
to_id (Thread t) = gives (Thread t)
to_id Indeterminate = None

module _ (table : Table) (s : State) where
  -- whether the part that a pointer points to or one past has this type
  abbrev pub is_part_of_type : ℕ → PointerTo → Bool
  is_part_of_type t p =
      option_eq nat_eq (option_and_then (λ object. type_along table object.length p.part.path object.ty)
      (slice_get s.objects p.part.object)) (Some t)

  -- a value converted to a pointer to the type t; from void, to that of the part that
  -- it points to (C99 6.3.2.3, 1)
  abbrev pub to_pointer : Bool → ℕ → Value → Computed
  to_pointer from_void t (Number j n) = None
  to_pointer from_void t (Pointer p) =
      if not from_void || is_part_of_type t p then gives (Pointer p) else undefined_by why.WrongType
  to_pointer from_void t (Function f) = gives (Function f)
  to_pointer from_void t Null = gives Null
  to_pointer from_void t (Thread u) = None
  to_pointer from_void t Indeterminate = None

  -- a value converted to a type of this form; `from_void` tells whether it is converted from `void *` to a
  -- pointer to another type (C99 6.3)
  abbrev pub converted : (ℕ → Bool) → CType → Value → Computed
  converted from_void type.Void v = None
  converted from_void (type.Int k) v = to_kind k v
  converted from_void type.ThreadId v = to_id v
  converted from_void type.Mutex v = None
  converted from_void type.Cond v = None
  converted from_void (type.Pointer t) v = to_pointer (from_void t) t v
  converted from_void (type.Array t n) v = None
  converted from_void (type.Struct n) v = None
  converted from_void (type.Function result params dots) v = None
  converted from_void (type.Opaque n) v = None

  -- whether a value of the type `from` is a `void *`, and t isn't void
  abbrev pub is_from_void : Option ℕ → ℕ → Bool
  is_from_void from t = is_void_pointer table from && not (option_map_or is_void (form_of table t) false)

  -- a value of the type `from` converted to a type
  abbrev pub converted_to : Option ℕ → ℕ → Value → Computed
  converted_to from ty v = option_and_then (λ form. converted (is_from_void from) form v) (form_of table ty)
