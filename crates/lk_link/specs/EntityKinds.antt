-- Whether an entity is a function or an object, as its first declaration says (C99 6.2.5, 1).
use Rattle.std.specs.Prelude.{◌≡◌, Bool, true, false, Some, slice_get}
use Rattle.lk_typed.specs.declared.entity.Declaration.{Declaration}
use Rattle.lk_typed.specs.declared.entity.Entity.{Entity}
use Rattle.lk_typed.specs.declared.entity.EntityKind.{EntityKind}
use Rattle.lk_typed.specs.declared.entity.EntityKind.TheVariants as kind
use Rattle.lk_types.specs.Table.{Table}
use Rattle.lk_types.specs.declared.c_type.CType.{CType}
use Rattle.lk_types.specs.declared.c_type.CType.TheVariants.{Void, Int, ThreadId, Mutex, Cond, Pointer, Array, Struct, Function, Opaque}

abbrev pub is_function_form : CType → Bool
is_function_form Void = false
is_function_form (Int k) = false
is_function_form ThreadId = false
is_function_form Mutex = false
is_function_form Cond = false
is_function_form (Pointer t) = false
is_function_form (Array t n) = false
is_function_form (Struct s) = false
is_function_form (Function result params dots) = true
is_function_form (Opaque n) = false

abbrev pub is_function_kind : EntityKind → Bool
is_function_kind kind.Function = true
is_function_kind kind.Object = false

-- an entity is a function exactly where the type of its first declaration is one of functions
pub record HasOwnKind (types : Table) (entity : Entity) : Type 0 where
  pub by : Declaration
  pub by_at : slice_get entity.declarations 0 ≡ Some by
  pub form : CType
  pub form_at : slice_get types.types by.ty ≡ Some form
  pub kind : is_function_form form ≡ is_function_kind entity.kind
