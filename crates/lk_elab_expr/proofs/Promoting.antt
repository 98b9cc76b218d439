-- What a type is by what it is asked: its kind, or whether it is a function.
use Rattle.std.proofs.Common.{◌≡◌, Option, Some, None, refl}
use Rattle.std.specs.Prelude.{if◌then◌else◌}
use Rattle.lk_arith.specs.Conversions.{promoted, usual}
use Rattle.lk_base.specs.declared.kind.Kind.{Kind}
use Rattle.lk_base.specs.declared.kind.Kind.TheVariants as kind
use Rattle.lk_typed.specs.Operands.{node_type, promoted_type, step_type}
use Rattle.lk_typed.specs.Ty.{Ty, Void, Int, ThreadId, Mutex, Cond, Pointer, Array, Struct, Function, Opaque, kind_of, is_function}

abbrev pub promoted_by : Option Kind → Ty → Ty
promoted_by None t = t
promoted_by (Some k) t = Int (promoted k)

pub promoted_is : (t : Ty) → promoted_by (kind_of t) t ≡ promoted_type t
promoted_is Void = refl
promoted_is (Int k) = refl
promoted_is ThreadId = refl
promoted_is Mutex = refl
promoted_is Cond = refl
promoted_is (Pointer t) = refl
promoted_is (Array t n) = refl
promoted_is (Struct s) = refl
promoted_is (Function result params dots) = refl
promoted_is (Opaque n) = refl

abbrev pub stepped_by : Option Kind → Ty → Ty
stepped_by None t = t
stepped_by (Some k) t = Int (usual k kind.Int)

pub stepped_is : (t : Ty) → stepped_by (kind_of t) t ≡ step_type t
stepped_is Void = refl
stepped_is (Int k) = refl
stepped_is ThreadId = refl
stepped_is Mutex = refl
stepped_is Cond = refl
stepped_is (Pointer t) = refl
stepped_is (Array t n) = refl
stepped_is (Struct s) = refl
stepped_is (Function result params dots) = refl
stepped_is (Opaque n) = refl

pub node_is : (t : Ty) → (if is_function t then Pointer t else t) ≡ node_type t
node_is Void = refl
node_is (Int k) = refl
node_is ThreadId = refl
node_is Mutex = refl
node_is Cond = refl
node_is (Pointer t) = refl
node_is (Array t n) = refl
node_is (Struct s) = refl
node_is (Function result params dots) = refl
node_is (Opaque n) = refl
