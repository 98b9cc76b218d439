use Rattle.std.proofs.Common.{◌<◌, All, length, subst, sym}
use Rattle.std.proofs.lemmas.List.Elements.{All-head, All-tail}
use Rattle.lk_join.proofs.Shaping.{of_array, of_function, of_pointer, of_struct, has_void, has_integer, has_thread, has_mutex, has_condition, has_opaque, has_pointer, has_array, has_struct, has_function}
use Rattle.lk_join.proofs.forms.Source.form_here.Goals as goal

pub here-requires : goal.here-requires
here-requires c = of_pointer c.args.self.now.types.now (length c.args.row.now) c.args.form.now c.requires _ c.in-Pointer.is

pub here-requires-in-Array : goal.here-requires-in-Array
here-requires-in-Array c = of_array c.args.self.now.types.now (length c.args.row.now) c.args.form.now c.requires _ _ c.in-Array.is

pub struct_here-requires : goal.struct_here-requires
struct_here-requires c = of_struct c.args.self.now.types.now (length c.args.row.now) c.args.form.now c.requires _ c.in-Struct.is

pub here-requires-in-Function : goal.here-requires-in-Function
here-requires-in-Function c =
    let n = length c.args.row.now in
    All-head (λ u. u < n) _ _ (of_function c.args.self.now.types.now n c.args.form.now c.requires _ _ _ c.in-Function.is)

pub all_here-requires : goal.all_here-requires
all_here-requires c =
    let n = length c.args.row.now in
    subst (All (λ u. u < n)) (sym c.list.ensures) (All-tail (λ u. u < n) _ _ (of_function c.args.self.now.types.now n c.args.form.now c.requires _ _ _ c.in-Function.is))

pub returns-in-Pointer : goal.returns-in-Pointer
returns-in-Pointer c = has_pointer _ _ _ _ _ c.in-Pointer.is c.here.ensures

pub returns-in-Array : goal.returns-in-Array
returns-in-Array c = has_array _ _ _ _ _ _ c.in-Array.is c.here-in-Array.ensures

pub returns-in-Struct : goal.returns-in-Struct
returns-in-Struct c = has_struct _ _ _ _ _ c.in-Struct.is c.struct_here.ensures

pub returns-in_ok-all_here-in-Function : goal.returns-in_ok-all_here-in-Function
returns-in_ok-all_here-in-Function c = has_function _ _ _ _ _ _ _ _ _ c.in-Function.is c.list.ensures c.here-in-Function.ensures c.in_ok-all_here-in-Function.ensures

pub returns-in-Void : goal.returns-in-Void
returns-in-Void c = has_void _ _ _ c.in-Void.is

pub returns-in-Int : goal.returns-in-Int
returns-in-Int c = has_integer _ _ _ _ c.in-Int.is

pub returns-in-ThreadId : goal.returns-in-ThreadId
returns-in-ThreadId c = has_thread _ _ _ c.in-ThreadId.is

pub returns-in-Mutex : goal.returns-in-Mutex
returns-in-Mutex c = has_mutex _ _ _ c.in-Mutex.is

pub returns-in-Cond : goal.returns-in-Cond
returns-in-Cond c = has_condition _ _ _ c.in-Cond.is

pub returns-in-Opaque : goal.returns-in-Opaque
returns-in-Opaque c = has_opaque _ _ _ _ c.in-Opaque.is
