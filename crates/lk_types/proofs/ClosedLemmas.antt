-- What is complete is no incomplete struct.
use Rattle.std.proofs.Common.{◌≡◌, ℕ, Bool, true, false, List, refl, sym, All}
use Rattle.std.specs.Prelude.{not}
use Rattle.std.proofs.lemmas.List.Elements.{All-weaker}
use Rattle.lk_types.specs.Building.{IsClosed, IsClosedForm, IsPartOfObjects}
use Rattle.lk_types.specs.Table.{Table, type_at, is_open, is_complete, is_complete_form, IsKnown}
use Rattle.lk_types.specs.declared.c_type.CType.{CType}
use Rattle.lk_types.specs.declared.c_type.CType.TheVariants.{Void, Int, ThreadId, Mutex, Cond, Pointer, Array, Struct, Function, Opaque}

not-true : (b : Bool) → not b ≡ true → b ≡ false
not-true true is = sym is
not-true false is = refl

complete_form : (table : Table) (form : CType) → is_complete_form table form ≡ true → IsClosedForm table form
complete_form table Void is = tt
complete_form table (Int kind) is = tt
complete_form table ThreadId is = tt
complete_form table Mutex is = tt
complete_form table Cond is = tt
complete_form table (Pointer t) is = tt
complete_form table (Array t n) is = tt
complete_form table (Struct s) is = not-true (is_open table s) is
complete_form table (Function result params dots) is = tt
complete_form table (Opaque n) is = tt

pub closed_complete : (table : Table) (t : ℕ) → is_complete table t ≡ true → IsClosed table t
closed_complete table t is = complete_form table (type_at table t) is

-- parts of objects are known and no incomplete structs
pub closed_members : (table : Table) (ts : List ℕ) → All (IsPartOfObjects table) ts → All (λ u. IsKnown table u × IsClosed table u) ts
closed_members table ts parts =
    All-weaker (IsPartOfObjects table) (λ u. IsKnown table u × IsClosed table u) (λ u part. (part.known, closed_complete table u part.complete)) ts parts
