-- Types that are equal but for the sizes of arrays.
use Rattle.std.proofs.Common.{◌≡◌, ◌∙◌, ◌<◌, ℕ, List, Option, None, Some, IfSome, length, refl, subst, sym}
use Rattle.std.specs.Prelude.{slice_get}
use Rattle.std.proofs.lemmas.Option.{same_Some, slice_get_within}
use Rattle.lk_facts.specs.Program.{value_type_at}
use Rattle.lk_facts.specs.Typed.{IsForm, IsMember, IsObjectForm, IsObjectType, PointsTo}
use Rattle.lk_facts.specs.declared.program.Program.{Program}
use Rattle.lk_types.specs.Building.{IsTable}
use Rattle.lk_types.specs.Equal.{IsAlike}
use Rattle.lk_types.specs.Equal.IsEqualBut.{same, pointers, arrays, functions}
use Rattle.lk_types.specs.Table.{Table, IsKnown}
use Rattle.lk_types.specs.declared.c_type.CType.{CType}
use Rattle.lk_types.specs.declared.c_type.CType.TheVariants.{Pointer, Array, Struct, Function}
use Rattle.lk_point_types.specs.Each.{StandsForTargets}

known_right : (types : List CType) {a b : ℕ} → IsAlike types a b → a < length types → b < length types
known_right types (same is) known = subst (λ t. t < length types) is known
known_right types (pointers at bt h) known = slice_get_within types _ _ bt
known_right types (arrays at bt h sizes) known = slice_get_within types _ _ bt
known_right types (functions at bt h hs) known = slice_get_within types _ _ bt

known_left : (types : List CType) {a b : ℕ} → IsAlike types a b → b < length types → a < length types
known_left types (same is) known = subst (λ t. t < length types) (sym is) known
known_left types (pointers at bt h) known = slice_get_within types _ _ at
known_left types (arrays at bt h sizes) known = slice_get_within types _ _ at
known_left types (functions at bt h hs) known = slice_get_within types _ _ at

-- what is equal to what another type is equal to is equal to that
joined : (table : Table) → IsTable table → (v u t : ℕ) → IsKnown table t → IsAlike table.types v u → IsAlike table.types t u → IsAlike table.types v t
joined table good v u t known h k =
    let there = known_right table.types k known in
    let first = known_left table.types h there in
    (good.alike v t first known).1 ((good.alike v u first there).0 h ∙ sym ((good.alike t u known there).0 k))

-- where a pointer's target is found, it stands for each type to which the point points
pub stands_there : (program : Program) (p t : ℕ) (o : Option ℕ) → IsTable program.types → value_type_at program p ≡ Some t →
    IfSome o (λ target. IsForm program.types t (Pointer target)) → IfSome o (IsKnown program.types) → IfSome o (StandsForTargets program p)
stands_there program p t None good at form known = tt
stands_there program p t (Some w) good at form known = λ u v points alike.
    let same_type : points.1.0 ≡ t = same_Some _ _ (sym points.1.1 ∙ at) in
    let there : IsForm program.types t (Pointer points.0) = subst (λ x. IsForm program.types x (Pointer points.0)) same_type points.1.2 in
    let target : points.0 ≡ w = cc in
    joined program.types good v u w known alike (subst (λ x. IsAlike program.types.types x u) target points.2)

-- a type that is equal to one of objects is one of objects
pub object_too : (table : Table) (a b : ℕ) → IsAlike table.types a b → IsObjectType table b → IsObjectType table a
object_too table a b (same is) object = subst (IsObjectType table) (sym is) object
object_too table a b (pointers at bt h) object = (_, at, tt)
object_too table a b (arrays at bt h sizes) object = (_, at, tt)
object_too table a b (functions {r} {s} {ps} {qs} {dots} at bt h hs) object = absurd (subst IsObjectForm (same_Some _ _ (sym object.1 ∙ bt)) object.2)

-- a type that is equal to a struct is this struct
pub same_struct : (table : Table) (a b k t : ℕ) → IsAlike table.types a b → IsMember table b k t → a ≡ b
same_struct table a b k t (same is) of = is
same_struct table a b k t (pointers at bt h) of = absurd cc
same_struct table a b k t (arrays at bt h sizes) of = absurd cc
same_struct table a b k t (functions at bt h hs) of = absurd cc
