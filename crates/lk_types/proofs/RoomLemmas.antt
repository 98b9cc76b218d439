-- A table has room for the pointers to types within the bounds of the language.
use Rattle.std.proofs.Common.{◌≡◌, ◌∙◌, ◌≤◌, ℕ, suc, Bool, true, false, refl, sym, ap, subst, arith}
use Rattle.std.proofs.lemmas.Bool.{false≢true}
use Rattle.std.proofs.lemmas.Bool.Decides.{nat_tests}
use Rattle.lk_types.specs.Laws.{PointersHaveRoom, PointersToPointersHaveRoom}
use Rattle.lk_types.specs.Sizes.{with_part, part_size, start_size, size_at, form_size, is_too_large, is_over}
use Rattle.lk_types.specs.Table.{Table, least_of}
use Rattle.lk_types.specs.Walks.{target, has_tag}
use Rattle.lk_types.specs.declared.c_type.CType.TheVariants.{Pointer}
use Rattle.lk_types.specs.declared.size.TypeSize.{TypeSize}
use Rattle.lk_types.proofs.Fuel.{sizes_are_of_parts}
use Rattle.lk_types.proofs.PartLemmas.{target_by}
use Rattle.lk_types.proofs.SizeLemmas.{small_from}

-- what it means for a size to be within the bounds of the language
pub few_large : (size : TypeSize) → is_too_large size ≡ false → (size.nodes ≤ 65535) × (size.steps ≤ 1000)
few_large size small = (grind (arith, nat_tests), grind (arith, nat_tests))

-- what is within the bounds of the language is within those of a table
pub not_over : (size : TypeSize) → is_too_large size ≡ false → is_over size ≡ false
not_over size small = let few = few_large size small in small_from size (omega (arith, few.0)) (omega (arith, few.1))

-- and what is over the bounds of a table is over those of the language
pub too_large : (size : TypeSize) → is_over size ≡ true → is_too_large size ≡ true
too_large size over = of (is_too_large size) refl
  where
    of : (large : Bool) → is_too_large size ≡ large → large ≡ true
    of true is = refl
    of false is = absurd (false≢true (sym (not_over size is) ∙ over))

-- what holds of the size of a Tag and of that of the type holds of the part to which a pointer to the type leads
of_target : (P : TypeSize → Type 0) (table : Table) (t : ℕ) → P start_size → P (size_at table t) → P (part_size (size_at table) (target table t))
of_target P table t tag plain = of (has_tag table t) refl
  where
    of : (b : Bool) → has_tag table t ≡ b → P (part_size (size_at table) (target table t))
    of true is = subst (λ b. P (part_size (size_at table) b)) (sym (ap (λ b. target_by b (least_of table t) t) is)) tag
    of false is = subst (λ b. P (part_size (size_at table) b)) (sym (ap (λ b. target_by b (least_of table t) t) is)) plain

-- the size of a pointer is one node and one step more at most
pointer_within : (table : Table) (t n s : ℕ) → 1 ≤ n → (size_at table t).nodes ≤ n → (size_at table t).steps ≤ s →
    ((form_size table (Pointer t)).nodes ≤ suc n) × ((form_size table (Pointer t)).steps ≤ suc s)
pointer_within table t n s some nodes steps =
    of_target (λ part. ((with_part start_size part).nodes ≤ suc n) × ((with_part start_size part).steps ≤ suc s)) table t (omega (arith, some), omega arith) (omega (arith, nodes), omega (arith, steps))

pub pointers_have_room : PointersHaveRoom
pointers_have_room table t small =
    let few = few_large (size_at table t) small in
    let pointer = pointer_within table t 65535 1000 (omega arith) few.0 few.1 in
    small_from (form_size table (Pointer t)) (omega (arith, pointer.0)) (omega (arith, pointer.1))

pub pointers_to_pointers_have_room : PointersToPointersHaveRoom
pointers_to_pointers_have_room table good t p known is small =
    let few = few_large (size_at table t) small in
    let size : size_at table p ≡ form_size table (Pointer t) = sizes_are_of_parts table good p known ∙ ap (form_size table) is in
    let first = subst (λ size. (size.nodes ≤ 65536) × (size.steps ≤ 1001)) (sym size) (pointer_within table t 65535 1000 (omega arith) few.0 few.1) in
    let second = pointer_within table p 65536 1001 (omega arith) first.0 first.1 in
    small_from (form_size table (Pointer p)) (omega (arith, second.0)) (omega (arith, second.1))
