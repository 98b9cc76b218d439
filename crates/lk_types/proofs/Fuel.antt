-- A walk that isn't as deep as it may be is whole.
use Rattle.std.proofs.Common.{◌≡◌, ◌∙◌, ◌≤◌, ℕ, zero, suc, Bool, true, false, List, [], ◌∷◌, ◌++◌, map, refl, sym, ap, subst, arith}
use Rattle.std.specs.List.{flat_map}
use Rattle.std.proofs.lemmas.List.Elements.{All-head, All-tail, All-weaker}
use Rattle.lk_types.specs.Table.{Table, type_at}
use Rattle.lk_types.specs.Walks.{Branch, Entry, at_branch, under, start, walk, nodes, most_steps, below_start, branches}
use Rattle.lk_types.specs.Sizes.{deepest, size_at, form_size, is_over}
use Rattle.lk_types.specs.Laws.{SizesAreOfParts, WalksAreOfParts}
use Rattle.std.proofs.lemmas.Bool.Decides.{nat_tests}
use Rattle.lk_types.specs.declared.c_type.CType.{CType}
use Rattle.lk_types.specs.declared.size.TypeSize.{TypeSize}
use Rattle.lk_types.proofs.Entries.{IsBegun, begun, OfParts, size_of, size_grows, part_lower, none_below, same_size}

pub walk-begins : (d : ℕ) (table : Table) (t : ℕ) → IsBegun (walk d table t)
unfolding walk
walk-begins zero table t = begun
walk-begins (suc d) table t = begun

-- what stands below a Start is the same for two functions that agree on the parts
pub same_below : (f g : ℕ → List Entry) (bs : List Branch) → OfParts (λ t. f t ≡ g t) bs → flat_map (at_branch f) bs ≡ flat_map (at_branch g) bs
same_below f g [] same = refl
same_below f g (b ∷ bs) same = ap (λ es. es ++ flat_map (at_branch f) bs) (at b.tag refl) ∙ ap (λ es. at_branch g b ++ es) (same_below f g bs (All-tail (λ b. b.tag ≡ false → f b.type ≡ g b.type) b bs same))
  where
    at : (tag : Bool) → b.tag ≡ tag → at_branch f b ≡ at_branch g b
    at true is = rw is
    at false is = rw is (ap (map (under b.sel)) (All-head (λ b. b.tag ≡ false → f b.type ≡ g b.type) b bs same is))

-- what it means for a size to be within the bounds of a table
pub few_of : (size : TypeSize) → is_over size ≡ false → (size.nodes ≤ 65537) × (size.steps ≤ 1002)
few_of size small = (grind (arith, nat_tests), grind (arith, nat_tests))

module _ (table : Table) where
  -- one more step finds nothing more
  pub whole : (d t : ℕ) → deepest (walk (suc d) table t) ≤ d → walk (suc d) table t ≡ walk d table t
  unfolding walk
  whole zero t few = ap (λ es. start t ∷ es) (none_below (walk 0 table) (walk-begins 0 table) (branches table (type_at table t)) (omega (arith, few)))
  whole (suc d) t few =
      let bs = branches table (type_at table t) in
      let lower = part_lower (walk (suc d) table) (walk-begins (suc d) table) bs (suc d) (omega (arith, few)) in
      ap (λ es. start t ∷ es)
      (same_below (walk (suc d) table) (walk d table) bs
      (All-weaker (λ b. b.tag ≡ false → suc (deepest (walk (suc d) table b.type)) ≤ suc d) (λ b. b.tag ≡ false → walk (suc d) table b.type ≡ walk d table b.type)
      (λ b low is. let less = low is in whole d b.type (omega arith)) bs lower))

  -- the walk of a form within the bounds of a table is the Start and then the whole walks of its parts
  below_is : (m : ℕ) → most_steps ≡ suc m → (form : CType) → OfParts (λ t. deepest (nodes table t) ≤ m) (branches table form) → below_start (walk m table) table form ≡ below_start (nodes table) table form
  below_is m is form low =
      same_below (walk m table) (nodes table) (branches table form)
      (All-weaker (λ b. b.tag ≡ false → deepest (nodes table b.type) ≤ m) (λ b. b.tag ≡ false → walk m table b.type ≡ nodes table b.type)
      (λ b low is'. let few = low is' in sym (subst (λ n. deepest (walk n table b.type) ≤ m → walk n table b.type ≡ walk m table b.type) (sym is) (whole m b.type) few)) (branches table form) low)

  most : most_steps ≡ suc 1001
  unfolding most_steps
  most = refl

  pub walk_suc : (m t : ℕ) → walk (suc m) table t ≡ start t ∷ below_start (walk m table) table (type_at table t)
  unfolding walk
  walk_suc m t = refl

  -- the size of a form is that of the walks of its parts
  pub size_is : (form : CType) → form_size table form ≡ size_of (start 0 ∷ below_start (nodes table) table form)
  size_is form = size_grows (nodes table) (walk-begins most_steps table) (branches table form) 1 0 ∙ same_size (omega arith) refl

  pub parts_few : (form : CType) → is_over (form_size table form) ≡ false → OfParts (λ t. deepest (nodes table t) ≤ 1001) (branches table form)
  parts_few form small =
      let bs = branches table form in
      let few = (few_of (form_size table form) small).1 in
      let steps = ap (λ size. size.steps) (size_is form) in
      All-weaker (λ b. b.tag ≡ false → suc (deepest (nodes table b.type)) ≤ 1002) (λ b. b.tag ≡ false → deepest (nodes table b.type) ≤ 1001)
      (λ b low is. let less = low is in omega arith) bs
      (part_lower (nodes table) (walk-begins most_steps table) bs 1002 (omega arith))

  pub walk_is : (t : ℕ) → is_over (form_size table (type_at table t)) ≡ false → nodes table t ≡ start t ∷ below_start (nodes table) table (type_at table t)
  walk_is t small =
      ap (λ n. walk n table t) most ∙ walk_suc 1001 t ∙
      ap (λ es. start t ∷ es) (below_is 1001 most (type_at table t) (parts_few (type_at table t) small))

  pub size_at_is : (t : ℕ) → is_over (form_size table (type_at table t)) ≡ false → size_at table t ≡ form_size table (type_at table t)
  size_at_is t small = ap size_of (walk_is t small) ∙ sym (size_is (type_at table t))

pub sizes_are_of_parts : SizesAreOfParts
sizes_are_of_parts table good t known = size_at_is table t (good.types t known).small

pub walks_are_of_parts : WalksAreOfParts
walks_are_of_parts table good t known = walk_is table t (good.types t known).small
