-- How large a type is as a tree is how large its walk is in the table.
use Rattle.std.proofs.Common.{◌≡◌, ◌∙◌, ◌<◌, ◌≤◌, ℕ, zero, suc, Bool, true, false, List, [], ◌∷◌, map, refl, sym, ap, subst, arith, All}
use Rattle.std.specs.Prelude.{⊤, fold, ◌||◌, if◌then◌else◌}
use Rattle.std.proofs.lemmas.Bool.Decides.{nat_tests}
use Rattle.std.proofs.lemmas.List.Elements.{All-head, All-tail}
use Rattle.lk_types.proofs.KeptLemmas.{small_at, lower_form}
use Rattle.lk_types.proofs.Fuel.{sizes_are_of_parts}
use Rattle.lk_types.proofs.SubwalkLemmas.{lower_parts}
use Rattle.lk_types.specs.Building.{IsTable, IsForm, IsMadeOf, types_of as member_types}
use Rattle.lk_types.specs.Sizes as walks
use Rattle.lk_types.specs.Sizes.{start_size, with_part, size_at, steps_of, form_size, is_over, HasLowerParts}
use Rattle.lk_types.specs.Table.{Table, type_at, least_of, members_of, IsKnown, HasKnown}
use Rattle.lk_types.specs.Walks as walk
use Rattle.lk_types.specs.Walks.{Branch, branches, fields as field_branches, has_tag, holds, holds_within}
use Rattle.lk_types.specs.declared.c_type.CType.{CType}
use Rattle.lk_types.specs.declared.c_type.CType.TheVariants as forms
use Rattle.lk_types.specs.declared.node.Sel.TheVariants.{Target}
use Rattle.lk_types.specs.declared.size.TypeSize.{TypeSize}
use Rattle.lk_typed.proofs.Meanings.{meaning_is}
use Rattle.lk_typed.specs.Bounds as spec
use Rattle.lk_typed.specs.Bounds.{Part, plain, size_within, steps_counted}
use Rattle.lk_typed.specs.Meaning.{meaning, tree_of}
use Rattle.lk_typed.specs.Ty.{Ty, types_of, list_of}
use Rattle.lk_check_decl.specs.Making.{AreFields, IsDerived}

-- ---- lists of parts

list_back : (ts : List Ty) → list_of (types_of ts) ≡ ts
list_back [] = refl
list_back (t ∷ ts) = ap (λ rest. t ∷ rest) (list_back ts)

-- a size with the parts of a list
abbrev pub with_parts : (Ty → TypeSize) → TypeSize → List Part → TypeSize
with_parts below size parts = fold (λ size part. with_part size (spec.part_size below part)) size parts

abbrev with_branches : (ℕ → TypeSize) → TypeSize → List Branch → TypeSize
with_branches below size bs = fold (λ size b. with_part size (walks.part_size below b)) size bs

plain_parts : (below : Ty → TypeSize) (at : ℕ → TypeSize) (tree : ℕ → Ty) (us : List ℕ) (k : ℕ) (size : TypeSize) → All (λ u. below (tree u) ≡ at u) us →
    with_parts below size (map plain (map tree us)) ≡ with_branches at size (field_branches k us)
plain_parts below at tree [] k size all = refl
plain_parts below at tree (u ∷ us) k size all =
    ap (λ part. with_parts below (with_part size part) (map plain (map tree us))) (All-head (λ u. below (tree u) ≡ at u) u us all) ∙
    plain_parts below at tree us (suc k) (with_part size (at u)) (All-tail (λ u. below (tree u) ≡ at u) u us all)

steps_within : (size : TypeSize) → is_over size ≡ false → size.steps ≤ 1002
steps_within size small = grind (arith, nat_tests)

-- ---- the size of a form by its parts

void_same : (tree : ℕ → Ty) (form : CType) → spec.is_void (tree_of tree form) ≡ walk.is_void form
void_same tree forms.Void = refl
void_same tree (forms.Int k) = refl
void_same tree forms.ThreadId = refl
void_same tree forms.Mutex = refl
void_same tree forms.Cond = refl
void_same tree (forms.Pointer t) = refl
void_same tree (forms.Array t n) = refl
void_same tree (forms.Struct s) = refl
void_same tree (forms.Function r ps dots) = refl
void_same tree (forms.Opaque n) = refl

holds_form : (table : Table) (tree : ℕ → Ty) (held : ℕ → Bool) (t : ℕ) (form : CType) → IsMadeOf table t form → ((u : ℕ) → u < t → spec.holds_struct (tree u) ≡ held u) →
    spec.holds_struct (tree_of tree form) ≡ holds held form
holds_form table tree held t forms.Void made same = refl
holds_form table tree held t (forms.Int k) made same = refl
holds_form table tree held t forms.ThreadId made same = refl
holds_form table tree held t forms.Mutex made same = refl
holds_form table tree held t forms.Cond made same = refl
holds_form table tree held t (forms.Pointer u) made same = refl
holds_form table tree held t (forms.Array u n) made same = same u made
holds_form table tree held t (forms.Struct s) made same = refl
holds_form table tree held t (forms.Function r ps dots) made same = refl
holds_form table tree held t (forms.Opaque n) made same = refl

-- a target by whether it is a Tag
by_tag : (at : ℕ → TypeSize) (tag : Bool) (least t : ℕ) (size : TypeSize) → (tag ≡ false → size ≡ at t) →
    (if tag then start_size else size) ≡
    walks.part_size at (if tag then record { sel = Target; type = least; tag = true } else record { sel = Target; type = t; tag = false })
by_tag at true least t size is = refl
by_tag at false least t size is = is refl

module _ (table : Table) (good : IsTable table) where
  holds_same : (n t : ℕ) → t < n → IsKnown table t → spec.holds_struct (meaning table t) ≡ holds_within n table t
  unfolding holds_within
  holds_same zero t below known = absurd (omega (arith, below))
  holds_same (suc n) t below known =
      ap spec.holds_struct (meaning_is table good t known) ∙
      holds_form table (meaning table) (holds_within n table) t (type_at table t) (good.types t known).made_of
      (λ u less. holds_same n u (omega (arith, below, less)) (omega (arith, known, less)))

  pub holds_is : (t : ℕ) → IsKnown table t → spec.holds_struct (meaning table t) ≡ walk.holds_struct table t
  holds_is t known = holds_same (suc t) t (omega arith) known

  tag_same : (t : ℕ) → IsKnown table t → (spec.is_void (meaning table t) || spec.holds_struct (meaning table t)) ≡ has_tag table t
  tag_same t known =
      ap (λ b. b || spec.holds_struct (meaning table t)) (ap spec.is_void (meaning_is table good t known) ∙ void_same (meaning table) (type_at table t)) ∙
      ap (λ b. walk.is_void (type_at table t) || b) (holds_same (suc t) t (omega arith) known)

-- what holds of the parts of a form that are no Tags
abbrev pub OfForm : Table → (ℕ → Type 0) → CType → Type 0
OfForm table P forms.Void = ⊤
OfForm table P (forms.Int k) = ⊤
OfForm table P forms.ThreadId = ⊤
OfForm table P forms.Mutex = ⊤
OfForm table P forms.Cond = ⊤
OfForm table P (forms.Pointer t) = has_tag table t ≡ false → P t
OfForm table P (forms.Array t n) = P t
OfForm table P (forms.Struct s) = All P (member_types (members_of table s))
OfForm table P (forms.Function r ps dots) = All P (r ∷ ps)
OfForm table P (forms.Opaque n) = ⊤

module _ (table : Table) (good : IsTable table) (fields : ℕ → List Ty) (same : AreFields table fields) where
  form_same : (below : Ty → TypeSize) (form : CType) → HasKnown table form → OfForm table (λ u. below (meaning table u) ≡ size_at table u) form →
      spec.size_of_parts below (spec.parts_of fields (tree_of (meaning table) form)) ≡ form_size table form
  form_same below forms.Void known have = refl
  form_same below (forms.Int k) known have = refl
  form_same below forms.ThreadId known have = refl
  form_same below forms.Mutex known have = refl
  form_same below forms.Cond known have = refl
  form_same below (forms.Pointer t) known have =
      ap (with_part start_size)
      (ap (λ tag. if tag then start_size else below (meaning table t)) (tag_same table good t known) ∙
      by_tag (size_at table) (has_tag table t) (least_of table t) t (below (meaning table t)) have)
  form_same below (forms.Array t n) known have = ap (with_part start_size) have
  form_same below (forms.Struct s) known have =
      ap (λ types. with_parts below start_size (map plain types)) (same s) ∙
      plain_parts below (size_at table) (meaning table) (member_types (members_of table s)) 0 start_size have
  form_same below (forms.Function r ps dots) known have =
      ap (λ types. with_parts below start_size (plain (meaning table r) ∷ map plain types)) (list_back (map (meaning table) ps)) ∙
      plain_parts below (size_at table) (meaning table) (r ∷ ps) 0 start_size have
  form_same below (forms.Opaque n) known have = refl

  known_form : (t : ℕ) → IsKnown table t → (form : CType) → IsMadeOf table t form → HasKnown table form
  known_form t known forms.Void made = tt
  known_form t known (forms.Int k) made = tt
  known_form t known forms.ThreadId made = tt
  known_form t known forms.Mutex made = tt
  known_form t known forms.Cond made = tt
  known_form t known (forms.Pointer u) made = omega (arith, made, known)
  known_form t known (forms.Array u n) made = omega (arith, made, known)
  known_form t known (forms.Struct s) made = made.0
  known_form t known (forms.Function r ps dots) made = λ k d within. let less = made k d within in omega (arith, less, known)
  known_form t known (forms.Opaque n) made = tt

  of_lower : (t : ℕ) → IsKnown table t → (P : ℕ → Type 0) → ((u : ℕ) → IsKnown table u → steps_of table u < steps_of table t → P u) →
      (form : CType) → IsMadeOf table t form → HasLowerParts table t form → OfForm table P form
  of_lower t known P all forms.Void made low = tt
  of_lower t known P all (forms.Int k) made low = tt
  of_lower t known P all forms.ThreadId made low = tt
  of_lower t known P all forms.Mutex made low = tt
  of_lower t known P all forms.Cond made low = tt
  of_lower t known P all (forms.Pointer u) made low = λ plain. all u (omega (arith, made, known)) (low plain)
  of_lower t known P all (forms.Array u n) made low = all u (omega (arith, made, known)) low
  of_lower t known P all (forms.Struct s) made low = λ k d within. all _ (made.1 k d within) (low k d within)
  of_lower t known P all (forms.Function r ps dots) made low = λ k d within. let less = made k d within in all _ (omega (arith, less, known)) (low k d within)
  of_lower t known P all (forms.Opaque n) made low = tt

  -- without steps there are no parts
  steps_grow : (bs : List Branch) (size : TypeSize) → size.steps ≤ (with_branches (size_at table) size bs).steps
  steps_grow [] size = omega arith
  steps_grow (b ∷ bs) size =
      let more = steps_grow bs (with_part size (walks.part_size (size_at table) b)) in
      omega (arith, more)

  no_steps : (bs : List Branch) → (with_branches (size_at table) start_size bs).steps ≤ 0 → with_branches (size_at table) start_size bs ≡ start_size
  no_steps [] none = refl
  no_steps (b ∷ bs) none =
      let more = steps_grow bs (with_part start_size (walks.part_size (size_at table) b)) in
      absurd (omega (arith, more, none))

  size_of_form : (t : ℕ) → IsKnown table t → size_at table t ≡ form_size table (type_at table t)
  size_of_form t known = sizes_are_of_parts table good t known

  within_same : (n t : ℕ) → IsKnown table t → steps_of table t ≤ n → size_within n fields (meaning table t) ≡ size_at table t
  unfolding size_within
  within_same zero t known few =
      let is = size_of_form t known in
      sym (is ∙ no_steps (branches table (type_at table t)) (subst (λ size. size.steps ≤ 0) is few))
  within_same (suc n) t known few =
      let made = (good.types t known).made_of in
      let low = lower_form table t (type_at table t) (lower_parts table good t known) in
      ap (λ tree. spec.size_of_parts (size_within n fields) (spec.parts_of fields tree)) (meaning_is table good t known) ∙
      form_same (size_within n fields) (type_at table t) (known_form t known (type_at table t) made)
      (of_lower t known (λ u. size_within n fields (meaning table u) ≡ size_at table u) (λ u there less. within_same n u there (omega (arith, less, few))) (type_at table t) made low) ∙
      sym (size_of_form t known)

  few_steps : (t : ℕ) → IsKnown table t → steps_of table t ≤ 1002
  few_steps t known = steps_within (size_at table t) (small_at table good t known)

  counted : (n : ℕ) → n ≤ 1002 → n ≤ steps_counted
  unfolding steps_counted
  counted n less = omega (arith, less)

  -- a type of the table is as large as its tree
  pub tree_size : (t : ℕ) → IsKnown table t → spec.size_of fields (meaning table t) ≡ size_at table t
  tree_size t known = within_same steps_counted t known (counted (steps_of table t) (few_steps t known))

  pub known_small : (t : ℕ) → IsKnown table t → is_over (spec.size_of fields (meaning table t)) ≡ false
  known_small t known = ap is_over (tree_size t known) ∙ small_at table good t known

  -- one layer
  one_layer : (n : ℕ) (tree : Ty) → size_within (suc n) fields tree ≡ spec.size_of_parts (size_within n fields) (spec.parts_of fields tree)
  unfolding size_within
  one_layer n tree = refl

  layers : steps_counted ≡ suc 1002
  unfolding steps_counted
  layers = refl

  derived_known : (form : CType) → IsDerived form → IsForm table form → HasKnown table form
  derived_known forms.Void derived is = absurd derived
  derived_known (forms.Int k) derived is = absurd derived
  derived_known forms.ThreadId derived is = absurd derived
  derived_known forms.Mutex derived is = absurd derived
  derived_known forms.Cond derived is = absurd derived
  derived_known (forms.Pointer t) derived is = is
  derived_known (forms.Array t n) derived is = is.known
  derived_known (forms.Struct s) derived is = absurd derived
  derived_known (forms.Function r ps dots) derived is = λ k d within. (is k d within).known
  derived_known (forms.Opaque n) derived is = absurd derived

  of_known : (P : ℕ → Type 0) → ((u : ℕ) → IsKnown table u → P u) → (form : CType) → IsDerived form → IsForm table form → OfForm table P form
  of_known P all forms.Void derived is = absurd derived
  of_known P all (forms.Int k) derived is = absurd derived
  of_known P all forms.ThreadId derived is = absurd derived
  of_known P all forms.Mutex derived is = absurd derived
  of_known P all forms.Cond derived is = absurd derived
  of_known P all (forms.Pointer t) derived is = λ plain. all t is
  of_known P all (forms.Array t n) derived is = all t is.known
  of_known P all (forms.Struct s) derived is = absurd derived
  of_known P all (forms.Function r ps dots) derived is = λ k d within. all _ (is k d within).known
  of_known P all (forms.Opaque n) derived is = absurd derived

  -- a form that is about to be put is as large as its tree
  pub form_tree_size : (form : CType) → IsDerived form → IsForm table form → spec.size_of fields (tree_of (meaning table) form) ≡ form_size table form
  form_tree_size form derived is =
      ap (λ n. size_within n fields (tree_of (meaning table) form)) layers ∙
      one_layer 1002 (tree_of (meaning table) form) ∙
      form_same (size_within 1002 fields) form (derived_known form derived is)
      (of_known (λ u. size_within 1002 fields (meaning table u) ≡ size_at table u) (λ u there. within_same 1002 u there (few_steps u there)) form derived is)
