-- What is kept of the types of a table tells what holds of the table.
use Rattle.std.proofs.Common.{◌≡◌, ◌∙◌, ◌≤◌, ◌<◌, ◌↔◌, ℕ, suc, false, List, [], ◌∷◌, length, refl, sym, ap, subst, All, get_or, Option, Some, None}
use Rattle.std.specs.List.{slice_get}
use Rattle.std.specs.Option.{option_map}
use Rattle.std.specs.Prelude.{unwrap_or}
use Rattle.std.proofs.lemmas.List.Elements.{All-nil, All-cons, All-head, All-tail}
use Rattle.std.proofs.lemmas.Option.{none-some, same_Some, slice_get-map, slice_get_within, slice_get-get_or}
use Rattle.lk_types.specs.Building.{IsTable, IsForm, IsMadeOf, IsLeast}
use Rattle.lk_types.specs.Equal.{IsAlike}
use Rattle.lk_types.specs.Kept.{table_of, AreKept, size_by}
use Rattle.lk_types.specs.Sizes.{HasLowerParts, steps_of, size_at, is_over}
use Rattle.lk_types.specs.Table.{Table, type_at, least_of, members_of, fields_of, struct_of, IsKnown}
use Rattle.lk_types.specs.Walks.{Branch, target, element, field, fields, branches}
use Rattle.lk_types.specs.declared.c_type.CType.{CType}
use Rattle.lk_types.specs.declared.c_type.CType.TheVariants.{Void, Int, ThreadId, Mutex, Cond, Pointer, Array, Struct, Function, Opaque}
use Rattle.lk_types.specs.declared.facts.StructEntry.{StructEntry}
use Rattle.lk_types.specs.declared.facts.TypeFacts.{TypeFacts}
use Rattle.lk_types.specs.declared.node.Sel.TheVariants.{Target}
use Rattle.lk_types.proofs.Entries.{OfParts}
use Rattle.lk_types.proofs.Fuel.{size_at_is}
use Rattle.lk_types.proofs.PartLemmas.{target_by}
use Rattle.lk_types.proofs.SubwalkLemmas.{lower_parts}

-- what stands at a number stands at an equal one
pub at_number : {X : Type 0} (xs : List X) {i t : ℕ} {o : Option X} → i ≡ t → slice_get xs i ≡ o → slice_get xs t ≡ o
at_number xs {i} {t} {o} same at = subst (λ n. slice_get xs n ≡ o) same at

-- what was read from a list stands there
pub read_got : {X : Type 0} (xs : List X) (i : ℕ) (x : X) → i < length xs → x ≡ get_or xs i x → slice_get xs i ≡ Some x
read_got xs i x within is = slice_get-get_or xs i x within ∙ ap Some (sym is)

all_fields : (P : ℕ → Type 0) (ts : List ℕ) (i : ℕ) → OfParts P (fields i ts) → All P ts
all_fields P [] i all = All-nil P
all_fields P (t ∷ ts) i all =
    All-cons P t ts (All-head (λ b. b.tag ≡ false → P b.type) (field i t) (fields (suc i) ts) all refl)
    (all_fields P ts (suc i) (All-tail (λ b. b.tag ≡ false → P b.type) (field i t) (fields (suc i) ts) all))

first_part : (P : ℕ → Type 0) (b : Branch) → OfParts P (b ∷ []) → b.tag ≡ false → P b.type
first_part P b all = All-head (λ b. b.tag ≡ false → P b.type) b [] all

pub lower_form : (table : Table) (t : ℕ) (form : CType) → OfParts (λ u. suc (steps_of table u) ≤ steps_of table t) (branches table form) → HasLowerParts table t form
lower_form table t Void all = tt
lower_form table t (Int kind) all = tt
lower_form table t ThreadId all = tt
lower_form table t Mutex all = tt
lower_form table t Cond all = tt
lower_form table t (Pointer u) all = λ plain.
    let is : target table u ≡ record { sel = Target; type = u; tag = false } = ap (λ tag. target_by tag (least_of table u) u) plain in
    let low = first_part (λ u. suc (steps_of table u) ≤ steps_of table t) (record { sel = Target; type = u; tag = false })
    (subst (λ b. OfParts (λ u. suc (steps_of table u) ≤ steps_of table t) (b ∷ [])) is all) refl in low
lower_form table t (Array u n) all = first_part (λ u. suc (steps_of table u) ≤ steps_of table t) (element u) all refl
lower_form table t (Struct s) all = all_fields (λ u. suc (steps_of table u) ≤ steps_of table t) (fields_of table (Struct s)) 0 all
lower_form table t (Function result params dots) all = all_fields (λ u. suc (steps_of table u) ≤ steps_of table t) (result ∷ params) 0 all
lower_form table t (Opaque n) all = tt

module _ (types : List (CType × TypeFacts)) (structs : List StructEntry) (parts : List ℕ) where
  pub form_got : (t : ℕ) (form : CType) (fact : TypeFacts) → slice_get types t ≡ Some (form, fact) → slice_get (table_of types structs parts).types t ≡ Some form
  form_got t form fact at = slice_get-map (λ entry. entry.0) types t ∙ ap (option_map (λ entry. entry.0)) at

  pub type_at_is : (t : ℕ) (form : CType) (fact : TypeFacts) → slice_get types t ≡ Some (form, fact) → type_at (table_of types structs parts) t ≡ form
  type_at_is t form fact at = ap (λ o. unwrap_or o Void) (form_got t form fact at)

  pub known_got : (t : ℕ) (form : CType) (fact : TypeFacts) → slice_get types t ≡ Some (form, fact) → IsKnown (table_of types structs parts) t
  known_got t form fact at = slice_get_within (table_of types structs parts).types t form (form_got t form fact at)

  pub members_got : (s : ℕ) (entry : StructEntry) → slice_get structs s ≡ Some entry → members_of (table_of types structs parts) s ≡ entry.members
  members_got s entry at = ap (λ o. unwrap_or o []) (slice_get-map (λ entry. entry.members) structs s ∙ ap (option_map (λ entry. entry.members)) at)

-- what the table says of a form that was read from it
pub made_of_got : (table : Table) → IsTable table → (t : ℕ) (form : CType) → slice_get table.types t ≡ Some form → IsMadeOf table t form
made_of_got table good t form at =
    subst (IsMadeOf table t) (ap (λ o. unwrap_or o Void) at) (good.types t (slice_get_within table.types t form at)).made_of

pub could_put_got : (table : Table) → IsTable table → (t : ℕ) (form : CType) → slice_get table.types t ≡ Some form → IsForm table form
could_put_got table good t form at = subst (IsForm table) (ap (λ o. unwrap_or o Void) at) (good.types t (slice_get_within table.types t form at)).form

pub lower_got : (table : Table) → IsTable table → (t : ℕ) (form : CType) → slice_get table.types t ≡ Some form → HasLowerParts table t form
lower_got table good t form at =
    subst (HasLowerParts table t) (ap (λ o. unwrap_or o Void) at) (lower_form table t (type_at table t) (lower_parts table good t (slice_get_within table.types t form at)))

-- no size in a table is over its bounds
pub small_at : (table : Table) → IsTable table → (t : ℕ) → IsKnown table t → is_over (size_at table t) ≡ false
small_at table good t known = let small = (good.types t known).small in ap is_over (size_at_is table t small) ∙ small

module _ (types : List (CType × TypeFacts)) (classes : List (CType × ℕ)) (structs : List StructEntry) (parts : List ℕ) (kept : AreKept types classes structs (table_of types structs parts)) where
  -- the size that is kept of a type that is no struct
  pub size_kept : (t : ℕ) (form : CType) (fact : TypeFacts) → slice_get types t ≡ Some (form, fact) → struct_of form ≡ None → fact.size ≡ size_at (table_of types structs parts) t
  size_kept t form fact at none =
      same_Some fact.size (size_at (table_of types structs parts) t) (sym (ap (size_by structs fact) none) ∙ kept.sized t form fact at)

  -- the size that is kept of a struct
  pub struct_size_kept : (t : ℕ) (form : CType) (fact : TypeFacts) → slice_get types t ≡ Some (form, fact) → (s : ℕ) → struct_of form ≡ Some s → (entry : StructEntry) → slice_get structs s ≡ Some entry →
      entry.size ≡ size_at (table_of types structs parts) t
  struct_size_kept t form fact at s is entry there =
      same_Some entry.size (size_at (table_of types structs parts) t)
      (sym (ap (option_map (λ entry. entry.size)) there) ∙ sym (ap (size_by structs fact) is) ∙ kept.sized t form fact at)

  -- the struct of a type is one of the structs
  pub struct_within : (t : ℕ) (form : CType) (fact : TypeFacts) → slice_get types t ≡ Some (form, fact) → (s : ℕ) → struct_of form ≡ Some s → s < length structs
  struct_within t form fact at s is = of (slice_get structs s) refl
    where
      of : (o : Option StructEntry) → slice_get structs s ≡ o → s < length structs
      of None none = absurd (none-some (size_at (table_of types structs parts) t) (sym (ap (option_map (λ entry. entry.size)) none) ∙ sym (ap (size_by structs fact) is) ∙ kept.sized t form fact at))
      of (Some entry) there = slice_get_within structs s entry there

  pub size_small : (t : ℕ) (form : CType) (fact : TypeFacts) → slice_get types t ≡ Some (form, fact) → is_over (size_at (table_of types structs parts) t) ≡ false
  size_small t form fact at = small_at (table_of types structs parts) kept.table_is t (known_got types structs parts t form fact at)

  pub least_kept : (t : ℕ) (form : CType) (fact : TypeFacts) → slice_get types t ≡ Some (form, fact) → least_of (table_of types structs parts) t ≡ fact.least
  least_kept t form fact at = ap (λ o. unwrap_or o t) (slice_get-map (λ entry. entry.1.least) types t ∙ ap (option_map (λ entry. entry.1.least)) at)

  pub is_least_kept : (t : ℕ) (form : CType) (fact : TypeFacts) → slice_get types t ≡ Some (form, fact) → IsLeast (table_of types structs parts) t fact.least
  is_least_kept t form fact at =
      subst (IsLeast (table_of types structs parts) t) (least_kept t form fact at) (kept.table_is.least t (known_got types structs parts t form fact at))

  pub alike_kept : (t : ℕ) (form : CType) (fact : TypeFacts) → slice_get types t ≡ Some (form, fact) → (u : ℕ) → IsKnown (table_of types structs parts) u →
      IsAlike (table_of types structs parts).types t u ↔ (fact.least ≡ least_of (table_of types structs parts) u)
  alike_kept t form fact at u known =
      subst (λ l. IsAlike (table_of types structs parts).types t u ↔ (l ≡ least_of (table_of types structs parts) u)) (least_kept t form fact at)
      (kept.table_is.alike t u (known_got types structs parts t form fact at) known)
