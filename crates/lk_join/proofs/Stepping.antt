-- How many steps the members of structs have.
use Rattle.std.proofs.Common.{◌≡◌, ◌∙◌, ◌<◌, ◌≤◌, ℕ, None, Option, Some, ap, arith, length, subst, sym}
use Rattle.std.proofs.lemmas.List.Elements.{All-map, All-weaker}
use Rattle.std.proofs.lemmas.Option.{none-some, same_Some, slice_get-map}
use Rattle.std.specs.List.{slice_get}
use Rattle.std.specs.Option.{option_map}
use Rattle.std.specs.Prelude.{IfSome, MatchOption}
use Rattle.lk_link.specs.Sources.{HasKnownMembers}
use Rattle.lk_types.specs.Building.{IsMadeOf, IsTable, types_of}
use Rattle.lk_types.specs.Sizes.{HasLowerParts, size_at, steps_of}
use Rattle.lk_types.specs.Nodes.{element_of}
use Rattle.lk_types.specs.Table.{IsKnown, Table, members_of, struct_of}
use Rattle.lk_types.specs.Walks.{Branch, element}
use Rattle.lk_types.specs.declared.c_type.CType.{CType}
use Rattle.lk_types.specs.declared.c_type.CType.TheVariants.{Array, Struct}
use Rattle.lk_types.specs.declared.member.StructMember.{StructMember}
use Rattle.lk_types.proofs.CompleteLemmas.{struct_is}
use Rattle.lk_types.proofs.Fuel.{few_of}
use Rattle.lk_types.proofs.KeptLemmas.{small_at}
use Rattle.lk_types.proofs.SizeLemmas.{all_read}
use Rattle.lk_join.specs.Completing.{HasStepsBelow}

module _ (table : Table) where
  -- the members of a struct have fewer steps than its type
  pub below_type : (t s : ℕ) (form : CType) → form ≡ Struct s → IsMadeOf table t form → HasLowerParts table t form → HasStepsBelow table (steps_of table t) s
  below_type t s form is made lower = record { known = (subst (IsMadeOf table t) is made).0; members = subst (HasLowerParts table t) is lower }

  -- what an array is made of is in the table
  pub element_known : (t u n : ℕ) (form : CType) → form ≡ Array u n → IsKnown table t → IsMadeOf table t form → IsKnown table u
  element_known t u n form is known made = let before = subst (IsMadeOf table t) is made in omega (arith, known, before)

  pub below_more : (n m s : ℕ) → n ≤ m → HasStepsBelow table n s → HasStepsBelow table m s
  below_more n m s more h = record {
    known = h.known;
    members = All-weaker (λ t. steps_of table t < n) (λ t. steps_of table t < m) (λ t low. omega (arith, low, more)) (types_of (members_of table s)) h.members;
  }

  pub member_below : (n s i : ℕ) (member : StructMember) → slice_get (members_of table s) i ≡ Some member → HasStepsBelow table n s → steps_of table member.ty < n
  member_below n s i member at h =
      all_read (λ t. steps_of table t < n) (types_of (members_of table s)) i member.ty h.members
      (slice_get-map (λ member. member.ty) (members_of table s) i ∙ ap (option_map (λ member. member.ty)) at)

  module _ (good : IsTable table) where
    -- the bound of a table
    pub few_steps : (t : ℕ) → IsKnown table t → steps_of table t ≤ 1002
    few_steps t known = (few_of (size_at table t) (small_at table good t known)).1

    pub below_bound : (s : ℕ) → s < length table.members → HasKnownMembers table → HasStepsBelow table 1003 s
    below_bound s less known = record {
      known = less;
      members = All-map (λ t. steps_of table t < 1003) (λ member. member.ty) (members_of table s)
          (All-weaker (λ member. IsKnown table member.ty) (λ member. steps_of table member.ty < 1003)
          (λ member is. let few = few_steps member.ty is in omega (arith, few)) (members_of table s) (known s less));
    }

-- the struct that a form is
pub struct_steps : (table : Table) (t : ℕ) (form : CType) (answer : Option ℕ) → answer ≡ struct_of form → IsMadeOf table t form → HasLowerParts table t form →
    IfSome answer (HasStepsBelow table (steps_of table t))
struct_steps table t form None is made lower = tt
struct_steps table t form (Some s) is made lower = below_type table t s form (struct_is form s (sym is)) made lower

pub struct_exact : (table : Table) (t : ℕ) (form : CType) (answer : Option ℕ) → slice_get table.types t ≡ Some form → answer ≡ struct_of form →
    MatchOption answer ((s : ℕ) → slice_get table.types t ≡ Some (Struct s) → ⊥) (λ s. slice_get table.types t ≡ Some (Struct s))
struct_exact table t form None at is = λ s bt. none-some s (is ∙ ap struct_of (same_Some form (Struct s) (sym at ∙ bt)))
struct_exact table t form (Some s) at is = at ∙ ap Some (struct_is form s (sym is))

-- a form that is no array
pub not_array : (table : Table) (t : ℕ) (form other : CType) → slice_get table.types t ≡ Some form → form ≡ other → element_of other ≡ None → (u n : ℕ) → slice_get table.types t ≡ Some (Array u n) → ⊥
not_array table t form other at is none u n bt = none-some (element u) (sym none ∙ ap element_of (sym is ∙ same_Some form (Array u n) (sym at ∙ bt)))

-- an array has one element, and a struct one number
pub same_element : (table : Table) (t u n v m : ℕ) → slice_get table.types t ≡ Some (Array u n) → slice_get table.types t ≡ Some (Array v m) → u ≡ v
same_element table t u n v m at bt = ap (λ (b : Branch). b.type) (same_Some (element u) (element v) (ap element_of (same_Some (Array u n) (Array v m) (sym at ∙ bt))))

pub same_number : (table : Table) (t s r : ℕ) → slice_get table.types t ≡ Some (Struct s) → slice_get table.types t ≡ Some (Struct r) → s ≡ r
same_number table t s r at bt = same_Some s r (ap struct_of (same_Some (Struct s) (Struct r) (sym at ∙ bt)))
