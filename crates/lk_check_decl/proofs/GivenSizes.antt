-- An array without a size has the one that its initialiser gives.
use Rattle.std.proofs.Common.{◌≡◌, ◌∙◌, ◌<◌, ◌^◌, ◌⊎◌, inl, inr, ℕ, Bool, true, false, List, Option, Some, None, option_map, nat_le, refl, sym, ap, subst, map, arith}
use Rattle.std.proofs.lemmas.Bool.{false≢true}
use Rattle.std.proofs.lemmas.Bool.Decides.{nat_tests}
use Rattle.lk_base.specs.declared.kind.Kind.{Kind}
use Rattle.lk_base.specs.declared.code.Code.TheVariants.{VariableArray}
use Rattle.lk_tree.specs.declared.declaration.Init.{Init}
use Rattle.lk_types.specs.Building.{IsTable, types_of as member_types}
use Rattle.lk_types.specs.Sizes.{is_over}
use Rattle.lk_types.specs.Table.{Table, IsKnown, members_of}
use Rattle.lk_types.specs.declared.c_type.CType.{CType}
use Rattle.lk_types.specs.declared.c_type.CType.TheVariants as forms
use Rattle.lk_typed.specs.Bounds.{size_of, size_within, steps_counted}
use Rattle.lk_typed.specs.Declarations.{completed}
use Rattle.lk_typed.specs.DeclaratorRules.{elements, most_elements, unless}
use Rattle.lk_typed.specs.Initialisers.{completed_by}
use Rattle.lk_typed.specs.Meaning.{meaning, tree_of}
use Rattle.lk_typed.specs.Told.{unless_broken}
use Rattle.lk_typed.specs.Ty.{Ty, Array, array_of}
use Rattle.lk_check_decl.proofs.Sizes.{known_small}
use Rattle.lk_check_decl.specs.GivenSizes.{GivesSize, IsSizedBy}
use Rattle.lk_check_decl.specs.Storing.{IsOver}

-- ---- what is no array

pub no_array_form : (m : ℕ → Ty) (form : CType) → (form ≡ forms.Void) ⊎ (((k : Kind) × (form ≡ forms.Int k)) ⊎ ((form ≡ forms.ThreadId) ⊎ ((form ≡ forms.Mutex) ⊎ ((form ≡ forms.Cond) ⊎
    (((u : ℕ) × (form ≡ forms.Pointer u)) ⊎ (((s : ℕ) × (form ≡ forms.Struct s)) ⊎ (((r : ℕ) × (ps : List ℕ) × (dots : Bool) × (form ≡ forms.Function r ps dots)) ⊎
    ((n : ℕ) × (form ≡ forms.Opaque n))))))))) → None ≡ array_of (tree_of m form)
no_array_form m form (inl is) = ap (λ f. array_of (tree_of m f)) (sym is)
no_array_form m form (inr (inl is)) = ap (λ f. array_of (tree_of m f)) (sym is.1)
no_array_form m form (inr (inr (inl is))) = ap (λ f. array_of (tree_of m f)) (sym is)
no_array_form m form (inr (inr (inr (inl is)))) = ap (λ f. array_of (tree_of m f)) (sym is)
no_array_form m form (inr (inr (inr (inr (inl is))))) = ap (λ f. array_of (tree_of m f)) (sym is)
no_array_form m form (inr (inr (inr (inr (inr (inl is)))))) = ap (λ f. array_of (tree_of m f)) (sym is.1)
no_array_form m form (inr (inr (inr (inr (inr (inr (inl is))))))) = ap (λ f. array_of (tree_of m f)) (sym is.1)
no_array_form m form (inr (inr (inr (inr (inr (inr (inr (inl is)))))))) = ap (λ f. array_of (tree_of m f)) (sym is.3)
no_array_form m form (inr (inr (inr (inr (inr (inr (inr (inr is)))))))) = ap (λ f. array_of (tree_of m f)) (sym is.1)

-- ---- the type that is told

completed_is : (init : Init) (tree element : Ty) (size : ℕ) → tree ≡ Array element 0 → GivesSize init tree size → completed_by init tree ≡ Array element size
completed_is init tree element size is gives = ap (completed_by init) is ∙ ap (Array element) (gives element 0 is)

-- the type, where it has few elements
told_type : (init : Init) (tree made : Ty) (few : Bool) → completed_by init tree ≡ made → nat_le (elements made) most_elements ≡ few →
    completed (Some init) (Some tree) ≡ unless_broken (unless few VariableArray) (Some made)
told_type init tree made few is count =
    ap (λ t. unless_broken (unless (nat_le (elements t) most_elements) VariableArray) (Some t)) is ∙ ap (λ b. unless_broken (unless b VariableArray) (Some made)) count

told_few : (init : Init) (tree made : Ty) → completed_by init tree ≡ made → nat_le (elements made) most_elements ≡ true → Some made ≡ completed (Some init) (Some tree)
told_few init tree made is few = sym (told_type init tree made true is few)

told_none : (init : Init) (tree made : Ty) → completed_by init tree ≡ made → nat_le (elements made) most_elements ≡ false → None ≡ completed (Some init) (Some tree)
told_none init tree made is many = sym (told_type init tree made false is many)

-- ---- an array is as large with a size as without one

isnt_over : (table : Table) → IsTable table → (t : ℕ) → IsKnown table t → (element : Ty) → meaning table t ≡ Array element 0 → (n : ℕ) → IsOver table (Array element n) true → ⊥
unfolding size_within steps_counted
isnt_over table good t known element is n over =
    let fields = λ (s : ℕ). map (meaning table) (member_types (members_of table s)) in
    false≢true (sym (subst (λ tree. is_over (size_of fields tree) ≡ false) is (known_small table good fields (λ s. refl) t known)) ∙ over fields (λ s. refl))

-- what was made of an array without a size
pub sized_means : (old new : Table) → IsTable old → (t : ℕ) → IsKnown old t → (element : Ty) → meaning old t ≡ Array element 0 → (size : ℕ) (made : Option ℕ) →
    IsSizedBy old new element size made → (init : Init) → GivesSize init (meaning old t) size → option_map (meaning new) made ≡ completed (Some init) (Some (meaning old t))
sized_means old new good t known element is size None (inl many) init gives = told_none init (meaning old t) (Array element size) (completed_is init (meaning old t) element size is gives) many
sized_means old new good t known element is size None (inr over) init gives = absurd (isnt_over old good t known element is size over)
sized_means old new good t known element is size (Some u) made init gives =
    ap Some made.1.means ∙ told_few init (meaning old t) (Array element size) (completed_is init (meaning old t) element size is gives) made.0

pub few_enough : (n : ℕ) → nat_le n most_elements ≡ true → n < 2 ^ 64
unfolding most_elements
few_enough n few = grind (arith, nat_tests)
