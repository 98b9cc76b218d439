-- What a number of a table means: by its form, and the same in a longer table.
use Rattle.std.proofs.Common.{◌≡◌, ◌∙◌, ◌<◌, ℕ, zero, suc, Bool, List, [], ◌∷◌, map, refl, ap, subst, arith, All, Some}
use Rattle.std.specs.List.{slice_get}
use Rattle.std.specs.Prelude.{unwrap_or}
use Rattle.std.proofs.lemmas.List.Elements.{All-head, All-tail}
use Rattle.lk_types.specs.Building.{IsTable, IsLonger, IsMadeOf}
use Rattle.lk_types.specs.Table.{Table, type_at, IsKnown}
use Rattle.lk_types.specs.declared.c_type.CType.{CType}
use Rattle.lk_types.specs.declared.c_type.CType.TheVariants as forms
use Rattle.lk_types.proofs.GrowLemmas.{type_same}
use Rattle.lk_typed.specs.Ty.{Ty, Tys, Pointer, Array, Function, more, types_of}
use Rattle.lk_typed.specs.Laws.{MeaningsStay}
use Rattle.lk_typed.specs.Meaning.{tree_of, tree_within, meaning}

pub more_same : {a b : Ty} {xs ys : Tys} → a ≡ b → xs ≡ ys → more a xs ≡ more b ys
more_same p q = cc

pub function_same : {c d : Bool} {a b : Ty} {xs ys : Tys} → a ≡ b → xs ≡ ys → c ≡ d → Function a xs c ≡ Function b ys d
function_same p q r = cc

each_same : (f g : ℕ → Ty) (t : ℕ) (us : List ℕ) → All (λ u. u < t) us → ((u : ℕ) → u < t → f u ≡ g u) → types_of (map f us) ≡ types_of (map g us)
each_same f g t [] all same = refl
each_same f g t (u ∷ us) all same = more_same (same u (All-head (λ u. u < t) u us all)) (each_same f g t us (All-tail (λ u. u < t) u us all) same)

-- the trees of a form are the same by two functions that agree on what it is made of
pub tree_same : (table : Table) (f g : ℕ → Ty) (t : ℕ) (form : CType) → IsMadeOf table t form → ((u : ℕ) → u < t → f u ≡ g u) → tree_of f form ≡ tree_of g form
tree_same table f g t forms.Void made same = refl
tree_same table f g t (forms.Int k) made same = refl
tree_same table f g t forms.ThreadId made same = refl
tree_same table f g t forms.Mutex made same = refl
tree_same table f g t forms.Cond made same = refl
tree_same table f g t (forms.Pointer u) made same = ap Pointer (same u made)
tree_same table f g t (forms.Array u n) made same = ap (λ a. Array a n) (same u made)
tree_same table f g t (forms.Struct s) made same = refl
tree_same table f g t (forms.Function r ps dots) made same =
    function_same (same r (All-head (λ u. u < t) r ps made)) (each_same f g t ps (All-tail (λ u. u < t) r ps made) same) refl
tree_same table f g t (forms.Opaque n) made same = refl

module _ (table : Table) (good : IsTable table) where
  -- more steps than the number say no more
  within_same : (n m t : ℕ) → t < n → t < m → IsKnown table t → tree_within n table t ≡ tree_within m table t
  unfolding tree_within
  within_same zero m t a b known = absurd (omega (arith, a))
  within_same (suc n) zero t a b known = absurd (omega (arith, b))
  within_same (suc n) (suc m) t a b known =
      tree_same table (tree_within n table) (tree_within m table) t (type_at table t) (good.types t known).made_of
      (λ u below. within_same n m u (omega (arith, a, below)) (omega (arith, b, below)) (omega (arith, known, below)))

  -- what a number means is the tree of its form
  pub meaning_is : (t : ℕ) → IsKnown table t → meaning table t ≡ tree_of (meaning table) (type_at table t)
  unfolding tree_within meaning
  meaning_is t known =
      tree_same table (tree_within t table) (meaning table) t (type_at table t) (good.types t known).made_of
      (λ u below. within_same t (suc u) u below (omega arith) (omega (arith, known, below)))

  pub meaning_by : (t : ℕ) (form : CType) → IsKnown table t → slice_get table.types t ≡ Some form → meaning table t ≡ tree_of (meaning table) form
  meaning_by t form known got = meaning_is t known ∙ ap (λ o. tree_of (meaning table) (unwrap_or o forms.Void)) got

  pub made_by : (t : ℕ) (form : CType) → IsKnown table t → slice_get table.types t ≡ Some form → IsMadeOf table t form
  made_by t form known got = subst (IsMadeOf table t) (ap (λ o. unwrap_or o forms.Void) got) (good.types t known).made_of

module _ (old new : Table) (good : IsTable old) (longer : IsLonger old new) where
  within_stays : (n t : ℕ) → IsKnown old t → tree_within n new t ≡ tree_within n old t
  unfolding tree_within
  within_stays zero t known = refl
  within_stays (suc n) t known =
      ap (tree_of (tree_within n new)) (type_same old new good longer t known) ∙
      tree_same old (tree_within n new) (tree_within n old) t (type_at old t) (good.types t known).made_of (λ u below. within_stays n u (omega (arith, known, below)))

  pub meaning_stays : (t : ℕ) → IsKnown old t → meaning new t ≡ meaning old t
  unfolding meaning
  meaning_stays t known = within_stays (suc t) t known

pub meanings_stay : MeaningsStay
meanings_stay old new good longer t known = meaning_stays old new good longer t known
