-- A number of a table means one tree, and no two numbers mean the same.
use Rattle.std.proofs.Common.{◌≡◌, ◌∙◌, ◌<◌, ℕ, zero, suc, List, [], ◌∷◌, map, refl, sym, ap, subst, arith, All, Some}
use Rattle.std.specs.List.{slice_get}
use Rattle.std.proofs.lemmas.List.Elements.{All-head, All-tail}
use Rattle.std.proofs.lemmas.Option.{slice_get_within}
use Rattle.lk_types.specs.Building.{IsTable, IsMadeOf}
use Rattle.lk_types.specs.Table.{Table, type_at, IsKnown}
use Rattle.lk_types.specs.declared.c_type.CType.{CType}
use Rattle.lk_types.specs.declared.c_type.CType.TheVariants as forms
use Rattle.lk_types.proofs.AlikeLemmas.{form_there}
use Rattle.lk_typed.specs.Ty.{Ty, Tys, Pointer, Array, types_of, Means, MeanEach}
use Rattle.lk_typed.specs.Ty.Means.{a_void, an_integer, a_thread_id, a_mutex, a_cond, a_pointer, an_array, a_struct, a_function, an_opaque}
use Rattle.lk_typed.specs.Ty.MeanEach.{no_types, a_type_more}
use Rattle.lk_typed.specs.Laws.{NumbersMeanOneTree, TreesDiffer}
use Rattle.lk_typed.specs.Meaning.{tree_of, meaning}
use Rattle.lk_typed.proofs.Meanings.{meaning_is, meaning_by, more_same, function_same}

same_lists : {t u : ℕ} {ts us : List ℕ} → t ≡ u → ts ≡ us → t ∷ ts ≡ u ∷ us
same_lists p q = cc

module _ (table : Table) (good : IsTable table) where
  -- of a form, where what it is made of means what is said of it
  each_means : (t : ℕ) (us : List ℕ) → All (λ u. u < t) us → ((u : ℕ) → u < t → Means table.types u (meaning table u)) → MeanEach table.types us (types_of (map (meaning table) us))
  each_means t [] all parts = no_types
  each_means t (u ∷ us) all parts = a_type_more (parts u (All-head (λ u. u < t) u us all)) (each_means t us (All-tail (λ u. u < t) u us all) parts)

  form_means : (t : ℕ) (form : CType) → slice_get table.types t ≡ Some form → IsMadeOf table t form →
      ((u : ℕ) → u < t → Means table.types u (meaning table u)) → Means table.types t (tree_of (meaning table) form)
  form_means t forms.Void got made parts = a_void got
  form_means t (forms.Int k) got made parts = an_integer got
  form_means t forms.ThreadId got made parts = a_thread_id got
  form_means t forms.Mutex got made parts = a_mutex got
  form_means t forms.Cond got made parts = a_cond got
  form_means t (forms.Pointer u) got made parts = a_pointer got (parts u made)
  form_means t (forms.Array u n) got made parts = an_array got (parts u made)
  form_means t (forms.Struct s) got made parts = a_struct got
  form_means t (forms.Function r ps dots) got made parts =
      a_function got (parts r (All-head (λ u. u < t) r ps made)) (each_means t ps (All-tail (λ u. u < t) r ps made) parts)
  form_means t (forms.Opaque n) got made parts = an_opaque got

  means_below : (n t : ℕ) → t < n → IsKnown table t → Means table.types t (meaning table t)
  means_below zero t below known = absurd (omega (arith, below))
  means_below (suc n) t below known =
      let got = form_there table t known in
      subst (Means table.types t) (sym (meaning_is table good t known))
      (form_means t (type_at table t) got (good.types t known).made_of (λ u less. means_below n u (omega (arith, below, less)) (omega (arith, known, less))))

  pub means_meaning : (t : ℕ) → IsKnown table t → Means table.types t (meaning table t)
  means_meaning t known = means_below (suc t) t (omega arith) known

  -- two numbers that mean one tree are one
  mutual
    pub one_number : {t u : ℕ} {a : Ty} → Means table.types t a → Means table.types u a → t ≡ u
    one_number {t} {u} (a_void p) (a_void q) = good.different t u forms.Void p q
    one_number {t} {u} (an_integer {k = k} p) (an_integer q) = good.different t u (forms.Int k) p q
    one_number {t} {u} (a_thread_id p) (a_thread_id q) = good.different t u forms.ThreadId p q
    one_number {t} {u} (a_mutex p) (a_mutex q) = good.different t u forms.Mutex p q
    one_number {t} {u} (a_cond p) (a_cond q) = good.different t u forms.Cond p q
    one_number {t} {u} (a_pointer {u = v} {target = a} p m) (a_pointer {u = w} q n) =
        good.different t u (forms.Pointer w) (subst (λ x. slice_get table.types t ≡ Some (forms.Pointer x)) (one_number m n) p) q
    one_number {t} {u} (an_array {u = v} {n = c} {element = a} p m) (an_array {u = w} q n) =
        good.different t u (forms.Array w c) (subst (λ x. slice_get table.types t ≡ Some (forms.Array x c)) (one_number m n) p) q
    one_number {t} {u} (a_struct {s = s} p) (a_struct q) = good.different t u (forms.Struct s) p q
    one_number {t} {u} (a_function {r = r} {ps = ps} {dots = d} p m ms) (a_function {r = s} {ps = qs} q n ns) =
        good.different t u (forms.Function s qs d)
        (subst (λ x. slice_get table.types t ≡ Some (forms.Function s x d)) (one_list ms ns)
        (subst (λ x. slice_get table.types t ≡ Some (forms.Function x ps d)) (one_number m n) p)) q
    one_number {t} {u} (an_opaque {n = n} p) (an_opaque q) = good.different t u (forms.Opaque n) p q

    pub one_list : {ts us : List ℕ} {xs : Tys} → MeanEach table.types ts xs → MeanEach table.types us xs → ts ≡ us
    one_list no_types no_types = refl
    one_list (a_type_more m ms) (a_type_more n ns) = same_lists (one_number m n) (one_list ms ns)

  -- a tree that a number means is its meaning
  mutual
    pub is_meaning : {t : ℕ} {a : Ty} → Means table.types t a → a ≡ meaning table t
    is_meaning {t} (a_void p) = sym (meaning_by table good t forms.Void (slice_get_within table.types t forms.Void p) p)
    is_meaning {t} (an_integer {k = k} p) = sym (meaning_by table good t (forms.Int k) (slice_get_within table.types t (forms.Int k) p) p)
    is_meaning {t} (a_thread_id p) = sym (meaning_by table good t forms.ThreadId (slice_get_within table.types t forms.ThreadId p) p)
    is_meaning {t} (a_mutex p) = sym (meaning_by table good t forms.Mutex (slice_get_within table.types t forms.Mutex p) p)
    is_meaning {t} (a_cond p) = sym (meaning_by table good t forms.Cond (slice_get_within table.types t forms.Cond p) p)
    is_meaning {t} (a_pointer {u = u} p m) =
        ap Pointer (is_meaning m) ∙ sym (meaning_by table good t (forms.Pointer u) (slice_get_within table.types t (forms.Pointer u) p) p)
    is_meaning {t} (an_array {u = u} {n = n} p m) =
        ap (λ a. Array a n) (is_meaning m) ∙ sym (meaning_by table good t (forms.Array u n) (slice_get_within table.types t (forms.Array u n) p) p)
    is_meaning {t} (a_struct {s = s} p) = sym (meaning_by table good t (forms.Struct s) (slice_get_within table.types t (forms.Struct s) p) p)
    is_meaning {t} (a_function {r = r} {ps = ps} {dots = d} p m ms) =
        function_same (is_meaning m) (are_meanings ms) refl ∙
        sym (meaning_by table good t (forms.Function r ps d) (slice_get_within table.types t (forms.Function r ps d) p) p)
    is_meaning {t} (an_opaque {n = n} p) = sym (meaning_by table good t (forms.Opaque n) (slice_get_within table.types t (forms.Opaque n) p) p)

    pub are_meanings : {ts : List ℕ} {xs : Tys} → MeanEach table.types ts xs → xs ≡ types_of (map (meaning table) ts)
    are_meanings no_types = refl
    are_meanings (a_type_more m ms) = more_same (is_meaning m) (are_meanings ms)

pub numbers_mean_one_tree : NumbersMeanOneTree
numbers_mean_one_tree table good t known a =
    (λ m. is_meaning table good m, λ is. subst (Means table.types t) (sym is) (means_meaning table good t known))

pub trees_differ : TreesDiffer
trees_differ table good t u a b same =
    one_number table good (means_meaning table good t a) (subst (Means table.types u) (sym same) (means_meaning table good u b))
