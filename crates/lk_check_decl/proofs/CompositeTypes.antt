-- Composite types in a table: what may be made of them, and that they are within the bounds of a table.
use Rattle.std.proofs.Common.{◌≡◌, ◌∙◌, ◌*◌, ◌<◌, ◌^◌, ◌++◌, ℕ, zero, suc, Bool, true, List, [], ◌∷◌, Option, Some, None, length, take, map, refl, sym, ap, subst, arith, All, append-nil, ◌+◌}
use Rattle.std.specs.Prelude.{IsSome, nat_eq, unwrap_or, ◌&&◌}
use Rattle.std.specs.List.{slice_get}
use Rattle.std.specs.Bool.{beq}
use Rattle.std.proofs.lemmas.Bool.{and_parts, false≢true}
use Rattle.std.proofs.lemmas.List.Elements.{All-head, All-tail, All-cons, All-nil, All-weaker}
use Rattle.std.proofs.lemmas.Option.{none-some, same_Some}
use Rattle.lk_types.specs.Building.{IsTable, IsForm, IsLonger, IsMadeOf, IsPartOfObjects, IsPassed, types_of as member_types}
use Rattle.lk_types.specs.Sizes.{is_over}
use Rattle.lk_types.specs.Table.{Table, IsKnown, is_complete, is_complete_form, members_of, type_at}
use Rattle.lk_types.specs.declared.c_type.CType.{CType}
use Rattle.lk_types.specs.declared.c_type.CType.TheVariants as forms
use Rattle.lk_types.proofs.FormEq.{take_more}
use Rattle.lk_types.proofs.GrowLemmas.{form_grown, known_same, longer_then}
use Rattle.lk_typed.specs.Told.{with_optional}
use Rattle.lk_typed.specs.Bounds.{holds_struct, size_of}
use Rattle.lk_typed.specs.Declarations.{composite, composites, sized}
use Rattle.lk_typed.specs.DeclaratorRules.{elements}
use Rattle.lk_typed.specs.Elements.{HasFewElements}
use Rattle.lk_typed.specs.Meaning.{meaning, tree_of}
use Rattle.lk_typed.specs.Ty.{Signature, Ty, Tys, Pointer, Array, Function, types_of, is_equal_but, are_equal_but, is_redeclarable, sizes_or_none, target_of, array_of, function_of}
use Rattle.lk_typed.proofs.Meanings.{made_by, meaning_by, meaning_is, meaning_stays, more_same}
use Rattle.lk_check_decl.specs.Making as made
use Rattle.lk_check_decl.specs.Storing.{IsStored}
use Rattle.lk_check_decl.proofs.Sizes.{holds_is, known_small}
use Rattle.lk_check_decl.specs.declared.composite.ArrayParts.{ArrayParts}
use Rattle.lk_check_decl.specs.declared.composite.FunctionParts.{FunctionParts}
use Rattle.lk_check_decl.specs.Composites.{AddsTypes, IsArrayOf, IsFunctionOf, PointsTo, Stands, StandEach, none as no_numbers, more as one_more}
use Rattle.lk_check_decl.proofs.Composites.{HasSizes, complete_composite, few_composite, holds_composite, is_complete_tree, not_true, over_composite}

-- ---- complete types

complete_form : (table : Table) (at : ℕ → Ty) (form : CType) → is_complete_form table form ≡ is_complete_tree table.members (tree_of at form)
complete_form table at forms.Void = refl
complete_form table at (forms.Int k) = refl
complete_form table at forms.ThreadId = refl
complete_form table at forms.Mutex = refl
complete_form table at forms.Cond = refl
complete_form table at (forms.Pointer u) = refl
complete_form table at (forms.Array u n) = refl
complete_form table at (forms.Struct s) = refl
complete_form table at (forms.Function r ps dots) = refl
complete_form table at (forms.Opaque n) = refl

module _ (table : Table) (good : IsTable table) where
  complete_is : (t : ℕ) → IsKnown table t → is_complete table t ≡ is_complete_tree table.members (meaning table t)
  complete_is t known = complete_form table (meaning table) (type_at table t) ∙ ap (is_complete_tree table.members) (sym (meaning_is table good t known))

  sizes_form : (t : ℕ) (form : CType) → ((u : ℕ) → u < t → IsPartOfObjects table u → HasSizes (meaning table u)) → IsMadeOf table t form → IsForm table form → is_complete_form table form ≡ true →
      HasSizes (tree_of (meaning table) form)
  sizes_form t forms.Void below made is complete = tt
  sizes_form t (forms.Int k) below made is complete = tt
  sizes_form t forms.ThreadId below made is complete = tt
  sizes_form t forms.Mutex below made is complete = tt
  sizes_form t forms.Cond below made is complete = tt
  sizes_form t (forms.Pointer u) below made is complete = tt
  sizes_form t (forms.Array u n) below made is complete = (not_true (nat_eq n 0) complete, below u made is)
  sizes_form t (forms.Struct s) below made is complete = tt
  sizes_form t (forms.Function r ps dots) below made is complete = tt
  sizes_form t (forms.Opaque n) below made is complete = tt

  sizes_below : (n t : ℕ) → t < n → IsPartOfObjects table t → HasSizes (meaning table t)
  sizes_below zero t less part = absurd (omega (arith, less))
  sizes_below (suc n) t less part =
      subst HasSizes (sym (meaning_is table good t part.known))
      (sizes_form t (type_at table t) (λ u u_less there. sizes_below n u (omega (arith, less, u_less)) there) (good.types t part.known).made_of (good.types t part.known).form part.complete)

  -- the elements of an array have sizes
  pub element_sizes : (t : ℕ) → IsPartOfObjects table t → HasSizes (meaning table t)
  element_sizes t part = sizes_below (suc t) t (omega arith) part

-- ---- the composite of what is in a table

module _ (old new : Table) (good : IsTable old) (new_good : IsTable new) where
  pub element_composite : new.members ≡ old.members → (a c : ℕ) (b : Ty) → IsPartOfObjects old a → IsKnown new c → meaning new c ≡ composite (meaning old a) b → IsPartOfObjects new c
  element_composite members a c b part known means = record {
    known = known;
    complete =
        complete_is new new_good c known ∙ ap (is_complete_tree new.members) means ∙ ap (λ ms. is_complete_tree ms (composite (meaning old a) b)) members ∙
        complete_composite old.members (meaning old a) b (sym (complete_is old good a part.known) ∙ part.complete);
  }

  pub passed_composite : (a c : ℕ) (b : Ty) → IsPassed old a → IsKnown new c → meaning new c ≡ composite (meaning old a) b → IsPassed new c
  passed_composite a c b passed known means = record {
    known = known;
    no_struct = sym (holds_is new new_good c known) ∙ ap holds_struct means ∙ holds_composite (meaning old a) b ∙ holds_is old good a passed.known ∙ passed.no_struct;
  }

  -- it is within the bounds of the table, so it is stored
  pub made_there : (longer : IsLonger old new) (t : ℕ) → IsKnown old t → (b tree : Ty) → tree ≡ composite (meaning old t) b → (last : Table) (answer : Option ℕ) → IsStored new last tree answer →
      IsSome answer
  made_there longer t known b tree is last (Some u) made = refl
  made_there longer t known b tree is last None over =
      let fields = λ (s : ℕ). map (meaning new) (member_types (members_of new s)) in
      absurd
      (false≢true
      (sym
      (ap (λ t. is_over (size_of fields t)) is ∙ over_composite fields (meaning old t) b ∙ ap (λ t. is_over (size_of fields t)) (sym (meaning_stays old new good longer t known)) ∙ known_small new new_good fields (λ s. refl) t (known_same old new good longer t known)) ∙
      over fields (λ s. refl)))

-- what was made stands for the composite
pub made_stands : (old new : Table) (tree other : Ty) (answer : Option ℕ) (t : ℕ) → IsStored old new tree answer → answer ≡ Some t → tree ≡ other → Stands new other t
made_stands old new tree other answer t made some is =
    let there : Stands new tree t = subst (IsStored old new tree) some made in
    record { known = there.known; means = there.means ∙ is }

-- ---- types that functions take, in a longer table

module _ (old new : Table) (good : IsTable old) (longer : IsLonger old new) where
  pub passed_known : (ps : List ℕ) → All (IsPassed old) ps → All (IsKnown new) ps
  passed_known ps all = All-weaker (IsPassed old) (IsKnown new) (λ p is. known_same old new good longer p is.known) ps all

  pub params_stay : (ps : List ℕ) → All (IsPassed old) ps → types_of (map (meaning new) ps) ≡ types_of (map (meaning old) ps)
  params_stay [] all = refl
  params_stay (p ∷ ps) all = more_same (meaning_stays old new good longer p (All-head (IsPassed old) p ps all).known) (params_stay ps (All-tail (IsPassed old) p ps all))

-- ---- what is redeclarable is so part by part

pub equal_targets : (a b x y : Ty) → x ≡ Pointer a → y ≡ Pointer b → is_redeclarable x y ≡ true → is_redeclarable a b ≡ true
unfolding is_redeclarable
equal_targets a b x y p q equal = subst (λ t. is_equal_but sizes_or_none (Pointer a) t ≡ true) q (subst (λ t. is_equal_but sizes_or_none t y ≡ true) p equal)

pub equal_elements : (a b x y : Ty) (n m : ℕ) → x ≡ Array a n → y ≡ Array b m → is_redeclarable x y ≡ true → is_redeclarable a b ≡ true
unfolding is_redeclarable
equal_elements a b x y n m p q equal =
    (and_parts (is_equal_but sizes_or_none a b) (sizes_or_none n m) (subst (λ t. is_equal_but sizes_or_none (Array a n) t ≡ true) q (subst (λ t. is_equal_but sizes_or_none t y ≡ true) p equal))).0

module _ (r s x y : Ty) (ps qs : Tys) (d e : Bool) (p : x ≡ Function r ps d) (q : y ≡ Function s qs e) (equal : is_redeclarable x y ≡ true) where
  equal_parts : ((is_equal_but sizes_or_none r s && are_equal_but sizes_or_none ps qs) && beq d e) ≡ true
  unfolding is_redeclarable
  equal_parts = subst (λ t. is_equal_but sizes_or_none (Function r ps d) t ≡ true) q (subst (λ t. is_equal_but sizes_or_none t y ≡ true) p equal)

  pub equal_results : is_redeclarable r s ≡ true
  unfolding is_redeclarable
  equal_results =
      (and_parts (is_equal_but sizes_or_none r s) (are_equal_but sizes_or_none ps qs) (and_parts (is_equal_but sizes_or_none r s && are_equal_but sizes_or_none ps qs) (beq d e) equal_parts).0).0

  pub equal_params : are_equal_but sizes_or_none ps qs ≡ true
  equal_params =
      (and_parts (is_equal_but sizes_or_none r s) (are_equal_but sizes_or_none ps qs) (and_parts (is_equal_but sizes_or_none r s && are_equal_but sizes_or_none ps qs) (beq d e) equal_parts).0).1

-- lists of parameters
module _ (m : ℕ → Ty) where
  pub equal_long : (ps qs : List ℕ) → are_equal_but sizes_or_none (types_of (map m ps)) (types_of (map m qs)) ≡ true → length ps ≡ length qs
  equal_long [] [] equal = refl
  equal_long [] (q ∷ qs) equal = absurd (false≢true equal)
  equal_long (p ∷ ps) [] equal = absurd (false≢true equal)
  equal_long (p ∷ ps) (q ∷ qs) equal =
      ap suc (equal_long ps qs (and_parts (is_equal_but sizes_or_none (m p) (m q)) (are_equal_but sizes_or_none (types_of (map m ps)) (types_of (map m qs))) equal).1)

  pub equal_at : (ps qs : List ℕ) → are_equal_but sizes_or_none (types_of (map m ps)) (types_of (map m qs)) ≡ true → (k p q : ℕ) → slice_get ps k ≡ Some p → slice_get qs k ≡ Some q →
      is_redeclarable (m p) (m q) ≡ true
  unfolding is_redeclarable
  equal_at [] qs equal k p q at bt = absurd (none-some p at)
  equal_at (a ∷ ps) [] equal k p q at bt = absurd (none-some q bt)
  equal_at (a ∷ ps) (b ∷ qs) equal zero p q at bt =
      subst (λ u. is_equal_but sizes_or_none (m u) (m q) ≡ true) (same_Some a p at)
      (subst (λ u. is_equal_but sizes_or_none (m a) (m u) ≡ true) (same_Some b q bt)
      (and_parts (is_equal_but sizes_or_none (m a) (m b)) (are_equal_but sizes_or_none (types_of (map m ps)) (types_of (map m qs))) equal).0)
  equal_at (a ∷ ps) (b ∷ qs) equal (suc k) p q at bt =
      equal_at ps qs (and_parts (is_equal_but sizes_or_none (m a) (m b)) (are_equal_but sizes_or_none (types_of (map m ps)) (types_of (map m qs))) equal).1 k p q at bt

-- ---- the composite by its parts

pub pointer_composite : (a b c x y : Ty) → x ≡ Pointer a → y ≡ Pointer b → c ≡ composite a b → Pointer c ≡ composite x y
pointer_composite a b c x y p q is = ap Pointer is ∙ ap (composite (Pointer a)) (sym q) ∙ ap (λ t. composite t y) (sym p)

pub array_composite : (a b c x y : Ty) (n m k : ℕ) → x ≡ Array a n → y ≡ Array b m → c ≡ composite a b → k ≡ sized n m → Array c k ≡ composite x y
array_composite a b c x y n m k p q is size =
    ap (λ t. Array t k) is ∙ ap (Array (composite a b)) size ∙ ap (composite (Array a n)) (sym q) ∙ ap (λ t. composite t y) (sym p)

pub function_composite : (r s c x y : Ty) (ps qs cs : Tys) (d e : Bool) → x ≡ Function r ps d → y ≡ Function s qs e → c ≡ composite r s → cs ≡ composites ps qs → Function c cs d ≡ composite x y
function_composite r s c x y ps qs cs d e p q is are =
    ap (λ t. Function t cs d) is ∙ ap (λ ts. Function (composite r s) ts d) are ∙ ap (composite (Function r ps d)) (sym q) ∙ ap (λ t. composite t y) (sym p)

-- a type whose other isn't of its form is its own composite
pub pointer_alone : (a x y : Ty) → x ≡ Pointer a → target_of y ≡ None → x ≡ composite x y
pointer_alone a x y p other = p ∙ sym (ap (λ t. composite t y) p ∙ alone (target_of y) other)
  where
    alone : (o : Option Ty) → o ≡ None → with_optional (Pointer a) (λ u. Pointer (composite a u)) o ≡ Pointer a
    alone None is = refl
    alone (Some u) is = cc

pub array_alone : (a x y : Ty) (n : ℕ) → x ≡ Array a n → array_of y ≡ None → x ≡ composite x y
array_alone a x y n p other = p ∙ sym (ap (λ t. composite t y) p ∙ alone (array_of y) other)
  where
    alone : (o : Option (Ty × ℕ)) → o ≡ None → with_optional (Array a n) (λ other. Array (composite a other.0) (sized n other.1)) o ≡ Array a n
    alone None is = refl
    alone (Some u) is = cc

pub function_alone : (r x y : Ty) (ps : Tys) (d : Bool) → x ≡ Function r ps d → function_of y ≡ None → x ≡ composite x y
function_alone r x y ps d p other = p ∙ sym (ap (λ t. composite t y) p ∙ alone (function_of y) other)
  where
    alone : (o : Option Signature) → o ≡ None → with_optional (Function r ps d) (λ other. Function (composite r other.result) (composites ps other.params) d) o ≡ Function r ps d
    alone None is = refl
    alone (Some u) is = cc

-- ---- lists of composites

module _ (old : Table) where
  pub each_last : (new : Table) (p q t : ℕ) {ps qs ts : List ℕ} → StandEach old new ps qs ts → Stands new (composite (meaning old p) (meaning old q)) t →
      StandEach old new (ps ++ p ∷ []) (qs ++ q ∷ []) (ts ++ t ∷ [])
  each_last new p q t no_numbers is = one_more is no_numbers
  each_last new p q t (one_more first others) is = one_more first (each_last new p q t others is)

  pub each_next : (new : Table) (ps qs ts : List ℕ) (k p q t : ℕ) → slice_get ps k ≡ Some p → slice_get qs k ≡ Some q → StandEach old new (take k ps) (take k qs) ts →
      Stands new (composite (meaning old p) (meaning old q)) t → StandEach old new (take (k + 1) ps) (take (k + 1) qs) (ts ++ t ∷ [])
  each_next new ps qs ts k p q t at bt each is =
      subst (λ xs. StandEach old new xs (take (k + 1) qs) (ts ++ t ∷ [])) (take_more ps k p at)
      (subst (λ xs. StandEach old new (take k ps ++ p ∷ []) xs (ts ++ t ∷ [])) (take_more qs k q bt) (each_last new p q t each is))

  pub stands_later : (new last : Table) → IsTable new → IsLonger new last → {tree : Ty} {t : ℕ} → Stands new tree t → Stands last tree t
  stands_later new last good longer {tree} {t} is = record { known = known_same new last good longer t is.known; means = meaning_stays new last good longer t is.known ∙ is.means }

  pub each_later : (new last : Table) → IsTable new → IsLonger new last → {ps qs ts : List ℕ} → StandEach old new ps qs ts → StandEach old last ps qs ts
  each_later new last good longer no_numbers = no_numbers
  each_later new last good longer (one_more first others) = one_more (stands_later new last good longer first) (each_later new last good longer others)

  pub each_means : (new : Table) {ps qs ts : List ℕ} → StandEach old new ps qs ts → types_of (map (meaning new) ts) ≡ composites (types_of (map (meaning old) ps)) (types_of (map (meaning old) qs))
  each_means new no_numbers = refl
  each_means new (one_more first others) = more_same first.means (each_means new others)

  pub each_passed : (new : Table) → IsTable old → IsTable new → {ps qs ts : List ℕ} → StandEach old new ps qs ts → All (IsPassed old) ps → All (IsPassed new) ts
  each_passed new good new_good no_numbers all = All-nil (IsPassed new)
  each_passed new good new_good (one_more {p = p} {q = q} {t = t} {ps = ps} {ts = ts} first others) all =
      All-cons (IsPassed new) t ts (passed_composite old new good new_good p t (meaning old q) (All-head (IsPassed old) p ps all) first.known first.means)
      (each_passed new good new_good others (All-tail (IsPassed old) p ps all))

-- ---- tables that grow

pub adds_then : (a b c : Table) → IsLonger a b → b.members ≡ a.members → IsLonger b c → c.members ≡ b.members → HasFewElements c → AddsTypes a c
adds_then a b c longer members further still few = record { longer = longer_then a b c longer further; members = still ∙ members; few = few }

pub adds_none : (table : Table) → HasFewElements table → AddsTypes table table
adds_none table few = record { longer = record { types = ([], sym (append-nil table.types)); least = ([], sym (append-nil table.least)); structs = omega arith; members = λ s closed. refl }; members = refl; few = few }

-- ---- the parts of a type by its form

module _ (table : Table) (good : IsTable table) (t : ℕ) (known : IsKnown table t) (form : CType) (got : slice_get table.types t ≡ Some form) where
  means_by : (other : CType) → form ≡ other → meaning table t ≡ tree_of (meaning table) other
  means_by other is = meaning_by table good t form known got ∙ ap (tree_of (meaning table)) is

  made_of_by : (other : CType) → form ≡ other → IsMadeOf table t other
  made_of_by other is = subst (IsMadeOf table t) is (made_by table good t form known got)

  form_by : (other : CType) → form ≡ other → IsForm table other
  form_by other is = subst (IsForm table) is (subst (IsForm table) (ap (λ o. unwrap_or o forms.Void) got) (good.types t known).form)

  pub pointer_by : (u : ℕ) → form ≡ forms.Pointer u → PointsTo table t u
  pointer_by u is = record { means = means_by (forms.Pointer u) is; below = made_of_by (forms.Pointer u) is }

  pub array_by : (u n : ℕ) → form ≡ forms.Array u n → IsArrayOf table t (record { element = u; size = n })
  array_by u n is = record { means = means_by (forms.Array u n) is; below = made_of_by (forms.Array u n) is; element = form_by (forms.Array u n) is }

  pub function_by : (r : ℕ) (ps : List ℕ) (dots : Bool) → form ≡ forms.Function r ps dots → IsFunctionOf table t (record { result = r; params = ps; dots = dots })
  function_by r ps dots is =
      record { means = means_by (forms.Function r ps dots) is; below = made_of_by (forms.Function r ps dots) is; passed = form_by (forms.Function r ps dots) is }

-- ---- functions

-- the composites of what two functions are made of: that of the results in one table, those of the parameters in a later one
pub record HasBoth (old mid last : Table) (t u both : ℕ) (params : List ℕ) (parts other : FunctionParts) : Type 0 where
  pub good : IsTable old
  pub mid_good : IsTable mid
  pub last_good : IsTable last
  pub first : IsLonger old mid
  pub further : IsLonger mid last
  pub function : IsFunctionOf old t parts
  pub other_function : IsFunctionOf old u other
  pub result : Stands mid (composite (meaning old parts.result) (meaning old other.result)) both
  pub each : StandEach mid last parts.params other.params params

-- the same, as a walk comes to know it
pub both_made : {old mid last : Table} {t u both : ℕ} {params xs ys : List ℕ} {parts other : FunctionParts} → IsTable old → IsTable mid → IsTable last → IsLonger old mid → IsLonger mid last → IsFunctionOf old t parts →
    IsFunctionOf old u other → IsKnown mid both → meaning mid both ≡ composite (meaning old parts.result) (meaning old other.result) → xs ≡ parts.params → ys ≡ other.params → StandEach mid last xs ys params →
    HasBoth old mid last t u both params parts other
both_made {mid = mid} {last = last} {params = params} {ys = ys} {parts = parts} good mid_good last_good first further function other_function known means xs_are ys_are each = record {
  good = good;
  mid_good = mid_good;
  last_good = last_good;
  first = first;
  further = further;
  function = function;
  other_function = other_function;
  result = record { known = known; means = means };
  each = subst (λ qs. StandEach mid last parts.params qs params) ys_are (subst (λ ps. StandEach mid last ps ys params) xs_are each);
}

pub equal_later : (old mid : Table) → IsTable old → IsLonger old mid → (ps qs xs ys : List ℕ) → xs ≡ ps → ys ≡ qs → All (IsPassed old) ps → All (IsPassed old) qs →
    are_equal_but sizes_or_none (types_of (map (meaning old) ps)) (types_of (map (meaning old) qs)) ≡ true →
    are_equal_but sizes_or_none (types_of (map (meaning mid) xs)) (types_of (map (meaning mid) ys)) ≡ true
equal_later old mid good longer ps qs xs ys p q all others equal =
    let left = ap (λ zs. types_of (map (meaning mid) zs)) p ∙ params_stay old mid good longer ps all in
    let right = ap (λ zs. types_of (map (meaning mid) zs)) q ∙ params_stay old mid good longer qs others in
    ap (λ zs. are_equal_but sizes_or_none zs (types_of (map (meaning mid) ys))) left ∙ ap (are_equal_but sizes_or_none (types_of (map (meaning old) ps))) right ∙ equal

module _ (old mid last : Table) (t u both : ℕ) (params : List ℕ) (parts other : FunctionParts) (has : HasBoth old mid last t u both params parts other) where
  result_last : Stands last (composite (meaning old parts.result) (meaning old other.result)) both
  result_last = stands_later old mid last has.mid_good has.further has.result

  passed : All (IsPassed old) (parts.result ∷ parts.params)
  passed = has.function.passed

  pub function_made : made.function_tree last both params parts.dots ≡ composite (meaning old t) (meaning old u)
  function_made =
      let ps = types_of (map (meaning old) parts.params) in
      let qs = types_of (map (meaning old) other.params) in
      let left = params_stay old mid has.good has.first parts.params (All-tail (IsPassed old) parts.result parts.params passed) in
      let right = params_stay old mid has.good has.first other.params (All-tail (IsPassed old) other.result other.params has.other_function.passed) in
      function_composite (meaning old parts.result) (meaning old other.result) (meaning last both) (meaning old t) (meaning old u) ps qs (types_of (map (meaning last) params)) parts.dots other.dots
      has.function.means has.other_function.means result_last.means
      (each_means mid last has.each ∙ ap (λ zs. composites zs (types_of (map (meaning mid) other.params))) left ∙ ap (composites ps) right)

  pub function_passed : All (IsPassed last) (both ∷ params)
  function_passed =
      let grown = form_grown old mid has.good has.first (forms.Function parts.result parts.params parts.dots) passed in
      All-cons (IsPassed last) both params
      (passed_composite old last has.good has.last_good parts.result both (meaning old other.result) (All-head (IsPassed old) parts.result parts.params passed) result_last.known result_last.means)
      (each_passed mid last has.mid_good has.last_good has.each (All-tail (IsPassed mid) parts.result parts.params grown))

-- ---- what two types are made of

-- the results and the parameters of two functions
pub equal_function : (table : Table) (t u : ℕ) (parts other : FunctionParts) → IsFunctionOf table t parts → IsFunctionOf table u other → is_redeclarable (meaning table t) (meaning table u) ≡ true →
    (is_redeclarable (meaning table parts.result) (meaning table other.result) ≡ true) ×
    (are_equal_but sizes_or_none (types_of (map (meaning table) parts.params)) (types_of (map (meaning table) other.params)) ≡ true)
equal_function table t u parts other is is_other equal =
    let m = meaning table in
    let ps = types_of (map m parts.params) in
    let qs = types_of (map m other.params) in (
      equal_results (m parts.result) (m other.result) (m t) (m u) ps qs parts.dots other.dots is.means is_other.means equal,
      equal_params (m parts.result) (m other.result) (m t) (m u) ps qs parts.dots other.dots is.means is_other.means equal,
    )

pub equal_now : (old now : Table) → IsTable old → IsLonger old now → (t u : ℕ) → IsKnown old t → IsKnown old u → is_redeclarable (meaning old t) (meaning old u) ≡ true →
    is_redeclarable (meaning now t) (meaning now u) ≡ true
equal_now old now good longer t u t_known u_known equal =
    ap (λ x. is_redeclarable x (meaning now u)) (meaning_stays old now good longer t t_known) ∙ ap (is_redeclarable (meaning old t)) (meaning_stays old now good longer u u_known) ∙ equal

-- an array of composites has few elements
pub few_array : (table : Table) → IsTable table → HasFewElements table → (t u : ℕ) (parts other : ArrayParts) → IsArrayOf table t parts → IsArrayOf table u other → IsKnown table t → IsKnown table u →
    is_redeclarable (meaning table t) (meaning table u) ≡ true → (c : Ty) (size : ℕ) → c ≡ composite (meaning table parts.element) (meaning table other.element) → size ≡ sized parts.size other.size →
    size * elements c < 2 ^ 64
unfolding is_redeclarable
few_array table good few t u parts other is is_other t_known u_known equal c size means sized_is =
    let m = meaning table in
    subst (λ k. k * elements c < 2 ^ 64) (sym sized_is)
    (subst (λ x. sized parts.size other.size * elements x < 2 ^ 64) (sym means)
    (few_composite (m parts.element) (m other.element) parts.size other.size
    (equal_elements (m parts.element) (m other.element) (m t) (m u) parts.size other.size is.means is_other.means equal) (element_sizes table good parts.element is.element)
    (element_sizes table good other.element is_other.element) (subst (λ x. elements x < 2 ^ 64) is.means (few t t_known)) (subst (λ x. elements x < 2 ^ 64) is_other.means (few u u_known))))

-- what was made in a later table for two types of an older one
pub stands_now : (old now new : Table) → IsTable old → IsLonger old now → (p q t : ℕ) → IsKnown old p → IsKnown old q → IsKnown new t → meaning new t ≡ composite (meaning now p) (meaning now q) →
    Stands new (composite (meaning old p) (meaning old q)) t
stands_now old now new good longer p q t p_known q_known known means = record {
  known = known;
  means = means ∙ ap (λ x. composite x (meaning now q)) (meaning_stays old now good longer p p_known) ∙ ap (composite (meaning old p)) (meaning_stays old now good longer q q_known);
}
