-- The functions of the library: their types as they are put, which are within the bounds and pass no struct.
use Rattle.std.proofs.Common.{◌≡◌, ◌∙◌, ◌++◌, ◌∷◌, [], ℕ, Bool, true, false, List, Option, Some, None, All, refl, sym, ap, subst, map, take, ◌+◌}
use Rattle.std.specs.Prelude.{not, if◌then◌else◌}
use Rattle.std.specs.List.{slice_get, list_all}
use Rattle.std.proofs.lemmas.Bool.{and_parts}
use Rattle.std.proofs.lemmas.List.{map-append}
use Rattle.std.proofs.lemmas.List.Elements.{All-cons, All-nil, All-head, All-tail, All-push}
use Rattle.std.proofs.lemmas.Option.{none-some, same_Some}
use Rattle.lk_types.specs.Building.{IsTable, IsLonger, IsPassed}
use Rattle.lk_types.specs.Table.{Table, IsKnown}
use Rattle.lk_types.proofs.FormEq.{take_more}
use Rattle.lk_types.proofs.GrowLemmas.{known_same}
use Rattle.lk_typed.proofs.Meanings.{function_same, meaning_stays}
use Rattle.lk_typed.specs.Bounds.{holds_struct, is_large, size_within, steps_counted}
use Rattle.lk_typed.specs.Calls.{passes_by}
use Rattle.lk_typed.specs.Env.{is_name, latest, or_else}
use Rattle.lk_typed.specs.Library as spec
use Rattle.lk_typed.specs.Library.{library, passed_type, type_of_function}
use Rattle.lk_typed.specs.Meaning.{meaning}
use Rattle.lk_typed.specs.Ty.{Ty, types_of}
use Rattle.lk_check_decl.specs.Making.{function_tree}
use Rattle.lk_check_expr.specs.Functions.{parameter_in, rows_of, spelling}
use Rattle.lk_check_expr.specs.declared.library.LibraryFunction.{LibraryFunction}
use Rattle.lk_check_expr.specs.declared.library.Parameter.{Parameter}
use Rattle.lk_check_expr.specs.declared.library.Parameter.TheVariants as p
use Rattle.lk_predeclared.specs.Functions.{dots_by, result_by, type_by}
use Rattle.lk_predeclared.specs.Plain.{ArePlain, IsPlain, IsSmall}
use Rattle.lk_predeclared.proofs.FirstPlain.{passes}

-- ---- types in a longer table

module _ (old new : Table) (good : IsTable old) (longer : IsLonger old new) where
  pub plain_stays : (tree : Ty) (t : ℕ) → IsPlain old tree t → IsPlain new tree t
  plain_stays tree t plain = record { known = known_same old new good longer t plain.known; means = meaning_stays old new good longer t plain.known ∙ plain.means }

  each_stays : (ts : List ℕ) → All (IsKnown old) ts → map (meaning new) ts ≡ map (meaning old) ts
  each_stays [] all = refl
  each_stays (t ∷ ts) all =
      ap (λ x. x ∷ map (meaning new) ts) (meaning_stays old new good longer t (All-head (IsKnown old) t ts all)) ∙ ap (λ xs. meaning old t ∷ xs) (each_stays ts (All-tail (IsKnown old) t ts all))

  each_known : (ts : List ℕ) → All (IsKnown old) ts → All (IsKnown new) ts
  each_known [] all = All-nil (IsKnown new)
  each_known (t ∷ ts) all =
      All-cons (IsKnown new) t ts (known_same old new good longer t (All-head (IsKnown old) t ts all)) (each_known ts (All-tail (IsKnown old) t ts all))

  -- one more parameter
  pub types_more : (ps : List Parameter) (k : ℕ) (p : Parameter) → slice_get ps k ≡ Some p → (ts us : List ℕ) (t : ℕ) → ArePlain old (map passed_type (map parameter_in (take k ps))) ts →
      IsPlain new (passed_type (parameter_in p)) t → us ≡ ts ++ t ∷ [] → ArePlain new (map passed_type (map parameter_in (take (k + 1) ps))) us
  types_more ps k p at ts us t are is items =
      subst (ArePlain new (map passed_type (map parameter_in (take (k + 1) ps)))) (sym items) (record {
        known = All-push (IsKnown new) ts t (each_known ts are.known) is.known;
        means =
            map-append (meaning new) ts (t ∷ []) ∙ ap (λ xs. xs ++ meaning new t ∷ []) (each_stays ts are.known ∙ are.means) ∙
            ap (λ x. map passed_type (map parameter_in (take k ps)) ++ x ∷ []) is.means ∙ sym (map-append passed_type (map parameter_in (take k ps)) (parameter_in p ∷ [])) ∙
            ap (map passed_type) (sym (map-append parameter_in (take k ps) (p ∷ []))) ∙ ap (λ xs. map passed_type (map parameter_in xs)) (take_more ps k p at);
      })

-- ---- what is passed

parameter_holds_none : (x : Parameter) → holds_struct (passed_type (parameter_in x)) ≡ false
parameter_holds_none p.Int = refl
parameter_holds_none p.UnsignedInt = refl
parameter_holds_none p.Count = refl
parameter_holds_none p.Thread = refl
parameter_holds_none p.ToThread = refl
parameter_holds_none p.ToMutex = refl
parameter_holds_none p.ToCond = refl
parameter_holds_none p.ToText = refl
parameter_holds_none p.ToAnything = refl
parameter_holds_none p.NoThreadAttributes = refl
parameter_holds_none p.NoMutexAttributes = refl
parameter_holds_none p.NoCondAttributes = refl
parameter_holds_none p.NoResult = refl
parameter_holds_none p.Routine = refl
parameter_holds_none p.Size = refl

first_same : {a b : Ty} {xs ys : List Ty} → a ∷ xs ≡ b ∷ ys → a ≡ b
first_same e = cc

others_same : {a b : Ty} {xs ys : List Ty} → a ∷ xs ≡ b ∷ ys → xs ≡ ys
others_same e = cc

no_more : {a : Ty} {xs : List Ty} → a ∷ xs ≡ [] → ⊥
no_more e = cc

pub params_passed : (table : Table) → IsTable table → (ps : List Parameter) (ts : List ℕ) → ArePlain table (map passed_type (map parameter_in ps)) ts → All (IsPassed table) ts
params_passed table good ps [] are = All-nil (IsPassed table)
params_passed table good [] (t ∷ ts) are = absurd (no_more are.means)
params_passed table good (x ∷ ps) (t ∷ ts) are =
    All-cons (IsPassed table) t ts
    (passes table good t (passed_type (parameter_in x)) (record { known = All-head (IsKnown table) t ts are.known; means = first_same are.means }) (parameter_holds_none x))
    (params_passed table good ps ts (record { known = All-tail (IsKnown table) t ts are.known; means = others_same are.means }))

-- ---- the rows of the library

latest_has : {A : Type 0} (holds test : A → Bool) (xs : List A) (a : A) → list_all holds xs ≡ true → latest test xs ≡ Some a → holds a ≡ true
latest_has holds test [] a all is = absurd (none-some a is)
latest_has {A} holds test (x ∷ xs) a all is = by (latest_has holds test xs a (and_parts (holds x) (list_all holds xs) all).1) (latest test xs) refl (test x) is
  where
    by : (latest test xs ≡ Some a → holds a ≡ true) → (o : Option A) → latest test xs ≡ o → (b : Bool) → or_else o (if b then Some x else None) ≡ Some a → holds a ≡ true
    by others (Some y) e b is = others (e ∙ is)
    by others None e true is = subst (λ z. holds z ≡ true) (same_Some x a is) (and_parts (holds x) (list_all holds xs) all).0
    by others None e false is = absurd (none-some a is)

not_true : (b : Bool) → not b ≡ true → b ≡ false
not_true true h = sym h
not_true false h = refl

returns_none : spec.LibraryFunction → Bool
returns_none f = not (holds_struct f.result)

all_return_none : list_all returns_none library ≡ true
unfolding returns_none library
all_return_none = refl

all_small : (fields : ℕ → List Ty) → list_all (λ f. not (is_large fields (type_of_function f))) library ≡ true
unfolding library size_within steps_counted
all_small fields = refl

-- what a function returns holds no struct
pub result_holds_none : (f : LibraryFunction) → holds_struct (result_by (rows_of f)) ≡ false
unfolding returns_none
result_holds_none f = by (rows_of f) refl
  where
    by : (row : Option spec.LibraryFunction) → rows_of f ≡ row → holds_struct (result_by row) ≡ false
    by None is = refl
    by (Some r) is = not_true (holds_struct r.result) (latest_has returns_none (λ g. is_name g.name (spelling f)) library r all_return_none is)

none_small : IsSmall (type_by None)
unfolding size_within steps_counted
none_small fields = refl

-- its type is within the bounds
pub function_small : (f : LibraryFunction) → IsSmall (type_by (rows_of f))
function_small f fields = by (rows_of f) refl
  where
    by : (row : Option spec.LibraryFunction) → rows_of f ≡ row → is_large fields (type_by row) ≡ false
    by None is = none_small fields
    by (Some r) is =
        not_true (is_large fields (type_of_function r))
        (latest_has (λ g. not (is_large fields (type_of_function g))) (λ g. is_name g.name (spelling f)) library r (all_small fields) is)

-- its type as it is put
pub type_is : (table : Table) (row : Option spec.LibraryFunction) (returned : ℕ) (params : List ℕ) (dots : Bool) (ps : List Parameter) → meaning table returned ≡ result_by row →
    map (meaning table) params ≡ map passed_type (map parameter_in ps) → map parameter_in ps ≡ passes_by row None → dots ≡ dots_by row → function_tree table returned params dots ≡ type_by row
type_is table row returned params dots ps is are passes_are dots_are = function_same is (ap types_of (are ∙ ap (map passed_type) passes_are)) dots_are
