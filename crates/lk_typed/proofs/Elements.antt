-- The types of a table have few elements from the start, and while it grows.
use Rattle.std.proofs.Common.{◌≡◌, ◌∙◌, ◌≤◌, ◌<◌, ◌⊎◌, inl, inr, ◌*◌, ◌^◌, ℕ, zero, suc, Bool, true, false, List, [], ◌∷◌, ◌++◌, length, refl, sym, ap, subst, arith, Some, length-append}
use Rattle.std.specs.List.{slice_get, list_all}
use Rattle.std.proofs.lemmas.Bool.{and_parts, false≢true}
use Rattle.std.proofs.lemmas.Option.{none-some, same_Some}
use Rattle.lk_types.specs.Building.{IsTable, IsLonger, IsMadeOf, IsPut, found, added}
use Rattle.lk_types.specs.Table.{Table, type_at, IsKnown}
use Rattle.lk_types.specs.declared.c_type.CType.{CType}
use Rattle.lk_types.specs.declared.c_type.CType.TheVariants as forms
use Rattle.lk_types.specs.Predeclared.{predeclared}
use Rattle.lk_types.proofs.AddLemmas.{last_got}
use Rattle.lk_types.proofs.AlikeLemmas.{form_there}
use Rattle.lk_typed.specs.DeclaratorRules.{elements}
use Rattle.lk_typed.specs.Elements.{HasFewElements, IsFew}
use Rattle.lk_typed.specs.Meaning.{meaning, tree_of}
use Rattle.lk_typed.specs.Ty.{Ty}
use Rattle.lk_typed.proofs.Meanings.{meaning_is, meaning_by, made_by, meaning_stays}

within_or : (s n : ℕ) → (s < n) ⊎ (n ≤ s)
within_or s n = grind arith

module _ (old new : Table) (good : IsTable old) (new_good : IsTable new) (longer : IsLonger old new) (few : HasFewElements old) where
  -- the elements of a form whose types were there
  few_form : (t : ℕ) (form : CType) → IsMadeOf new t form → t ≡ length old.types → IsFew old form → elements (tree_of (meaning new) form) < 2 ^ 64
  few_form t forms.Void made last is = omega arith
  few_form t (forms.Int k) made last is = omega arith
  few_form t forms.ThreadId made last is = omega arith
  few_form t forms.Mutex made last is = omega arith
  few_form t forms.Cond made last is = omega arith
  few_form t (forms.Pointer u) made last is = omega arith
  few_form t (forms.Array u n) made last is = subst (λ a. n * elements a < 2 ^ 64) (sym (meaning_stays old new good longer u (subst (λ k. u < k) last made))) is
  few_form t (forms.Struct s) made last is = omega arith
  few_form t (forms.Function r ps dots) made last is = omega arith
  few_form t (forms.Opaque n) made last is = omega arith

  few_older : (t : ℕ) → IsKnown old t → elements (meaning new t) < 2 ^ 64
  few_older t known = subst (λ a. elements a < 2 ^ 64) (sym (meaning_stays old new good longer t known)) (few t known)

  few_last : (t : ℕ) (form : CType) → IsKnown new t → slice_get new.types t ≡ Some form → t ≡ length old.types → IsFew old form → elements (meaning new t) < 2 ^ 64
  few_last t form known got last is =
      subst (λ a. elements a < 2 ^ 64) (sym (meaning_by new new_good t form known got)) (few_form t form (made_by new new_good t form known got) last is)

  few_added : (form : CType) → new.types ≡ old.types ++ form ∷ [] → IsFew old form → HasFewElements new
  few_added form types is t known =
      elim (within_or t (length old.types)) [
        | inl below ↦ few_older t below
        | inr past ↦ few_last t form known (subst (λ k. slice_get new.types k ≡ Some form) (sym (last_one t past known)) (subst (λ ts. slice_get ts (length old.types) ≡ Some form) (sym types) (last_got old.types form))) (last_one t past known) is
      ]
    where
      last_one : (t : ℕ) → length old.types ≤ t → IsKnown new t → t ≡ length old.types
      last_one t past known = let one = ap length types ∙ length-append old.types (form ∷ []) in omega (arith, past, known, one)

-- a form of few elements that is put keeps few elements in all types
pub few_put : (old new : Table) (form : CType) (t : ℕ) → IsTable old → IsTable new → IsLonger old new → IsPut old new form t → IsFew old form → HasFewElements old → HasFewElements new
few_put old new form t good new_good longer (found there same) is few = subst HasFewElements (sym same) few
few_put old new form t good new_good longer (added absent last is_added) is few = few_added old new good new_good longer few form is_added.types is

-- ---- the predeclared types have one element each

abbrev is_single : CType → Bool
is_single forms.Void = true
is_single (forms.Int k) = true
is_single forms.ThreadId = true
is_single forms.Mutex = true
is_single forms.Cond = true
is_single (forms.Pointer u) = true
is_single (forms.Array u n) = false
is_single (forms.Struct s) = true
is_single (forms.Function r ps dots) = true
is_single (forms.Opaque n) = true

few_single : (at : ℕ → Ty) (form : CType) → is_single form ≡ true → elements (tree_of at form) < 2 ^ 64
few_single at forms.Void single = omega arith
few_single at (forms.Int k) single = omega arith
few_single at forms.ThreadId single = omega arith
few_single at forms.Mutex single = omega arith
few_single at forms.Cond single = omega arith
few_single at (forms.Pointer u) single = omega arith
few_single at (forms.Array u n) single = absurd (false≢true single)
few_single at (forms.Struct s) single = omega arith
few_single at (forms.Function r ps dots) single = omega arith
few_single at (forms.Opaque n) single = omega arith

single_at : (forms : List CType) (i : ℕ) (form : CType) → list_all is_single forms ≡ true → slice_get forms i ≡ Some form → is_single form ≡ true
single_at [] i form all got = absurd (none-some form got)
single_at (other ∷ forms) zero form all got = subst (λ f. is_single f ≡ true) (same_Some other form got) (and_parts (is_single other) (list_all is_single forms) all).0
single_at (other ∷ forms) (suc i) form all got = single_at forms i form (and_parts (is_single other) (list_all is_single forms) all).1 got

pub few_first : (table : Table) → IsTable table → table.types ≡ predeclared → HasFewElements table
few_first table good first t known =
    subst (λ a. elements a < 2 ^ 64) (sym (meaning_is table good t known))
    (few_single (meaning table) (type_at table t) (single_at predeclared t (type_at table t) refl (subst (λ ts. slice_get ts t ≡ Some (type_at table t)) first (form_there table t known))))
