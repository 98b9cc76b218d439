-- What tables of racing items have.
use Rattle.std.proofs.Common.{◌≡◌, ◌<◌, ◌↔◌, ℕ, Bool, true, false, eqb, cond, List, [], ◌∷◌, All, Contains, Option, Some, refl, sym, ap, ◌∙◌, subst, inl, inr}
use Rattle.std.specs.Option.{option_map, option_map_or}
use Rattle.std.proofs.lemmas.Bool.{cases_Bool, eqb-true, eq-eqb, false≢true}
use Rattle.std.proofs.lemmas.List.Elements.{All-cons, All-head, All-nil, All-tail}
use Rattle.lk_facts.specs.Facts.{FactTable}
use Rattle.lk_sets.specs.Ids.{has_id}
use Rattle.lk_sets.proofs.Members.{Contains-from_has_id, has_id-from_Contains}
use Rattle.lk_rise.specs.declared.correlations.Correlation.{Correlation}
use Rattle.lk_rise.specs.Correlations.{is_same, item_of, has_of, has_item, set_of, AreInRange, IsEntryInRange}
use Rattle.lk_rise.specs.Groups.{AreGroups, group_at}
use Rattle.lk_rise.proofs.EntryLemmas.{entry_at, entry_there, number_at, there_found}
use Rattle.lk_rise.proofs.ListLemmas.{in_flat_map, none_there, one_there, head_there}
use Rattle.lk_conflict.specs.Listing.{access_at, access_of, accesses_in, subjects_of}
use Rattle.lk_conflict.specs.Places.{AreLocksBelow}

-- the access of an item, where it is one of f
access_is : (f : ℕ) (item : Correlation) (a : ℕ) → Contains (access_of f item) a ↔ ((item.function ≡ f) × (item.access ≡ a))
access_is f item a = at_test (eqb item.function f) refl
  where
    at_test : (b : Bool) → eqb item.function f ≡ b → Contains (cond b (item.access ∷ []) []) a ↔ ((item.function ≡ f) × (item.access ≡ a))
    at_test true same = (λ there. (eqb-true item.function f same, one_there item.access a there), λ is. subst (λ x. Contains (item.access ∷ []) x) is.1 (head_there item.access []))
    at_test false other = (λ there. absurd (none_there a there), λ is. absurd (false≢true (sym other ∙ eq-eqb item.function f is.0)))

-- the accesses of the items of f for o are those that the table has
pub accesses_are : (f o : ℕ) (entries : List (Correlation × List ℕ)) (numbers : List (List ℕ)) → AreGroups (subjects_of entries) numbers → (a : ℕ) →
    (has_id (accesses_in f o entries numbers) a ≡ true) ↔ ((child : Bool) × (has_of entries f child o a ≡ true))
accesses_are f o entries numbers groups a = (
  λ there.
      let by = (in_flat_map (access_at f entries) (group_at numbers o) a).0 (Contains-from_has_id (accesses_in f o entries numbers) a there) in
      let at = entry_at (λ (item : Correlation). item.subject) entries numbers groups o by.0 by.1 in
      let item = at.0.0 in
      let is = (access_is f item a).0 (subst (λ (i : Option Correlation). Contains (option_map_or (access_of f) i []) a) (ap (option_map (λ (e : Correlation × List ℕ). e.0)) at.1) by.2) in
      let same : item ≡ item_of f item.child o a = (λ d. record { function = is.0 d; child = item.child; subject = at.3 d; access = is.1 d }) in
      (item.child, subst (λ (i : Correlation). has_item entries i ≡ true) same (there_found entries item at.0.1 at.2)),
  λ found.
      let item = item_of f found.0 o a in
      let entry = entry_there entries item found.1 in
      let number = number_at (λ (i : Correlation). i.subject) entries numbers groups (item, entry.0) entry.1 in
      let here : Contains (access_at f entries number.0) a =
      subst (λ (i : Option Correlation). Contains (option_map_or (access_of f) i []) a) (sym (ap (option_map (λ (e : Correlation × List ℕ). e.0)) number.2)) ((access_is f item a).1 (refl, refl)) in
      has_id-from_Contains (accesses_in f o entries numbers) a ((in_flat_map (access_at f entries) (group_at numbers o) a).1 (number.0, number.1, here)),
)

-- the locks of an item are labels
pub set_below : (n : ℕ) (entries : List (Correlation × List ℕ)) (item : Correlation) (locks : List ℕ) → AreLocksBelow n entries → Some locks ≡ set_of entries item → All (λ x. x < n) locks
set_below n [] item locks below at = absurd (cc)
set_below n (e ∷ es) item locks below at =
    elim (cases_Bool (is_same item e.0)) [
      | inl same ↦ let here : Some locks ≡ Some e.1 = at ∙ rw same refl in subst (All (λ x. x < n)) (let is : e.1 ≡ locks = cc in is) (All-head (λ (f : Correlation × List ℕ). All (λ x. x < n) f.1) e es below)
      | inr other ↦ set_below n es item locks (All-tail (λ (f : Correlation × List ℕ). All (λ x. x < n) f.1) e es below) (at ∙ rw other refl)
    ]

-- the locations of racing items in range
pub subjects_within : (facts : FactTable) (n : ℕ) (entries : List (Correlation × List ℕ)) → AreInRange facts n entries → All (λ o. o < n) (subjects_of entries)
subjects_within facts n [] ranged = All-nil _
subjects_within facts n (e ∷ es) ranged =
    All-cons (λ o. o < n) e.0.subject (subjects_of es) (All-head (IsEntryInRange facts n) e es ranged).subject
    (subjects_within facts n es (All-tail (IsEntryInRange facts n) e es ranged))
