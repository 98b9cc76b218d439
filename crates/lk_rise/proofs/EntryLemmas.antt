-- What tables of items have.
use Rattle.std.proofs.Common.{◌≡◌, ◌<◌, ℕ, true, false, List, [], ◌∷◌, length, map, All, Contains, Option, Some, None, refl, sym, ap, ◌∙◌, subst, inl, inr}
use Rattle.std.specs.List.{slice_get}
use Rattle.std.specs.Option.{is_some, option_map}
use Rattle.std.proofs.lemmas.Bool.{cases_Bool, false≢true}
use Rattle.std.proofs.lemmas.Option.{same_Some, slice_get-map, slice_get_cases, slice_get_read}
use Rattle.std.proofs.lemmas.List.Elements.{All-cons, All-head, All-nil, All-tail}
use Rattle.lk_facts.specs.Facts.{FactTable}
use Rattle.lk_rise.specs.Correlations.{is_same, has_item, set_of, AreInRange, IsEntryInRange}
use Rattle.lk_rise.specs.Groups.{AreGroups, group_at}
use Rattle.lk_rise.specs.PointItems.{HasNoChild, functions_of}
use Rattle.lk_rise.specs.Tables.{item_at}
use Rattle.lk_rise.specs.declared.correlations.Correlation.{Correlation}
use Rattle.lk_rise.proofs.ItemLemmas.{same_from_equal, same_item}
use Rattle.lk_rise.proofs.ListLemmas.{head_or_tail, head_there, none_there, tail_there}

-- the set of an item is that of an entry
pub found_there : (entries : List (Correlation × List ℕ)) (item : Correlation) (set : List ℕ) → Some set ≡ set_of entries item → Contains entries (item, set)
found_there [] item set at = absurd (cc)
found_there (e ∷ es) item set at =
    elim (cases_Bool (is_same item e.0)) [
      | inl same ↦
          let here : Some set ≡ Some e.1 = at ∙ rw same refl in
          let is : e ≡ (item, set) = (λ i. (sym (same_item item e.0 same) i, same_Some e.1 set (sym here) i)) in
          subst (λ f. Contains (e ∷ es) f) is (head_there e es)
      | inr other ↦ tail_there e es (item, set) (found_there es item set (at ∙ rw other refl))
    ]

-- and an item with an entry is there
pub there_found : (entries : List (Correlation × List ℕ)) (item : Correlation) (set : List ℕ) → Contains entries (item, set) → has_item entries item ≡ true
there_found [] item set there = absurd (none_there (item, set) there)
there_found (e ∷ es) item set there =
    elim (cases_Bool (is_same item e.0)) [
      | inl same ↦ rw same refl
      | inr other ↦
          rw other
          (elim (head_or_tail e es (item, set) there) [
            | inl here ↦ absurd (false≢true (sym other ∙ same_from_equal item e.0 (ap (λ (f : Correlation × List ℕ). f.0) (sym here))))
            | inr later ↦ there_found es item set later
          ])
    ]

-- an item that is there has an entry
pub entry_there : (entries : List (Correlation × List ℕ)) (item : Correlation) → has_item entries item ≡ true → (set : List ℕ) × Contains entries (item, set)
entry_there entries item there = by_set (set_of entries item) refl there
  where
    by_set : (found : Option (List ℕ)) → found ≡ set_of entries item → is_some found ≡ true → (set : List ℕ) × Contains entries (item, set)
    by_set None at some = absurd (false≢true some)
    by_set (Some set) at some = (set, found_there entries item set at)

-- items by what is told of each, as its function
module _ (h : Correlation → ℕ) (entries : List (Correlation × List ℕ)) (numbers : List (List ℕ)) (groups : AreGroups (map (λ (e : Correlation × List ℕ). h e.0) entries) numbers) where
  -- an item by its number among those of a group
  pub entry_at : (g k : ℕ) → Contains (group_at numbers g) k → (e : Correlation × List ℕ) × (slice_get entries k ≡ Some e) × Contains entries e × (h e.0 ≡ g)
  entry_at g k there =
      let at : option_map (λ (e : Correlation × List ℕ). h e.0) (slice_get entries k) ≡ Some g = sym (slice_get-map (λ (e : Correlation × List ℕ). h e.0) entries k) ∙ (groups.each g k).0 there in
      elim (slice_get_cases entries k).1 [
        | inl found ↦
            (found.0, found.2, (k, found.1, found.3), same_Some _ g (sym (ap (option_map (λ (e : Correlation × List ℕ). h e.0)) found.2) ∙ at))
        | inr past ↦ absurd (let none : None ≡ Some g = sym (ap (option_map (λ (e : Correlation × List ℕ). h e.0)) past.1) ∙ at in cc)
      ]

  -- and the number of an item
  pub number_at : (e : Correlation × List ℕ) → Contains entries e → (k : ℕ) × Contains (group_at numbers (h e.0)) k × (slice_get entries k ≡ Some e)
  number_at e there =
      let at : slice_get entries there.0 ≡ Some e = slice_get_read entries _ there.0 e refl there.1 (sym there.2) in
      (there.0, (groups.each (h e.0) there.0).1 (slice_get-map (λ (d : Correlation × List ℕ). h d.0) entries there.0 ∙ ap (option_map (λ (d : Correlation × List ℕ). h d.0)) at), at)

-- where no item of a function's numbers is a child's, no item of the function is
pub no_child_among : (entries : List (Correlation × List ℕ)) (numbers : List (List ℕ)) (f : ℕ) → AreGroups (functions_of entries) numbers →
    ((k : ℕ) → Contains (group_at numbers f) k → (item : Correlation) → item_at entries k ≡ Some item → item.child ≡ false) → HasNoChild entries f
no_child_among entries numbers f groups each item there of =
    let entry = entry_there entries item there in
    let number = number_at (λ (i : Correlation). i.function) entries numbers groups (item, entry.0) entry.1 in
    each number.0 (subst (λ g. Contains (group_at numbers g) number.0) of number.1) item (ap (option_map (λ (e : Correlation × List ℕ). e.0)) number.2)

-- the functions of items in range
pub functions_within : (facts : FactTable) (n : ℕ) (entries : List (Correlation × List ℕ)) → AreInRange facts n entries → All (λ f. f < length facts.program.functions) (functions_of entries)
functions_within facts n [] ranged = All-nil _
functions_within facts n (e ∷ es) ranged =
    All-cons (λ f. f < length facts.program.functions) e.0.function (functions_of es) (All-head (IsEntryInRange facts n) e es ranged).function
    (functions_within facts n es (All-tail (IsEntryInRange facts n) e es ranged))
