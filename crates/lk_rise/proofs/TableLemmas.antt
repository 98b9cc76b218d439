-- Tables of items: what is left of the locks of an item, and what a table has once they were put.
use Rattle.std.proofs.Common.{◌≡◌, ◌<◌, ◌+◌, ◌&&◌, ℕ, zero, suc, Bool, true, false, cond, List, [], ◌∷◌, length, All, Option, Some, None, is_some, slice_get, refl, sym, ap, ◌∙◌, subst, inl, inr, sum_by, arith}
use Rattle.std.specs.List.{list_all}
use Rattle.std.specs.List.Sorted.{IsStrictlyIncreasing}
use Rattle.std.specs.Map.{values_of}
use Rattle.std.specs.Option.{option_map, option_map_or, unwrap_or}
use Rattle.std.proofs.lemmas.List.Elements.{All-cons, All-head, All-tail}
use Rattle.std.proofs.lemmas.List.Sums.{sum_by-cons}
use Rattle.std.proofs.lemmas.Map.Entries.{place_from_lookup}
use Rattle.std.proofs.lemmas.Option.{slice_get_cases}
use Rattle.std.proofs.lemmas.Bool.{and_from, and_parts, and_right, false≢true}
use Rattle.indexmap.specs.IndexMap.{insert_entry}
use Rattle.lk_rise.specs.declared.correlations.Correlation.{Correlation}
use Rattle.lk_rise.specs.Correlations.{is_same, set_of, has_item, AreCorrelations}
use Rattle.lk_rise.specs.Tables.{IsLeft, IsWithin, item_at, weight}
use Rattle.lk_rise.proofs.ItemLemmas.{same_item}
use Rattle.lk_links.proofs.SetLemmas.{all_pass, one_fails, shorter}
use Rattle.lk_sets.proofs.Members.{same_answers}
use Rattle.lk_sets.specs.Ids.{has_id, IsSetOf}

module _ (entries : List (Correlation × List ℕ)) (item : Correlation) (set : List ℕ) where
  -- a set whose numbers are all in the other stays
  pub left_all : (old : List ℕ) → set_of entries item ≡ Some old → list_all (has_id set) old ≡ true → IsWithin entries item set
  left_all old is all = record { old = old; there = is; within = λ x there. all_pass (has_id set) old all x there }

  -- of a new item all is left
  pub left_copy : (copy : List ℕ) → set_of entries item ≡ None → IsSetOf (has_id set) copy → IsLeft entries item set copy
  left_copy copy is copied = record {
    sorted = copied.sorted;
    members = λ x. copied.members x ∙ same_answers (has_id set x) (has_id set x && option_map_or (λ old. has_id old x) (set_of entries item) true)
        (λ there. and_from (has_id set x) _ there (ap (λ o. option_map_or (λ old. has_id old x) o true) is))
        (λ both. (and_parts (has_id set x) _ both).0);
    lighter = λ old there. absurd (false≢true (ap is_some (sym is ∙ there)));
  }

  -- of an old one less is left, where a number isn't in the other
  pub left_met : (old met : List ℕ) → set_of entries item ≡ Some old → IsStrictlyIncreasing old → list_all (has_id set) old ≡ false → IsSetOf (λ x. has_id old x && has_id set x) met → IsLeft entries item set met
  left_met old met is up lacks both =
      let found = one_fails (has_id set) old lacks in
      record {
        sorted = both.sorted;
        members = λ x. both.members x ∙
            (let here : option_map_or (λ other. has_id other x) (set_of entries item) true ≡ has_id old x = ap (λ o. option_map_or (λ other. has_id other x) o true) is in
            same_answers (has_id old x && has_id set x) (has_id set x && option_map_or (λ other. has_id other x) (set_of entries item) true)
            (λ h. let parts = and_parts (has_id old x) (has_id set x) h in and_from (has_id set x) _ parts.1 (here ∙ parts.0))
            (λ h. let parts = and_parts (has_id set x) _ h in and_from (has_id old x) _ (sym here ∙ parts.1) parts.0));
        lighter = λ other there.
            let same : old ≡ other = ap (λ o. unwrap_or o old) (sym is ∙ there) in
            subst (λ list. length met < length list) same
            (shorter met old both.sorted up (λ x there. (and_parts (has_id old x) (has_id set x) (sym (both.members x) ∙ there)).0) found.0 found.1 (both.members found.0 ∙ and_right (has_id old found.0) _ found.2));
      }

module _ (item : Correlation) (left : List ℕ) where
  -- an item keeps its place when a set is put
  pub item_at-insert : (entries : List (Correlation × List ℕ)) (i : ℕ) (other : Correlation) → item_at entries i ≡ Some other → item_at (insert_entry is_same entries item left) i ≡ Some other
  item_at-insert [] i other at = absurd (false≢true (ap is_some at))
  item_at-insert (e ∷ es) zero other at = by_test (is_same item e.0)
    where
      by_test : (b : Bool) → item_at (cond b ((e.0, left) ∷ es) (e ∷ insert_entry is_same es item left)) zero ≡ Some other
      by_test true = at
      by_test false = at
  item_at-insert (e ∷ es) (suc i) other at = by_test (is_same item e.0) (item_at-insert es i other at)
    where
      by_test : (b : Bool) → item_at (insert_entry is_same es item left) i ≡ Some other → item_at (cond b ((e.0, left) ∷ es) (e ∷ insert_entry is_same es item left)) (suc i) ≡ Some other
      by_test true rest = at
      by_test false rest = rest

  -- what holds of each entry holds once it holds of the one that is put
  pub All-insert : (P : Correlation × List ℕ → Type 0) (entries : List (Correlation × List ℕ)) → All P entries → P (item, left) → All P (insert_entry is_same entries item left)
  All-insert P [] all here = All-cons P (item, left) [] here all
  All-insert P (e ∷ es) all here = by_test (is_same item e.0) refl (All-insert P es (All-tail P e es all) here)
    where
      by_test : (b : Bool) → is_same item e.0 ≡ b → All P (insert_entry is_same es item left) → All P (cond b ((e.0, left) ∷ es) (e ∷ insert_entry is_same es item left))
      by_test true is rest = All-cons P (e.0, left) es (subst (λ other. P (other, left)) (same_item item e.0 is) here) (All-tail P e es all)
      by_test false is rest = All-cons P e (insert_entry is_same es item left) (All-head P e es all) rest

  -- the locks that an item had are exchanged for the set
  pub weight-insert : (entries : List (Correlation × List ℕ)) (old : List ℕ) → set_of entries item ≡ Some old → weight (insert_entry is_same entries item left) + length old ≡ weight entries + length left
  unfolding weight
  weight-insert [] old is = absurd (false≢true (ap is_some is))
  weight-insert (e ∷ es) old is = by_test (is_same item e.0) is (weight-insert es old)
    where
      by_test : (b : Bool) → cond b (Some e.1) (set_of es item) ≡ Some old → (set_of es item ≡ Some old → sum_by length (values_of (insert_entry is_same es item left)) + length old ≡ sum_by length (values_of es) + length left) →
          sum_by length (values_of (cond b ((e.0, left) ∷ es) (e ∷ insert_entry is_same es item left))) + length old ≡ sum_by length (values_of (e ∷ es)) + length left
      by_test true found rest =
          let same : length e.1 ≡ length old = ap (λ o. option_map_or length o 0) found in
          let more : sum_by length (values_of ((e.0, left) ∷ es)) ≡ length left + sum_by length (values_of es) = sum_by-cons length left (values_of es) in
          let here : sum_by length (values_of (e ∷ es)) ≡ length e.1 + sum_by length (values_of es) = sum_by-cons length e.1 (values_of es) in
          let sums : sum_by length (values_of ((e.0, left) ∷ es)) + length old ≡ sum_by length (values_of (e ∷ es)) + length left = omega (arith, same, more, here) in
          sums
      by_test false found rest =
          let more : sum_by length (values_of (e ∷ insert_entry is_same es item left)) ≡ length e.1 + sum_by length (values_of (insert_entry is_same es item left)) = sum_by-cons length e.1 (values_of (insert_entry is_same es item left)) in
          let here : sum_by length (values_of (e ∷ es)) ≡ length e.1 + sum_by length (values_of es) = sum_by-cons length e.1 (values_of es) in
          let sums : sum_by length (values_of (e ∷ insert_entry is_same es item left)) + length old ≡ sum_by length (values_of (e ∷ es)) + length left = omega (arith, rest found, more, here) in
          sums

-- the item of a known entry
pub item_at_known : (entries : List (Correlation × List ℕ)) (k : ℕ) (item : Correlation) (set : List ℕ) → slice_get entries k ≡ Some (item, set) → item_at entries k ≡ Some item
item_at_known entries k item set is = ap (option_map (λ e. e.0)) is

-- a place of an item is within the table
pub place_within : (entries : List (Correlation × List ℕ)) (k : ℕ) (item : Correlation) → item_at entries k ≡ Some item → k < length entries
place_within entries k item at =
    elim (slice_get_cases entries k).1 [
      | inl found ↦ found.1
      | inr past ↦ absurd (false≢true (subst (λ o. is_some (option_map (λ (e : Correlation × List ℕ). e.0) o) ≡ true) past.1 (ap is_some at)))
    ]

-- and each place within it has one
pub item_there : (entries : List (Correlation × List ℕ)) (k : ℕ) → k < length entries → (item : Correlation) × (item_at entries k ≡ Some item)
item_there entries k within =
    elim (slice_get_cases entries k).1 [
      | inl found ↦ (found.0.0, ap (option_map (λ (e : Correlation × List ℕ). e.0)) found.2)
      | inr past ↦ absurd (omega (arith, past.0))
    ]

-- an item that is there has a set
pub item_known : (entries : List (Correlation × List ℕ)) (item : Correlation) → has_item entries item ≡ true → (set : List ℕ) × (set_of entries item ≡ Some set)
item_known entries item there = known (set_of entries item) refl there
  where
    known : (o : Option (List ℕ)) → set_of entries item ≡ o → is_some o ≡ true → (set : List ℕ) × (set_of entries item ≡ Some set)
    known None is some = absurd (false≢true some)
    known (Some set) is some = (set, is)

-- and a place
pub place_of_item : (entries : List (Correlation × List ℕ)) (item : Correlation) (set : List ℕ) → set_of entries item ≡ Some set → (k : ℕ) × (slice_get entries k ≡ Some (item, set))
place_of_item entries item set is =
    let found = place_from_lookup (is_same item) entries set is in
    (found.0, subst (λ other. slice_get entries found.0 ≡ Some (other, set)) (sym (same_item item found.1 found.3)) found.2)

-- what stands at a place is there
pub at_has_item : (entries : List (Correlation × List ℕ)) (i : ℕ) (item : Correlation) → AreCorrelations entries → item_at entries i ≡ Some item → has_item entries item ≡ true
at_has_item entries i item each at = known (slice_get entries i) refl at
  where
    known : (o : Option (Correlation × List ℕ)) → slice_get entries i ≡ o → option_map (λ (e : Correlation × List ℕ). e.0) o ≡ Some item → has_item entries item ≡ true
    known None is first = absurd (false≢true (ap is_some first))
    known (Some e) is first =
        let one : e.0 ≡ item = ap (λ o. unwrap_or o item) first in
        subst (λ z. has_item entries z ≡ true) one (ap is_some (each.each i e.0 e.1 is))
