-- What one label may be outside, where that is just one.
use Rattle.std.proofs.Common.{◌≡◌, ◌<◌, ◌+◌, ℕ, List, [], ◌∷◌, length, get_or, refl, sym, subst, arith}
use Rattle.lk_facts.specs.Flow.{Flow, IsOnly, Over}
use Rattle.lk_facts.specs.Lists.{Lists}
use Rattle.lk_facts.specs.declared.way.Way.{Way}
use Rattle.lk_links.proofs.SetLemmas.{has_id-at, has_id-one, place_of_id}
use Rattle.lk_links.specs.Only.{AreOver}

module _ (P : ℕ → Type 0) (ids : List ℕ) (lists : Lists P ids) where
  -- the one of a list of one is the only one
  pub only_listed : length ids ≡ 1 → IsOnly P (get_or ids 0 0)
  only_listed single = record {
    holds = (lists.members _).0 (has_id-at ids 0 0 (omega (arith, single)));
    only = λ y holds.
        let at = place_of_id ids y ((lists.members y).1 holds) in
        let first : at.0 ≡ 0 = omega (arith, at.1, single) in
        sym (subst (λ j. get_or ids j 0 ≡ y) first at.2);
  }

  -- there is no only one in a list of none or several
  pub none_only : (length ids ≡ 1 → ⊥) → (x : ℕ) → IsOnly P x → ⊥
  none_only other x only =
      let at = place_of_id ids x ((lists.members x).1 only.holds) in
      let several : 0 + 1 < length ids = omega (arith, at.1, other) in
      let first : get_or ids 0 0 ≡ x = only.only _ ((lists.members _).0 (has_id-at ids 0 0 (omega (arith, several)))) in
      let second : get_or ids 1 0 ≡ x = only.only _ ((lists.members _).0 (has_id-at ids 1 0 several)) in
      let less : get_or ids 0 0 < get_or ids 1 0 = lists.sorted 0 several in
      absurd (omega (arith, first, second, less))

-- what the one label of a list may be outside
pub over_one : (flow : Flow) (way : Way) (x : ℕ) (ids : List ℕ) → Lists (AreOver flow way (x ∷ [])) ids → Lists (Over flow way x) ids
over_one flow way x ids lists = record {
  sorted = lists.sorted;
  members = λ m. (
    λ there. let found = (lists.members m).0 there in subst (λ y. Over flow way y m) ((has_id-one x found.0).0 found.1) found.2,
    λ over. (lists.members m).1 (x, (has_id-one x x).1 refl, over),
  );
}
