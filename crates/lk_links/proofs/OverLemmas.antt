-- What a lock set holds for a lock, and the one label that a label is outside.
use Rattle.std.proofs.Common.{◌≡◌, ◌<◌, ◌⊎◌, ◌↔◌, ℕ, Bool, true, false, eqb, Option, Some, None, List, [], ◌∷◌, ◌++◌, All, refl, sym, ap, ◌∙◌, subst, ⊎_elim, inl, inr, IsTrue, arith}
use Rattle.std.specs.List.{flat_map, position_or_len, slice_get}
use Rattle.std.specs.Option.{option_map_or, unwrap_or}
use Rattle.std.proofs.lemmas.Bool.{both_ways, false≢true, or_cases, or_left, or_right}
use Rattle.std.proofs.lemmas.Option.{slice_get_cases}
use Rattle.lk_facts.specs.Flow.{Flow, IsOnly, Over, Up, MeansOnly, IsHeldAs, RisesAs}
use Rattle.lk_facts.specs.Flow.IsHeldAs.{place, itself}
use Rattle.lk_facts.specs.Origins.{OriginTable, AreOriginsInRange, IsCrossingInRange, IsSetBelow, cross_of, flow_of, outside_of}
use Rattle.lk_facts.specs.declared.crossing.Crossing.{Crossing}
use Rattle.lk_facts.specs.declared.way.Way.{Way}
use Rattle.lk_facts.specs.declared.way.Way.TheVariants.{Through, AsValue}
use Rattle.lk_sets.specs.Ids.{has_id}
use Rattle.lk_sets.specs.Rows.{Rows, IsSquare, HasNoneBetween, has, row_of}
use Rattle.lk_sets.proofs.Reading.{has_id-row}
use Rattle.lk_sets.proofs.Rising.{has_id-append}
use Rattle.lk_links.specs.Only.{Crosses, OneHas, IsSome, AreOver, crossing_list, over_list}
use Rattle.lk_links.proofs.SetLemmas.{All-has_id, has_id-flat_map, has_id-one}

-- x is held as the one place that it can mean
pub held_place : (flow : Flow) (x q : ℕ) → MeansOnly flow x q → IsOnly (IsHeldAs flow x) q
held_place flow x q means = record {
  holds = place means;
  only = λ n held. at_held n held;
}
  where
    at_held : (n : ℕ) → IsHeldAs flow x n → n ≡ q
    at_held n (place {q = o} other) = means.only o other.holds
    at_held n (itself none) = absurd (none q means)

-- else x is held as itself
pub held_itself : (flow : Flow) (x : ℕ) → ((q : ℕ) → MeansOnly flow x q → ⊥) → IsOnly (IsHeldAs flow x) x
held_itself flow x none = record {
  holds = itself none;
  only = λ n held. at_held n held;
}
  where
    at_held : (n : ℕ) → IsHeldAs flow x n → n ≡ x
    at_held n (place {q = o} means) = absurd (none o means)
    at_held n (itself other) = refl

-- where x is one label outside, it rises as what is held for that
pub risen : (flow : Flow) (way : Way) (x m y : ℕ) → Up flow way x m → IsOnly (IsHeldAs flow m) y → IsOnly (RisesAs flow way x) y
risen flow way x m y up held = record {
  holds = (m, up, held.holds);
  only = λ z rises.
      let same : rises.0 ≡ m = up.only rises.0 rises.1.holds in
      held.only z (subst (λ o. IsHeldAs flow o z) same rises.2);
}

-- else it doesn't rise
pub not_risen : (flow : Flow) (way : Way) (x : ℕ) → ((m : ℕ) → Up flow way x m → ⊥) → (y : ℕ) → RisesAs flow way x y → ⊥
not_risen flow way x none y rises = none rises.0 rises.1

-- what crosses a site is a label
cross_within : (origins : OriginTable) → AreOriginsInRange origins → (i x m : ℕ) → has_id (cross_of origins i x) m ≡ true → m < origins.all.size
cross_within origins ranged i x m there =
    elim (slice_get_cases origins.crossings i).1 [
      | inl found ↦
          let crossing = found.0 in
          let place = position_or_len (λ y. eqb y x) crossing.inside in
          let known : IsCrossingInRange origins.all.size crossing = subst (IsCrossingInRange origins.all.size) found.3 (ranged.crossings i crossing found.1) in
          let there' : has_id (unwrap_or (slice_get crossing.outside place) []) m ≡ true = subst (λ o. has_id (option_map_or (λ (c : Crossing). outside_of c x) o []) m ≡ true) found.2 there in
          elim (slice_get_cases crossing.outside place).1 [
            | inl list ↦
                let set : IsSetBelow origins.all.size list.0 = subst (IsSetBelow origins.all.size) list.3 (known.outside.each place list.0 list.1) in
                All-has_id (λ y. y < origins.all.size) list.0 m set.below (subst (λ o. has_id (unwrap_or o []) m ≡ true) list.2 there')
            | inr past ↦ absurd (false≢true (subst (λ o. has_id (unwrap_or o []) m ≡ true) past.1 there'))
          ]
      | inr past ↦ absurd (false≢true (subst (λ o. has_id (option_map_or (λ (c : Crossing). outside_of c x) o []) m ≡ true) past.1 there))
    ]

-- what crosses a site, or is an origin of it, is a label
pub crossing_within : (origins : OriginTable) → AreOriginsInRange origins → IsSquare origins.all → (way : Way) (x m : ℕ) → Crosses (flow_of origins) way x m → m < origins.all.size
crossing_within origins ranged square (Through i) x m crosses = cross_within origins ranged i x m crosses
crossing_within origins ranged square (AsValue i) x m crosses = (square.within crosses.0 m crosses.2).1

-- a label outside is one by what is within the function, or by what crosses its site
pub over_parts : (flow : Flow) (way : Way) (x m : ℕ) → Over flow way x m ↔ ((flow.inner x m ≡ true) ⊎ Crosses flow way x m)
over_parts flow (Through i) x m = (λ over. over, λ parts. parts)
over_parts flow (AsValue i) x m = (λ over. over, λ parts. parts)

-- so what a label is outside is one
pub over_within : (origins : OriginTable) → AreOriginsInRange origins → IsSquare origins.all → IsSquare origins.inner → (way : Way) (x m : ℕ) → Over (flow_of origins) way x m → m < origins.all.size
over_within origins ranged all inner way x m over =
    ⊎_elim (λ within. subst (λ n. m < n) ranged.same_size (inner.within x m within).1) (crossing_within origins ranged all way x m) ((over_parts (flow_of origins) way x m).0 over)

-- what a lock set holds for a label is one
pub held_within : (origins : OriginTable) → IsSquare origins.all → (x n : ℕ) → x < origins.all.size → IsHeldAs (flow_of origins) x n → n < origins.all.size
held_within origins square x n within (place {q} means) = (square.within x q means.holds).1
held_within origins square x n within (itself none) = within

pub risen_within : (origins : OriginTable) → AreOriginsInRange origins → IsSquare origins.all → IsSquare origins.inner → (way : Way) (x y : ℕ) → RisesAs (flow_of origins) way x y → y < origins.all.size
risen_within origins ranged all inner way x y rises = held_within origins all rises.0 y (over_within origins ranged all inner way x rises.0 rises.1.holds) rises.2

-- the list of what crosses has just that
crossing_is : (origins : OriginTable) (way : Way) (x m : ℕ) → (has_id (crossing_list origins way x) m ≡ true) ↔ Crosses (flow_of origins) way x m
crossing_is origins (Through i) x m = (λ there. there, λ crosses. crosses)
crossing_is origins (AsValue i) x m =
    let lists = has_id-flat_map (row_of origins.all) (cross_of origins i x) m in (
      λ there. let found = lists.0 there in (found.0, found.1, sym (has_id-row origins.all found.0 m _ refl) ∙ found.2),
      λ crosses. lists.1 (crosses.0, crosses.1, has_id-row origins.all crosses.0 m _ refl ∙ crosses.2),
    )

-- the list of what a label is outside has just that
pub over_is : (origins : OriginTable) (way : Way) (x m : ℕ) → (has_id (over_list origins way x) m ≡ true) ↔ Over (flow_of origins) way x m
over_is origins way x m =
    let parts = has_id-append (row_of origins.inner x) (crossing_list origins way x) m in
    let row = has_id-row origins.inner x m (row_of origins.inner x) refl in
    let over = over_parts (flow_of origins) way x m in
    let crossing = crossing_is origins way x m in (
      λ there. over.1 (⊎_elim (λ inner. inl (sym row ∙ inner)) (λ crosses. inr (crossing.0 crosses)) (or_cases _ _ (sym parts ∙ there))),
      λ is. parts ∙ ⊎_elim (λ inner. or_left _ _ (row ∙ inner)) (λ crosses. or_right (has_id (row_of origins.inner x) m) _ (crossing.1 crosses)) (over.0 is),
    )

-- what some labels are outside
module _ (origins : OriginTable) (way : Way) (labels ids : List ℕ) (is : ids ≡ flat_map (over_list origins way) labels) where
  pub outside_members : (x : ℕ) → (has_id ids x ≡ true) ↔ AreOver (flow_of origins) way labels x
  outside_members x =
      let same = ap (λ list. has_id list x) is in
      let lists = has_id-flat_map (over_list origins way) labels x in (
        λ there. let found = lists.0 (sym same ∙ there) in (found.0, found.1, (over_is origins way found.0 x).0 found.2),
        λ found. same ∙ lists.1 (found.0, found.1, (over_is origins way found.0 x).1 found.2),
      )

-- a row without a first number has none
pub empty_row : (rows : Rows) (x : ℕ) → IsSquare rows → HasNoneBetween rows x 0 rows.size → (m : ℕ) → has rows x m ≡ true → ⊥
empty_row rows x square none m there = both_ways (has rows x m) (none m (omega arith) (square.within x m there).1) there

-- facts that hold of the same numbers
module _ (P Q : ℕ → Type 0) (same : (m : ℕ) → P m ↔ Q m) where
  pub some_same : (found : Option ℕ) → IsSome P found → IsSome Q found
  some_same None none = λ m holds. none m ((same m).1 holds)
  some_same (Some m) holds = (same m).0 holds

  pub only_same : (answer : Bool) (m : ℕ) → (IsTrue answer ↔ ((o : ℕ) → P o → o ≡ m)) → IsTrue answer ↔ ((o : ℕ) → Q o → o ≡ m)
  only_same answer m is = (λ yes o holds. is.0 yes o ((same o).1 holds), λ only. is.1 (λ o holds. only o ((same o).0 holds)))

-- what crosses the site of a call, and what does as a value
module _ (origins : OriginTable) (way : Way) (i x : ℕ) where
  pub call_crosses : way ≡ Through i → (m : ℕ) → (has_id (cross_of origins i x) m ≡ true) ↔ Crosses (flow_of origins) way x m
  call_crosses is m = subst (λ w. (has_id (cross_of origins i x) m ≡ true) ↔ Crosses (flow_of origins) w x m) (sym is) (λ there. there, λ crosses. crosses)

  pub value_crosses : way ≡ AsValue i → (m : ℕ) → OneHas origins.all (cross_of origins i x) m ↔ Crosses (flow_of origins) way x m
  value_crosses is m = subst (λ w. OneHas origins.all (cross_of origins i x) m ↔ Crosses (flow_of origins) w x m) (sym is) (λ there. there, λ crosses. crosses)

  pub first_value : (rows : Rows) (ids : List ℕ) (found : Option ℕ) → rows ≡ origins.all → ids ≡ cross_of origins i x → way ≡ AsValue i → IsSome (OneHas rows ids) found → IsSome (Crosses (flow_of origins) way x) found
  first_value rows ids found all cross is some =
      some_same (OneHas origins.all (cross_of origins i x)) (Crosses (flow_of origins) way x) (value_crosses is) found
      (subst (λ r. IsSome (OneHas r (cross_of origins i x)) found) all (subst (λ l. IsSome (OneHas rows l) found) cross some))

  pub only_value : (rows : Rows) (ids : List ℕ) (answer : Bool) (m : ℕ) → rows ≡ origins.all → ids ≡ cross_of origins i x → way ≡ AsValue i → (IsTrue answer ↔ ((o : ℕ) → OneHas rows ids o → o ≡ m)) → IsTrue answer ↔ ((o : ℕ) → Crosses (flow_of origins) way x o → o ≡ m)
  only_value rows ids answer m all cross is only =
      only_same (OneHas origins.all (cross_of origins i x)) (Crosses (flow_of origins) way x) (value_crosses is) answer m
      (subst (λ r. IsTrue answer ↔ ((o : ℕ) → OneHas r (cross_of origins i x) o → o ≡ m)) all (subst (λ l. IsTrue answer ↔ ((o : ℕ) → OneHas rows l o → o ≡ m)) cross only))

  pub only_call : (ids : List ℕ) (answer : Bool) (m : ℕ) → ids ≡ cross_of origins i x → way ≡ Through i → (IsTrue answer ↔ ((o : ℕ) → has_id ids o ≡ true → o ≡ m)) → IsTrue answer ↔ ((o : ℕ) → Crosses (flow_of origins) way x o → o ≡ m)
  only_call ids answer m cross is only =
      only_same (λ o. has_id (cross_of origins i x) o ≡ true) (Crosses (flow_of origins) way x) (call_crosses is) answer m
      (subst (λ l. IsTrue answer ↔ ((o : ℕ) → has_id l o ≡ true → o ≡ m)) cross only)

module _ (flow : Flow) (way : Way) (x : ℕ) where
  -- where nothing is within the function, what crosses is all
  pub some_over : (found : Option ℕ) → ((m : ℕ) → flow.inner x m ≡ true → ⊥) → IsSome (Crosses flow way x) found → IsSome (Over flow way x) found
  some_over found none is =
      some_same (Crosses flow way x) (Over flow way x)
      (λ m. (λ crosses. (over_parts flow way x m).1 (inr crosses), λ over. ⊎_elim (λ inner. absurd (none m inner)) (λ crosses. crosses) ((over_parts flow way x m).0 over)))
      found is

  -- where only m is within the function, it is the only label if it alone crosses
  pub only_over : (answer : Bool) (m : ℕ) → ((o : ℕ) → flow.inner x o ≡ true → o ≡ m) → (IsTrue answer ↔ ((o : ℕ) → Crosses flow way x o → o ≡ m)) → IsTrue answer ↔ ((o : ℕ) → Over flow way x o → o ≡ m)
  only_over answer m inner is =
      (λ yes o over. ⊎_elim (inner o) (is.0 yes o) ((over_parts flow way x o).0 over), λ only. is.1 (λ o crosses. only o ((over_parts flow way x o).1 (inr crosses))))

  -- else it isn't
  pub not_only_over : (answer : Bool) (m : ℕ) → answer ≡ false → (IsTrue answer ↔ ((o : ℕ) → flow.inner x o ≡ true → o ≡ m)) → IsTrue answer ↔ ((o : ℕ) → Over flow way x o → o ≡ m)
  not_only_over answer m fails is = (λ yes. absurd (both_ways answer fails yes), λ only. is.1 (λ o inner. only o ((over_parts flow way x o).1 (inl inner))))

-- what has risen, once one lock more has been looked at
module _ (flow : Flow) (way : Way) (x : ℕ) where
  pub risen_more : (y : ℕ) (old new : List ℕ) → IsOnly (RisesAs flow way x) y → new ≡ old ++ y ∷ [] → (z : ℕ) → (has_id new z ≡ true) ↔ ((has_id old z ≡ true) ⊎ RisesAs flow way x z)
  risen_more y old new only is z =
      let parts = ap (λ l. has_id l z) is ∙ has_id-append old (y ∷ []) z in (
        λ there. ⊎_elim (λ before. inl before) (λ now. inr (subst (RisesAs flow way x) (sym ((has_id-one y z).0 now)) only.holds)) (or_cases (has_id old z) (has_id (y ∷ []) z) (sym parts ∙ there)),
        λ either. parts ∙ ⊎_elim (λ before. or_left _ _ before) (λ rises. or_right (has_id old z) _ ((has_id-one y z).1 (only.only z rises))) either,
      )

  pub none_risen : (old new : List ℕ) → ((y : ℕ) → RisesAs flow way x y → ⊥) → new ≡ old → (z : ℕ) → (has_id new z ≡ true) ↔ ((has_id old z ≡ true) ⊎ RisesAs flow way x z)
  none_risen old new none is z =
      let same = ap (λ l. has_id l z) is in (λ there. inl (sym same ∙ there), λ either. same ∙ ⊎_elim (λ before. before) (λ rises. absurd (none z rises)) either)
