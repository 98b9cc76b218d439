-- Steps of the work on a table, one behind another.
use Rattle.std.proofs.Common.{◌≡◌, ◌<◌, ◌+◌, ◌++◌, ◌⊎◌, ℕ, Bool, true, false, cond, List, [], ◌∷◌, All, Contains, Option, Some, None, is_some, length, length-append, refl, sym, ap, ◌∙◌, subst, ⊎_elim, inl, inr, arith, below_more}
use Rattle.std.specs.Option.{option_map_or}
use Rattle.std.proofs.lemmas.Bool.{and_from, and_parts, both_ways, false≢true}
use Rattle.std.proofs.lemmas.List.Elements.{Contains-append_left, Contains-push, Contains-push_cases}
use Rattle.indexmap.specs.IndexMap.{insert_entry}
use Rattle.lk_facts.specs.Items.{LockTest}
use Rattle.lk_rise.specs.declared.correlations.Correlation.{Correlation}
use Rattle.lk_rise.specs.Correlations.{is_same, set_of, has_item, has_lock, IsEntryInRange}
use Rattle.lk_rise.specs.Rising.{subjects_below}
use Rattle.lk_rise.specs.Tables.{Setting, Fits, Offered, Puts, HasRisen, HasWithin, IsAllowed, IsSound, Grows, Steps, Works, lock_in, item_at, weight}
use Rattle.lk_links.proofs.SetLemmas.{All-from_has_id, All-has_id}
use Rattle.lk_rise.proofs.ItemLemmas.{same_item, same_itself}
use Rattle.lk_rise.proofs.TableLemmas.{item_at-insert, All-insert, weight-insert}
use Rattle.lk_sets.specs.Ids.{has_id}

module _ (s : Setting) where
  pub grows_not : (entries : List (Correlation × List ℕ)) → Grows s entries entries
  grows_not entries = record {
    places = λ i item at. at;
    kept = λ item there. there;
    fewer = λ item y there has. has;
    sound = λ sound. sound;
  }

  pub grows_more : (old mid new : List (Correlation × List ℕ)) → Grows s old mid → Grows s mid new → Grows s old new
  grows_more old mid new first second = record {
    places = λ i item at. second.places i item (first.places i item at);
    kept = λ item there. second.kept item (first.kept item there);
    fewer = λ item y there has. first.fewer item y there (second.fewer item y (first.kept item there) has);
    sound = λ sound. second.sound (first.sound sound);
  }

  -- no step
  pub steps_not : (Present : List (Correlation × List ℕ) → Type 0) (entries : List (Correlation × List ℕ)) (was : List Correlation) → Present entries → Steps s Present entries entries was was
  steps_not Present entries was present = record {
    grows = grows_not entries;
    kept = λ item set at. inl at;
    more = λ item there. there;
    there = λ all. all;
    same = λ _ item there. there;
    falls = λ _. omega arith;
    present = present;
  }

  -- one step more
  pub steps_more : (Present Step All : List (Correlation × List ℕ) → Type 0) (old mid new : List (Correlation × List ℕ)) (was between again : List Correlation) →
      ((older newer : List (Correlation × List ℕ)) → Grows s older newer → Present older → Present newer) →
      ((older newer : List (Correlation × List ℕ)) → Grows s older newer → Step older → Step newer) →
      ((entries : List (Correlation × List ℕ)) → All entries → Present entries × Step entries) →
      (Present new → Step new → All new) →
      Steps s Present old mid was between → Steps s Step mid new between again → Steps s All old new was again
  steps_more Present Step All old mid new was between again stays step_stays parts both first second = record {
    grows = grows_more old mid new first.grows second.grows;
    kept = λ item set at. ⊎_elim (λ same. second.kept item set same) (λ there. inr (second.more item there)) (first.kept item set at);
    more = λ item there. second.more item (first.more item there);
    there = λ all. second.there (first.there all);
    same = λ present item there.
        let apart = parts old present in
        first.same apart.0 item (second.same (step_stays old mid first.grows apart.1) item there);
    falls = λ present.
        let apart = parts old present in
        omega (arith, first.falls apart.0, second.falls (step_stays old mid first.grows apart.1));
    present = both (stays mid new second.grows first.present) second.present;
  }

  -- steps, said in other words
  pub steps_as : (Present Other : List (Correlation × List ℕ) → Type 0) (old new : List (Correlation × List ℕ)) (was again : List Correlation) →
      (Other old → Present old) → (Present new → Other new) → Steps s Present old new was again → Steps s Other old new was again
  steps_as Present Other old new was again back there steps = record {
    grows = steps.grows;
    kept = steps.kept;
    more = steps.more;
    there = steps.there;
    same = λ present. steps.same (back present);
    falls = λ present. steps.falls (back present);
    present = there steps.present;
  }

  -- one number more
  pub steps_below : (Step : ℕ → List (Correlation × List ℕ) → Type 0) (i : ℕ) (old mid new : List (Correlation × List ℕ)) (was between again : List Correlation) →
      ((k : ℕ) (older newer : List (Correlation × List ℕ)) → Grows s older newer → Step k older → Step k newer) →
      Steps s (λ entries. (k : ℕ) → k < i → Step k entries) old mid was between → Steps s (Step i) mid new between again → Steps s (λ entries. (k : ℕ) → k < i + 1 → Step k entries) old new was again
  steps_below Step i old mid new was between again stays =
      steps_more (λ entries. (k : ℕ) → k < i → Step k entries) (Step i) (λ entries. (k : ℕ) → k < i + 1 → Step k entries) old mid new was between again
      (λ older newer grows present k below. stays k older newer grows (present k below))
      (λ older newer grows present. stays i older newer grows present)
      (λ entries all. (λ k below. all k (omega arith), all i (omega arith)))
      (λ before here. below_more (λ k. Step k new) i before here)

  pub works_below : (Step Now : ℕ → List (Correlation × List ℕ) → Type 0) (i : ℕ) (old mid new : List (Correlation × List ℕ)) (was between again : List Correlation) →
      ((k : ℕ) (older newer : List (Correlation × List ℕ)) → Grows s older newer → Step k older → Step k newer) →
      ((k : ℕ) (older newer : List (Correlation × List ℕ)) → Grows s older newer → Step k older → Now k older → Now k newer) →
      Works s (λ entries. (k : ℕ) → k < i → Step k entries) (λ entries. (k : ℕ) → k < i → Now k entries) old mid was between → Works s (Step i) (Now i) mid new between again →
      Works s (λ entries. (k : ℕ) → k < i + 1 → Step k entries) (λ entries. (k : ℕ) → k < i + 1 → Now k entries) old new was again
  works_below Step Now i old mid new was between again stays now_stays first second = record {
    steps = steps_below Step i old mid new was between again stays first.steps second.steps;
    done = below_more (λ k. Now k new) i (λ k below. now_stays k mid new second.steps.grows (first.steps.present k below) (first.done k below)) second.done;
  }

  -- a table in which what is left was put
  module _ (old new : List (Correlation × List ℕ)) (item : Correlation) (set : List ℕ) (puts : Puts old new item set) where
    left_among : (y : ℕ) → has_id puts.left y ≡ true → (has_id set y ≡ true) × (option_map_or (λ had. has_id had y) (set_of old item) true ≡ true)
    left_among y there = and_parts (has_id set y) _ (sym (puts.is_left.members y) ∙ there)

    -- what holds of the item and of the others holds of all
    by_item : (other : Correlation) (P : Option (List ℕ) → Type 0) → (item ≡ other → P (Some puts.left)) → P (set_of old other) → P (set_of new other)
    by_item other P here there = by_test (is_same item other) refl
      where
        by_test : (b : Bool) → is_same item other ≡ b → P (set_of new other)
        by_test true is = subst P (sym (puts.found other ∙ ap (λ c. cond c (Some puts.left) (set_of old other)) is)) (here (same_item item other is))
        by_test false is = subst P (sym (puts.found other ∙ ap (λ c. cond c (Some puts.left) (set_of old other)) is)) there

    put_fewer : (other : Correlation) (y : ℕ) → has_item old other ≡ true → has_lock new other y ≡ true → has_lock old other y ≡ true
    put_fewer other y there =
        by_item other (λ o. option_map_or (λ had. has_id had y) o false ≡ true → has_lock old other y ≡ true)
        (λ same has. subst (λ z. has_item old z ≡ true → has_lock old z y ≡ true) same (λ present. known (set_of old item) present (left_among y has).1) there)
        (λ has. has)
      where
        known : (o : Option (List ℕ)) → is_some o ≡ true → option_map_or (λ had. has_id had y) o true ≡ true → option_map_or (λ had. has_id had y) o false ≡ true
        known None present has = absurd (false≢true present)
        known (Some had) present has = has

    put_range : Fits s item set → IsEntryInRange s.facts (subjects_below s.facts s.subjects) (item, puts.left)
    put_range fits = record {
      function = fits.in_range.function;
      subject = fits.in_range.subject;
      access = fits.in_range.access;
      locks = record {
        sorted = puts.is_left.sorted;
        below = All-from_has_id (λ x. x < length s.facts.labels.entries) puts.left (λ x there. All-has_id (λ z. z < length s.facts.labels.entries) set x fits.in_range.locks.below (left_among x there).0);
      };
    }

    put_locks : Fits s item set → (other : LockTest) → IsAllowed s other → IsSound s old → (z : Correlation) (y : ℕ) → has_item new z ≡ true → lock_in other z y ≡ true → has_lock new z y ≡ true
    put_locks fits other allowed sound z y =
        by_item z (λ o. is_some o ≡ true → lock_in other z y ≡ true → option_map_or (λ had. has_id had y) o false ≡ true)
        (λ same present lock.
        let here : lock_in other item y ≡ true = subst (λ w. lock_in other w y ≡ true) (sym same) lock in
        puts.is_left.members y ∙ and_from (has_id set y) _ (fits.locks other allowed y here) (known (set_of old item) refl here))
        (λ present lock. sound.locks other allowed z y present lock)
      where
        known : (o : Option (List ℕ)) → set_of old item ≡ o → lock_in other item y ≡ true → option_map_or (λ had. has_id had y) o true ≡ true
        known None is lock = refl
        known (Some had) is lock =
            subst (λ o. is_some o ≡ true → option_map_or (λ h. has_id h y) o false ≡ true) is (λ there. sound.locks other allowed item y there lock) refl

    put_grows : Fits s item set → Grows s old new
    put_grows fits = record {
      places = λ i other at. subst (λ e. item_at e i ≡ Some other) (sym puts.is) (item_at-insert item puts.left old i other at);
      kept = λ other there. by_item other (λ o. is_some o ≡ true) (λ _. refl) there;
      fewer = put_fewer;
      sound = λ sound. record {
        in_range = subst (All (IsEntryInRange s.facts (subjects_below s.facts s.subjects))) (sym puts.is)
            (All-insert item puts.left (IsEntryInRange s.facts (subjects_below s.facts s.subjects)) old sound.in_range (put_range fits));
        items = λ other there. by_item other (λ o. is_some o ≡ true → HasRisen s other) (λ same _. subst (HasRisen s) same fits.risen) (sound.items other) there;
        locks = λ other allowed. put_locks fits other allowed sound;
      };
    }

    put_lighter : has_item old item ≡ true → weight new < weight old
    put_lighter present = known (set_of old item) refl present
      where
        known : (o : Option (List ℕ)) → set_of old item ≡ o → is_some o ≡ true → weight new < weight old
        known None is there = absurd (false≢true there)
        known (Some had) is there =
            let sums = weight-insert item puts.left old had is in
            let same : weight new ≡ weight (insert_entry is_same old item puts.left) = ap weight puts.is in
            omega (arith, sums, same, puts.is_left.lighter had is)

  -- once what is left was put the item has only locks of the set
  put_within : (old new : List (Correlation × List ℕ)) (item : Correlation) (set : List ℕ) → Puts old new item set → HasWithin item set new
  put_within old new item set puts y has =
      let here : set_of new item ≡ Some puts.left = puts.found item ∙ ap (λ b. cond b (Some puts.left) (set_of old item)) (same_itself item) in
      (left_among old new item set puts y (sym (ap (λ o. option_map_or (λ had. has_id had y) o false) here) ∙ has)).0

  put_there : (old new : List (Correlation × List ℕ)) (item : Correlation) (set : List ℕ) → Puts old new item set → has_item new item ≡ true
  put_there old new item set puts = ap is_some (puts.found item ∙ ap (λ b. cond b (Some puts.left) (set_of old item)) (same_itself item))

  -- an item that was not there was put, which is none that is to rise again
  put_new : (old new : List (Correlation × List ℕ)) (was : List Correlation) (item : Correlation) (set : List ℕ) → Fits s item set → Puts old new item set → has_item old item ≡ false →
      Works s (λ entries. has_item entries item ≡ true) (HasWithin item set) old new was was
  put_new old new was item set fits puts none =
      let grows = put_grows old new item set puts fits in
      record {
        steps = record {
          grows = grows;
          kept = λ other its.
              by_item old new item set puts other (λ o. set_of old other ≡ Some its → (o ≡ Some its) ⊎ Contains was other)
              (λ same at. absurd (both_ways (has_item old item) none (subst (λ z. has_item old z ≡ true) (sym same) (ap is_some at))))
              (λ at. inl at);
          more = λ other there. there;
          there = λ all other there. grows.kept other (all other there);
          same = λ present. absurd (both_ways (has_item old item) none present);
          falls = λ present. absurd (both_ways (has_item old item) none present);
          present = put_there old new item set puts;
        };
        done = put_within old new item set puts;
      }

  -- one that was there has fewer locks, and is to rise again
  put_fewer_again : (old new : List (Correlation × List ℕ)) (was : List Correlation) (item : Correlation) (set : List ℕ) → Fits s item set → Puts old new item set → has_item old item ≡ true →
      Works s (λ entries. has_item entries item ≡ true) (HasWithin item set) old new was (was ++ item ∷ [])
  put_fewer_again old new was item set fits puts was_there =
      let grows = put_grows old new item set puts fits in
      record {
        steps = record {
          grows = grows;
          kept = λ other its.
              by_item old new item set puts other (λ o. set_of old other ≡ Some its → (o ≡ Some its) ⊎ Contains (was ++ item ∷ []) other)
              (λ same at. inr (subst (λ z. Contains (was ++ item ∷ []) z) same (Contains-push was item)))
              (λ at. inl at);
          more = λ other there. Contains-append_left was (item ∷ []) other there;
          there = λ all other there.
              ⊎_elim (λ before. grows.kept other (all other before)) (λ same. subst (λ z. has_item new z ≡ true) same (put_there old new item set puts)) (Contains-push_cases was item other there);
          same = λ _ other.
              by_item old new item set puts other (λ o. is_some o ≡ true → has_item old other ≡ true)
              (λ same _. subst (λ z. has_item old z ≡ true) same was_there)
              (λ there. there);
          falls = λ _.
              let long : length (was ++ item ∷ []) ≡ length was + 1 = length-append was (item ∷ []) in
              omega (arith, put_lighter old new item set puts was_there, long);
          present = put_there old new item set puts;
        };
        done = put_within old new item set puts;
      }

  -- an offer is a step
  pub offered_none : (old new : List (Correlation × List ℕ)) (was : List Correlation) (item : Correlation) (set : List ℕ) → Fits s item set → Offered old new item set false →
      Works s (λ entries. has_item entries item ≡ true) (HasWithin item set) old new was was
  offered_none old new was item set fits offered =
      ⊎_elim
      (λ stays.
      let within = stays.0 in
      subst (λ entries. Works s (λ e. has_item e item ≡ true) (HasWithin item set) old entries was was) (sym stays.1)
      (record {
        steps = steps_not (λ e. has_item e item ≡ true) old was (ap is_some within.there);
        done = λ y has. within.within y (sym (ap (λ o. option_map_or (λ had. has_id had y) o false) within.there) ∙ has);
      }))
      (λ put. put_new old new was item set fits put.0 (sym put.1))
      offered

  pub offered_fewer : (old new : List (Correlation × List ℕ)) (was : List Correlation) (item : Correlation) (set : List ℕ) → Fits s item set → Offered old new item set true →
      Works s (λ entries. has_item entries item ≡ true) (HasWithin item set) old new was (was ++ item ∷ [])
  offered_fewer old new was item set fits offered =
      ⊎_elim
      (λ stays. absurd (false≢true (sym stays.2)))
      (λ put. put_fewer_again old new was item set fits put.0 (sym put.1))
      offered

  -- whatever it changes, the item is there with only locks of the set
  pub offered_grows : (old new : List (Correlation × List ℕ)) (item : Correlation) (set : List ℕ) (fewer : Bool) → Fits s item set → Offered old new item set fewer →
      Grows s old new × (has_item new item ≡ true) × HasWithin item set new
  offered_grows old new item set true fits offered = let works = offered_fewer old new [] item set fits offered in (works.steps.grows, works.steps.present, works.done)
  offered_grows old new item set false fits offered = let works = offered_none old new [] item set fits offered in (works.steps.grows, works.steps.present, works.done)
