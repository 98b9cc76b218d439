-- What points release, and sets of what functions release.
use Rattle.std.proofs.Common.{◌≡◌, ◌<◌, ◌-◌, ◌+◌, ◌++◌, ◌||◌, ◌⊎◌, ◌↔◌, ℕ, Bool, true, false, List, [], ◌∷◌, length, get_or, set, replicate, All, Some, None, refl, sym, ap, ◌∙◌, subst, ⊎_elim, inl, inr, sum_by, arith}
use Rattle.std.specs.List.{list_all}
use Rattle.std.proofs.lemmas.Bool.{both_ways, cases_eq, cases_lt, false≢true, or_cases, or_left, or_right}
use Rattle.std.proofs.lemmas.List.{get_or-replicate, get_or-set_other, get_or-set_same, get_or_past, get_or_append_left, get_or_push, length_push, length-replicate, length-set}
use Rattle.std.proofs.lemmas.List.Elements.{All-push, All-replicate, All-set}
use Rattle.std.proofs.lemmas.List.Sums.{sum_by-set}
use Rattle.lk_facts.specs.Doing.{Frees, Runs}
use Rattle.lk_facts.specs.Basis.{Basis}
use Rattle.lk_facts.specs.Doing.Frees.{frees}
use Rattle.lk_facts.specs.Doing.Runs.{call, pointer}
use Rattle.lk_facts.specs.Flow.{Over}
use Rattle.lk_facts.specs.Held.{Released, Drops}
use Rattle.lk_facts.specs.Origins.{AreSetsBelow, IsSetBelow}
use Rattle.lk_facts.specs.Program.{function_at, live_at}
use Rattle.lk_facts.proofs.Ranges.{live_within}
use Rattle.lk_facts.specs.declared.way.Way.{Way}
use Rattle.lk_sets.specs.Ids.{has_id, IsSetOf}
use Rattle.lk_held.specs.Acts.{IsFreed, OneRuns}
use Rattle.lk_links.specs.Links.{AreLinksAt}
use Rattle.lk_links.specs.declared.link.Link.{Link}
use Rattle.lk_held.specs.Progress.{Progress}
use Rattle.lk_held.specs.Releasing.{has_in, Releases, room, Puts, Joins, AreSets, AreSound, Gains, HasReleased, AreReleased, AreDropped, IsOutside}
use Rattle.lk_held.proofs.ActLemmas.{frees_no_run, link_runs, run_link}
use Rattle.lk_links.proofs.SetLemmas.{All-from_has_id, All-has_id, all_pass, at_most, has_id-one, one_fails, shorter}

module _ (basis : Basis) (releases : ℕ → ℕ → Type 0) (p : ℕ) where
  -- a point that frees a mutex releases that alone
  pub dropped_one : (m : ℕ) → IsFreed basis p (Some m) → (x : ℕ) → (has_id (m ∷ []) x ≡ true) ↔ Drops basis releases p x
  dropped_one m freed x = (
    λ there. subst (Drops basis releases p) (sym ((has_id-one m x).0 there)) (Drops.itself freed.holds.1),
    λ drops. (has_id-one m x).1 (at_drop x drops),
  )
    where
      at_drop : (x : ℕ) → Drops basis releases p x → x ≡ m
      at_drop x (Drops.itself {f} it) = freed.only x (f, it)
      at_drop x (Drops.callee {f} {g} {y} {way} runs _ _) = absurd (frees_no_run basis p freed.holds.1 runs)

  -- other points release what the functions do that they run, as it is outside them
  pub dropped_outside : (links : List Link) → AreLinksAt basis p links → IsFreed basis p None → (x : ℕ) → OneRuns links (IsOutside basis.flow releases x) ↔ Drops basis releases p x
  dropped_outside links are none x =
      (λ found. Drops.callee (link_runs basis p links are found.0 found.1 found.2) found.3.1 found.3.2, at_drop)
    where
      at_drop : Drops basis releases p x → OneRuns links (λ link. (y : ℕ) × releases link.below y × Over basis.flow link.way y x)
      at_drop (Drops.itself {f} it) = absurd (none x (f, it))
      at_drop (Drops.callee {f} {g} {y} {way} runs rel over) = run_link basis p links are (λ w h. (y : ℕ) × releases h y × Over basis.flow w y x) f g way runs (y, rel, over)

-- what a point may drop, by less of what functions release
pub drops_map : (basis : Basis) (R S : ℕ → ℕ → Type 0) → ((g y : ℕ) → R g y → S g y) → {p x : ℕ} → Drops basis R p x → Drops basis S p x
drops_map basis R S to (Drops.itself it) = Drops.itself it
drops_map basis R S to (Drops.callee {g} {y} runs rel over) = Drops.callee runs (to g y rel) over

-- where the set has all numbers, they have joined it
pub joins_same : (old : List (List ℕ)) (place : ℕ) (set ids : List ℕ) → set ≡ get_or old place [] → list_all (has_id set) ids ≡ true → Joins old old place ids false
joins_same old place set ids is all = record {
  puts = λ changed. absurd (both_ways false refl changed);
  same = λ _. refl;
  had = λ _ x there. subst (λ s. has_id s x ≡ true) is (all_pass (has_id set) ids all x there);
}

-- else the union joins in its place
pub joins_more : (old : List (List ℕ)) (place : ℕ) (had ids joined : List ℕ) → had ≡ get_or old place [] → list_all (has_id had) ids ≡ false → IsSetOf (λ x. has_id had x || has_id ids x) joined → Joins old (set old place joined) place ids true
joins_more old place had ids joined is lacks union = record {
  puts = λ _.
      let found = one_fails (has_id had) ids lacks in
      record {
        set = joined;
        union = record { sorted = union.sorted; members = λ x. union.members x ∙ ap (λ s. has_id s x || has_id ids x) is };
        is = refl;
        more = (found.0, found.1, subst (λ s. has_id s found.0 ≡ false) is found.2);
      };
  same = λ none. absurd (both_ways true none refl);
  had = λ none. absurd (both_ways true none refl);
}

-- what is in a set once another was put at a place
put_there : (old : List (List ℕ)) (place : ℕ) (ids : List ℕ) → place < length old → get_or (set old place ids) place [] ≡ ids
put_there old place ids within = get_or-set_same old place ids [] within

module _ (n : ℕ) (old new : List (List ℕ)) (place : ℕ) (ids : List ℕ) (within : place < length old) (below : AreSetsBelow n old) (small : All (λ x. x < n) ids) (puts : Puts old new place ids) where
  old_set : IsSetBelow n (get_or old place [])
  old_set = below.each place [] within

  new_set : IsSetBelow n puts.set
  new_set = record {
    sorted = puts.union.sorted;
    below = All-from_has_id (λ x. x < n) puts.set (λ x there.
        ⊎_elim (λ before. All-has_id (λ y. y < n) (get_or old place []) x old_set.below before) (λ now. All-has_id (λ y. y < n) ids x small now)
        (or_cases (has_in old place x) (has_id ids x) (sym (puts.union.members x) ∙ there)));
  }

  pub puts_below : AreSetsBelow n new
  puts_below = subst (AreSetsBelow n) (sym puts.is) (record { each = All-set (IsSetBelow n) old place puts.set new_set below.each })

  -- the sets have less room
  pub puts_falls : room n new < room n old
  unfolding room
  puts_falls =
      let more = puts.more in
      let longer : length (get_or old place []) < length puts.set =
      shorter (get_or old place []) puts.set old_set.sorted puts.union.sorted (λ x there. puts.union.members x ∙ or_left _ _ there) more.0 (puts.union.members more.0 ∙ or_right (has_in old place more.0) _ more.1) more.2 in
      let few = at_most n puts.set new_set.sorted new_set.below in
      let sums = sum_by-set (λ s. n - length s) old place puts.set [] within in
      subst (λ sets. sum_by (λ s. n - length s) sets < sum_by (λ s. n - length s) old) (sym puts.is) (omega arith)

-- what the sets have then
module _ (old new : List (List ℕ)) (place : ℕ) (ids : List ℕ) (within : place < length old) where
  put_has : Puts old new place ids → (f x : ℕ) → has_in new f x ≡ true → (has_in old f x ≡ true) ⊎ ((f ≡ place) × (has_id ids x ≡ true))
  put_has puts f x there =
      let there' : has_id (get_or (set old place puts.set) f []) x ≡ true = subst (λ sets. has_in sets f x ≡ true) puts.is there in
      elim (cases_eq f place) [
        | inl same ↦
            let here : has_id puts.set x ≡ true = subst (λ s. has_id s x ≡ true) (ap (λ k. get_or (set old place puts.set) k []) same ∙ put_there old place puts.set within) there' in
            elim (or_cases (has_in old place x) (has_id ids x) (sym (puts.union.members x) ∙ here)) [
              | inl before ↦ inl (subst (λ k. has_in old k x ≡ true) (sym same) before)
              | inr now ↦ inr (same, now)
            ]
        | inr other ↦ inl (subst (λ s. has_id s x ≡ true) (get_or-set_other old place f puts.set [] other) there')
      ]

  put_kept : Puts old new place ids → (f x : ℕ) → (has_in old f x ≡ true) ⊎ ((f ≡ place) × (has_id ids x ≡ true)) → has_in new f x ≡ true
  put_kept puts f x either =
      subst (λ sets. has_in sets f x ≡ true) (sym puts.is)
      (elim (cases_eq f place) [
        | inl same ↦
            let here : has_id puts.set x ≡ true = puts.union.members x ∙ ⊎_elim (λ before. or_left _ _ (subst (λ k. has_in old k x ≡ true) same before)) (λ now. or_right (has_in old place x) _ now.1) either in
            subst (λ s. has_id s x ≡ true) (sym (ap (λ k. get_or (set old place puts.set) k []) same ∙ put_there old place puts.set within)) here
        | inr other ↦
            subst (λ s. has_id s x ≡ true) (sym (get_or-set_other old place f puts.set [] other))
            (⊎_elim (λ before. before) (λ now. absurd (other now.0)) either)
      ])

  -- a number is in a set where it was, or where it joined
  pub joined_has : (changed : Bool) → Joins old new place ids changed → (f x : ℕ) → has_in new f x ≡ true → (has_in old f x ≡ true) ⊎ ((f ≡ place) × (has_id ids x ≡ true))
  joined_has true joins f x there = put_has (joins.puts refl) f x there
  joined_has false joins f x there = inl (subst (λ sets. has_in sets f x ≡ true) (joins.same refl) there)

  pub joined_kept : (changed : Bool) → Joins old new place ids changed → (f x : ℕ) → (has_in old f x ≡ true) ⊎ ((f ≡ place) × (has_id ids x ≡ true)) → has_in new f x ≡ true
  joined_kept true joins f x either = put_kept (joins.puts refl) f x either
  joined_kept false joins f x either =
      subst (λ sets. has_in sets f x ≡ true) (sym (joins.same refl))
      (⊎_elim (λ before. before) (λ now. subst (λ k. has_in old k x ≡ true) (sym now.0) (joins.had refl x now.1)) either)

module _ (basis : Basis) where
  function_frees : {p f x : ℕ} → Frees basis p f x → function_at basis.program p ≡ Some f
  function_frees (frees a does at) = does.of

  function_runs : {p f g : ℕ} {way : Way} → Runs basis p f way g → function_at basis.program p ≡ Some f
  function_runs (call _ i does at) = does.of
  function_runs (pointer _ a i does may) = does.of

  -- where sets are sound a point's function releases what the point does
  pub drops_released : (sets : List (List ℕ)) (p f x : ℕ) → AreSound basis sets → function_at basis.program p ≡ Some f → Drops basis (Releases sets) p x → Released basis f x
  drops_released sets p f x sound of (Drops.itself {f = g} it) =
      let same : g ≡ f = cc (function_frees it) in
      subst (λ h. Released basis h x) same (Released.itself it)
  drops_released sets p f x sound of (Drops.callee {f = h} {g} {y} {way} runs rel over) =
      let same : h ≡ f = cc (function_runs runs) in
      subst (λ k. Released basis k x) same (Released.callee runs (sound g y rel) over)

  -- what a point releases joins the set of its function
  pub released_more : (old new : List (List ℕ)) (p f : ℕ) (ids : List ℕ) (changed : Bool) → f < length basis.program.functions → AreSets basis old → function_at basis.program p ≡ Some f → ((x : ℕ) → (has_id ids x ≡ true) ↔ Drops basis (Releases old) p x) → All (λ x. x < length basis.labels.entries) ids → Joins old new f ids changed → Progress (room (length basis.labels.entries)) (Gains basis) (HasReleased basis p) old new changed
  released_more old new p f ids changed within sets of drops small joins =
      let inside : f < length old = omega (arith, sets.all) in
      record {
        keeps = record {
          sets = λ _. at_change changed joins;
          kept = λ g x there. joined_kept old new f ids inside changed joins g x (inl there);
          sound = λ sound g x there.
              ⊎_elim (sound g x) (λ now. drops_released old p g x sound (of ∙ ap Some (sym now.0)) ((drops x).0 now.1)) (joined_has old new f ids inside changed joins g x there);
        };
        falls = λ yes. puts_falls (length basis.labels.entries) old new f ids inside sets.below small (joins.puts yes);
        same = joins.same;
        done = λ none g x of' there.
            let here : g ≡ f = cc in
            joined_kept old new f ids inside changed joins g x (inr (here, (drops x).1 (subst (λ s. Drops basis (Releases s) p x) (joins.same none) there)));
      }
    where
      at_change : (b : Bool) → Joins old new f ids b → AreSets basis new
      at_change true joined =
          let puts = joined.puts refl in
          record {
            all = ap length puts.is ∙ length-set old f puts.set ∙ sets.all;
            below = puts_below (length basis.labels.entries) old new f ids (omega (arith, sets.all)) sets.below small puts;
          }
      at_change false joined = subst (AreSets basis) (sym (joined.same refl)) sets

  pub gains_none : (sets : List (List ℕ)) → Gains basis sets sets
  gains_none sets = record { sets = λ are. are; kept = λ f x there. there; sound = λ sound. sound }

  pub gains_more : (old mid new : List (List ℕ)) → Gains basis old mid → Gains basis mid new → Gains basis old new
  gains_more old mid new first second = record {
    sets = λ are. second.sets (first.sets are);
    kept = λ f x there. second.kept f x (first.kept f x there);
    sound = λ sound. second.sound (first.sound sound);
  }

  -- a point that isn't live releases nothing
  pub dead_releases : (sets : List (List ℕ)) (p : ℕ) → live_at basis.program p ≡ false → HasReleased basis p sets
  dead_releases sets p dead f x of (Drops.itself it) = absurd (dead_frees it)
    where
      dead_frees : {f x : ℕ} → Frees basis p f x → ⊥
      dead_frees (frees a does at) = both_ways (live_at basis.program p) dead does.live
  dead_releases sets p dead f x of (Drops.callee runs _ _) = absurd (dead_runs runs)
    where
      dead_runs : {f g : ℕ} {way : Way} → Runs basis p f way g → ⊥
      dead_runs (call _ i does at) = both_ways (live_at basis.program p) dead does.live
      dead_runs (pointer _ a i does may) = both_ways (live_at basis.program p) dead does.live

  -- where all points have released what they do, the sets have all that functions release
  all_released : (sets : List (List ℕ)) → ((p : ℕ) → p < length basis.program.points → HasReleased basis p sets) → {f x : ℕ} → Released basis f x → has_in sets f x ≡ true
  all_released sets done (Released.itself {p} {f} {x} it) = done p (live_within basis.program p (frees_live it)) f x (function_frees it) (Drops.itself it)
    where
      frees_live : {p f x : ℕ} → Frees basis p f x → live_at basis.program p ≡ true
      frees_live (frees a does at) = does.live
  all_released sets done (Released.callee {p} {f} {g} {y} {x} runs before over) = done p (live_within basis.program p (runs_live runs)) f x (function_runs runs) (Drops.callee runs (all_released sets done before) over)
    where
      runs_live : {p f g : ℕ} {way : Way} → Runs basis p f way g → live_at basis.program p ≡ true
      runs_live (call _ i does at) = does.live
      runs_live (pointer _ a i does may) = does.live

  pub released_exact : (sets : List (List ℕ)) → AreSets basis sets → AreSound basis sets → ((p : ℕ) → p < length basis.program.points → HasReleased basis p sets) → AreReleased basis sets
  released_exact sets are sound done = record { sets = are; exact = λ f x. (sound f x, all_released sets done) }

  -- sets without numbers
  pub empty_are : AreSets basis (replicate (length basis.program.functions) [])
  empty_are = record {
    all = length-replicate (length basis.program.functions) [];
    below = record { each = All-replicate (IsSetBelow (length basis.labels.entries)) (length basis.program.functions) [] (record { sorted = λ k lt. absurd (omega arith); below = λ k d lt. absurd (omega arith) }) };
  }

  pub empty_sound : AreSound basis (replicate (length basis.program.functions) [])
  empty_sound f x there =
      let count = length basis.program.functions in
      let none : get_or (replicate count []) f [] ≡ [] = elim (cases_lt f count) [
        | inl within ↦ get_or-replicate count f [] [] within
        | inr past ↦ get_or_past (replicate count []) f [] (omega (arith, length-replicate {A = List ℕ} count []))
      ] in
      absurd (false≢true (subst (λ ids. has_id ids x ≡ true) none there))

-- what the points drop, one point more
pub dropped_more : (basis : Basis) (sets : List (List ℕ)) (i : ℕ) (old new : List (List ℕ)) (ids : List ℕ) → AreReleased basis sets → new ≡ old ++ ids ∷ [] → ((x : ℕ) → (has_id ids x ≡ true) ↔ Drops basis (Releases sets) i x) → All (λ x. x < length basis.labels.entries) ids → AreDropped basis i old → AreDropped basis (i + 1) new
dropped_more basis sets i old new ids released is here below before = record {
  all = ap length is ∙ length_push old ids ∙ ap (λ k. k + 1) before.all;
  exact = λ p x within. elim (cases_lt p i) [
    | inl earlier ↦ subst (λ s. (has_id s x ≡ true) ↔ Drops basis (Released basis) p x) (sym (ap (λ s. get_or s p []) is ∙ get_or_append_left old (ids ∷ []) [] p (omega (arith, before.all)))) (before.exact p x earlier)
    | inr last ↦
        let same : i ≡ p = omega arith in
        let there : get_or new i [] ≡ ids = ap (λ s. get_or s i []) is ∙ get_or_push old ids [] i before.all in
        subst (λ q. (has_id (get_or new q []) x ≡ true) ↔ Drops basis (Released basis) q x) same
        (subst (λ s. (has_id s x ≡ true) ↔ Drops basis (Released basis) i x) (sym there)
        (λ has. drops_map basis (Releases sets) (Released basis) (λ g y. (released.exact g y).0) ((here x).0 has), λ drops. (here x).1 (drops_map basis (Released basis) (Releases sets) (λ g y. (released.exact g y).1) drops)))
  ];
  below = subst (All (All (λ x. x < length basis.labels.entries))) (sym is) (All-push (All (λ x. x < length basis.labels.entries)) old ids before.below below);
}
