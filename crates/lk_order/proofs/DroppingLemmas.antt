-- Which locks each way to a point lets go.
use Rattle.std.proofs.Common.{◌≡◌, ◌<◌, ◌≤◌, ◌&&◌, ◌||◌, ◌⊎◌, ◌↔◌, ℕ, Bool, true, false, cond, List, [], ◌∷◌, length, map, All, Some, None, sym, ap, ◌∙◌, subst, ⊎_elim, inl, inr, arith}
use Rattle.std.specs.Bool.{⊤}
use Rattle.std.specs.List.{range_with_len, slice_get}
use Rattle.std.specs.Option.{option_map_or, unwrap_or}
use Rattle.std.proofs.lemmas.Bool.{and_cases, and_from, and_parts, both_ways, cases_Bool, cases_lt, false≢true, false_from_ne_true, or_cases, or_parts}
use Rattle.std.proofs.lemmas.List.FromFn.{get_or-map-range_with_len, length-map-range_with_len}
use Rattle.std.proofs.lemmas.Option.{slice_get-get_or, slice_get_past}
use Rattle.lk_facts.proofs.Ranges.{live_within, lock_within}
use Rattle.lk_facts.specs.Basis.{Basis}
use Rattle.lk_facts.specs.Doing.{Runs}
use Rattle.lk_facts.specs.Held.{IsBrought}
use Rattle.lk_facts.specs.Labels.{is_lock_at}
use Rattle.lk_facts.specs.Program.{live_at, entry_of, exit_of, next_of}
use Rattle.lk_facts.specs.Reach.{IsNext}
use Rattle.lk_facts.specs.declared.way.Way.{Way}
use Rattle.lk_held.proofs.ActLemmas.{link_runs, run_link}
use Rattle.lk_held.specs.Holding.{AreMet, NoneRuns}
use Rattle.lk_held.specs.Progress.{Progress}
use Rattle.lk_links.proofs.SetLemmas.{has_id-one, All-from_has_id}
use Rattle.lk_links.specs.Links.{AreLinksAt}
use Rattle.lk_links.specs.declared.link.Link.{Link}
use Rattle.lk_order.specs.Acts.{IsDoneTo}
use Rattle.lk_order.specs.Dropped.{NotDropped, Spares}
use Rattle.lk_order.specs.Dropping.{LetsGoAt, SparesAt, AreLetGo, AreAfter, AreStates, Sheds, AreWithin, AreLost, Loses, HasPassed, AreDropped, first_set}
use Rattle.lk_order.specs.Dropping.LetsGoAt.{below as gone_below}
use Rattle.lk_order.specs.Left.{is_left, left_at, left_weight}
use Rattle.lk_order.specs.Mutexes.{let_go}
use Rattle.lk_order.specs.declared.states.States.{States}
use Rattle.lk_sets.specs.Ids.{has_id, IsSetOf}

-- what is left at a point is a label
pub left_within : (basis : Basis) (states : States) (p : ℕ) → AreStates basis states → All (λ x. x < length basis.labels.entries) (left_at states p)
left_within basis states p are = All-from_has_id (λ x. x < length basis.labels.entries) (left_at states p) (λ x there. lock_within basis.labels x (are.inside p x there))

module _ (basis : Basis) (at : ℕ → ℕ → Bool) (p : ℕ) where
  -- a point that lets a mutex go lets that alone go, where it runs no function
  pub let_go_one : (m : ℕ) → ((f g : ℕ) (way : Way) → Runs basis p f way g → ⊥) → IsDoneTo basis let_go p (Some m) → AreLetGo basis at p (m ∷ [])
  let_go_one m idle done = record {
    gone = λ x there. subst (LetsGoAt basis at p) (sym ((has_id-one m x).0 there)) (LetsGoAt.itself done.holds.1);
    spared = λ x lacks. SparesAt.runs_none (λ f lets. both_ways _ lacks ((has_id-one m x).1 (done.only x (f, lets)))) (λ f g way runs. idle f g way runs);
  }

  pub let_go_same : (ids others : List ℕ) → ((x : ℕ) → has_id ids x ≡ has_id others x) → AreLetGo basis at p others → AreLetGo basis at p ids
  let_go_same ids others same are = record {
    gone = λ x there. are.gone x (sym (same x) ∙ there);
    spared = λ x lacks. are.spared x (sym (same x) ∙ lacks);
  }

  -- other points let go what each function does that they run
  module _ (links : List Link) (are : AreLinksAt basis p links) (none : IsDoneTo basis let_go p None) where
    pub let_go_below : (ids : List ℕ) → AreMet basis at links ids → AreLetGo basis at p ids
    let_go_below ids met = record {
      gone = λ x there.
          gone_below (link_runs basis p links are met.some.0 met.some.1 met.some.2) (λ f g way runs.
          let found = run_link basis p links are (λ w h. IsBrought basis at w h x → IsBrought basis at way g x) f g way runs (λ brought. brought) in
          found.3 (met.brought x found.0 there found.1 found.2));
      spared = λ x lacks.
          let found = met.lacking x lacks in
          SparesAt.not_from (λ f lets. none x (f, lets)) (link_runs basis p links are found.0 found.1 found.2) found.3;
    }

    pub let_go_none : NoneRuns basis links → AreLetGo basis at p []
    let_go_none idle = record {
      gone = λ x there. absurd (false≢true there);
      spared = λ x lacks. SparesAt.runs_none (λ f lets. none x (f, lets)) (λ f g way runs.
          let found = run_link basis p links are (λ w h. ⊤) f g way runs tt in
          idle found.0 found.1 found.2);
    }

  -- what was let go before, and what is now
  pub after_is : (here more after : List ℕ) → ((x : ℕ) → has_id here x ≡ at p x) → ((x : ℕ) → at p x ≡ true → is_lock_at basis.labels x ≡ true) →
      AreLetGo basis at p more → ((x : ℕ) → has_id after x ≡ (has_id here x || (is_lock_at basis.labels x && has_id more x))) → AreAfter basis at p after
  after_is here more after same locks gone members = record {
    locks = λ x there. ⊎_elim (λ old. locks x (sym (same x) ∙ old)) (λ new. (and_parts (is_lock_at basis.labels x) (has_id more x) new).0) (or_cases (has_id here x) _ (sym (members x) ∙ there));
    gone = λ x there. ⊎_elim (λ old. inr (sym (same x) ∙ old)) (λ new. inl (gone.gone x (and_parts (is_lock_at basis.labels x) (has_id more x) new).1)) (or_cases (has_id here x) _ (sym (members x) ∙ there));
    spared = λ x lock lacks.
        let apart = or_parts (has_id here x) _ (sym (members x) ∙ lacks) in (
          gone.spared x (⊎_elim (λ none. absurd (both_ways _ none lock)) (λ none. none) (and_cases (is_lock_at basis.labels x) (has_id more x) apart.1)),
          sym (same x) ∙ apart.0,
        );
  }

module _ (basis : Basis) where
  -- what a table spares isn't dropped, where what it lacks isn't
  spares : (states : States) (p x : ℕ) → ((e y : ℕ) (g : ℕ) → exit_of basis.program g ≡ Some e → e < length basis.program.points) → AreLost basis states → SparesAt basis (is_left states) p x → Spares basis p x
  spares states p x exits lost (SparesAt.runs_none none runs) = Spares.runs_none none runs
  spares states p x exits lost (SparesAt.not_from none runs lacks) = Spares.not_from none runs (λ y e lock rises exit. lost e y (exits e y _ exit) lock (lacks y e lock rises exit))

  shed_states : (points ids : List ℕ) (old new : States) → Sheds basis points ids old new → AreStates basis old → AreStates basis new
  shed_states points ids old new sheds are = record {
    locks = subst (IsSetOf (is_lock_at basis.labels)) (sym sheds.locks) are.locks;
    all = sheds.long ∙ are.all;
    inside = λ p x there. are.inside p x (sheds.fewer p x there);
    entries = λ f p x live entry. false_from_ne_true (is_left new p x) (λ there. both_ways _ (are.entries f p x live entry) (sheds.fewer p x there));
  }

  -- a live point's live successors lose only what isn't let go on each way through it
  pub passed : (p : ℕ) (next after : List ℕ) (old new : States) (changed : Bool) → ((e y : ℕ) (g : ℕ) → exit_of basis.program g ≡ Some e → e < length basis.program.points) → live_at basis.program p ≡ true → next ≡ next_of basis.program p → AreAfter basis (is_left old) p after →
      Progress left_weight (Sheds basis next after) (AreWithin basis next after) old new changed → Progress left_weight (Loses basis) (HasPassed basis p) old new changed
  passed p next after old new changed exits live is are step = record {
    keeps = record {
      states = shed_states next after old new step.keeps;
      lost = λ lost q x within lock none. elim (cases_Bool (is_left old q x)) [
        | inl was ↦
            let gone = step.keeps.gone q x was none in
            let leads : IsNext basis.program p q = subst (λ ids. has_id ids q ≡ true) is gone.0 in
            let spared = are.spared x lock gone.2 in
            NotDropped.still live (leads, gone.1) (spares old p x exits lost spared.0) (lost p x (live_within basis.program p live) lock spared.1)
        | inr earlier ↦ lost q x within lock earlier
      ];
    };
    falls = step.falls;
    same = step.same;
    done = λ none live' q x leads there.
        let gone = are.gone x (step.done none q x (subst (λ ids. has_id ids q ≡ true) (sym is) leads.0) leads.1 there) in
        subst (λ (s : States). LetsGoAt basis (is_left s) p x ⊎ (is_left s p x ≡ true)) (sym (step.same none)) gone;
  }

  pub loses_more : (old mid new : States) → Loses basis old mid → Loses basis mid new → Loses basis old new
  loses_more old mid new first second = record {
    states = λ are. second.states (first.states are);
    lost = λ lost. second.lost (first.lost lost);
  }

  -- where all points have passed on what they let go, what isn't dropped on some way isn't there
  module _ (states : States) (are : AreStates basis states) (passes : (p : ℕ) → p < length basis.program.points → HasPassed basis p states) where
    mutual
      absent : {p x : ℕ} → is_lock_at basis.labels x ≡ true → NotDropped basis p x → is_left states p x ≡ true → ⊥
      absent {p} {x} lock (NotDropped.entry f live entry) there = both_ways _ (are.entries f p x live entry) there
      absent {p = q} {x} lock (NotDropped.still {p} live leads spares before) there =
          ⊎_elim (spared lock spares) (absent lock before) (passes p (live_within basis.program p live) live q x leads there)

      spared : {p x : ℕ} → is_lock_at basis.labels x ≡ true → Spares basis p x → LetsGoAt basis (is_left states) p x → ⊥
      spared lock (Spares.runs_none none runs) (LetsGoAt.itself {f} lets) = none f lets
      spared lock (Spares.runs_none none runs) (gone_below {f} {g} {way} ran each) = runs f g way ran
      spared lock (Spares.not_from none runs lacks) (LetsGoAt.itself {f} lets) = none f lets
      spared lock (Spares.not_from {f = f} {g} {way} none runs lacks) (gone_below ran each) =
          let found = each f g way runs in
          absent (are.inside found.1 found.0 found.2) (lacks found.0 found.1 (are.inside found.1 found.0 found.2) found.3 found.4) found.2

    pub dropped_is : ((f e : ℕ) → exit_of basis.program f ≡ Some e → e < length basis.program.points) → AreLost basis states → AreDropped basis states
    dropped_is exits lost = record {
      all = are.all;
      inside = are.inside;
      exact = λ f e y exit. (
        λ there. record { lock = are.inside e y there; exit = e; is = exit; dropped = λ not. absent (are.inside e y there) not there },
        λ dropped. elim (cases_Bool (is_left states e y)) [
          | inl there ↦ there
          | inr none ↦
              let same : dropped.exit ≡ e = cc (dropped.is) in
              absurd (dropped.dropped (subst (λ q. NotDropped basis q y) (sym same) (lost e y (exits f e exit) dropped.lock none)))
        ],
      );
    }

  -- the first sets
  module _ (entries : List ℕ) (states : States) (are_entries : (p : ℕ) → (has_id entries p ≡ true) ↔ ((f : ℕ) × (entry_of basis.program f ≡ Some p))) (is : states.sets.items ≡ map (first_set basis.program entries) (range_with_len 0 (length basis.program.points))) (locks : IsSetOf (is_lock_at basis.labels) states.locks) where
    first_known : (p : ℕ) → p < length basis.program.points → left_at states p ≡ unwrap_or (first_set basis.program entries p) states.locks
    first_known p within =
        let f = first_set basis.program entries in
        let n = length basis.program.points in
        ap (λ o. option_map_or (λ s. unwrap_or s states.locks) o [])
        (ap (λ s. slice_get s p) is ∙ slice_get-get_or (map f (range_with_len 0 n)) p (f p) (omega (arith, length-map-range_with_len f 0 n)) ∙ ap Some (get_or-map-range_with_len f 0 n p p (f p) within (omega arith)))

    first_past : (p : ℕ) → length basis.program.points ≤ p → left_at states p ≡ []
    first_past p past =
        let f = first_set basis.program entries in
        let n = length basis.program.points in
        ap (λ o. option_map_or (λ s. unwrap_or s states.locks) o []) (ap (λ s. slice_get s p) is ∙ slice_get_past (map f (range_with_len 0 n)) p (omega (arith, length-map-range_with_len f 0 n)))

    first_shut : (p x : ℕ) → p < length basis.program.points → (live_at basis.program p && has_id entries p) ≡ true → is_left states p x ≡ false
    first_shut p x within shut = ap (λ s. has_id s x) (first_known p within ∙ ap (λ b. unwrap_or (cond b (Some []) None) states.locks) shut)

    first_open : (p x : ℕ) → p < length basis.program.points → (live_at basis.program p && has_id entries p) ≡ false → is_left states p x ≡ is_lock_at basis.labels x
    first_open p x within is_open = ap (λ s. has_id s x) (first_known p within ∙ ap (λ b. unwrap_or (cond b (Some []) None) states.locks) is_open) ∙ locks.members x

    pub first_are : AreStates basis states
    first_are = record {
      locks = locks;
      all = ap length is ∙ length-map-range_with_len (first_set basis.program entries) 0 (length basis.program.points);
      inside = λ p x there. elim (cases_lt p (length basis.program.points)) [
        | inl within ↦ elim (cases_Bool (live_at basis.program p && has_id entries p)) [
          | inl shut ↦ absurd (both_ways _ (first_shut p x within shut) there)
          | inr is_open ↦ sym (first_open p x within is_open) ∙ there
        ]
        | inr past ↦ absurd (false≢true (subst (λ s. has_id s x ≡ true) (first_past p past) there))
      ];
      entries = λ f p x live entry. first_shut p x (live_within basis.program p live) (and_from _ _ live ((are_entries p).1 (f, entry)));
    }

    pub first_lost : AreLost basis states
    first_lost p x within lock none =
        elim (cases_Bool (live_at basis.program p && has_id entries p)) [
          | inl shut ↦
              let parts = and_parts (live_at basis.program p) (has_id entries p) shut in
              let found = (are_entries p).0 parts.1 in
              NotDropped.entry found.0 parts.0 found.1
          | inr is_open ↦ absurd (both_ways _ none (first_open p x within is_open ∙ lock))
        ]
