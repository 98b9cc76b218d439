-- Which mutexes are acquired at points, as far as it is known.
use Rattle.std.proofs.Common.{◌≡◌, ◌<◌, ◌↔◌, ◌∷◌, [], ℕ, Bool, true, false, List, length, All, refl, sym, subst, ⊎_elim, inl, inr, arith}
use Rattle.std.proofs.lemmas.Bool.{both_ways}
use Rattle.lk_facts.proofs.Ranges.{live_within}
use Rattle.lk_facts.specs.Basis.{Basis}
use Rattle.lk_facts.specs.Doing.{Runs}
use Rattle.lk_facts.specs.Doing.Runs.{call, pointer}
use Rattle.lk_facts.specs.Program.{live_at, next_of}
use Rattle.lk_facts.specs.Reach.{IsLiveNext}
use Rattle.lk_facts.specs.declared.way.Way.{Way}
use Rattle.lk_held.specs.Progress.{Progress}
use Rattle.lk_held.specs.Releasing.{has_in, room, Joins}
use Rattle.lk_held.proofs.ProgressLemmas.{progress_none}
use Rattle.lk_held.proofs.ReleasingLemmas.{joined_has, joined_kept, puts_falls}
use Rattle.lk_links.proofs.SetLemmas.{has_id-one}
use Rattle.lk_order.specs.Acquired.{Acq}
use Rattle.lk_order.specs.Acquiring.{IsAfter, HasAcquired, Grows, HasAll, HaveAll}
use Rattle.lk_order.specs.Giving.{Gives, Has}
use Rattle.lk_order.specs.Giving.Gives.{below as given_below}
use Rattle.lk_order.specs.Growing.{AreSets, AreSound, AreExact, Gains}
use Rattle.lk_order.specs.declared.giving.By.TheVariants.{Exits}
use Rattle.lk_order.proofs.GrowingLemmas.{joined_sets}
use Rattle.lk_sets.specs.Ids.{has_id}

module _ (basis : Basis) (linear : ℕ → Bool) where
  runs_live : {p f g : ℕ} {way : Way} → Runs basis p f way g → live_at basis.program p ≡ true
  runs_live (call _ i does at) = does.live
  runs_live (pointer _ a i does may) = does.live

  -- what is given at a live point is acquired at each live successor
  given_acquired : (sets : List (List ℕ)) (p q x : ℕ) → ((k y : ℕ) → has_in sets k y ≡ true → Acq basis linear k y) → IsLiveNext basis.program p q → Gives basis (Has basis.program Exits sets) p x → Acq basis linear q x
  given_acquired sets p q x sound leads (Gives.itself it) = Acq.locked it leads
  given_acquired sets p q x sound leads (given_below runs there over) = Acq.returned runs leads there.1 (sound there.0 _ there.2) over

  after_acquired : (sets : List (List ℕ)) (p q x : ℕ) → ((k y : ℕ) → has_in sets k y ≡ true → Acq basis linear k y) → live_at basis.program p ≡ true → IsLiveNext basis.program p q → IsAfter basis linear sets p x → Acq basis linear q x
  after_acquired sets p q x sound live leads after =
      ⊎_elim (λ kept. Acq.kept live leads (sound p x kept.0) kept.1) (λ gives. given_acquired sets p q x sound leads gives) after

  -- what is acquired once a point has run is added to its live successors
  pub acquired_more : (p : ℕ) (next ids : List ℕ) (old new : List (List ℕ)) (changed : Bool) → live_at basis.program p ≡ true → next ≡ next_of basis.program p →
      ((x : ℕ) → (has_id ids x ≡ true) ↔ IsAfter basis linear old p x) →
      Progress (room (length basis.labels.entries)) (Grows basis next ids (length basis.program.points) (length basis.labels.entries)) (HaveAll basis next ids) old new changed →
      Progress (room (length basis.labels.entries)) (Gains (length basis.program.points) (length basis.labels.entries) (Acq basis linear)) (HasAcquired basis linear p) old new changed
  acquired_more p next ids old new changed live is after step = record {
    keeps = record {
      sets = step.keeps.sets;
      sound = λ sound k x there. ⊎_elim (sound k x) (λ now.
          after_acquired old p k x sound live (subst (λ ps. has_id ps k ≡ true) is now.0, now.1) ((after x).0 now.2))
          (step.keeps.added k x there);
    };
    falls = step.falls;
    same = step.same;
    done = λ none live' q x leads gone.
        let before = subst (λ s. IsAfter basis linear s p x) (step.same none) gone in
        step.done none q (subst (λ ps. has_id ps q ≡ true) (sym is) leads.0) leads.1 x ((after x).1 before);
  }

  -- numbers join the set of a live point
  pub one_grows : (p : ℕ) (ids : List ℕ) (old new : List (List ℕ)) (changed : Bool) → p < length basis.program.points → live_at basis.program p ≡ true → AreSets (length basis.program.points) (length basis.labels.entries) old →
      All (λ x. x < length basis.labels.entries) ids → Joins old new p ids changed →
      Progress (room (length basis.labels.entries)) (Grows basis (p ∷ []) ids (length basis.program.points) (length basis.labels.entries)) (HasAll basis ids p) old new changed
  one_grows p ids old new changed within live sets small joins =
      let inside : p < length old = omega (arith, within, sets.all) in
      record {
        keeps = record {
          sets = λ _. joined_sets (length basis.program.points) (length basis.labels.entries) old new p ids changed within sets small joins;
          added = λ k x there. ⊎_elim (λ before. inl before) (λ now. inr ((has_id-one p k).1 now.0, subst (λ q. live_at basis.program q ≡ true) (sym now.0) live, now.1))
              (joined_has old new p ids inside changed joins k x there);
        };
        falls = λ yes. puts_falls (length basis.labels.entries) old new p ids inside sets.below small (joins.puts yes);
        same = joins.same;
        done = λ none live' x there. joined_kept old new p ids inside changed joins p x (inr (refl, there));
      }

  pub none_grows : (points ids : List ℕ) (sets : List (List ℕ)) → Grows basis points ids (length basis.program.points) (length basis.labels.entries) sets sets
  none_grows points ids sets = record { sets = λ are. are; added = λ k x there. inl there }

  -- a point that isn't live gains nothing
  pub dead_grows : (p : ℕ) (ids : List ℕ) (sets : List (List ℕ)) → live_at basis.program p ≡ false →
      Progress (room (length basis.labels.entries)) (Grows basis (p ∷ []) ids (length basis.program.points) (length basis.labels.entries)) (HasAll basis ids p) sets sets false
  dead_grows p ids sets dead =
      progress_none (room (length basis.labels.entries)) (Grows basis (p ∷ []) ids (length basis.program.points) (length basis.labels.entries)) (HasAll basis ids p) sets
      (none_grows (p ∷ []) ids sets) (λ live x there. absurd (both_ways (live_at basis.program p) dead live))

  -- what one point of a list gains the list gains
  pub grows_among : (points ids : List ℕ) (p : ℕ) (old new : List (List ℕ)) (Done : List (List ℕ) → Type 0) (changed : Bool) → has_id points p ≡ true →
      Progress (room (length basis.labels.entries)) (Grows basis (p ∷ []) ids (length basis.program.points) (length basis.labels.entries)) Done old new changed →
      Progress (room (length basis.labels.entries)) (Grows basis points ids (length basis.program.points) (length basis.labels.entries)) Done old new changed
  grows_among points ids p old new Done changed among step = record {
    keeps = record {
      sets = step.keeps.sets;
      added = λ k x there.
          ⊎_elim (λ before. inl before) (λ now. inr (subst (λ q. has_id points q ≡ true) (sym ((has_id-one p k).0 now.0)) among, now.1, now.2)) (step.keeps.added k x there);
    };
    falls = step.falls;
    same = step.same;
    done = step.done;
  }

  pub grows_more : (points ids : List ℕ) (old mid new : List (List ℕ)) → Grows basis points ids (length basis.program.points) (length basis.labels.entries) old mid → Grows basis points ids (length basis.program.points) (length basis.labels.entries) mid new →
      Grows basis points ids (length basis.program.points) (length basis.labels.entries) old new
  grows_more points ids old mid new first second = record {
    sets = λ are. second.sets (first.sets are);
    added = λ k x there. ⊎_elim (first.added k x) (λ now. inr now) (second.added k x there);
  }

  -- where all points have passed on what is acquired, the sets have all of it
  module _ (sets : List (List ℕ)) (done : (p : ℕ) → p < length basis.program.points → HasAcquired basis linear p sets) where
    all_acquired : {q x : ℕ} → Acq basis linear q x → has_in sets q x ≡ true
    all_acquired {q} {x} (Acq.kept {p} live leads before kept) = done p (live_within basis.program p live) live q x leads (inl (all_acquired before, kept))
    all_acquired {q} {x} (Acq.locked {p} locks leads) = done p (live_within basis.program p locks.live) locks.live q x leads (inr (Gives.itself locks))
    all_acquired {q} {x} (Acq.returned {p} {e = e} runs leads exit before over) =
        done p (live_within basis.program p (runs_live runs)) (runs_live runs) q x leads (inr (given_below runs (e, exit, all_acquired before) over))

    pub acquired_exact : AreSets (length basis.program.points) (length basis.labels.entries) sets → AreSound (length basis.program.points) (length basis.labels.entries) (Acq basis linear) sets →
        AreExact (length basis.program.points) (length basis.labels.entries) (Acq basis linear) sets
    acquired_exact are sound = record { sets = are; sound = sound; all = λ q x acq. all_acquired acq }
