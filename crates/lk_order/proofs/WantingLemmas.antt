-- What functions want, as far as it is known.
use Rattle.std.proofs.Common.{◌≡◌, ◌<◌, ◌↔◌, ℕ, Bool, true, false, List, Some, length, All, sym, subst}
use Rattle.std.proofs.lemmas.Bool.{both_ways}
use Rattle.lk_facts.proofs.Ranges.{live_within}
use Rattle.lk_facts.specs.Basis.{Basis}
use Rattle.lk_facts.specs.Doing.{Runs}
use Rattle.lk_facts.specs.Doing.Runs.{call, pointer}
use Rattle.lk_facts.specs.Program.{function_at, live_at}
use Rattle.lk_facts.specs.declared.way.Way.{Way}
use Rattle.lk_held.specs.Progress.{Progress}
use Rattle.lk_held.specs.Releasing.{has_in, Joins, room}
use Rattle.lk_order.specs.Acquired.{Want, Wants}
use Rattle.lk_order.specs.Acquired.Want.{below as want_below}
use Rattle.lk_order.specs.Giving.{Gives, Has}
use Rattle.lk_order.specs.Giving.Gives.{below as given_below}
use Rattle.lk_order.specs.Growing.{AreSets, AreSound, AreExact, Gains}
use Rattle.lk_order.specs.Wanting.{HasWanted}
use Rattle.lk_order.specs.declared.giving.By.TheVariants.{Functions}
use Rattle.lk_order.proofs.GrowingLemmas.{grown}
use Rattle.lk_sets.specs.Ids.{has_id}

module _ (basis : Basis) (linear : ℕ → Bool) where
  runs_of : {p f g : ℕ} {way : Way} → Runs basis p f way g → function_at basis.program p ≡ Some f
  runs_of (call _ i does at) = does.of
  runs_of (pointer _ a i does may) = does.of

  runs_live : {p f g : ℕ} {way : Way} → Runs basis p f way g → live_at basis.program p ≡ true
  runs_live (call _ i does at) = does.live
  runs_live (pointer _ a i does may) = does.live

  -- what a point gives is wanted in its function
  given_wanted : (sets : List (List ℕ)) (p f x : ℕ) → AreSound (length basis.program.functions) (length basis.labels.entries) (Wants basis linear) sets → function_at basis.program p ≡ Some f → Gives basis (Has basis.program Functions sets) p x → Wants basis linear f x
  given_wanted sets p f x sound of (Gives.itself {f = g} it) =
      let same : g ≡ f = cc (it.of) in
      subst (λ h. Wants basis linear h x) same (Wants.at (Want.itself it))
  given_wanted sets p f x sound of (given_below {f = h} {g} {y} {way} runs there over) =
      let same : h ≡ f = cc (runs_of runs) in
      subst (λ k. Wants basis linear k x) same (Wants.at (want_below runs (sound g y there) over))

  -- what a point gives joins what its function wants
  pub wanted_more : (old new : List (List ℕ)) (p f : ℕ) (ids : List ℕ) (changed : Bool) → f < length basis.program.functions → AreSets (length basis.program.functions) (length basis.labels.entries) old → function_at basis.program p ≡ Some f →
      ((x : ℕ) → (has_id ids x ≡ true) ↔ Gives basis (Has basis.program Functions old) p x) → All (λ x. x < length basis.labels.entries) ids → Joins old new f ids changed →
      Progress (room (length basis.labels.entries)) (Gains (length basis.program.functions) (length basis.labels.entries) (Wants basis linear)) (HasWanted basis p) old new changed
  wanted_more old new p f ids changed within sets of gives small joins =
      grown (length basis.program.functions) (length basis.labels.entries) (Wants basis linear) old new f ids changed (HasWanted basis p) within sets small
      (λ sound x there. given_wanted old p f x sound of ((gives x).0 there))
      (λ same has g x of' there.
      let here : f ≡ g = cc in
      subst (λ k. has_in new k x ≡ true) here (has x ((gives x).1 (subst (λ s. Gives basis (Has basis.program Functions s) p x) (sym same) there))))
      joins

  -- a point that isn't live gives nothing
  pub dead_wants : (sets : List (List ℕ)) (p : ℕ) → live_at basis.program p ≡ false → HasWanted basis p sets
  dead_wants sets p dead f x of (Gives.itself it) = absurd (both_ways (live_at basis.program p) dead it.live)
  dead_wants sets p dead f x of (given_below runs _ _) = absurd (both_ways (live_at basis.program p) dead (runs_live runs))

  -- where all points have given what they do, the sets have all that functions want
  module _ (sets : List (List ℕ)) (done : (p : ℕ) → p < length basis.program.points → HasWanted basis p sets) where
    mutual
      all_want : {p f x : ℕ} → Want basis linear p f x → has_in sets f x ≡ true
      all_want {p} {f} {x} (Want.itself it) = done p (live_within basis.program p it.live) f x it.of (Gives.itself it)
      all_want {p} {f} {x} (want_below {g} {s} runs wants over) = done p (live_within basis.program p (runs_live runs)) f x (runs_of runs) (given_below runs (all_wants wants) over)

      all_wants : {f x : ℕ} → Wants basis linear f x → has_in sets f x ≡ true
      all_wants (Wants.at want) = all_want want

    pub wants_exact : AreSets (length basis.program.functions) (length basis.labels.entries) sets → AreSound (length basis.program.functions) (length basis.labels.entries) (Wants basis linear) sets →
        AreExact (length basis.program.functions) (length basis.labels.entries) (Wants basis linear) sets
    wants_exact are sound = record { sets = are; sound = sound; all = λ f x wants. all_wants wants }
