-- What points give, by what functions have.
use Rattle.std.proofs.Common.{◌≡◌, ◌↔◌, ◌⊎◌, ℕ, true, false, List, [], ◌∷◌, Some, None, sym, subst, ⊎_elim, inl, inr}
use Rattle.lk_facts.specs.Basis.{Basis}
use Rattle.lk_facts.specs.Doing.{Runs}
use Rattle.lk_facts.specs.Flow.{Flow, Over}
use Rattle.lk_facts.specs.declared.way.Way.{Way}
use Rattle.lk_held.specs.Acts.{OneRuns}
use Rattle.lk_held.proofs.ActLemmas.{link_runs, run_link}
use Rattle.lk_links.proofs.SetLemmas.{has_id-one}
use Rattle.lk_links.specs.Links.{AreLinksAt}
use Rattle.lk_links.specs.declared.link.Link.{Link}
use Rattle.lk_order.specs.Acts.{IsDoneTo}
use Rattle.lk_order.specs.Giving.{Gives, IsOutside}
use Rattle.lk_order.specs.Giving.Gives.{below as given_below}
use Rattle.lk_order.specs.Mutexes.{locked}
use Rattle.lk_sets.specs.Ids.{has_id}

module _ (basis : Basis) (has : ℕ → ℕ → Type 0) (p : ℕ) where
  -- a point that locks a mutex gives that alone, where it runs no function
  pub gives_one : (m : ℕ) → ((f g : ℕ) (way : Way) → Runs basis p f way g → ⊥) → IsDoneTo basis locked p (Some m) → (x : ℕ) → (has_id (m ∷ []) x ≡ true) ↔ Gives basis has p x
  gives_one m idle done x = (
    λ there. subst (Gives basis has p) (sym ((has_id-one m x).0 there)) (Gives.itself done.holds.1),
    λ gives. (has_id-one m x).1 (at x gives),
  )
    where
      at : (x : ℕ) → Gives basis has p x → x ≡ m
      at x (Gives.itself {f} it) = done.only x (f, it)
      at x (given_below {f} {g} {y} {way} runs _ _) = absurd (idle f g way runs)

  -- other points give what the functions have that they run, as it is outside them
  pub gives_outside : (links : List Link) → AreLinksAt basis p links → IsDoneTo basis locked p None → (x : ℕ) → OneRuns links (IsOutside basis.flow has x) ↔ Gives basis has p x
  gives_outside links are none x =
      (λ found. given_below (link_runs basis p links are found.0 found.1 found.2) found.3.1 found.3.2, at)
    where
      at : Gives basis has p x → OneRuns links (λ link. (y : ℕ) × has link.below y × Over basis.flow link.way y x)
      at (Gives.itself {f} it) = absurd (none x (f, it))
      at (given_below {f} {g} {y} {way} runs there over) = run_link basis p links are (λ w h. (y : ℕ) × has h y × Over basis.flow w y x) f g way runs (y, there, over)

-- what a set says of the function of a link is what the function has
pub outside_by : (flow : Flow) (set : List ℕ) (has : ℕ → ℕ → Type 0) (link : Link) (x : ℕ) (old new : Type 0) → ((y : ℕ) → (has_id set y ≡ true) ↔ has link.below y) →
    (new ↔ (old ⊎ ((link.starts ≡ false) × IsOutside flow (λ g y. has_id set y ≡ true) x link))) → new ↔ (old ⊎ ((link.starts ≡ false) × IsOutside flow has x link))
outside_by flow set has link x old new same step = (
  λ now. ⊎_elim (λ before. inl before) (λ runs. inr (runs.0, (runs.1.0, (same runs.1.0).0 runs.1.1, runs.1.2))) (step.0 now),
  λ either. step.1 (⊎_elim (λ before. inl before) (λ runs. inr (runs.0, (runs.1.0, (same runs.1.0).1 runs.1.1, runs.1.2))) either),
)
