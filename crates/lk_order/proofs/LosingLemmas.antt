-- What points drop.
use Rattle.std.proofs.Common.{◌≡◌, ◌<◌, ◌+◌, ◌↔◌, ℕ, Bool, true, false, List, Some, None, All, Contains, length, get_or, take, refl, subst, ⊎_elim}
use Rattle.std.specs.Bool.{⊤, IsTrue}
use Rattle.std.proofs.lemmas.Bool.{false≢true}
use Rattle.lk_facts.proofs.Ranges.{lock_within}
use Rattle.lk_facts.specs.Basis.{Basis}
use Rattle.lk_facts.specs.Doing.{Runs}
use Rattle.lk_facts.specs.Doing.Runs.{call, pointer}
use Rattle.lk_facts.specs.Flow.{Up}
use Rattle.lk_facts.specs.Program.{exit_of, function_at}
use Rattle.lk_facts.specs.declared.way.Way.{Way}
use Rattle.lk_held.proofs.ActLemmas.{link_runs, run_link}
use Rattle.lk_held.specs.Acts.{OneRuns}
use Rattle.lk_links.proofs.SetLemmas.{All-from_has_id, some_more}
use Rattle.lk_links.specs.Links.{AreLinksAt}
use Rattle.lk_links.specs.declared.link.Link.{Link}
use Rattle.lk_order.specs.Acquired.{Drops, DropsIn}
use Rattle.lk_order.specs.Acquired.Drops.{itself as drops_itself, below as drops_below}
use Rattle.lk_order.specs.Acquiring.{AllDrop, DropsWhereItRuns, IsSameOver}
use Rattle.lk_order.specs.Acts.{IsDoneTo}
use Rattle.lk_order.specs.Dropping.{AreDropped}
use Rattle.lk_order.specs.Left.{is_left, left_at}
use Rattle.lk_order.specs.Mutexes.{LetsGo, let_go}
use Rattle.lk_order.specs.Same.{Same}
use Rattle.lk_order.specs.declared.states.States.{States}
use Rattle.lk_order.proofs.DoingLemmas.{lets_go_no_run}
use Rattle.lk_sets.specs.Ids.{has_id}

-- what holds of all numbers, one more
pub ids_more : (P : ℕ → Type 0) (xs : List ℕ) (i d : ℕ) → i < length xs → ((y : ℕ) → has_id (take i xs) y ≡ true → P y) → P (get_or xs i d) → (y : ℕ) → has_id (take (i + 1) xs) y ≡ true → P y
ids_more P xs i d within before here y there =
    ⊎_elim (λ earlier. subst P earlier.2 (before earlier.0 earlier.1)) (λ now. subst P now here) ((some_more (λ n. n ≡ y) xs i d within).0 (y, there, refl))

-- what is dropped is a label
pub dropped_within : (basis : Basis) (states : States) (p : ℕ) → AreDropped basis states → All (λ x. x < length basis.labels.entries) (left_at states p)
dropped_within basis states p are = All-from_has_id (λ x. x < length basis.labels.entries) (left_at states p) (λ x there. lock_within basis.labels x (are.inside p x there))

module _ (basis : Basis) (linear : ℕ → Bool) where
  -- what the one label outside is the same as
  pub same_over : (f x y m : ℕ) (way : Way) (answer : Bool) → Up basis.flow way y m → (IsTrue answer ↔ Same basis linear f x m) → IsTrue answer ↔ IsSameOver basis linear f way x y
  same_over f x y m way answer up asked = (
    λ yes. record { outside = m; up = up; same = asked.0 yes },
    λ is. let one : is.outside ≡ m = up.only is.outside is.up.holds in asked.1 (subst (Same basis linear f x) one is.same),
  )

  pub not_over : (f x y : ℕ) (way : Way) → ((m : ℕ) → Up basis.flow way y m → ⊥) → IsTrue false ↔ IsSameOver basis linear f way x y
  not_over f x y way none = (λ yes. absurd (false≢true yes), λ is. absurd (none is.outside is.up))

  -- one of what a function drops
  pub some_drops : (f g e x y : ℕ) (way : Way) (states : States) → AreDropped basis states → exit_of basis.program g ≡ Some e → is_left states e y ≡ true → IsSameOver basis linear f way x y → IsTrue true ↔ DropsIn basis linear f way g x
  some_drops f g e x y way states are exit there is = (
    λ yes. record { inside = y; outside = is.outside; dropped = (are.exact g e y exit).0 there; up = is.up; same = is.same },
    λ drops. refl,
  )

  pub none_drops : (f g e x : ℕ) (way : Way) (states : States) → AreDropped basis states → exit_of basis.program g ≡ Some e → ((y : ℕ) → is_left states e y ≡ true → IsSameOver basis linear f way x y → ⊥) → IsTrue false ↔ DropsIn basis linear f way g x
  none_drops f g e x way states are exit none = (
    λ yes. absurd (false≢true yes),
    λ drops. absurd (none drops.inside ((are.exact g e drops.inside exit).1 drops.dropped) (record { outside = drops.outside; up = drops.up; same = drops.same })),
  )

  runs_of : {p f g : ℕ} {way : Way} → Runs basis p f way g → function_at basis.program p ≡ Some f
  runs_of (call _ i does at) = does.of
  runs_of (pointer _ a i does may) = does.of

  module _ (p : ℕ) (links : List Link) (are : AreLinksAt basis p links) where
    -- a point that runs no function doesn't drop in what it runs
    pub runs_nothing : (x : ℕ) → (OneRuns links (λ link. ⊤) → ⊥) → IsTrue false ↔ AllDrop basis linear p x
    runs_nothing x none = (
      λ yes. absurd (false≢true yes),
      λ all. absurd (none (run_link basis p links are (λ way g. ⊤) all.above all.below all.way all.runs tt)),
    )

    -- what each link that runs says
    pub each_drops : (x : ℕ) (answer : Bool) → OneRuns links (λ link. ⊤) → (IsTrue answer ↔ ((link : Link) → Contains links link → DropsWhereItRuns basis linear x link)) → IsTrue answer ↔ AllDrop basis linear p x
    each_drops x answer some asked = (
      λ yes. record {
        above = some.0.above;
        way = some.0.way;
        below = some.0.below;
        runs = link_runs basis p links are some.0 some.1 some.2;
        each = λ f g way runs. of yes f g way runs;
      },
      λ all. asked.1 (λ link there starts. all.each link.above link.below link.way (link_runs basis p links are link there starts)),
    )
      where
        of : IsTrue answer → (f g : ℕ) (way : Way) → Runs basis p f way g → DropsIn basis linear f way g x
        of holds f g way runs =
            let found = run_link basis p links are (λ w h. DropsIn basis linear f w h x → DropsIn basis linear f way g x) f g way runs (λ drops. drops) in
            let link = found.0 in
            let same : link.above ≡ f = (let here = runs_of (link_runs basis p links are link found.1 found.2) in let there = runs_of runs in cc) in
            found.3 (subst (λ h. DropsIn basis linear h link.way link.below x) same (asked.0 holds link found.1 found.2))

  -- a point that lets a mutex go drops what is the same
  pub drops_let : (p f x m : ℕ) (answer : Bool) → function_at basis.program p ≡ Some f → IsDoneTo basis let_go p (Some m) → (IsTrue answer ↔ Same basis linear f x m) → IsTrue answer ↔ Drops basis linear p x
  drops_let p f x m answer of done asked = (
    λ yes.
        let same : done.holds.0 ≡ f = (let there = done.holds.1.of in cc) in
        drops_itself (subst (λ h. LetsGo basis p h m) same done.holds.1) (asked.0 yes),
    λ drops. asked.1 (by drops),
  )
    where
      by : Drops basis linear p x → Same basis linear f x m
      by (drops_itself {f = h} {y} lets same) =
          let one : y ≡ m = done.only y (h, lets) in
          let there : h ≡ f = (let here = lets.of in cc) in
          subst (λ k. Same basis linear k x m) there (subst (Same basis linear h x) one same)
      by (drops_below runs each) = absurd (lets_go_no_run basis p done.holds.1 runs)

  -- other points drop what all do that they run
  pub drops_all : (p x : ℕ) → IsDoneTo basis let_go p None → AllDrop basis linear p x ↔ Drops basis linear p x
  drops_all p x none = (λ all. drops_below all.runs all.each, by)
    where
      by : Drops basis linear p x → AllDrop basis linear p x
      by (drops_itself {f} {y} lets same) = absurd (none y (f, lets))
      by (drops_below {f} {g} {way} runs each) = record { above = f; way = way; below = g; runs = runs; each = each }
