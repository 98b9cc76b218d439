-- A point has one effect, in one function: what it takes, frees and runs is one kind of thing, and its links run what it runs.
use Rattle.std.proofs.Common.{◌≡◌, ◌<◌, ◌||◌, ◌↔◌, ◌⊎◌, ◌+◌, ◌∷◌, [], ℕ, Bool, true, false, List, length, take, get_or, ⊎_elim, Some, Option, None, Contains, refl, sym, ap, ◌∙◌, subst, inl, inr, arith}
use Rattle.std.specs.Option.{option_map}
use Rattle.std.proofs.lemmas.Bool.{false≢true, both_ways, or_cases, or_left, or_right}
use Rattle.std.proofs.lemmas.List.Elements.{All-contains, Contains-append_left, Contains-push, Contains-push_cases}
use Rattle.std.proofs.lemmas.List.{take_more}
use Rattle.std.proofs.lemmas.Option.{slice_get_cases}
use Rattle.lk_facts.specs.Basis.{Basis}
use Rattle.lk_facts.specs.Doing.{Takes, Frees, Runs}
use Rattle.lk_facts.specs.Doing.Takes.{takes}
use Rattle.lk_facts.specs.Doing.Frees.{frees}
use Rattle.lk_facts.specs.Doing.Runs.{call, pointer}
use Rattle.lk_facts.specs.Items.{Rises}
use Rattle.lk_facts.specs.Items.Rises.{run, start}
use Rattle.lk_facts.specs.Labels.{target_at}
use Rattle.lk_facts.specs.Program.{effect_at, live_at, function_at}
use Rattle.lk_facts.specs.declared.effect.Effect.TheVariants as effect
use Rattle.lk_facts.specs.declared.point.Point.{Point}
use Rattle.lk_facts.specs.declared.program.Program.{Program}
use Rattle.lk_facts.specs.declared.way.Way.{Way}
use Rattle.lk_held.specs.Acts.{IsTaken, IsFreed, OneRuns}
use Rattle.lk_sets.specs.Ids.{has_id, IsSetOf}
use Rattle.lk_links.specs.Links.{IsLink, AreLinksAt}
use Rattle.lk_links.specs.declared.link.Link.{Link}

-- a point is of a function
function_there : (program : Program) (p : ℕ) → p < length program.points → (f : ℕ) × (function_at program p ≡ Some f)
function_there program p within =
    elim (slice_get_cases program.points p).1 [
      | inl found ↦ (found.0.function, ap (option_map (λ (point : Point). point.function)) found.2)
      | inr past ↦ absurd (omega arith)
    ]

module _ (basis : Basis) (p a : ℕ) (within : p < length basis.program.points) where
  takes_same : effect_at basis.program p ≡ Some (effect.Takes a) → (x f : ℕ) → Takes basis p f x → target_at basis.labels a ≡ Some x
  takes_same is x f (takes b does at) = let same : a ≡ b = cc (does.is) in cc

  frees_same : effect_at basis.program p ≡ Some (effect.Frees a) → (x f : ℕ) → Frees basis p f x → target_at basis.labels a ≡ Some x
  frees_same is x f (frees b does at) = let same : a ≡ b = cc (does.is) in cc

  -- what a live point takes
  pub taken : (found : Option ℕ) → live_at basis.program p ≡ true → effect_at basis.program p ≡ Some (effect.Takes a) → found ≡ target_at basis.labels a → IsTaken basis p found
  taken None live is at = λ x has. let same = takes_same is x has.0 has.1 in cc
  taken (Some x) live is at = record {
    holds = (let of = function_there basis.program p within in (of.0, takes a (record { live = live; of = of.1; is = is }) (sym at)));
    only = λ y has. let same = takes_same is y has.0 has.1 in cc;
  }

  -- what a live point frees
  pub freed : (found : Option ℕ) → live_at basis.program p ≡ true → effect_at basis.program p ≡ Some (effect.Frees a) → found ≡ target_at basis.labels a → IsFreed basis p found
  freed None live is at = λ x has. let same = frees_same is x has.0 has.1 in cc
  freed (Some x) live is at = record {
    holds = (let of = function_there basis.program p within in (of.0, frees a (record { live = live; of = of.1; is = is }) (sym at)));
    only = λ y has. let same = frees_same is y has.0 has.1 in cc;
  }

module _ (basis : Basis) (p : ℕ) where
  -- a point that frees a mutex runs no function
  pub frees_no_run : {f x h g : ℕ} {way : Way} → Frees basis p f x → Runs basis p h way g → ⊥
  frees_no_run (frees a does at) (call _ i runs site) = let same : Some (effect.Frees a) ≡ effect_at basis.program p = sym does.is in cc (runs.is)
  frees_no_run (frees a does at) (pointer _ b i runs may) = let same : Some (effect.Frees a) ≡ effect_at basis.program p = sym does.is in cc (runs.is)

  -- nor does one that takes a mutex
  pub takes_no_run : {f x h g : ℕ} {way : Way} → Takes basis p f x → Runs basis p h way g → ⊥
  takes_no_run (takes a does at) (call _ i runs site) = let same : Some (effect.Takes a) ≡ effect_at basis.program p = sym does.is in cc (runs.is)
  takes_no_run (takes a does at) (pointer _ b i runs may) = let same : Some (effect.Takes a) ≡ effect_at basis.program p = sym does.is in cc (runs.is)

  ran : (f g : ℕ) (way : Way) (child above : Bool) → child ≡ false → above ≡ false → Rises basis p f way g child above → Runs basis p f way g
  ran f g way child above own own' (run runs) = runs
  ran f g way child above own own' (start starts) = absurd (false≢true (sym own'))

  module _ (links : List Link) (are : AreLinksAt basis p links) where
    -- a link that starts no thread runs its function
    pub link_runs : (link : Link) → Contains links link → link.starts ≡ false → Runs basis p link.above link.way link.below
    link_runs link there runs =
        let is = All-contains (IsLink basis p) links link are.each there in
        ran link.above link.below link.way false (false || link.starts) refl runs (is.rises false)

    -- and what a point runs has such a link
    pub run_link : (P : (way : Way) (g : ℕ) → Type 0) (f g : ℕ) (way : Way) → Runs basis p f way g → P way g → OneRuns links (λ link. P link.way link.below)
    run_link P f g way runs holds =
        let found = are.all f g way false false (run runs) in
        (found.0, found.1, found.2.becomes, subst (λ w. P w found.0.below) (sym found.2.by) (subst (λ h. P way h) (sym found.2.into) holds))

-- one link more
pub runs_more : (P : Link → Type 0) (xs : List Link) (i : ℕ) (d : Link) → i < length xs → OneRuns (take (i + 1) xs) P ↔ (OneRuns (take i xs) P ⊎ (((get_or xs i d).starts ≡ false) × P (get_or xs i d)))
runs_more P xs i d within =
    let z = get_or xs i d in
    let grown = take_more xs i d within in (
      λ found.
          elim (Contains-push_cases (take i xs) z found.0 (subst (λ l. Contains l found.0) grown found.1)) [
            | inl earlier ↦ inl (found.0, earlier, found.2, found.3)
            | inr now ↦ inr (subst (λ l. l.starts ≡ false) (sym now) found.2, subst P (sym now) found.3)
          ],
      λ either.
          ⊎_elim
          (λ before. (before.0, subst (λ l. Contains l before.0) (sym grown) (Contains-append_left (take i xs) (z ∷ []) before.0 before.1), before.2, before.3))
          (λ now. (z, subst (λ l. Contains l z) (sym grown) (Contains-push (take i xs) z), now.0, now.1))
          either,
    )

-- what holds once one link more was looked at
pub joined_more : (P : Link → Type 0) (xs : List Link) (i : ℕ) (d : Link) (before after : Type 0) → i < length xs → (after ↔ (before ⊎ (((get_or xs i d).starts ≡ false) × P (get_or xs i d)))) → (before ↔ OneRuns (take i xs) P) → after ↔ OneRuns (take (i + 1) xs) P
joined_more P xs i d before after within step so_far =
    let more = runs_more P xs i d within in (
      λ now. more.1 (⊎_elim (λ b. inl (so_far.0 b)) (λ last. inr last) (step.0 now)),
      λ found. step.1 (⊎_elim (λ e. inl (so_far.1 e)) (λ last. inr last) (more.0 found)),
    )

-- no link runs a function among none
pub runs_none : (P : Link → Type 0) → OneRuns [] P → ⊥
runs_none P found = absurd (omega (arith, found.1.1))

-- what a link joins by a union
pub union_joins : (P : ℕ → Type 0) (runs : Type 0) (old dropped new : List ℕ) → runs → IsSetOf (λ x. has_id old x || has_id dropped x) new → ((x : ℕ) → (has_id dropped x ≡ true) ↔ P x) → (x : ℕ) → (has_id new x ≡ true) ↔ ((has_id old x ≡ true) ⊎ (runs × P x))
union_joins P runs old dropped new is union members x = (
  λ there. ⊎_elim (λ before. inl before) (λ now. inr (is, (members x).0 now)) (or_cases (has_id old x) (has_id dropped x) (sym (union.members x) ∙ there)),
  λ either. union.members x ∙ ⊎_elim (λ before. or_left _ _ before) (λ now. or_right (has_id old x) _ ((members x).1 now.1)) either,
)

pub joins_nothing : (P : ℕ → Type 0) (starts : Bool) (old : List ℕ) → starts ≡ true → (x : ℕ) → (has_id old x ≡ true) ↔ ((has_id old x ≡ true) ⊎ ((starts ≡ false) × P x))
joins_nothing P starts old is x = (λ there. inl there, λ either. ⊎_elim (λ before. before) (λ now. absurd (both_ways starts now.0 is)) either)
