-- Which locks a point adds, and which are held once it has run.
use Rattle.std.proofs.Common.{◌≡◌, ◌<◌, ◌&&◌, ◌||◌, ◌+◌, ℕ, Bool, true, false, List, [], ◌∷◌, length, take, get_or, All, Contains, Option, Some, None, refl, sym, ◌∙◌, subst, ⊎_elim, inl, inr, arith}
use Rattle.std.specs.Bool.{⊤}
use Rattle.std.proofs.lemmas.Bool.{and_cases, and_parts, both_ways, cases_Bool, false≢true, false_from_ne_true, or_cases, or_parts}
use Rattle.lk_facts.specs.Basis.{Basis}
use Rattle.lk_facts.specs.Flow.{IsOnly, IsHeldAs}
use Rattle.lk_facts.specs.Held.{Adds, IsBrought}
use Rattle.lk_facts.specs.Labels.{is_lock_at}
use Rattle.lk_facts.specs.Program.{exit_of}
use Rattle.lk_facts.proofs.Ranges.{lock_within}
use Rattle.lk_sets.specs.Ids.{has_id}
use Rattle.lk_held.specs.Acts.{IsTaken, OneRuns}
use Rattle.lk_held.specs.declared.states.States.{States}
use Rattle.lk_held.specs.States.{set_of}
use Rattle.lk_held.specs.Holding.{AreStates, Omits, AreAdded, AreAfter, AreMet, AreBrought, Meets, Brings, Lacks, NoneRuns, IsKept, is_in}
use Rattle.lk_held.proofs.ActLemmas.{link_runs, run_link, runs_more, takes_no_run}
use Rattle.lk_facts.specs.Lists.{Lists}
use Rattle.lk_links.specs.Only.{HaveRisen}
use Rattle.std.proofs.lemmas.List.{take_more}
use Rattle.std.proofs.lemmas.List.Elements.{Contains-push_cases}
use Rattle.lk_links.specs.Links.{AreLinksAt}
use Rattle.lk_links.specs.declared.link.Link.{Link}
use Rattle.lk_links.proofs.SetLemmas.{All-from_has_id, has_id-one}

-- the locks at a point are labels
pub states_within : (basis : Basis) (states : States) (p : ℕ) → AreStates basis states → All (λ x. x < length basis.labels.entries) (set_of states p)
states_within basis states p are = All-from_has_id (λ x. x < length basis.labels.entries) (set_of states p) (λ x there. lock_within basis.labels x (are.inside p x there))

module _ (basis : Basis) (at : ℕ → ℕ → Bool) (p : ℕ) where
  -- a point that takes a mutex adds what lock sets hold for it
  pub added_one : (mutex held : ℕ) → IsTaken basis p (Some mutex) → IsOnly (IsHeldAs basis.flow mutex) held → AreAdded basis at p (held ∷ [])
  added_one mutex held taken is = record {
    added = λ x there. Adds.taken taken.holds.1 (subst (IsHeldAs basis.flow mutex) (sym ((has_id-one held x).0 there)) is.holds);
    omitted = λ x lacks. Omits.runs_none
        (λ f y takes held_so. both_ways _ lacks ((has_id-one held x).1 (is.only x (subst (λ z. IsHeldAs basis.flow z x) (taken.only y (f, takes)) held_so))))
        (λ f g way runs. takes_no_run basis p taken.holds.1 runs);
  }

  -- two lists of the same labels
  pub added_same : (ids others : List ℕ) → ((x : ℕ) → has_id ids x ≡ has_id others x) → AreAdded basis at p others → AreAdded basis at p ids
  added_same ids others same are = record {
    added = λ x there. are.added x (sym (same x) ∙ there);
    omitted = λ x lacks. are.omitted x (sym (same x) ∙ lacks);
  }

  -- other points add what each function returns with that they run
  module _ (links : List Link) (are : AreLinksAt basis p links) (none : IsTaken basis p None) where
    pub added_brought : (ids : List ℕ) → AreMet basis at links ids → AreAdded basis at p ids
    added_brought ids met = record {
      added = λ x there.
          Adds.brought (link_runs basis p links are met.some.0 met.some.1 met.some.2) (λ f g way runs.
          let found = run_link basis p links are (λ w h. IsBrought basis at w h x → IsBrought basis at way g x) f g way runs (λ brought. brought) in
          found.3 (met.brought x found.0 there found.1 found.2));
      omitted = λ x lacks.
          let found = met.lacking x lacks in
          Omits.not_from (λ f y takes held_so. none y (f, takes)) (link_runs basis p links are found.0 found.1 found.2) found.3;
    }

    -- those that run no function add nothing
    pub added_none : NoneRuns basis links → AreAdded basis at p []
    added_none idle = record {
      added = λ x there. absurd (false≢true there);
      omitted = λ x lacks. Omits.runs_none (λ f y takes held_so. none y (f, takes)) (λ f g way runs.
          let found = run_link basis p links are (λ w h. ⊤) f g way runs tt in
          idle found.0 found.1 found.2);
    }

  -- what is kept and what is added is held afterwards
  pub after_is : (here kept added after : List ℕ) → ((x : ℕ) → has_id here x ≡ at p x) → ((x : ℕ) → at p x ≡ true → is_lock_at basis.labels x ≡ true) →
      IsKept basis p here kept → AreAdded basis at p added → ((x : ℕ) → has_id after x ≡ (has_id kept x || (is_lock_at basis.labels x && has_id added x))) → AreAfter basis at p after
  after_is here kept added after same locks keeps adds members =
      let before : (x : ℕ) → has_id kept x ≡ true → at p x ≡ true = λ x there. sym (same x) ∙ keeps.among x there in
      let parts : (x : ℕ) → is_lock_at basis.labels x ≡ true → has_id after x ≡ false → (has_id kept x ≡ false) × (has_id added x ≡ false) =
      λ x lock lacks.
      let apart = or_parts (has_id kept x) _ (sym (members x) ∙ lacks) in
      (apart.0, ⊎_elim (λ none. absurd (both_ways _ none lock)) (λ none. none) (and_cases (is_lock_at basis.labels x) (has_id added x) apart.1)) in
      record {
        locks = λ x there. ⊎_elim (λ old. locks x (before x old)) (λ new. (and_parts (is_lock_at basis.labels x) (has_id added x) new).0) (or_cases (has_id kept x) _ (sym (members x) ∙ there));
        held = λ x there. ⊎_elim (λ old. inr (before x old, keeps.kept x old)) (λ new. inl (adds.added x (and_parts (is_lock_at basis.labels x) (has_id added x) new).1)) (or_cases (has_id kept x) _ (sym (members x) ∙ there));
        omitted = λ x lock lacks. adds.omitted x (parts x lock lacks).1;
        lost = λ x lock lacks. elim (cases_Bool (at p x)) [
          | inl held ↦ inr (keeps.lost x (same x ∙ held) (parts x lock lacks).0)
          | inr none ↦ inl none
        ];
      }

-- what functions return with, one link more
module _ (basis : Basis) (at : ℕ → ℕ → Bool) (xs : List Link) (i : ℕ) (d : Link) (within : i < length xs) where
  pub brought_none : AreBrought basis at [] None
  brought_none = λ link there runs. absurd (omega (arith, there.1))

  pub brought_starts : (found new : Option (List ℕ)) → (get_or xs i d).starts ≡ true → new ≡ found → AreBrought basis at (take i xs) found → AreBrought basis at (take (i + 1) xs) new
  brought_starts found new starts is before = subst (AreBrought basis at (take (i + 1) xs)) (sym is) (of found before)
    where
      more : (P : Link → Type 0) → OneRuns (take i xs) P → OneRuns (take (i + 1) xs) P
      more P = λ one. (runs_more P xs i d within).1 (inl one)

      less : (link : Link) → Contains (take (i + 1) xs) link → link.starts ≡ false → Contains (take i xs) link
      less link there runs =
          elim (Contains-push_cases (take i xs) (get_or xs i d) link (subst (λ l. Contains l link) (take_more xs i d within) there)) [
            | inl earlier ↦ earlier
            | inr now ↦ absurd (both_ways link.starts runs (subst (λ l. l.starts ≡ true) now starts))
          ]

      of : (found : Option (List ℕ)) → AreBrought basis at (take i xs) found → AreBrought basis at (take (i + 1) xs) found
      of None none = λ link there runs. none link (less link there runs) runs
      of (Some ids) met = record {
        some = more (λ link. ⊤) met.some;
        brought = λ x link has there runs. met.brought x link has (less link there runs) runs;
        lacking = λ x lacks. more (Lacks basis at x) (met.lacking x lacks);
      }

  pub brought_runs : (found new : Option (List ℕ)) → (get_or xs i d).starts ≡ false → Meets basis at (get_or xs i d) found new → AreBrought basis at (take i xs) found → AreBrought basis at (take (i + 1) xs) new
  brought_runs found new runs meets before = subst (AreBrought basis at (take (i + 1) xs)) (sym meets.is) (record {
    some = (runs_more (λ link. ⊤) xs i d within).1 (inr (runs, tt));
    brought = λ x link has there runs'.
        elim (Contains-push_cases (take i xs) (get_or xs i d) link (subst (λ l. Contains l link) (take_more xs i d within) there)) [
          | inl earlier ↦ earlier_brings found before x link (meets.among x has) earlier runs'
          | inr now ↦ subst (Brings basis at x) now (meets.brought x has)
        ];
    lacking = λ x lacks. (runs_more (Lacks basis at x) xs i d within).1 (⊎_elim (λ was. inl (earlier_lacks found before x was)) (λ here. inr (runs, here)) (meets.lacking x lacks));
  })
    where
      earlier_brings : (found : Option (List ℕ)) → AreBrought basis at (take i xs) found → (x : ℕ) (link : Link) → is_in found x ≡ true → Contains (take i xs) link → link.starts ≡ false → Brings basis at x link
      earlier_brings None none x link has there runs = absurd (none link there runs)
      earlier_brings (Some ids) met x link has there runs = met.brought x link has there runs

      earlier_lacks : (found : Option (List ℕ)) → AreBrought basis at (take i xs) found → (x : ℕ) → is_in found x ≡ false → OneRuns (take i xs) (Lacks basis at x)
      earlier_lacks None none x lacks = absurd (false≢true (sym lacks))
      earlier_lacks (Some ids) met x lacks = met.lacking x lacks

-- what the function of a link returns with
pub meets_is : (basis : Basis) (at : ℕ → ℕ → Bool) (link : Link) (e : ℕ) (held ids met : List ℕ) (old : Option (List ℕ)) → exit_of basis.program link.below ≡ Some e → ((x : ℕ) → has_id held x ≡ at e x) →
    Lists (HaveRisen basis.flow link.way held) ids → ((x : ℕ) → has_id met x ≡ (has_id ids x && is_in old x)) → Meets basis at link old (Some met)
meets_is basis at link e held ids met old exit same risen is = record {
  ids = met;
  is = refl;
  among = λ x there. (and_parts (has_id ids x) (is_in old x) (sym (is x) ∙ there)).1;
  brought = λ x there.
      let found = (risen.members x).0 (and_parts (has_id ids x) (is_in old x) (sym (is x) ∙ there)).0 in
      (found.0, e, sym (same found.0) ∙ found.1, found.2, exit);
  lacking = λ x lacks. ⊎_elim
      (λ none. inr (λ y f lock rises exit'.
      let one : e ≡ f = cc in
      false_from_ne_true (at f y) (λ held'. both_ways (has_id ids x) none ((risen.members x).1 (y, same y ∙ subst (λ q. at q y ≡ true) (sym one) held', rises)))))
      (λ was. inl was)
      (and_cases (has_id ids x) (is_in old x) (sym (is x) ∙ lacks));
}
