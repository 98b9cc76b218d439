-- The pairs of functions: that what is found is so, and that all is found.
use Rattle.std.proofs.Common.{◌≡◌, ◌<◌, ◌+◌, ◌&&◌, ◌↔◌, ℕ, Bool, true, false, eqb, All, List, Some, Contains, length, refl, sym, subst, ap, ⊎_elim, inl, inr, arith}
use Rattle.std.proofs.lemmas.Bool.{and_from, and_parts, both_ways, cases_eq, eqb-true, eq-eqb}
use Rattle.lk_facts.proofs.Ranges.{live_within}
use Rattle.lk_facts.specs.Basis.{Basis}
use Rattle.lk_facts.specs.Doing.{Runs}
use Rattle.lk_facts.specs.Doing.Runs.{call, pointer}
use Rattle.lk_facts.specs.Flow.{Over}
use Rattle.lk_facts.specs.Program.{function_at, live_at}
use Rattle.lk_facts.specs.declared.way.Way.{Way}
use Rattle.lk_links.proofs.SetLemmas.{All-has_id}
use Rattle.lk_links.specs.declared.link.Link.{Link}
use Rattle.lk_order.specs.Acquired.{Acq, Pair, Want, Wants}
use Rattle.lk_order.specs.Acquired.Pair.{below as pair_below}
use Rattle.lk_order.specs.Acquired.Want.{below as want_below}
use Rattle.lk_order.specs.Giving.{Gives, Has}
use Rattle.lk_order.specs.Giving.Gives.{below as given_below}
use Rattle.lk_order.specs.Growing.{AreExact}
use Rattle.lk_order.specs.Pairing.{IsPair, IsPairAt, IsPairBelow, IsPairOf, IsPairOutside, IsPairWith, IsPairAbove, ArePairs, paired_of}
use Rattle.lk_order.specs.Work.{Finds}
use Rattle.lk_order.specs.contracts.pairing.PairedPartialEq.TheImpl as paired_test
use Rattle.lk_order.specs.declared.giving.By.TheVariants.{Functions}
use Rattle.lk_order.specs.declared.pairing.Paired.{Paired}
use Rattle.lk_order.proofs.SameLemmas.{enters_link, link_enters}
use Rattle.lk_rise.specs.Links.{AreLinksInto, links_into}
use Rattle.lk_sets.proofs.Members.{Contains-from_has_id, has_id-from_Contains}
use Rattle.lk_sets.specs.Adding.{IsGiven}
use Rattle.lk_sets.specs.Ids.{has_id}

pub same_paired : (a b : Paired) → paired_test.eq-value.it a b ≡ true → a ≡ b
same_paired a b same =
    let both = and_parts (eqb a.function b.function) (eqb a.held b.held && eqb a.wanted b.wanted) same in
    let rest = and_parts (eqb a.held b.held) (eqb a.wanted b.wanted) both.1 in
    let function = eqb-true a.function b.function both.0 in
    let held = eqb-true a.held b.held rest.0 in
    let wanted = eqb-true a.wanted b.wanted rest.1 in
    (λ i. record { function = function i; held = held i; wanted = wanted i })

pub paired_itself : (a : Paired) → paired_test.eq-value.it a a ≡ true
paired_itself a = and_from _ _ (eq-eqb a.function a.function refl) (and_from _ _ (eq-eqb a.held a.held refl) (eq-eqb a.wanted a.wanted refl))

-- the pairs of two lists of labels
pub pairs_of_lists : (function : ℕ) (held wanted : List ℕ) (pair : Paired) → IsGiven (λ x. IsGiven (IsPairWith function x) wanted) held pair ↔ IsPairOf function held wanted pair
pairs_of_lists function held wanted pair = (
  λ given.
      let x = given.0 in
      let s = given.2.0 in
      let is : paired_of function x s ≡ pair = given.2.2 in
      record {
        of = sym (ap (λ (p : Paired). p.function) is);
        is_held = subst (λ (p : Paired). has_id held p.held ≡ true) is (has_id-from_Contains held x given.1);
        is_wanted = subst (λ (p : Paired). has_id wanted p.wanted ≡ true) is (has_id-from_Contains wanted s given.2.1);
      },
  λ is.
      (pair.held, Contains-from_has_id held pair.held is.is_held, (pair.wanted, Contains-from_has_id wanted pair.wanted is.is_wanted, ap (λ f. paired_of f pair.held pair.wanted) (sym is.of))),
)

-- the numbers of pairs of labels
pub pairs_below : (functions labels function : ℕ) (held wanted : List ℕ) → function < functions → All (λ x. x < labels) held → All (λ x. x < labels) wanted → (pair : Paired) → IsPairOf function held wanted pair → IsPairBelow functions labels pair
pairs_below functions labels function held wanted within first second pair is = record {
  function = subst (λ f. f < functions) (sym is.of) within;
  held = All-has_id (λ x. x < labels) held pair.held first is.is_held;
  wanted = All-has_id (λ x. x < labels) wanted pair.wanted second is.is_wanted;
}

module _ (basis : Basis) (linear : ℕ → Bool) where
  -- a pair of a point is one of its function
  pub here_so : (p : ℕ) (pair : Paired) → IsPairAt basis linear p pair → IsPair basis linear pair
  here_so p pair here = Pair.here here.held here.wanted

  runs_of : {p f g : ℕ} {way : Way} → Runs basis p f way g → function_at basis.program p ≡ Some f
  runs_of (call _ i does at) = does.of
  runs_of (pointer _ a i does may) = does.of

  runs_live : {p f g : ℕ} {way : Way} → Runs basis p f way g → live_at basis.program p ≡ true
  runs_live (call _ i does at) = does.live
  runs_live (pointer _ a i does may) = does.live

  want_live : {p f s : ℕ} → Want basis linear p f s → live_at basis.program p ≡ true
  want_live (Want.itself it) = it.live
  want_live (want_below runs _ _) = runs_live runs

  want_of : {p f s : ℕ} → Want basis linear p f s → function_at basis.program p ≡ Some f
  want_of (Want.itself it) = it.of
  want_of (want_below runs _ _) = runs_of runs

  -- a point that isn't live has no pairs
  pub dead_pairs : (p : ℕ) → live_at basis.program p ≡ false → (pair : Paired) → IsPairAt basis linear p pair → ⊥
  dead_pairs p dead pair is = both_ways (live_at basis.program p) dead (want_live is.wanted)

  pub at_within : (p : ℕ) (pair : Paired) → IsPairAt basis linear p pair → p < length basis.program.points
  at_within p pair is = live_within basis.program p (want_live is.wanted)

  -- the pairs of one point more
  pub found_more : (n : ℕ) (old new : List Paired) → Finds (IsPairAt basis linear n) old new → ((pair : Paired) → Contains old pair ↔ ((p : ℕ) × (p < n) × IsPairAt basis linear p pair)) →
      (pair : Paired) → Contains new pair ↔ ((p : ℕ) × (p < n + 1) × IsPairAt basis linear p pair)
  found_more n old new finds before pair = (
    λ there.
        ⊎_elim (λ earlier. let given = (before pair).0 earlier in (given.0, omega (arith, given.1), given.2)) (λ here. (n, omega arith, here)) ((finds.adds.members pair).0 there),
    λ given. (finds.adds.members pair).1 (elim (cases_eq given.0 n) [
      | inl same ↦ inr (subst (λ p. IsPairAt basis linear p pair) same given.2)
      | inr other ↦ inl ((before pair).1 (given.0, omega (arith, given.1, other), given.2))
    ]),
  )

  -- what a point gives is what it wants, where sets have what functions want
  module _ (sets : List (List ℕ)) (exact : AreExact (length basis.program.functions) (length basis.labels.entries) (Wants basis linear) sets) where
    given_want : (p f s : ℕ) → function_at basis.program p ≡ Some f → Gives basis (Has basis.program Functions sets) p s → Want basis linear p f s
    given_want p f s of (Gives.itself {f = h} it) =
        let same : h ≡ f = cc (it.of) in
        subst (λ k. Want basis linear p k s) same (Want.itself it)
    given_want p f s of (given_below {f = h} {g} {y} {way} runs there over) =
        let same : h ≡ f = cc (runs_of runs) in
        subst (λ k. Want basis linear p k s) same (want_below runs (exact.sound g y there) over)

    want_given : {p f s : ℕ} → Want basis linear p f s → Gives basis (Has basis.program Functions sets) p s
    want_given (Want.itself it) = Gives.itself it
    want_given (want_below {g = g} {s = y} runs wants over) = given_below runs (exact.all g y wants) over

    -- the pairs of the labels at a point and of those that it gives are its pairs
    pub here_is : (p f : ℕ) (held wanted : List ℕ) → function_at basis.program p ≡ Some f → ((x : ℕ) → (has_id held x ≡ true) ↔ Acq basis linear p x) →
        ((s : ℕ) → (has_id wanted s ≡ true) ↔ Gives basis (Has basis.program Functions sets) p s) → (pair : Paired) → IsPairOf f held wanted pair ↔ IsPairAt basis linear p pair
    here_is p f held wanted of acquired gives pair = (
      λ is. record {
        held = (acquired pair.held).0 is.is_held;
        wanted = subst (λ h. Want basis linear p h pair.wanted) (sym is.of) (given_want p f pair.wanted of ((gives pair.wanted).0 is.is_wanted));
      },
      λ is. record {
        of = (let there = want_of is.wanted in cc);
        is_held = (acquired pair.held).1 is.held;
        is_wanted = (gives pair.wanted).1 (want_given is.wanted);
      },
    )

  -- the pairs of what two labels are outside
  pub outside_is : (pair : Paired) (link : Link) (held wanted : List ℕ) → ((y : ℕ) → (has_id held y ≡ true) ↔ Over basis.flow link.way pair.held y) →
      ((t : ℕ) → (has_id wanted t ≡ true) ↔ Over basis.flow link.way pair.wanted t) → (outer : Paired) → IsPairOf link.above held wanted outer ↔ IsPairOutside basis linear pair link outer
  outside_is pair link held wanted over over' outer = (
    λ is. record { function = is.of; held = (over outer.held).0 is.is_held; wanted = (over' outer.wanted).0 is.is_wanted },
    λ is. record { of = is.function; is_held = (over outer.held).1 is.held; is_wanted = (over' outer.wanted).1 is.wanted },
  )

  module _ (into : List (List Link)) (are : AreLinksInto basis into) where
    -- a pair rises by the links into its function
    pub above_so : (pair outer : Paired) → IsPair basis linear pair → IsPairAbove basis linear (links_into into pair.function) pair outer → IsPair basis linear outer
    above_so pair outer so above =
        subst (λ f. Pair basis linear f outer.held outer.wanted) (sym above.2.function)
        (pair_below (link_enters basis linear into are pair.function above.0 above.1) so above.2.held above.2.wanted)

    module _ (found : List Paired) (seeds : (p : ℕ) (pair : Paired) → IsPairAt basis linear p pair → Contains found pair)
        (closed : (pair outer : Paired) → Contains found pair → IsPairAbove basis linear (links_into into pair.function) pair outer → Contains found outer) where
      all_pairs : {f x s : ℕ} → Pair basis linear f x s → Contains found (paired_of f x s)
      all_pairs {f} {x} {s} (Pair.here {p} acquired want) = seeds p (paired_of f x s) (record { held = acquired; wanted = want })
      all_pairs {f} {x = y} {s = t} (pair_below {p} {g = g} {x = x} {s = s} {way = way} enters below held wanted) =
          let there = all_pairs below in
          enters_link basis linear into are (λ above w. Over basis.flow w x y → Over basis.flow w s t → Contains found (paired_of above y t)) p f g way enters
          (λ link is over over'. closed (paired_of g x s) (paired_of link.above y t) there (link, is, record { function = refl; held = over; wanted = over' }))
          held wanted

      pub pairs_are : ((pair : Paired) → Contains found pair → IsPair basis linear pair) → ArePairs basis linear found
      pairs_are sound = record { sound = sound; all = λ pair so. all_pairs so }
