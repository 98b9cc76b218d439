-- The functions that may be entered more than once, and the points that may be performed so.
use Rattle.std.proofs.Common.{◌≡◌, ◌<◌, ◌≤◌, ◌+◌, ◌⊎◌, ◌↔◌, ◌||◌, ◌&&◌, ℕ, Bool, true, false, nat_lt, List, [], Option, None, Some, Contains, length, refl, sym, subst, ap, ◌∙◌, arith, inl, inr}
use Rattle.std.specs.Prelude.{slice_get}
use Rattle.std.specs.Option.{is_some, option_and_then, option_map, option_map_or}
use Rattle.std.proofs.lemmas.Bool.{false≢true, cases_eq, cases_lt, and_from, and_parts, lt-ltb, ltb-true, or_cases, or_left, or_right}
use Rattle.std.proofs.lemmas.Option.{none-some, same_Some, slice_get-get_or, slice_get_cases, slice_get_past, slice_get_within, get_or_from_slice_get}
use Rattle.lk_facts.proofs.Ranges.{live_within}
use Rattle.lk_facts.specs.Lists.{Lists}
use Rattle.lk_facts.specs.Many.{IsSiteOf, Many}
use Rattle.lk_facts.specs.Program.{function_at}
use Rattle.lk_facts.specs.Reach.{IsNext, IsOnCycle, Plus}
use Rattle.lk_facts.specs.declared.point.Point.{Point}
use Rattle.lk_facts.specs.declared.function.Function.{Function}
use Rattle.lk_facts.specs.declared.program.Program.{Program}
use Rattle.lk_sets.proofs.Members.{Contains-from_has_id, has_id-from_Contains}
use Rattle.lk_sets.specs.Adding.{IsGiven}
use Rattle.lk_sets.specs.Ids.{has_id, IsSetOf}
use Rattle.lk_graph.specs.Again.{AreEntered, AreEnterings, AreSitesBelow, GoesInto, HasSites, IsEnteredAgain, IsEnteringAt, IsReachedFrom, IsValue, IsValueAt, is_many_at}
use Rattle.lk_graph.specs.Again.HasSites.{again, two}
use Rattle.lk_graph.specs.Found.{FoundList, Finds, IsPutTo}
use Rattle.lk_graph.proofs.FoundLemmas.{AreGivenBelow}
use Rattle.lk_graph.specs.declared.again.Entering.{Entering}

-- is_many_at says what the relations say
pub many_at : (program : Program) (cycles found : List ℕ) → ((p : ℕ) → (has_id cycles p ≡ true) ↔ IsOnCycle program p) → ((f : ℕ) → Contains found f ↔ IsEnteredAgain program f) → (p f : ℕ) → function_at program p ≡ Some f →
    (is_many_at program cycles found p ≡ true) ↔ (IsOnCycle program p ⊎ IsEnteredAgain program f)
many_at program cycles found on_cycle entered p f of =
    let read : is_many_at program cycles found p ≡ (has_id cycles p || has_id found f) = ap (λ o. has_id cycles p || option_map_or (has_id found) o false) of in (
      λ is. elim (or_cases (has_id cycles p) (has_id found f) (sym read ∙ is)) [
        | inl cycle ↦ inl ((on_cycle p).0 cycle)
        | inr there ↦ inr ((entered f).0 (Contains-from_has_id found f there))
      ],
      λ h. read ∙ elim h [
        | inl cycle ↦ or_left _ _ ((on_cycle p).1 cycle)
        | inr there ↦ or_right (has_id cycles p) _ (has_id-from_Contains found f ((entered f).1 there))
      ],
    )

module _ (program : Program) where
  -- a site is one of the points
  pub site_within : (f q : ℕ) → IsSiteOf program f q → q < length program.points
  site_within f q site = live_within program q site.live

  -- points of a function that may be entered more than once may be performed so
  from_entered : {f : ℕ} → IsEnteredAgain program f → (p : ℕ) → function_at program p ≡ Some f → Many program p
  from_entered (IsEnteredAgain.value is) p of = Many.value of is.1
  from_entered (IsEnteredAgain.sites (again q _ site cycle)) p of = Many.site of site (Many.again cycle)
  from_entered (IsEnteredAgain.sites (two q r _ _ mine other differ)) p of = Many.sites of mine other differ
  from_entered (IsEnteredAgain.above g q site at before) p of = Many.site of site (from_entered before q at)

  to_entered : {p : ℕ} → Many program p → IsOnCycle program p ⊎ ((f : ℕ) × (function_at program p ≡ Some f) × IsEnteredAgain program f)
  to_entered (Many.again cycle) = inl cycle
  to_entered (Many.value {p} {f} {i} of is) = inr (f, of, IsEnteredAgain.value (i, is))
  to_entered (Many.sites {p} {f} {q} {r} of mine other differ) = inr (f, of, IsEnteredAgain.sites (two q r (site_within f q mine) (site_within f r other) mine other differ))
  to_entered (Many.site {p} {f} {q} of site before) = elim (to_entered before) [
    | inl cycle ↦ inr (f, of, IsEnteredAgain.sites (again q (site_within f q site) site cycle))
    | inr found ↦ inr (f, of, IsEnteredAgain.above found.0 q site found.1 found.2)
  ]

  pub many_is : (p f : ℕ) → function_at program p ≡ Some f → Many program p ↔ (IsOnCycle program p ⊎ IsEnteredAgain program f)
  many_is p f of = (
    λ many. elim (to_entered many) [
      | inl cycle ↦ inl cycle
      | inr found ↦ inr (subst (IsEnteredAgain program) (same_Some _ _ (sym found.1 ∙ of)) found.2)
    ],
    λ h. elim h [ inl cycle ↦ Many.again cycle | inr found ↦ from_entered found p of ],
  )

  -- each point is a step of a function or of none
  pub function_there : (p : ℕ) → p < length program.points → (f : ℕ) × (function_at program p ≡ Some f)
  function_there p within = elim (slice_get_cases program.points p).1 [
    | inl found ↦ (found.0.function, ap (option_map (λ (x : Point). x.function)) found.2)
    | inr past ↦ absurd (omega (arith, past.0))
  ]

  -- only points are performed
  pub many_within : (p : ℕ) → Many program p → p < length program.points
  many_within p many = elim (cases_lt p (length program.points)) [
    | inl within ↦ within
    | inr past ↦
        let none = slice_get_past program.points p past in
        elim (to_entered many) [
          | inl cycle ↦ absurd (false≢true (subst (λ o. has_id (option_map_or (λ (x : Point). x.next) o []) (first_next cycle).0 ≡ true) none (first_next cycle).1))
          | inr found ↦ absurd (none-some found.0 (subst (λ o. option_map (λ (x : Point). x.function) o ≡ Some found.0) none found.1))
        ]
  ]
    where
      first_next : {a b : ℕ} → Plus (IsNext program) a b → (q : ℕ) × IsNext program a q
      first_next (Plus.one {a} {b} r) = (b, r)
      first_next (Plus.more {a} {b} {c} r rest) = (b, r)

  module _ (first values : List ℕ) (enterings : List Entering) (are_values : (f : ℕ) → Contains values f ↔ IsValue program f)
      (with_sites : (f : ℕ) → Contains first f ↔ (Contains values f ⊎ HasSites program (length program.points) f))
      (are : AreEnterings program (length program.points) enterings) where
    from_reached : {f : ℕ} → IsReachedFrom first enterings f → IsEnteredAgain program f
    from_reached (IsReachedFrom.there {f} known) = elim ((with_sites f).0 known) [ inl value ↦ IsEnteredAgain.value ((are_values f).0 value) | inr sites ↦ IsEnteredAgain.sites sites ]
    from_reached (IsReachedFrom.entered e there before) = let found = (are e).0 there in IsEnteredAgain.above e.above found.0 found.2.1 found.2.0 (from_reached before)

    to_reached : {f : ℕ} → IsEnteredAgain program f → IsReachedFrom first enterings f
    to_reached {f} (IsEnteredAgain.value is) = IsReachedFrom.there ((with_sites f).1 (inl ((are_values f).1 is)))
    to_reached {f} (IsEnteredAgain.sites sites) = IsReachedFrom.there ((with_sites f).1 (inr sites))
    to_reached {f} (IsEnteredAgain.above g q site at before) =
        IsReachedFrom.entered (record { above = g; below = f }) ((are (record { above = g; below = f })).1 (q, site_within f q site, (at, site))) (to_reached before)

    pub reached_is : (f : ℕ) → IsReachedFrom first enterings f ↔ IsEnteredAgain program f
    reached_is f = (from_reached, to_reached)

  -- the functions that are used as values, at last all of them
  pub values_all : (n : ℕ) (values : List ℕ) → length program.functions ≤ n → AreGivenBelow (IsValueAt program) n values → (f : ℕ) → Contains values f ↔ IsValue program f
  values_all n values all below f = (
    λ there. let given = (below f).0 there in subst (IsValue program) given.2.0 given.2.1,
    λ value. (below f).1 (f, omega (arith, all, value_within f value), (refl, value)),
  )
    where
      value_within : (f : ℕ) → IsValue program f → f < length program.functions
      value_within f value = elim (cases_lt f (length program.functions)) [
        | inl within ↦ within
        | inr past ↦ absurd (none-some value.0 (subst (λ o. option_and_then (λ (x : Function). x.value_site) o ≡ Some value.0) (slice_get_past program.functions f past) value.1))
      ]

  -- before the first point nothing is known
  pub sites_start : (first once : List ℕ) → once ≡ [] → AreSitesBelow program 0 first once first
  sites_start first once none = record {
    once = λ f. (λ there. absurd (omega (arith, subst (λ xs. there.0 < length xs) none there.1)), λ site. absurd (omega (arith, site.1)));
    again = λ f. (λ there. inl there, λ h. elim h [ inl there ↦ there | inr sites ↦ absurd (never f sites) ]);
  }
    where
      never : (f : ℕ) → HasSites program 0 f → ⊥
      never f (again q less site cycle) = omega arith
      never f (two q r less less' mine other differ) = omega arith

  -- what goes into a function at a point
  pub entering_is : (p f g : ℕ) → function_at program p ≡ Some f → ((h : ℕ) → (Some g ≡ Some h) ↔ IsSiteOf program h p) → (e : Entering) → (record { above = f; below = g } ≡ e) ↔ IsEnteringAt program p e
  entering_is p f g of sites e = (
    λ same. subst (IsEnteringAt program p) same (of, (sites g).0 refl),
    λ at.
        let above : f ≡ e.above = same_Some _ _ (sym of ∙ at.0) in
        let below : g ≡ e.below = same_Some _ _ ((sites e.below).1 at.1) in
        (λ i. record { above = above i; below = below i }),
  )

  -- what is known of one more point, which isn't a site
  pub sites_none : (n : ℕ) (first once found : List ℕ) → ((f : ℕ) → IsSiteOf program f n → ⊥) → AreSitesBelow program n first once found → AreSitesBelow program (n + 1) first once found
  sites_none n first once found none before = record {
    once = λ f. (
      λ there. let site = (before.once f).0 there in (site.0, omega (arith, site.1), site.2),
      λ site. (before.once f).1 (site.0, below f site.0 site.1 site.2, site.2),
    );
    again = λ f. (
      λ there. elim ((before.again f).0 there) [ inl known ↦ inl known | inr sites ↦ inr (wider f sites) ],
      λ h. (before.again f).1 (elim h [ inl known ↦ inl known | inr sites ↦ inr (narrower f sites) ]),
    );
  }
    where
      below : (f q : ℕ) → q < n + 1 → IsSiteOf program f q → q < n
      below f q less site = elim (cases_eq q n) [ inl same ↦ absurd (none f (subst (IsSiteOf program f) same site)) | inr other ↦ omega arith ]

      wider : (f : ℕ) → HasSites program n f → HasSites program (n + 1) f
      wider f (again q less site cycle) = again q (omega arith) site cycle
      wider f (two q r less less' mine other differ) = two q r (omega arith) (omega arith) mine other differ

      narrower : (f : ℕ) → HasSites program (n + 1) f → HasSites program n f
      narrower f (again q less site cycle) = again q (below f q less site) site cycle
      narrower f (two q r less less' mine other differ) = two q r (below f q less mine) (below f r less' other) mine other differ

  -- and which is one of this function
  pub sites_one : (n g : ℕ) (first once found once' found' : List ℕ) → IsSiteOf program g n → ((f : ℕ) → IsSiteOf program f n → g ≡ f) →
      ((f : ℕ) → Contains once' f ↔ (Contains once f ⊎ (g ≡ f))) → ((f : ℕ) → Contains found' f ↔ (Contains found f ⊎ ((g ≡ f) × (Contains once g ⊎ IsOnCycle program n)))) →
      AreSitesBelow program n first once found → AreSitesBelow program (n + 1) first once' found'
  sites_one n g first once found once' found' site only puts_once puts before = record {
    once = λ f. (
      λ there. elim ((puts_once f).0 there) [
        | inl known ↦ let at = (before.once f).0 known in (at.0, omega (arith, at.1), at.2)
        | inr same ↦ (n, omega arith, subst (λ x. IsSiteOf program x n) same site)
      ],
      λ at. (puts_once f).1 (elim (cases_eq at.0 n) [
        | inl here ↦ inr (only f (subst (IsSiteOf program f) here at.2))
        | inr other ↦ inl ((before.once f).1 (at.0, omega (arith, at.1), at.2))
      ]),
    );
    again = λ f. (
      λ there. elim ((puts f).0 there) [
        | inl known ↦ elim ((before.again f).0 known) [ inl known ↦ inl known | inr sites ↦ inr (wider f sites) ]
        | inr new ↦ inr (subst (HasSites program (n + 1)) new.0 (elim new.1 [
          | inl known ↦ let at = (before.once g).0 known in two at.0 n (omega (arith, at.1)) (omega arith) at.2 site (λ same. omega (arith, at.1, same))
          | inr cycle ↦ again n (omega arith) site cycle
        ]))
      ],
      λ h. elim h [ inl known ↦ (puts f).1 (inl ((before.again f).1 (inl known))) | inr sites ↦ narrower f sites ],
    );
  }
    where
      wider : (f : ℕ) → HasSites program n f → HasSites program (n + 1) f
      wider f (again q less at cycle) = again q (omega arith) at cycle
      wider f (two q r less less' mine other differ) = two q r (omega arith) (omega arith) mine other differ

      -- the site of the function that stands before this one
      earlier : (f q : ℕ) → q < n → IsSiteOf program f q → IsSiteOf program f n → Contains found' f
      earlier f q less at here = let same = only f here in (puts f).1 (inr (same, inl (subst (Contains once) (sym same) ((before.once f).1 (q, less, at)))))

      other_than : (r : ℕ) {q : ℕ} → q ≡ n → (q ≡ r → ⊥) → r ≡ n → ⊥
      other_than r here differ same = differ (here ∙ sym same)

      narrower : (f : ℕ) → HasSites program (n + 1) f → Contains found' f
      narrower f (again q less at cycle) = elim (cases_eq q n) [
        | inl here ↦ (puts f).1 (inr (only f (subst (IsSiteOf program f) here at), inr (subst (IsOnCycle program) here cycle)))
        | inr other ↦ (puts f).1 (inl ((before.again f).1 (inr (again q (omega arith) at cycle))))
      ]
      narrower f (two q r less less' mine other differ) = elim (cases_eq q n) [
        | inl here ↦ earlier f r (omega (arith, other_than r here differ)) other (subst (IsSiteOf program f) here mine)
        | inr apart ↦ elim (cases_eq r n) [
          | inl here ↦ earlier f q (omega arith) mine (subst (IsSiteOf program f) here other)
          | inr further ↦ (puts f).1 (inl ((before.again f).1 (inr (two q r (omega arith) (omega arith) mine other differ))))
        ]
      ]

-- one more point, as it was read
pub sites_read : (program : Program) (n g : ℕ) (cycles first : List ℕ) (once found once' found' : FoundList) → ((p : ℕ) → (has_id cycles p ≡ true) ↔ IsOnCycle program p) → ((f : ℕ) → (Some g ≡ Some f) ↔ IsSiteOf program f n) →
    IsPutTo once once' g → Finds (λ f. (g ≡ f) × ((has_id once.list g || has_id cycles n) ≡ true)) found found' →
    AreSitesBelow program n first once.list found.list → AreSitesBelow program (n + 1) first once'.list found'.list
sites_read program n g cycles first once found once' found' on_cycle sites puts finds =
    sites_one program n g first once.list found.list once'.list found'.list ((sites g).0 refl) (λ f site. same_Some _ _ ((sites f).1 site)) puts.adds.members
    (λ f. (
      λ there. elim ((finds.adds.members f).0 there) [
        | inl known ↦ inl known
        | inr new ↦ inr (
          new.0,
          elim (or_cases (has_id once.list g) (has_id cycles n) new.1) [
            | inl entered ↦ inl (Contains-from_has_id once.list g entered)
            | inr cycle ↦ inr ((on_cycle n).0 cycle)
          ],
        )
      ],
      λ h. (finds.adds.members f).1 (elim h [
        | inl known ↦ inl known
        | inr new ↦ inr (
          new.0,
          elim new.1 [
            | inl entered ↦ or_left _ _ (has_id-from_Contains once.list g entered)
            | inr cycle ↦ or_right (has_id once.list g) _ ((on_cycle n).1 cycle)
          ],
        )
      ]),
    ))

-- what the test of a point reads
pub many_else : (program : Program) (cycles found : List ℕ) (p f : ℕ) (answer : Bool) → has_id cycles p ≡ false → function_at program p ≡ Some f → answer ≡ has_id found f → answer ≡ is_many_at program cycles found p
many_else program cycles found p f answer none of is = is ∙ sym (ap (λ b. b || option_map_or (has_id found) (function_at program p) false) none ∙ ap (λ o. option_map_or (has_id found) o false) of)

-- a number that is there
pub number_there : (o : Option ℕ) → is_some o ≡ true → (i : ℕ) × (o ≡ Some i)
number_there None is = absurd (false≢true is)
number_there (Some i) is = (i, refl)

-- the points that pass the test, as a set
pub many_lists : (program : Program) (cycles found ids set : List ℕ) (n : ℕ) → n ≡ length program.points → ((p : ℕ) → (has_id cycles p ≡ true) ↔ IsOnCycle program p) → ((f : ℕ) → Contains found f ↔ IsEnteredAgain program f) →
    ((p : ℕ) → has_id ids p ≡ (nat_lt p n && is_many_at program cycles found p)) → IsSetOf (has_id ids) set → Lists (Many program) set
many_lists program cycles found ids set n end on_cycle entered is made = record {
  sorted = made.sorted;
  members = λ p. (
    λ there.
        let both = and_parts (nat_lt p n) _ (sym (is p) ∙ sym (made.members p) ∙ there) in
        let at = function_there program p (omega (arith, ltb-true p n both.0)) in
        (many_is program p at.0 at.1).1 ((many_at program cycles found on_cycle entered p at.0 at.1).0 both.1),
    λ many.
        let below = many_within program p many in
        let at = function_there program p below in
        made.members p ∙ is p ∙ and_from _ _ (lt-ltb p n (omega (arith, below))) ((many_at program cycles found on_cycle entered p at.0 at.1).1 ((many_is program p at.0 at.1).0 many)),
  );
}

-- what is reached so far: only that, all that was there, and what the first k found functions enter
pub record IsGrowing (first : List ℕ) (enterings : List Entering) (found : List ℕ) (k : ℕ) : Type 0 where
  pub sound : (f : ℕ) → Contains found f → IsReachedFrom first enterings f
  pub kept : (f : ℕ) → Contains first f → Contains found f
  pub entered : AreEntered enterings found k

pub growing_none : (first : List ℕ) (enterings : List Entering) → IsGrowing first enterings first 0
growing_none first enterings = record { sound = λ f there. IsReachedFrom.there there; kept = λ f there. there; entered = λ i e less. absurd (omega arith) }

pub growing_more : (first : List ℕ) (enterings : List Entering) (old new : FoundList) (k f : ℕ) → slice_get old.list k ≡ Some f → Finds (IsGiven (GoesInto f) enterings) old new → IsGrowing first enterings old.list k → IsGrowing first enterings new.list (k + 1)
growing_more first enterings old new k f at finds before = record {
  sound = λ g there. elim ((finds.adds.members g).0 there) [
    | inl known ↦ before.sound g known
    | inr given ↦
        let above : IsReachedFrom first enterings (given.0).above = subst (IsReachedFrom first enterings) (sym given.2.1) (before.sound f (k, slice_get_within old.list k f at, get_or_from_slice_get old.list k f f at)) in
        subst (IsReachedFrom first enterings) given.2.0 (IsReachedFrom.entered given.0 given.1 above)
  ];
  kept = λ g there. (finds.adds.members g).1 (inl (before.kept g there));
  entered = λ i e less is there. elim (cases_eq i k) [
    | inl same ↦
        let one : f ≡ e.above = same_Some _ _ (sym (finds.places k f at) ∙ subst (λ j. slice_get new.list j ≡ Some e.above) same is) in
        (finds.adds.members e.below).1 (inr (e, there, (refl, sym one)))
    | inr other ↦
        let below : i < length old.list = omega (arith, slice_get_within old.list k f at) in
        let was = slice_get-get_or old.list i f below in
        let one = same_Some _ _ (sym (finds.places i _ was) ∙ is) in
        (finds.adds.members e.below).1 (inl (before.entered i e (omega arith) (was ∙ ap Some one) there))
  ];
}

module _ (first : List ℕ) (enterings : List Entering) (found : List ℕ) (k : ℕ) (past : length found ≤ k) (growing : IsGrowing first enterings found k) where
  all_reached : {f : ℕ} → IsReachedFrom first enterings f → Contains found f
  all_reached (IsReachedFrom.there {f} there) = growing.kept f there
  all_reached (IsReachedFrom.entered e there before) =
      let at = all_reached before in
      growing.entered at.0 e (omega (arith, at.1)) (slice_get-get_or found at.0 e.above at.1 ∙ ap Some at.2) there

  pub growing_all : (f : ℕ) → Contains found f ↔ IsReachedFrom first enterings f
  growing_all f = (growing.sound f, all_reached)
