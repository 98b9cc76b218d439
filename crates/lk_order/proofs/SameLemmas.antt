-- Names that mean one mutex: what follows of what is known, and that all of it is found.
use Rattle.std.proofs.Common.{◌≡◌, ◌<◌, ◌^◌, ◌++◌, ◌∷◌, [], ◌&&◌, ◌↔◌, ℕ, Bool, true, false, eqb, List, Some, None, Contains, length, length-append, refl, sym, subst, ap, ◌∙◌, ⊎_elim, arith}
use Rattle.std.specs.Bool.{IsTrue}
use Rattle.std.proofs.lemmas.Bool.{and_from, and_parts, eqb-true, eq-eqb, false≢true}
use Rattle.std.proofs.lemmas.List.Elements.{Contains-push_cases, Contains-append_left}
use Rattle.std.proofs.lemmas.Option.{none-some, same_Some}
use Rattle.lk_facts.specs.Basis.{Basis}
use Rattle.lk_facts.specs.Flow.{Up}
use Rattle.lk_facts.specs.Items.{Rises}
use Rattle.lk_facts.specs.Labels.{is_origin_at}
use Rattle.lk_facts.specs.Program.{value_site_of}
use Rattle.lk_facts.specs.declared.way.Way.{Way}
use Rattle.lk_facts.specs.declared.way.Way.TheVariants.{Through, AsValue}
use Rattle.lk_held.proofs.ProgressLemmas.{progress_none}
use Rattle.lk_held.specs.Progress.{Progress}
use Rattle.lk_links.specs.declared.link.Link.{Link}
use Rattle.lk_order.specs.Asking.{goal_of, IsSo, AreUp, IsAskedByOne, IsOutsideGoal, OneIsThrough, Follows, AreAsked, Agrees, AgreeAsValue, AreKnown, AllKnown, IsSettled, Learns, unknown}
use Rattle.lk_order.specs.Mutexes.{Enters}
use Rattle.lk_order.specs.Same.{Same, SameOver, HasSite, MeanOneLock, MeanOneLockOver, NotBothOrigins}
use Rattle.lk_order.specs.contracts.same.GoalPartialEq.TheImpl as goal_test
use Rattle.lk_order.specs.declared.same.Goal.{Goal}
use Rattle.lk_rise.specs.Links.{AreLinksInto, links_into}

pub same_goal : (a b : Goal) → goal_test.eq-value.it a b ≡ true → a ≡ b
same_goal a b same =
    let both = and_parts (eqb a.function b.function) (eqb a.first b.first && eqb a.second b.second) same in
    let rest = and_parts (eqb a.first b.first) (eqb a.second b.second) both.1 in
    let function = eqb-true a.function b.function both.0 in
    let first = eqb-true a.first b.first rest.0 in
    let second = eqb-true a.second b.second rest.1 in
    (λ i. record { function = function i; first = first i; second = second i })

pub goal_itself : (a : Goal) → goal_test.eq-value.it a a ≡ true
goal_itself a = and_from _ _ (eq-eqb a.function a.function refl) (and_from _ _ (eq-eqb a.first a.first refl) (eq-eqb a.second a.second refl))

module _ (basis : Basis) (linear : ℕ → Bool) where
  -- what follows of what is so is so
  pub follows_so : (known : List Goal) (goal : Goal) → AreKnown basis linear known → Follows basis linear known goal → IsSo basis linear goal
  follows_so known goal sound (Follows.one_lock mean) = Same.one_lock mean
  follows_so known goal sound (Follows.outside apart site each value) =
      Same.outside apart site (λ p h i enters.
      let found = each p h i enters in
      SameOver.over found.1.up.first found.1.up.second (subst (λ f. Same basis linear f found.0.first found.0.second) found.1.function (sound found.0 found.2)))
      value

  -- what is asked outside a way is one goal
  one_outside : (goal a b : Goal) (h : ℕ) (way : Way) → IsOutsideGoal basis linear goal h way a → IsOutsideGoal basis linear goal h way b → b ≡ a
  one_outside goal a b h way one other =
      let function : b.function ≡ a.function = other.function ∙ sym one.function in
      let first : b.first ≡ a.first = one.up.first.only b.first other.up.first.holds in
      let second : b.second ≡ a.second = one.up.second.only b.second other.up.second.holds in
      (λ i. record { function = function i; first = first i; second = second i })

  pub outside_one : (goal outer : Goal) (h : ℕ) (way : Way) → IsOutsideGoal basis linear goal h way outer → (other : Goal) → (outer ≡ other) ↔ IsOutsideGoal basis linear goal h way other
  outside_one goal outer h way is other = (λ same. subst (IsOutsideGoal basis linear goal h way) same is, λ it. sym (one_outside goal outer other h way is it))

  -- a link by a call agrees where the one goal outside it is known, and not where there is none
  pub agrees_known : (known : List Goal) (goal outer : Goal) (link : Link) (i : ℕ) (answer : Bool) → link.way ≡ Through i → IsOutsideGoal basis linear goal link.above link.way outer → (IsTrue answer ↔ Contains known outer) → IsTrue answer ↔ Agrees basis linear known goal link
  agrees_known known goal outer link i answer by outside asked = (
    λ yes j is. (outer, subst (λ w. IsOutsideGoal basis linear goal link.above w outer) is outside, asked.0 yes),
    λ agree.
        let found = agree i by in
        let there = subst (λ w. IsOutsideGoal basis linear goal link.above w found.0) (sym by) found.1 in
        asked.1 (subst (Contains known) (one_outside goal outer found.0 link.above link.way outside there) found.2),
  )

  pub agrees_never : (known : List Goal) (goal : Goal) (link : Link) (i : ℕ) → link.way ≡ Through i → ((outer : Goal) → IsOutsideGoal basis linear goal link.above link.way outer → ⊥) → IsTrue false ↔ Agrees basis linear known goal link
  agrees_never known goal link i by none = (
    λ yes. absurd (false≢true yes),
    λ agree.
        let found = agree i by in
        absurd (none found.0 (subst (λ w. IsOutsideGoal basis linear goal link.above w found.0) (sym by) found.1)),
  )

  pub agrees_value : (known : List Goal) (goal : Goal) (link : Link) (i : ℕ) → link.way ≡ AsValue i → IsTrue true ↔ Agrees basis linear known goal link
  agrees_value known goal link i by = (λ yes j is. absurd (cc (by, is)), λ agree. refl)

  -- through the function's own site
  pub agree_value : (goal : Goal) (i m n : ℕ) (answer : Bool) → value_site_of basis.program goal.function ≡ Some i → AreUp basis linear (AsValue i) goal.first goal.second m n → (IsTrue answer ↔ MeanOneLock basis linear m n) → IsTrue answer ↔ AgreeAsValue basis linear goal
  agree_value goal i m n answer site up asked = (
    λ yes j at. subst (λ k. MeanOneLockOver basis linear (AsValue k) goal.first goal.second) (same_Some _ _ (sym site ∙ at)) (record { first = m; second = n; first_up = up.first; second_up = up.second; mean = asked.0 yes }),
    λ agree.
        let over = agree i site in
        let first : over.first ≡ m = up.first.only over.first over.first_up.holds in
        let second : over.second ≡ n = up.second.only over.second over.second_up.holds in
        asked.1 (subst (λ k. MeanOneLock basis linear m k) second (subst (λ k. MeanOneLock basis linear k over.second) first over.mean)),
  )

  pub agree_never : (goal : Goal) (i : ℕ) → value_site_of basis.program goal.function ≡ Some i → ((m n : ℕ) → AreUp basis linear (AsValue i) goal.first goal.second m n → ⊥) → IsTrue false ↔ AgreeAsValue basis linear goal
  agree_never goal i site none = (
    λ yes. absurd (false≢true yes),
    λ agree. let over = agree i site in absurd (none over.first over.second (record { first = over.first_up; second = over.second_up })),
  )

  -- what follows, case by case
  pub follows_one : (known : List Goal) (goal : Goal) → MeanOneLock basis linear goal.first goal.second → IsTrue true ↔ Follows basis linear known goal
  follows_one known goal mean = (λ yes. Follows.one_lock mean, λ follows. refl)

  pub follows_never : (known : List Goal) (goal : Goal) → (MeanOneLock basis linear goal.first goal.second → ⊥) →
      (NotBothOrigins basis linear goal.first goal.second → HasSite basis linear goal.function → AgreeAsValue basis linear goal → ⊥) → IsTrue false ↔ Follows basis linear known goal
  follows_never known goal not_one lacks = (λ yes. absurd (false≢true yes), λ follows. absurd (of follows))
    where
      of : Follows basis linear known goal → ⊥
      of (Follows.one_lock mean) = not_one mean
      of (Follows.outside apart site each value) = lacks apart site value

  pub follows_if : (known : List Goal) (goal : Goal) (answer : Bool) → (MeanOneLock basis linear goal.first goal.second → ⊥) → NotBothOrigins basis linear goal.first goal.second → HasSite basis linear goal.function → AgreeAsValue basis linear goal →
      (IsTrue answer ↔ ((p h i : ℕ) → Enters basis p h (Through i) goal.function → (outer : Goal) × IsOutsideGoal basis linear goal h (Through i) outer × Contains known outer)) → IsTrue answer ↔ Follows basis linear known goal
  follows_if known goal answer not_one apart site value asked = (λ yes. Follows.outside apart site (asked.0 yes) value, λ follows. asked.1 (of follows))
    where
      of : Follows basis linear known goal → (p h i : ℕ) → Enters basis p h (Through i) goal.function → (outer : Goal) × IsOutsideGoal basis linear goal h (Through i) outer × Contains known outer
      of (Follows.one_lock mean) = absurd (not_one mean)
      of (Follows.outside apart' site' each value') = each

  -- two labels that mean one lock are the same, and two origins only so
  pub same_one : (f x y : ℕ) → MeanOneLock basis linear x y → IsTrue true ↔ Same basis linear f x y
  same_one f x y mean = (λ yes. Same.one_lock mean, λ same. refl)

  pub same_never : (f x y : ℕ) → (MeanOneLock basis linear x y → ⊥) → is_origin_at basis.labels x ≡ true → is_origin_at basis.labels y ≡ true → IsTrue false ↔ Same basis linear f x y
  same_never f x y not_one first second = (λ yes. absurd (false≢true yes), λ same. absurd (of same))
    where
      of : Same basis linear f x y → ⊥
      of (Same.one_lock mean) = not_one mean
      of (Same.outside apart site each value) = apart first second

  -- a goal that is put to what is known
  pub learned : (known new : List Goal) (goal : Goal) → new ≡ known ++ goal ∷ [] → length known < 2 ^ 63 → Follows basis linear known goal → Progress unknown (Learns basis linear) (IsSettled basis linear goal) known new true
  learned known new goal is few follows = record {
    keeps = record {
      kept = λ g there. subst (λ gs. Contains gs g) (sym is) (Contains-append_left known (goal ∷ []) g there);
      sound = λ sound g there.
          ⊎_elim (sound g) (λ same. subst (IsSo basis linear) same (follows_so known goal sound follows)) (Contains-push_cases known goal g (subst (λ gs. Contains gs g) is there));
    };
    falls = λ yes. omega (arith, few, ap length is, length-append known (goal ∷ []));
    same = λ not. absurd (false≢true (sym not));
    done = λ not. absurd (false≢true (sym not));
  }

  pub learns_nothing : (known : List Goal) → Learns basis linear known known
  learns_nothing known = record { kept = λ g there. there; sound = λ sound. sound }

  pub not_learned : (known : List Goal) (goal : Goal) → IsSettled basis linear goal known → Progress unknown (Learns basis linear) (IsSettled basis linear goal) known known false
  not_learned known goal settled = progress_none unknown (Learns basis linear) (IsSettled basis linear goal) known (learns_nothing known) settled

  pub learns_more : (old mid new : List Goal) → Learns basis linear old mid → Learns basis linear mid new → Learns basis linear old new
  learns_more old mid new one other = record { kept = λ g there. other.kept g (one.kept g there); sound = λ sound. other.sound (one.sound sound) }

  -- what is so of what was asked is known, where all that follows is
  module _ (goals known : List Goal) (asked : AreAsked basis linear goals) (all : AllKnown basis linear goals known) where
    mutual
      so_known : {f x y : ℕ} → Same basis linear f x y → Contains goals (goal_of f x y) → Contains known (goal_of f x y)
      so_known {f} {x} {y} (Same.one_lock mean) there = all (goal_of f x y) there (Follows.one_lock mean)
      so_known {f} {x} {y} (Same.outside apart site each value) there =
          all (goal_of f x y) there (Follows.outside apart site (λ p h i enters. over_known f p i refl there enters (each p h i enters)) value)

      over_known : {h x y : ℕ} {way : Way} (f p i : ℕ) → way ≡ Through i → Contains goals (goal_of f x y) → Enters basis p h (Through i) f → SameOver basis linear h way x y →
          (outer : Goal) × IsOutsideGoal basis linear (goal_of f x y) h (Through i) outer × Contains known outer
      over_known {h} {x} {y} {way} f p i is there enters (SameOver.over {m = m} {n} first second same) =
          let outside : IsOutsideGoal basis linear (goal_of f x y) h (Through i) (goal_of h m n) = record {
            function = refl;
            up = record { first = subst (λ w. Up basis.flow w x m) is first; second = subst (λ w. Up basis.flow w y n) is second };
          } in
          (goal_of h m n, outside, so_known same (asked (goal_of f x y) (goal_of h m n) p h i there enters outside))

    pub known_is : (f x y : ℕ) → AreKnown basis linear known → Contains goals (goal_of f x y) → Contains known (goal_of f x y) ↔ Same basis linear f x y
    known_is f x y sound there = (λ is. sound (goal_of f x y) is, λ same. so_known same there)

  -- by each link into it a function is entered
  rises_enters : {p f g : ℕ} {way : Way} {child above : Bool} → Rises basis p f way g child above → Enters basis p f way g
  rises_enters (Rises.run runs) = Enters.run runs
  rises_enters (Rises.start starts) = Enters.start starts

  module _ (into : List (List Link)) (are : AreLinksInto basis into) where
    pub link_enters : (g : ℕ) (link : Link) → Contains (links_into into g) link → Enters basis link.point link.above link.way g
    link_enters g link there =
        let is = are.each g link there in
        subst (λ b. Enters basis link.point link.above link.way b) is.into (rises_enters (is.is.rises false))

    -- and each way in has its link
    pub enters_link : (P : (h : ℕ) → Way → Type 0) (p h g : ℕ) (way : Way) → Enters basis p h way g → ((link : Link) → Contains (links_into into g) link → P link.above link.way) → P h way
    enters_link P p h g way (Enters.run runs) each =
        let found = are.all p h g way false false (Rises.run runs) in
        subst (λ w. P h w) found.3.by (subst (λ f. P f found.0.way) found.3.from (each found.0 found.1))
    enters_link P p h g way (Enters.start starts) each =
        let found = are.all p h g way false true (Rises.start starts) in
        subst (λ w. P h w) found.3.by (subst (λ f. P f found.0.way) found.3.from (each found.0 found.1))

    -- a function has a site: its own, or that of a link by a call or creation
    pub site_value : (f i : ℕ) → value_site_of basis.program f ≡ Some i → IsTrue true ↔ HasSite basis linear f
    site_value f i at = (λ yes. HasSite.value at, λ has. refl)

    pub site_through : (f : ℕ) (answer : Bool) → value_site_of basis.program f ≡ None → (IsTrue answer ↔ OneIsThrough (links_into into f)) → IsTrue answer ↔ HasSite basis linear f
    site_through f answer none asked = (λ yes. there (asked.0 yes), λ has. asked.1 (back has))
      where
        there : OneIsThrough (links_into into f) → HasSite basis linear f
        there found = HasSite.entered (subst (λ w. Enters basis found.0.point found.0.above w f) found.3 (link_enters f found.0 found.1))

        back : HasSite basis linear f → OneIsThrough (links_into into f)
        back (HasSite.entered {p} {h} {i} enters) =
            enters_link (λ above way. (way ≡ Through i) → OneIsThrough (links_into into f)) p h f (Through i) enters (λ link is by. (link, is, i, by)) refl
        back (HasSite.value at) = absurd (none-some _ (sym none ∙ at))

    -- what is asked outside a call or creation is asked outside a link
    pub asked_is : (goal outer : Goal) (p h i : ℕ) → Enters basis p h (Through i) goal.function → IsOutsideGoal basis linear goal h (Through i) outer → IsAskedByOne basis linear (links_into into goal.function) goal outer
    asked_is goal outer p h i enters outside =
        enters_link (λ above way. IsOutsideGoal basis linear goal above way outer → IsAskedByOne basis linear (links_into into goal.function) goal outer) p h goal.function (Through i) enters
        (λ link there is. (link, there, is)) outside

    -- all links agree exactly where what is asked outside all calls and creations is known
    pub agree_is : (known : List Goal) (goal : Goal) →
        ((link : Link) → Contains (links_into into goal.function) link → Agrees basis linear known goal link)
        ↔ ((p h i : ℕ) → Enters basis p h (Through i) goal.function → (outer : Goal) × IsOutsideGoal basis linear goal h (Through i) outer × Contains known outer)
    agree_is known goal = (
      λ agree p h i enters.
          enters_link (λ above way. (j : ℕ) → way ≡ Through j → (outer : Goal) × IsOutsideGoal basis linear goal above (Through j) outer × Contains known outer)
          p h goal.function (Through i) enters agree i refl,
      λ each link there i is.
          each link.point link.above i (subst (λ w. Enters basis link.point link.above w goal.function) is (link_enters goal.function link there)),
    )
