-- What arrows lead to through marked numbers, and the cycles that are found by it.
use Rattle.std.proofs.Common.{◌≡◌, ◌<◌, ◌≤◌, ◌+◌, ◌⊎◌, ◌||◌, ◌↔◌, ℕ, Bool, true, false, eqb, List, [], Some, Contains, length, get_or, take, replicate, refl, sym, subst, ap, ◌∙◌, arith, inl, inr}
use Rattle.std.specs.Prelude.{slice_get, slice_set}
use Rattle.std.specs.List.{list_any}
use Rattle.std.proofs.lemmas.Bool.{both_ways, cases_eq, eq-eqb, eqb-true, or_cases, or_left, or_right}
use Rattle.std.proofs.lemmas.List.{get_or-set_other, get_or-replicate, take_all}
use Rattle.std.proofs.lemmas.List.Folds.{list_any_at}
use Rattle.std.proofs.lemmas.Option.{same_Some, slice_get-get_or, slice_get_within, get_or_from_slice_get}
use Rattle.lk_facts.specs.Reach.{IsNext, IsOnCycle, Plus}
use Rattle.lk_facts.specs.Reach.Plus.{one, more}
use Rattle.lk_facts.specs.declared.program.Program.{Program}
use Rattle.lk_graph.specs.Found.{FoundList, Finds}
use Rattle.lk_graph.specs.Graph.{ends_of, leads}
use Rattle.lk_graph.specs.Order.{AreMarked}
use Rattle.lk_graph.specs.Search.{IsArrow, IsInCycle, IsOnRound, IsTurned, LeadsInto}
use Rattle.lk_graph.proofs.GraphLemmas.{has_id_more}
use Rattle.lk_graph.proofs.StepLemmas.{plus_both, plus_end, same_plus}
use Rattle.lk_sets.proofs.Adding.{adds_as}
use Rattle.lk_sets.proofs.Members.{Contains-from_has_id, has_id-from_Contains}
use Rattle.lk_sets.specs.Adding.{IsGiven}
use Rattle.lk_sets.specs.Ids.{has_id, IsSetOf}
use Rattle.lk_sets.specs.Marks.{is_marked}

pub finds_as : {P Q : ℕ → Type 0} {old new : FoundList} → ((x : ℕ) → P x ↔ Q x) → Finds P old new → Finds Q old new
finds_as same finds = record { size = finds.size; places = finds.places; adds = adds_as same finds.adds }

-- nothing is found
pub finds_none : (P : ℕ → Type 0) (found : FoundList) → ((x : ℕ) → P x → ⊥) → Finds P found found
finds_none P found never = record {
  size = refl;
  places = λ i x at. at;
  adds = record { members = λ x. (λ there. inl there, λ h. elim h [ inl there ↦ there | inr is ↦ absurd (never x is) ]) };
}

-- the number is this one, and marked
abbrev pub IsMarkedAs : List Bool → ℕ → ℕ → Type 0
IsMarkedAs marks b x = (b ≡ x) × (is_marked marks b ≡ true)

pub marked_ends : (graph : List (List ℕ)) (marks : List Bool) (a : ℕ) (ends : List ℕ) → ends ≡ ends_of graph a → (x : ℕ) → IsGiven (IsMarkedAs marks) ends x ↔ LeadsInto graph marks a x
marked_ends graph marks a ends are x = (
  λ given. (
    subst (λ b. has_id (ends_of graph a) b ≡ true) given.2.0 (subst (λ ids. has_id ids given.0 ≡ true) are (has_id-from_Contains ends given.0 given.1)),
    subst (λ b. is_marked marks b ≡ true) given.2.0 given.2.1,
  ),
  λ into. (x, Contains-from_has_id ends x (subst (λ ids. has_id ids x ≡ true) (sym are) into.0), (refl, into.1)),
)

-- the numbers of a list
pub each_given : (ids : List ℕ) (x : ℕ) → IsGiven (λ e y. e ≡ y) ids x ↔ Contains ids x
each_given ids x = (λ given. subst (Contains ids) given.2 given.1, λ there. (x, there, refl))

-- what was found so far, where the first k found numbers were followed
pub record IsSearch (graph : List (List ℕ)) (marks : List Bool) (start : ℕ) (found : List ℕ) (k : ℕ) : Type 0 where
  pub sound : (x : ℕ) → Contains found x → Plus (LeadsInto graph marks) start x
  pub first : (x : ℕ) → LeadsInto graph marks start x → Contains found x
  pub followed : (i a x : ℕ) → i < k → slice_get found i ≡ Some a → LeadsInto graph marks a x → Contains found x

module _ (graph : List (List ℕ)) (marks : List Bool) (start : ℕ) where
  pub search_first : (old new : FoundList) → old.list ≡ [] → Finds (LeadsInto graph marks start) old new → IsSearch graph marks start new.list 0
  search_first old new none finds = record {
    sound = λ x there. elim ((finds.adds.members x).0 there) [
      | inl known ↦ absurd (omega (arith, subst (λ list. known.0 < length list) none known.1))
      | inr into ↦ one into
    ];
    first = λ x into. (finds.adds.members x).1 (inr into);
    followed = λ i a x less. absurd (omega (arith, less));
  }

  pub search_more : (old new : FoundList) (k a : ℕ) → slice_get old.list k ≡ Some a → Finds (LeadsInto graph marks a) old new → IsSearch graph marks start old.list k → IsSearch graph marks start new.list (k + 1)
  search_more old new k a at finds before = record {
    sound = λ x there. elim ((finds.adds.members x).0 there) [
      | inl known ↦ before.sound x known
      | inr into ↦ plus_end (before.sound a (k, slice_get_within old.list k a at, get_or_from_slice_get old.list k a a at)) into
    ];
    first = λ x into. (finds.adds.members x).1 (inl (before.first x into));
    followed = λ i b x less is into. elim (cases_eq i k) [
      | inl same ↦
          let here : a ≡ b = same_Some _ _ (sym (finds.places k a at) ∙ subst (λ j. slice_get new.list j ≡ Some b) same is) in
          (finds.adds.members x).1 (inr (subst (λ c. LeadsInto graph marks c x) (sym here) into))
      | inr other ↦
          let below : i < length old.list = omega (arith, slice_get_within old.list k a at, less, other) in
          let was = slice_get-get_or old.list i b below in
          let here = same_Some _ _ (sym (finds.places i _ was) ∙ is) in
          (finds.adds.members x).1 (inl (before.followed i b x (omega (arith, less, other)) (was ∙ ap Some here) into))
    ];
  }

  module _ (found : List ℕ) (k : ℕ) (past : length found ≤ k) (search : IsSearch graph marks start found k) where
    from_found : {a x : ℕ} → Plus (LeadsInto graph marks) a x → Contains found a → Contains found x
    from_found (one {a} {b} into) there = search.followed there.0 a b (omega (arith, there.1, past)) (slice_get-get_or found there.0 a there.1 ∙ ap Some there.2) into
    from_found (more {a} {b} {c} into rest) there = from_found rest (search.followed there.0 a b (omega (arith, there.1, past)) (slice_get-get_or found there.0 a there.1 ∙ ap Some there.2) into)

    from_start : {x : ℕ} → Plus (LeadsInto graph marks) start x → Contains found x
    from_start (one {a} {b} into) = search.first b into
    from_start (more {a} {b} {c} into rest) = from_found rest (search.first b into)

    pub search_all : (x : ℕ) → Contains found x ↔ Plus (LeadsInto graph marks) start x
    search_all x = (search.sound x, from_start)

-- no cycle through a number is found where none of those is marked from which an arrow leads to it
pub no_round : (graph back : List (List ℕ)) (marks : List Bool) (a : ℕ) → list_any (λ x. is_marked marks x) (ends_of back a) ≡ false → (x : ℕ) → IsOnRound graph back marks a x → ⊥
no_round graph back marks a none x round = last round
  where
    marked : (b c : ℕ) → LeadsInto back marks b c → b ≡ a → ⊥
    marked b c into same =
        let there = Contains-from_has_id (ends_of back a) c (subst (λ z. leads back z c ≡ true) same into.0) in
        both_ways (list_any (λ y. is_marked marks y) (ends_of back a)) none
        (list_any_at (λ y. is_marked marks y) (ends_of back a) there.0 c there.1 (subst (λ y. is_marked marks y ≡ true) (sym there.2) into.1))

    first : {b c : ℕ} → Plus (LeadsInto back marks) b c → b ≡ a → ⊥
    first (one {a} {b} into) same = marked a b into same
    first (more {a} {b} {c} into rest) same = marked a b into same

    last : {b c : ℕ} → Plus (λ x y. IsArrow graph x y × Plus (LeadsInto back marks) a y) b c → ⊥
    last (one step) = first step.1 refl
    last (more step rest) = first step.1 refl

-- what arrows lead to from a through the numbers that were found before it is what is on a round
pub round_is : (graph back : List (List ℕ)) (marks found : List Bool) (before : List ℕ) (a : ℕ) → AreMarked found before → ((x : ℕ) → Contains before x ↔ Plus (LeadsInto back marks) a x) → (x : ℕ) → Plus (LeadsInto graph found) a x ↔ IsOnRound graph back marks a x
round_is graph back marks found before a marked is x =
    same_plus (LeadsInto graph found) (λ x y. IsArrow graph x y × Plus (LeadsInto back marks) a y) (λ b c. (
      λ into. (into.0, (is c).0 (Contains-from_has_id before c (marked c ∙ into.1))),
      λ step. (step.0, sym (marked c) ∙ has_id-from_Contains before c ((is c).1 step.1)),
    )) a x

-- where the search for cycles stands: each number that isn't left was asked, and the cycles through it were found
pub record IsAsked (graph : List (List ℕ)) (left : List Bool) (asked again : List ℕ) : Type 0 where
  pub long : length left ≡ length graph
  pub left_or_asked : (x : ℕ) → x < length graph → (is_marked left x ≡ true) ⊎ (has_id asked x ≡ true)
  pub sound : (x : ℕ) → Contains again x → IsInCycle graph x
  pub done : (g x : ℕ) → has_id asked g ≡ true → Plus (IsArrow graph) x g → Plus (IsArrow graph) g x → Contains again x

pub asked_none : (graph : List (List ℕ)) (left : List Bool) (asked again : List ℕ) → left ≡ replicate (length graph) true → length left ≡ length graph → asked ≡ [] → again ≡ [] → IsAsked graph left asked again
asked_none graph left asked again are long none nothing = record {
  long = long;
  left_or_asked = λ x below. inl (ap (λ marks. is_marked marks x) are ∙ get_or-replicate (length graph) x true false below);
  sound = λ x there. absurd (omega (arith, subst (λ list. there.0 < length list) nothing there.1));
  done = λ g x there. absurd (both_ways false refl (sym (ap (λ ids. has_id ids g) none) ∙ there));
}

module _ (graph back : List (List ℕ)) (left : List Bool) (asked again : List ℕ) (turned : IsTurned graph back) (within : (a b : ℕ) → leads graph a b ≡ true → b < length graph) (before : IsAsked graph left asked again) where
  -- each number of a chain is left, or one was asked
  abbrev Hits : ℕ → ℕ → Type 0
  Hits a b = (g : ℕ) × (has_id asked g ≡ true) × Plus (IsArrow graph) a g × (Plus (IsArrow graph) g b ⊎ (g ≡ b))

  split : {a b : ℕ} → Plus (IsArrow graph) a b → Plus (LeadsInto graph left) a b ⊎ Hits a b
  split (one {a} {b} step) = elim (before.left_or_asked b (within a b step)) [
    | inl is ↦ inl (one (step, is))
    | inr gone ↦ inr (b, gone, one step, inr refl)
  ]
  split (more {a} {b} {c} step rest) = elim (before.left_or_asked b (within a b step)) [
    | inl is ↦ elim (split rest) [
      | inl chain ↦ inl (more (step, is) chain)
      | inr hit ↦ inr (hit.0, hit.1, more step hit.2, hit.3)
    ]
    | inr gone ↦ inr (b, gone, one step, inl rest)
  ]

  -- a chain the other way round
  turn : {a b : ℕ} → Plus (LeadsInto graph left) a b → is_marked left a ≡ true → Plus (LeadsInto back left) b a
  turn (one {a} {b} step) is = one (turned.arrows b a ∙ step.0, is)
  turn (more {a} {b} {c} step rest) is = plus_end (turn rest step.1) (turned.arrows b a ∙ step.0, is)

  -- all of a chain from a that comes back to it
  comes_back : (a : ℕ) {b x : ℕ} → Plus (LeadsInto graph left) b x → is_marked left x ≡ true → Plus (LeadsInto graph left) x a → Plus (λ y z. IsArrow graph y z × Plus (LeadsInto back left) a z) b x
  comes_back a (one step) is back_to = one (step.0, turn back_to is)
  comes_back a (more step rest) is back_to = more (step.0, turn (plus_both rest back_to) step.1) (comes_back a rest is back_to)

  last_left : {a b : ℕ} → Plus (LeadsInto graph left) a b → is_marked left b ≡ true
  last_left (one step) = step.1
  last_left (more step rest) = last_left rest

  round_sound : (a : ℕ) {b x : ℕ} → Plus (λ y z. IsArrow graph y z × Plus (LeadsInto back left) a z) b x → Plus (IsArrow graph) b x × Plus (LeadsInto back left) a x
  round_sound a (one step) = (one step.0, step.1)
  round_sound a (more step rest) = let tail = round_sound a rest in (more step.0 tail.0, tail.1)

  unturn : {a b : ℕ} → Plus (LeadsInto back left) a b → Plus (IsArrow graph) b a
  unturn (one {a} {b} step) = one (sym (turned.arrows a b) ∙ step.0)
  unturn (more {a} {b} {c} step rest) = plus_end (unturn rest) (sym (turned.arrows a b) ∙ step.0)

  pub round_cycle : (a x : ℕ) → IsOnRound graph back left a x → IsInCycle graph x
  round_cycle a x round = let both = round_sound a round in plus_both (unturn both.1) both.0

  -- what lies on a cycle through the number was found, or is found now
  pub found_now : (a x : ℕ) → Plus (IsArrow graph) x a → Plus (IsArrow graph) a x → Contains again x ⊎ IsOnRound graph back left a x
  found_now a x to from = elim (split from) [
    | inr hit ↦ inl (before.done hit.0 x hit.1 (plus_both to hit.2) (elim hit.3 [ inl on ↦ on | inr same ↦ subst (λ g. Plus (IsArrow graph) g x) (sym same) (plus_both to from) ]))
    | inl forth ↦ elim (split to) [
      | inr hit ↦ inl (before.done hit.0 x hit.1 hit.2 (elim hit.3 [ inl on ↦ plus_both on from | inr same ↦ subst (λ g. Plus (IsArrow graph) g x) (sym same) from ]))
      | inl back_to ↦ inr (comes_back a forth (last_left forth) back_to)
    ]
  ]

-- one number more is asked
pub asked_more : (graph back : List (List ℕ)) (left now : List Bool) (order : List ℕ) (i d : ℕ) (old new : FoundList) → i < length order → IsTurned graph back → ((a b : ℕ) → leads graph a b ≡ true → b < length graph) →
    now ≡ slice_set left (get_or order i d) false → length now ≡ length left → Finds (IsOnRound graph back left (get_or order i d)) old new → IsAsked graph left (take i order) old.list → IsAsked graph now (take (i + 1) order) new.list
asked_more graph back left now order i d old new below turned within marks long finds before =
    let a = get_or order i d in
    let grown = has_id_more order i d in record {
      long = long ∙ before.long;
      left_or_asked = λ x less. elim (cases_eq x a) [
        | inl same ↦ inr (grown x below ∙ here x same)
        | inr other ↦ elim (before.left_or_asked x less) [
          | inl is ↦ inl (ap (λ list. is_marked list x) marks ∙ get_or-set_other left a x false false other ∙ is)
          | inr gone ↦ inr (grown x below ∙ earlier x gone)
        ]
      ];
      sound = λ x there. elim ((finds.adds.members x).0 there) [
        | inl known ↦ before.sound x known
        | inr round ↦ round_cycle graph back left (take i order) old.list turned within before a x round
      ];
      done = λ g x there to from. elim (or_cases (has_id (take i order) g) _ (sym (grown g below) ∙ there)) [
        | inl gone ↦ (finds.adds.members x).1 (inl (before.done g x gone to from))
        | inr same ↦
            let here' : a ≡ g = eqb-true a g same in
            (finds.adds.members x).1 (found_now graph back left (take i order) old.list turned within before a x (subst (Plus (IsArrow graph) x) (sym here') to) (subst (λ h. Plus (IsArrow graph) h x) (sym here') from))
      ];
    }
  where
    here : (x : ℕ) → x ≡ get_or order i d → (has_id (take i order) x || eqb (get_or order i d) x) ≡ true
    here x same = or_right (has_id (take i order) x) _ (eq-eqb (get_or order i d) x (sym same))

    earlier : (x : ℕ) → has_id (take i order) x ≡ true → (has_id (take i order) x || eqb (get_or order i d) x) ≡ true
    earlier x gone = or_left _ _ gone

pub asked_all : (graph : List (List ℕ)) (left : List Bool) (order again : List ℕ) (i : ℕ) → length order ≤ i → ((a : ℕ) → (has_id order a ≡ true) ↔ (a < length graph)) → ((a b : ℕ) → leads graph a b ≡ true → b < length graph) → IsAsked graph left (take i order) again → (x : ℕ) → Contains again x ↔ IsInCycle graph x
asked_all graph left order again i past all within asked x = (
  asked.sound x,
  λ cycle. asked.done x x (subst (λ ids. has_id ids x ≡ true) (sym (take_all i order past)) ((all x).1 (ends_within cycle))) cycle cycle,
)
  where
    ends_within : {a b : ℕ} → Plus (IsArrow graph) a b → b < length graph
    ends_within (one {a} {b} step) = within a b step
    ends_within (more step rest) = ends_within rest

-- the points on cycles, as a set
pub cycles_all : (program : Program) (graph : List (List ℕ)) (again ids set : List ℕ) → ids ≡ again → IsSetOf (has_id ids) set → ((a : ℕ) → Contains again a ↔ IsInCycle graph a) → ((p q : ℕ) → (leads graph p q ≡ true) ↔ IsNext program p q) → (p : ℕ) → (has_id set p ≡ true) ↔ IsOnCycle program p
cycles_all program graph again ids set same made found steps p =
    let plus = same_plus (IsArrow graph) (IsNext program) steps p p in (
      λ there. plus.0 ((found p).0 (Contains-from_has_id again p (subst (λ list. has_id list p ≡ true) same (sym (made.members p) ∙ there)))),
      λ cycle. made.members p ∙ subst (λ list. has_id list p ≡ true) (sym same) (has_id-from_Contains again p ((found p).1 (plus.1 cycle))),
    )
