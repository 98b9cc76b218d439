-- Lists of nodes: what is put, what is kept, and which nodes a walk lists.
use Rattle.std.proofs.Common.{◌≡◌, ◌↔◌, ℕ, zero, suc, ◌<◌, ◌⊎◌, Bool, true, false, List, [], ◌∷◌, ◌++◌, map, length, get_or, Some, Contains, inl, inr, refl, sym, ap, ◌∙◌, subst, arith}
use Rattle.std.specs.Prelude.{slice_get}
use Rattle.std.proofs.lemmas.Bool.{both_ways}
use Rattle.std.proofs.lemmas.List.Elements.{All-contains, Contains-append_cases, Contains-append_left, Contains-append_right, Contains-push, Contains-push_cases}
use Rattle.std.proofs.lemmas.List.Quantifiers.{all_pairs_push}
use Rattle.std.proofs.lemmas.Option.{none-some, same_Some}
use Rattle.lk_facts.specs.LabelRules.{ComesBefore, IsNodeOf, IsStart, NamesPlace, parts_of, sels, form_of, is_function}
use Rattle.lk_facts.specs.LabelRules.IsNodeOf.{start as start_of, part as part_of}
use Rattle.lk_facts.specs.LabelRules.NamesPlace.{start as start_named, part as part_named}
use Rattle.lk_facts.specs.Places.{IsPut}
use Rattle.lk_facts.specs.Places.IsPut.{there as was_there, added}
use Rattle.lk_types.specs.Nodes.{Node, IsNode, first, node_of, step}
use Rattle.lk_types.specs.Table.{Table}
use Rattle.lk_types.specs.declared.node.Base.TheVariants.{Start}
use Rattle.lk_types.specs.declared.node.NodeId.{NodeId}
use Rattle.lk_label.specs.Naming.{AreJoined, AreKept, AreNamed, ArePlaces, IsPutPlaces, LeadsToPlace, StandsEarlier}
use Rattle.lk_label.specs.Walking.{ArePartsOfNode, IsWalkOf}
use Rattle.lk_label.proofs.Walks.{Contains-first, Contains-cons_cases, Contains-none, lists_ahead, lists_parts, lists_only}
use Rattle.lk_label.proofs.WalkSteps.{contains_map, from_map, contains_got, got_contains, last_got, one_id, contains_id}
use Rattle.lk_label.proofs.PartSteps.{part_listed, part_stepped, listed_step, unfiltered, leads_from_object, none_from_function}

pub got_early : {X : Type 0} (xs ys : List X) (i : ℕ) (x : X) → slice_get xs i ≡ Some x → slice_get (xs ++ ys) i ≡ Some x
got_early [] ys i x at = absurd (none-some x at)
got_early (y ∷ xs) ys zero x at = at
got_early (y ∷ xs) ys (suc i) x at = got_early xs ys i x at

-- one that is put is among them, and so are those that were, in their places
pub put_cases : {X : Type 0} {old new : List X} {x : X} {i : ℕ} → IsPut old new x i → (y : X) → Contains new y ↔ (Contains old y ⊎ (x ≡ y))
put_cases {old = old} {x = x} {i = i} (was_there at same) y = (
  λ there. inl (subst (λ xs. Contains xs y) same there),
  λ either. elim either [
    | inl before ↦ subst (λ xs. Contains xs y) (sym same) before
    | inr is ↦ subst (λ xs. Contains xs y) (sym same) (subst (Contains old) is (contains_got old i x at))
  ],
)
put_cases {old = old} {x = x} (added out is) y = (
  λ there. Contains-push_cases old x y (subst (λ xs. Contains xs y) is there),
  λ either. subst (λ xs. Contains xs y) (sym is) (elim either [
    | inl before ↦ Contains-append_left old (x ∷ []) y before
    | inr same ↦ subst (Contains (old ++ x ∷ [])) same (Contains-push old x)
  ]),
)

pub kept_put : {X : Type 0} {old new : List X} {x : X} {i : ℕ} → IsPut old new x i → (j : ℕ) (y : X) → slice_get old j ≡ Some y → slice_get new j ≡ Some y
kept_put (was_there at same) j y there = subst (λ xs. slice_get xs j ≡ Some y) (sym same) there
kept_put {old = old} {x = x} (added out is) j y there = subst (λ xs. slice_get xs j ≡ Some y) (sym is) (got_early old (x ∷ []) j y there)

pub joined_none : (old : List NodeId) → AreJoined old [] old
joined_none old = record {
  kept = λ i n at. at;
  each = λ n. (
    λ there. inl there,
    λ either. elim either [
      | inl before ↦ before
      | inr none ↦ absurd (Contains-none n none)
    ],
  );
}

pub joined_more : (first old new more : List NodeId) {n : NodeId} {i : ℕ} → AreJoined first more old → IsPut old new n i → AreJoined first (more ++ n ∷ []) new
joined_more first old new more {n} before put = record {
  kept = λ j m at. kept_put put j m (before.kept j m at);
  each = λ m. (there m, back m);
}
  where
    there : (m : NodeId) → Contains new m → Contains first m ⊎ Contains (more ++ n ∷ []) m
    there m among = elim ((put_cases put m).0 among) [
      | inl was ↦ elim ((before.each m).0 was) [
        | inl early ↦ inl early
        | inr late ↦ inr (Contains-append_left more (n ∷ []) m late)
      ]
      | inr same ↦ inr (subst (Contains (more ++ n ∷ [])) same (Contains-push more n))
    ]

    back : (m : NodeId) → Contains first m ⊎ Contains (more ++ n ∷ []) m → Contains new m
    back m (inl early) = (put_cases put m).1 (inl ((before.each m).1 (inl early)))
    back m (inr late) = elim (Contains-push_cases more n m late) [
      | inl was ↦ (put_cases put m).1 (inl ((before.each m).1 (inr was)))
      | inr same ↦ (put_cases put m).1 (inr same)
    ]

get_again : (xs : List NodeId) (k : ℕ) (d : NodeId) → k < length xs → get_or xs k (get_or xs k d) ≡ get_or xs k d
get_again [] k d within = absurd (omega (arith, within))
get_again (x ∷ xs) zero d within = refl
get_again (x ∷ xs) (suc k) d within = get_again xs k d (omega (arith, within))

pub none_kept : (others : List NodeId) → AreKept [] others []
none_kept others = record {
  each = λ n. (λ there. absurd (Contains-none n there), λ both. absurd (Contains-none n both.0));
  ordered = λ i j d less within. absurd (omega (arith, within));
}

-- one more node of them, which is among the others
pub kept_more : {nodes others kept : List NodeId} (n : NodeId) → Contains others n → AreKept nodes others kept → AreKept (nodes ++ n ∷ []) others (kept ++ n ∷ [])
kept_more {nodes} {others} {kept} n among before = record {
  each = λ m. (there m, λ both. back m both.0 both.1);
  ordered = all_pairs_push (StandsEarlier (nodes ++ n ∷ [])) kept n (λ i j d less within. widened (before.ordered i j d less within)) (λ k d within. last k d within);
}
  where
    there : (m : NodeId) → Contains (kept ++ n ∷ []) m → Contains (nodes ++ n ∷ []) m × Contains others m
    there m in_kept = elim (Contains-append_cases kept (n ∷ []) m in_kept) [
      | inl early ↦ let both = (before.each m).0 early in (Contains-append_left nodes (n ∷ []) m both.0, both.1)
      | inr late ↦ elim (Contains-cons_cases n m [] late) [
        | inl same ↦ (Contains-append_right nodes (n ∷ []) m late, subst (Contains others) same among)
        | inr none ↦ absurd (Contains-none m none)
      ]
    ]

    back : (m : NodeId) → Contains (nodes ++ n ∷ []) m → Contains others m → Contains (kept ++ n ∷ []) m
    back m in_nodes other = elim (Contains-append_cases nodes (n ∷ []) m in_nodes) [
      | inl early ↦ Contains-append_left kept (n ∷ []) m ((before.each m).1 (early, other))
      | inr late ↦ Contains-append_right kept (n ∷ []) m late
    ]

    widened : {a b : NodeId} → StandsEarlier nodes a b → StandsEarlier (nodes ++ n ∷ []) a b
    widened {a} {b} (i, j, a_at, b_at, less) = (i, j, got_early nodes (n ∷ []) i a a_at, got_early nodes (n ∷ []) j b b_at, less)

    last : (k : ℕ) (d : NodeId) → k < length kept → StandsEarlier (nodes ++ n ∷ []) (get_or kept k d) n
    last k d within =
        let m = get_or kept k d in
        let one = ((before.each m).0 (k, within, get_again kept k d within)).0 in
        (one.0, length nodes, got_early nodes (n ∷ []) one.0 m (got_contains nodes m one), last_got nodes n, one.1)

-- one more of them, which isn't
pub kept_over : {nodes others kept : List NodeId} (n : NodeId) → (Contains others n → ⊥) → AreKept nodes others kept → AreKept (nodes ++ n ∷ []) others kept
kept_over {nodes} {others} {kept} n out before = record {
  each = λ m. (λ in_kept. let both = (before.each m).0 in_kept in (Contains-append_left nodes (n ∷ []) m both.0, both.1), λ both. back m both.0 both.1);
  ordered = λ i j d less within. widened (before.ordered i j d less within);
}
  where
    back : (m : NodeId) → Contains (nodes ++ n ∷ []) m → Contains others m → Contains kept m
    back m in_nodes other = elim (Contains-append_cases nodes (n ∷ []) m in_nodes) [
      | inl early ↦ (before.each m).1 (early, other)
      | inr late ↦ elim (Contains-cons_cases n m [] late) [
        | inl same ↦ absurd (out (subst (Contains others) (sym same) other))
        | inr none ↦ absurd (Contains-none m none)
      ]
    ]

    widened : {a b : NodeId} → StandsEarlier nodes a b → StandsEarlier (nodes ++ n ∷ []) a b
    widened {a} {b} (i, j, a_at, b_at, less) = (i, j, got_early nodes (n ∷ []) i a a_at, got_early nodes (n ∷ []) j b b_at, less)

module _ (table : Table) where
  -- what is put for a node that is no function, and for one that is
  pub object_put : (m : NodeId) (old parts new : List NodeId) → is_function (form_of table m) ≡ false → ArePartsOfNode table m parts → AreJoined old parts new → IsPutPlaces table m old new
  object_put m old parts new object of joined n = (there, back)
    where
      there : Contains new n → Contains old n ⊎ LeadsToPlace table m n
      there among = elim ((joined.each n).0 among) [
        | inl was ↦ inl was
        | inr part ↦ let to = part_stepped table m n parts of part in inr (to.0, leads_from_object table m n to.0 object to.1, to.1)
      ]

      back : Contains old n ⊎ LeadsToPlace table m n → Contains new n
      back (inl was) = (joined.each n).1 (inl was)
      back (inr (s, leads, steps)) = (joined.each n).1 (inr (part_listed table m n s parts of steps))

  pub function_put : (m : NodeId) (old : List NodeId) → is_function (form_of table m) ≡ true → IsPutPlaces table m old old
  function_put m old function n = (λ there. inl there, back)
    where
      back : Contains old n ⊎ LeadsToPlace table m n → Contains old n
      back (inl was) = was
      back (inr (s, leads, steps)) = absurd (none_from_function table m n s function leads steps)

  -- the Start of the type, where a root has it
  pub start_put : (t : ℕ) (whole : Bool) (n : NodeId) (old new : List NodeId) {i : ℕ} → whole ≡ true → old ≡ [] → IsNode table n → node_of table n ≡ first (Start t) → IsPut old new n i → (m : NodeId) → Contains new m ↔ ((whole ≡ true) × IsStart table t m)
  start_put t whole n old new true_is none_is is start put m = (there, λ both. (put_cases put m).1 (inr (one_id table n m is both.1.node (start ∙ sym both.1.first))))
    where
      there : Contains new m → (whole ≡ true) × IsStart table t m
      there among = elim ((put_cases put m).0 among) [
        | inl none ↦ absurd (Contains-none m (subst (λ xs. Contains xs m) none_is none))
        | inr same ↦ (true_is, subst (IsStart table t) same (record { node = is; first = start }))
      ]

  pub no_start : (t : ℕ) (whole : Bool) (places : List NodeId) → whole ≡ false → places ≡ [] → (m : NodeId) → Contains places m ↔ ((whole ≡ true) × IsStart table t m)
  no_start t whole places isnt none_is m = (λ there. absurd (Contains-none m (subst (λ xs. Contains xs m) none_is there)), λ both. absurd (both_ways whole isnt both.0))

  -- the places from the first nodes, and from one more
  pub places_none : (t : ℕ) (whole : Bool) (places : List NodeId) → ((n : NodeId) → Contains places n ↔ ((whole ≡ true) × IsStart table t n)) → ArePlaces table t whole [] places
  places_none t whole places starts n = (λ there. inl ((starts n).0 there), back)
    where
      back : ((whole ≡ true) × IsStart table t n) ⊎ ((m : NodeId) × Contains [] m × LeadsToPlace table m n) → Contains places n
      back (inl is) = (starts n).1 is
      back (inr (m, none, leads)) = absurd (Contains-none m none)

  pub places_more : (t : ℕ) (whole : Bool) (nodes old new : List NodeId) (m : NodeId) → ArePlaces table t whole nodes old → IsPutPlaces table m old new → ArePlaces table t whole (nodes ++ m ∷ []) new
  places_more t whole nodes old new m before put n = (there, back)
    where
      there : Contains new n → ((whole ≡ true) × IsStart table t n) ⊎ ((k : NodeId) × Contains (nodes ++ m ∷ []) k × LeadsToPlace table k n)
      there among = elim ((put n).0 among) [
        | inl was ↦ elim ((before n).0 was) [
          | inl is ↦ inl is
          | inr (k, early, leads) ↦ inr (k, Contains-append_left nodes (m ∷ []) k early, leads)
        ]
        | inr leads ↦ inr (m, Contains-push nodes m, leads)
      ]

      back : ((whole ≡ true) × IsStart table t n) ⊎ ((k : NodeId) × Contains (nodes ++ m ∷ []) k × LeadsToPlace table k n) → Contains new n
      back (inl is) = (put n).1 (inl ((before n).1 (inl is)))
      back (inr (k, among, leads)) = elim (Contains-append_cases nodes (m ∷ []) k among) [
        | inl early ↦ (put n).1 (inl ((before n).1 (inr (k, early, leads))))
        | inr late ↦ elim (Contains-cons_cases m k [] late) [
          | inl same ↦ (put n).1 (inr (subst (λ x. LeadsToPlace table x n) (sym same) leads))
          | inr none ↦ absurd (Contains-none k none)
        ]
      ]

  node_of_type : {t : ℕ} {n : NodeId} → IsNodeOf table t n → IsNode table n
  node_of_type (start_of n is) = is.node
  node_of_type (part_of m n s of steps) = steps.node

  -- a walk lists the nodes of its type
  pub in_walk : (t : ℕ) (ids : List NodeId) → IsWalkOf table t ids → {n : NodeId} → IsNodeOf table t n → Contains ids n
  in_walk t ids walk (start_of n is) =
      contains_id table ids n walk.nodes is.node (lists_ahead table walk.walk (node_of table n) (subst (Contains (first (Start t) ∷ [])) (sym is.first) (Contains-first (first (Start t)) [])))
  in_walk t ids walk (part_of m n s of steps) =
      let listed = contains_map (node_of table) ids m (in_walk t ids walk of) in
      contains_id table ids n walk.nodes steps.node (lists_parts table walk.walk (node_of table m) (node_of table n) listed (listed_step table (node_of table m) s n steps.node steps.leads))

  pub of_walk : (t : ℕ) (ids : List NodeId) → IsWalkOf table t ids → (n : NodeId) → Contains ids n → IsNodeOf table t n
  of_walk t ids walk n there =
      let found = lists_only table P (map (node_of table) ids) on walk.walk (λ k listed. listed) starts (node_of table n) (contains_map (node_of table) ids n there) in
      subst (IsNodeOf table t) (one_id table found.0 n (node_of_type found.2) (All-contains (IsNode table) ids n walk.nodes there) found.1) found.2
    where
      P : Node → Type 0
      P node = (m : NodeId) × (node_of table m ≡ node) × IsNodeOf table t m

      starts : (k : Node) → Contains (first (Start t) ∷ []) k → P k
      starts k ahead = elim (Contains-cons_cases (first (Start t)) k [] ahead) [
        | inl same ↦
            let one = from_map (node_of table) ids k (lists_ahead table walk.walk k ahead) in
            (one.0, one.2, start_of one.0 (record { node = All-contains (IsNode table) ids one.0 walk.nodes one.1; first = one.2 ∙ sym same }))
        | inr none ↦ absurd (Contains-none k none)
      ]

      on : (m k : Node) → Contains (map (node_of table) ids) m → P m → Contains (parts_of table m) k → P k
      on m k listed (m_id, is, of) part =
          let one = from_map (node_of table) ids k (lists_parts table walk.walk m k listed part) in
          let to = unfiltered (step table m) (sels table m.type) k part in
          let leads : step table (node_of table m_id) to.0 ≡ Some (node_of table one.0) = subst (λ x. step table x to.0 ≡ Some (node_of table one.0)) (sym is) (to.1 ∙ ap Some (sym one.2)) in
          (one.0, one.2, part_of m_id one.0 to.0 of (record { node = All-contains (IsNode table) ids one.0 walk.nodes one.1; leads = leads }))

  -- the nodes of the walk that are among the places are those that name places
  pub named : (t : ℕ) (whole : Bool) (ids places kept : List NodeId) → IsWalkOf table t ids → ArePlaces table t whole ids places → AreKept ids places kept → AreNamed table t whole kept
  named t whole ids places kept walk are keeps = record {
    each = λ n. (there n, λ names. (keeps.each n).1 (in_walk t ids walk (of_named names), is_place names));
    ordered = λ i j d less within. before (keeps.ordered i j d less within);
  }
    where
      there : (n : NodeId) → Contains kept n → NamesPlace table t whole n
      there n among = elim ((are n).0 ((keeps.each n).0 among).1) [
        | inl (is, first) ↦ start_named n is first
        | inr (m, listed, (s, leads, steps)) ↦ part_named m n s (of_walk t ids walk m listed) leads steps
      ]

      of_named : {n : NodeId} → NamesPlace table t whole n → IsNodeOf table t n
      of_named (start_named n is first) = start_of n first
      of_named (part_named m n s of leads steps) = part_of m n s of steps

      is_place : {n : NodeId} → NamesPlace table t whole n → Contains places n
      is_place (start_named n is first) = (are n).1 (inl (is, first))
      is_place (part_named m n s of leads steps) = (are n).1 (inr (m, in_walk t ids walk of, (s, leads, steps)))

      got_map : (xs : List NodeId) (i : ℕ) (n : NodeId) → slice_get xs i ≡ Some n → slice_get (map (node_of table) xs) i ≡ Some (node_of table n)
      got_map [] i n at = absurd (none-some n at)
      got_map (x ∷ xs) zero n at = ap (λ k. Some (node_of table k)) (same_Some x n at)
      got_map (x ∷ xs) (suc i) n at = got_map xs i n at

      before : {m n : NodeId} → StandsEarlier ids m n → ComesBefore table t m n
      before {m} {n} (i, j, m_at, n_at, less) = record {
        walk = map (node_of table) ids;
        is = walk.walk;
        i = i;
        j = j;
        m_at = got_map ids i m m_at;
        n_at = got_map ids j n n_at;
        less = less;
      }
