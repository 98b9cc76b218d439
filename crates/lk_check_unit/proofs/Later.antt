-- Nodes that are walked and codes that are kept, in any order.
use Rattle.std.proofs.Common.{◌≡◌, ◌⊎◌, ◌++◌, ◌↔◌, Bool, true, false, List, [], ◌∷◌, refl, inl, inr}
use Rattle.std.specs.Prelude.{if◌then◌else◌}
use Rattle.lk_typed.specs.Env.{Env}
use Rattle.lk_typed.specs.Faults.{Breach, Fault}
use Rattle.lk_typed.specs.NodeParts.{parts}
use Rattle.lk_typed.specs.NodeRules.{breaches, hiding, mark_of}
use Rattle.lk_typed.specs.Nodes.{Node, Placed, at}
use Rattle.lk_typed.specs.Stands.{IsIn, Mark}
use Rattle.lk_rules.proofs.Kept.{HoldsHere, breach_both, broken_both, broken_in, codes_both, hiding_is_part, keeps_none, keeps_same, keeps_then, no_breach, no_fault, node_broken, node_faults, nodes_both, none_broken}
use Rattle.lk_rules.specs.Keeping.{FaultAt, FaultIn, HasBreach, IsBroken, Kept, KeepsCodes, KeepsNodes}
use Rattle.lk_found.specs.Keepings.{BreaksEach, Codes, FaultOfEach, KeepsAll, OfEach, codes_at}

-- ---- either

-- the middle one first
turn : {A B C : Type 0} → A ⊎ (B ⊎ C) → B ⊎ (A ⊎ C)
turn (inl a) = inr (inl a)
turn (inr (inl b)) = inl b
turn (inr (inr c)) = inr (inr c)

turned : {A B C : Type 0} → ((A ⊎ (B ⊎ C)) ↔ (B ⊎ (A ⊎ C)))
turned = (turn, turn)

-- the first two together
group : {A B C : Type 0} → A ⊎ (B ⊎ C) → (A ⊎ B) ⊎ C
group (inl a) = inl (inl a)
group (inr (inl b)) = inl (inr b)
group (inr (inr c)) = inr c

ungroup : {A B C : Type 0} → (A ⊎ B) ⊎ C → A ⊎ (B ⊎ C)
ungroup (inl (inl a)) = inl a
ungroup (inl (inr b)) = inr (inl b)
ungroup (inr c) = inr (inr c)

on_left : {A B C : Type 0} → (A → B) → A ⊎ C → B ⊎ C
on_left f (inl a) = inl (f a)
on_left f (inr c) = inr c

on_right : {A B C : Type 0} → (A → B) → C ⊎ A → C ⊎ B
on_right f (inl c) = inl c
on_right f (inr a) = inr (f a)

-- ---- codes in another order

module _ (At : Mark → List Breach → Type 0) where
  each_left : (cs ds : List Codes) → OfEach At cs → OfEach At (cs ++ ds)
  each_left [] ds h = absurd h
  each_left (c ∷ cs) ds (inl h) = inl h
  each_left (c ∷ cs) ds (inr h) = inr (each_left cs ds h)

  each_right : (cs ds : List Codes) → OfEach At ds → OfEach At (cs ++ ds)
  each_right [] ds h = h
  each_right (c ∷ cs) ds h = inr (each_right cs ds h)

  each_one : (cs ds : List Codes) → OfEach At (cs ++ ds) → OfEach At cs ⊎ OfEach At ds
  each_one [] ds h = inr h
  each_one (c ∷ cs) ds (inl h) = inl (inl h)
  each_one (c ∷ cs) ds (inr h) = on_left inr (each_one cs ds h)

  -- the second ones first
  each_turned : (cs ds es : List Codes) → OfEach At ((cs ++ ds) ++ es) → OfEach At (ds ++ (cs ++ es))
  each_turned cs ds es h = by (each_one (cs ++ ds) es h)
    where
      inside : OfEach At cs ⊎ OfEach At ds → OfEach At (ds ++ (cs ++ es))
      inside (inl i) = each_right ds (cs ++ es) (each_left cs es i)
      inside (inr i) = each_left ds (cs ++ es) i

      by : OfEach At (cs ++ ds) ⊎ OfEach At es → OfEach At (ds ++ (cs ++ es))
      by (inl i) = inside (each_one cs ds i)
      by (inr i) = each_right ds (cs ++ es) (each_right cs es i)

  each_back : (cs ds es : List Codes) → OfEach At (ds ++ (cs ++ es)) → OfEach At ((cs ++ ds) ++ es)
  each_back cs ds es h = by (each_one ds (cs ++ es) h)
    where
      inside : OfEach At cs ⊎ OfEach At es → OfEach At ((cs ++ ds) ++ es)
      inside (inl i) = each_left (cs ++ ds) es (each_left cs ds i)
      inside (inr i) = each_right (cs ++ ds) es i

      by : OfEach At ds ⊎ OfEach At (cs ++ es) → OfEach At ((cs ++ ds) ++ es)
      by (inl i) = each_left (cs ++ ds) es (each_right cs ds i)
      by (inr i) = inside (each_one cs es i)

module _ (at_end : Env) where
  -- other codes, where they tell the same
  other_codes : (old new : Kept) (ps : List Placed) (cs ds : List Codes) → ((f : Fault) → (FaultOfEach cs f ↔ FaultOfEach ds f)) → (BreaksEach cs ↔ BreaksEach ds) →
      KeepsAll at_end old ps cs new → KeepsAll at_end old ps ds new
  other_codes old new ps cs ds same alike kept =
      keeps_same old new (λ f. FaultIn at_end ps f ⊎ FaultOfEach cs f) (λ f. FaultIn at_end ps f ⊎ FaultOfEach ds f) (IsBroken at_end ps ⊎ BreaksEach cs) (IsBroken at_end ps ⊎ BreaksEach ds)
      (λ f. (on_right (same f).0, on_right (same f).1)) (on_right alike.0, on_right alike.1) kept

  pub codes_turned : (old new : Kept) (ps : List Placed) (cs ds es : List Codes) → KeepsAll at_end old ps ((cs ++ ds) ++ es) new → KeepsAll at_end old ps (ds ++ (cs ++ es)) new
  codes_turned old new ps cs ds es kept =
      other_codes old new ps ((cs ++ ds) ++ es) (ds ++ (cs ++ es))
      (λ f. (each_turned (λ mark broken. FaultAt mark broken f) cs ds es, each_back (λ mark broken. FaultAt mark broken f) cs ds es))
      (each_turned (λ mark broken. HasBreach broken) cs ds es, each_back (λ mark broken. HasBreach broken) cs ds es) kept

  pub codes_turned_back : (old new : Kept) (ps : List Placed) (cs ds es : List Codes) → KeepsAll at_end old ps (ds ++ (cs ++ es)) new → KeepsAll at_end old ps ((cs ++ ds) ++ es) new
  codes_turned_back old new ps cs ds es kept =
      other_codes old new ps (ds ++ (cs ++ es)) ((cs ++ ds) ++ es)
      (λ f. (each_back (λ mark broken. FaultAt mark broken f) cs ds es, each_turned (λ mark broken. FaultAt mark broken f) cs ds es))
      (each_back (λ mark broken. HasBreach broken) cs ds es, each_turned (λ mark broken. HasBreach broken) cs ds es) kept

  -- no codes at a node
  pub no_codes : (old new : Kept) (ps : List Placed) (mark : Mark) (cs : List Codes) → KeepsAll at_end old ps cs new → KeepsAll at_end old ps (codes_at mark [] ∷ cs) new
  no_codes old new ps mark cs kept =
      other_codes old new ps cs (codes_at mark [] ∷ cs) (λ f. (inr, only_fault f)) (inr, only_breach) kept
    where
      only_fault : (f : Fault) → FaultAt mark [] f ⊎ FaultOfEach cs f → FaultOfEach cs f
      only_fault f (inl h) = absurd (no_fault mark f h)
      only_fault f (inr h) = h

      only_breach : HasBreach [] ⊎ BreaksEach cs → BreaksEach cs
      only_breach (inl h) = absurd (no_breach h)
      only_breach (inr h) = h

  -- codes of one node, in two turns
  pub codes_joined : (old new : Kept) (ps : List Placed) (mark : Mark) (bs cs : List Breach) (ds : List Codes) →
      KeepsAll at_end old ps (codes_at mark bs ∷ codes_at mark cs ∷ ds) new → KeepsAll at_end old ps (codes_at mark (bs ++ cs) ∷ ds) new
  codes_joined old new ps mark bs cs ds kept =
      other_codes old new ps (codes_at mark bs ∷ codes_at mark cs ∷ ds) (codes_at mark (bs ++ cs) ∷ ds)
      (λ f. ((λ h. on_left (codes_both mark bs cs f).0 (group h)), λ h. ungroup (on_left (codes_both mark bs cs f).1 h)))
      ((λ h. on_left (breach_both bs cs).0 (group h)), λ h. ungroup (on_left (breach_both bs cs).1 h)) kept

  -- the codes of a node are kept first
  pub codes_first : (old middle new : Kept) (ps : List Placed) (mark : Mark) (bs : List Breach) (cs : List Codes) → KeepsCodes old mark bs middle → KeepsAll at_end middle ps cs new →
      KeepsAll at_end old ps (codes_at mark bs ∷ cs) new
  codes_first old middle new ps mark bs cs first second =
      keeps_same old new (λ f. FaultAt mark bs f ⊎ (FaultIn at_end ps f ⊎ FaultOfEach cs f)) (λ f. FaultIn at_end ps f ⊎ FaultOfEach (codes_at mark bs ∷ cs) f)
      (HasBreach bs ⊎ (IsBroken at_end ps ⊎ BreaksEach cs)) (IsBroken at_end ps ⊎ BreaksEach (codes_at mark bs ∷ cs)) (λ f. turned) turned
      (keeps_then old middle new (FaultAt mark bs) (λ f. FaultIn at_end ps f ⊎ FaultOfEach cs f) (HasBreach bs) (IsBroken at_end ps ⊎ BreaksEach cs) first second)

  -- nodes are walked first
  pub nodes_first : (old middle new : Kept) (ps qs : List Placed) (cs : List Codes) → KeepsNodes at_end old ps middle → KeepsAll at_end middle qs cs new → KeepsAll at_end old (ps ++ qs) cs new
  nodes_first old middle new ps qs cs first second =
      keeps_same old new (λ f. FaultIn at_end ps f ⊎ (FaultIn at_end qs f ⊎ FaultOfEach cs f)) (λ f. FaultIn at_end (ps ++ qs) f ⊎ FaultOfEach cs f)
      (IsBroken at_end ps ⊎ (IsBroken at_end qs ⊎ BreaksEach cs)) (IsBroken at_end (ps ++ qs) ⊎ BreaksEach cs)
      (λ f. ((λ h. on_left (nodes_both at_end ps qs f).0 (group h)), λ h. ungroup (on_left (nodes_both at_end ps qs f).1 h)))
      ((λ h. on_left (broken_both at_end ps qs).0 (group h)), λ h. ungroup (on_left (broken_both at_end ps qs).1 h))
      (keeps_then old middle new (FaultIn at_end ps) (λ f. FaultIn at_end qs f ⊎ FaultOfEach cs f) (IsBroken at_end ps) (IsBroken at_end qs ⊎ BreaksEach cs) first second)

  -- nothing is left
  pub nothing_left : (kept : Kept) → KeepsAll at_end kept [] [] kept
  nothing_left kept = keeps_none kept (λ f. FaultIn at_end [] f ⊎ FaultOfEach [] f) (IsBroken at_end [] ⊎ BreaksEach []) never never_broken
    where
      never : (f : Fault) → FaultIn at_end [] f ⊎ FaultOfEach [] f → ⊥
      never f (inl h) = h
      never f (inr h) = h

      never_broken : IsBroken at_end [] ⊎ BreaksEach [] → ⊥
      never_broken (inl h) = none_broken at_end h
      never_broken (inr h) = h

  pub nodes_alone : (old new : Kept) (ps : List Placed) → KeepsAll at_end old ps [] new → KeepsNodes at_end old ps new
  nodes_alone old new ps kept =
      keeps_same old new (λ f. FaultIn at_end ps f ⊎ FaultOfEach [] f) (FaultIn at_end ps) (IsBroken at_end ps ⊎ BreaksEach []) (IsBroken at_end ps)
      (λ f. ((λ h. left_of h), inl)) ((λ h. left_of h), inl) kept
    where
      left_of : {A : Type 0} → A ⊎ ⊥ → A
      left_of (inl a) = a
      left_of (inr never) = absurd never

  -- ---- a node: its parts, and its own codes where no part hides them

  abbrev own_codes : Env → Node → Bool → List Breach
  own_codes env node hidden = if hidden then [] else breaches at_end env node

  held : (env : Env) (node : Node) (hidden : Bool) → ((hidden ≡ true) ↔ IsBroken at_end (hiding at_end env node)) → (b : Breach) → (IsIn b (own_codes env node hidden) ↔ HoldsHere at_end env node b)
  held env node true is b = let found = is.0 refl in ((λ i. absurd i), (λ h. h.shown found.breach found.breaks))
  held env node false is b =
      ((λ i. record { breaks = i; shown = λ x hidden. absurd (false_true (is.1 (record { breach = x; breaks = hidden }))) }), (λ h. h.breaks))
    where
      false_true : false ≡ true → ⊥
      false_true e = cc

  node_breaks : (env : Env) (node : Node) (hidden : Bool) → ((hidden ≡ true) ↔ IsBroken at_end (hiding at_end env node)) →
      ((IsBroken at_end (parts at_end env node) ⊎ HasBreach (own_codes env node hidden)) ↔ IsBroken at_end (at env node ∷ []))
  node_breaks env node false is = node_broken at_end env node
  node_breaks env node true is = (to, λ h. back ((node_broken at_end env node).1 h))
    where
      to : IsBroken at_end (parts at_end env node) ⊎ HasBreach [] → IsBroken at_end (at env node ∷ [])
      to (inl h) = (node_broken at_end env node).0 (inl h)
      to (inr h) = absurd (no_breach h)

      back : IsBroken at_end (parts at_end env node) ⊎ HasBreach (breaches at_end env node) → IsBroken at_end (parts at_end env node) ⊎ HasBreach []
      back (inl h) = inl h
      back (inr h) = inl (broken_in at_end (hiding at_end env node) (parts at_end env node) (hiding_is_part at_end env node) (is.0 refl))

  pub node_closed : (env : Env) (node : Node) (hidden : Bool) → ((hidden ≡ true) ↔ IsBroken at_end (hiding at_end env node)) → (old new : Kept) (qs : List Placed) (cs : List Codes) →
      KeepsAll at_end old (parts at_end env node ++ qs) (codes_at (mark_of node) (own_codes env node hidden) ∷ cs) new → KeepsAll at_end old (at env node ∷ qs) cs new
  node_closed env node hidden is old new qs cs kept =
      let ps = parts at_end env node in
      let own = own_codes env node hidden in
      keeps_same old new (λ f. FaultIn at_end (ps ++ qs) f ⊎ FaultOfEach (codes_at (mark_of node) own ∷ cs) f) (λ f. FaultIn at_end (at env node ∷ qs) f ⊎ FaultOfEach cs f)
      (IsBroken at_end (ps ++ qs) ⊎ BreaksEach (codes_at (mark_of node) own ∷ cs)) (IsBroken at_end (at env node ∷ qs) ⊎ BreaksEach cs)
      (λ f. closed (nodes_both at_end ps qs f) (node_faults at_end env node own (held env node hidden is) f) (nodes_both at_end (at env node ∷ []) qs f))
      (closed (broken_both at_end ps qs) (node_breaks env node hidden is) (broken_both at_end (at env node ∷ []) qs)) kept
    where
      -- parts P and others Q, own codes O and later ones L, with the node N of P and O
      closed : {P Q PQ O N NQ L : Type 0} → ((P ⊎ Q) ↔ PQ) → ((P ⊎ O) ↔ N) → ((N ⊎ Q) ↔ NQ) → ((PQ ⊎ (O ⊎ L)) ↔ (NQ ⊎ L))
      closed {P} {Q} {PQ} {O} {N} {NQ} {L} both node_is all = (to, back)
        where
          to_parts : P ⊎ Q → NQ
          to_parts (inl p) = all.0 (inl (node_is.0 (inl p)))
          to_parts (inr q) = all.0 (inr q)

          to : PQ ⊎ (O ⊎ L) → NQ ⊎ L
          to (inl pq) = inl (to_parts (both.1 pq))
          to (inr (inl o)) = inl (all.0 (inl (node_is.0 (inr o))))
          to (inr (inr l)) = inr l

          of_node : P ⊎ O → PQ ⊎ (O ⊎ L)
          of_node (inl p) = inl (both.0 (inl p))
          of_node (inr o) = inr (inl o)

          of_all : N ⊎ Q → PQ ⊎ (O ⊎ L)
          of_all (inl n) = of_node (node_is.1 n)
          of_all (inr q) = inl (both.0 (inr q))

          back : NQ ⊎ L → PQ ⊎ (O ⊎ L)
          back (inl nq) = of_all (all.1 nq)
          back (inr l) = inr (inr l)
