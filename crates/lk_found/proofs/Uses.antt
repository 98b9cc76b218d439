-- The first expressions that speak of names, as uses are put and nodes are walked.
use Rattle.std.proofs.Common.{◌≡◌, ◌∙◌, ◌⊎◌, ◌++◌, ◌≤◌, ℕ, Bool, true, false, List, [], ◌∷◌, Option, Some, None, refl, sym, ap, subst, inl, inr, arith, nat_eq}
use Rattle.std.specs.Prelude.{if◌then◌else◌, nat_lt}
use Rattle.std.specs.Map.{lookup}
use Rattle.indexmap.specs.IndexMap.{insert_entry}
use Rattle.lk_tree.specs.declared.expression.Expr.{Expr}
use Rattle.lk_typed.specs.Env.{Declared, Env}
use Rattle.lk_typed.specs.NodeParts.{parts}
use Rattle.lk_typed.specs.Nodes.{AnExpression, Placed, at}
use Rattle.lk_typed.specs.Stands.{IsIn}
use Rattle.lk_typed.specs.Stands.Stands.{here, inside}
use Rattle.lk_typed.specs.declared.entity.Use.{Use}
use Rattle.lk_found.specs.Recorded.{earlier, use_of, with_use}
use Rattle.lk_found.specs.Truth.{AddsTruth, IsSoInside}
use Rattle.lk_found.specs.Uses.{AddsUses, HasUse, HasUses, IsOfUse}
use Rattle.lk_found.proofs.Entries.{AreNodesOf, StandsAt, adds_among, adds_then, among_first, among_node, among_second, in_one, put_is, same_number}

-- ---- a use that is put

earlier_first : (o : Option Use) (used : Use) → (earlier o used).ordinal ≤ used.ordinal
earlier_first None used = omega arith
earlier_first (Some before) used = by_test (nat_lt used.ordinal before.ordinal) refl
  where
    not_less : (m n : ℕ) → nat_lt m n ≡ false → n ≤ m
    not_less m n is = grind arith

    by_test : (b : Bool) → nat_lt used.ordinal before.ordinal ≡ b → (if b then used else before).ordinal ≤ used.ordinal
    by_test true is = omega arith
    by_test false is = not_less used.ordinal before.ordinal is

earlier_second : (before used : Use) → (earlier (Some before) used).ordinal ≤ before.ordinal
earlier_second before used = by_test (nat_lt used.ordinal before.ordinal) refl
  where
    less : (m n : ℕ) → nat_lt m n ≡ true → m ≤ n
    less m n is = grind arith

    by_test : (b : Bool) → nat_lt used.ordinal before.ordinal ≡ b → (if b then used else before).ordinal ≤ before.ordinal
    by_test true is = less used.ordinal before.ordinal is
    by_test false is = omega arith

-- one of the two
earlier_is : (o : Option Use) (used : Use) → (earlier o used ≡ used) ⊎ (Some (earlier o used) ≡ o)
earlier_is None used = inl refl
earlier_is (Some before) used = by_test (nat_lt used.ordinal before.ordinal)
  where
    by_test : (b : Bool) → ((if b then used else before) ≡ used) ⊎ (Some (if b then used else before) ≡ Some before)
    by_test true = inl refl
    by_test false = inr refl

-- what is looked up is among the entries
found_in : (uses : List (ℕ × Use)) (k : ℕ) (u : Use) → lookup (nat_eq k) uses ≡ Some u → IsIn (k, u) uses
found_in [] k u is = absurd (none_is u is)
  where
    none_is : (u : Use) → ◌≡◌ {A = Option Use} None (Some u) → ⊥
    none_is u is = cc
found_in (x ∷ uses) k u is = by_test (λ is. found_in uses k u is) (nat_eq k x.0) refl is
  where
    some_is : (a b : Use) → ◌≡◌ {A = Option Use} (Some a) (Some b) → a ≡ b
    some_is a b is = cc

    pair_is : (a b : ℕ) (u v : Use) → a ≡ b → u ≡ v → ◌≡◌ {A = ℕ × Use} (a, u) (b, v)
    pair_is a b u v p q = cc

    by_test : (lookup (nat_eq k) uses ≡ Some u → IsIn (k, u) uses) → (b : Bool) → nat_eq k x.0 ≡ b → (if b then Some x.1 else lookup (nat_eq k) uses) ≡ Some u → IsIn (k, u) (x ∷ uses)
    by_test rest true same is = inl (pair_is k x.0 u x.1 (same_number k x.0 same) (sym (some_is x.1 u is)))
    by_test rest false other is = inr (rest is)

-- what is there is there still, perhaps earlier
kept_put : (uses : List (ℕ × Use)) (k : ℕ) (used : Use) (d n : ℕ) → HasUse uses d n → HasUse (with_use k used uses) d n
kept_put [] k used d n has = absurd (none_is has.0 has.1)
  where
    none_is : (u : Use) → ◌≡◌ {A = Option Use} None (Some u) → ⊥
    none_is u is = cc
kept_put (x ∷ uses) k used d n has = by_test (λ h. kept_put uses k used d n h) (nat_eq k x.0)
  where
    some_is : (a b : Use) → ◌≡◌ {A = Option Use} (Some a) (Some b) → a ≡ b
    some_is a b is = cc

    sooner : (a b c : Use) (n : ℕ) → a ≡ b → c.ordinal ≤ a.ordinal → b.ordinal ≤ n → c.ordinal ≤ n
    sooner a b c n same first second = omega (arith, subst (λ (b : Use). b.ordinal ≤ n) (sym same) second, first)

    replaced : (c : Bool) → (if c then Some x.1 else lookup (nat_eq d) uses) ≡ Some has.0 →
        (v : Use) × ((if c then Some (earlier (Some x.1) used) else lookup (nat_eq d) uses) ≡ Some v) × (v.ordinal ≤ n)
    replaced true is = (earlier (Some x.1) used, refl, sooner x.1 has.0 (earlier (Some x.1) used) n (some_is x.1 has.0 is) (earlier_second x.1 used) has.2)
    replaced false is = (has.0, is, has.2)

    further : (HasUse uses d n → HasUse (with_use k used uses) d n) → (c : Bool) → (if c then Some x.1 else lookup (nat_eq d) uses) ≡ Some has.0 →
        (v : Use) × ((if c then Some x.1 else lookup (nat_eq d) (with_use k used uses)) ≡ Some v) × (v.ordinal ≤ n)
    further rest true is = (has.0, is, has.2)
    further rest false is = rest (has.0, is, has.2)

    by_test : (HasUse uses d n → HasUse (with_use k used uses) d n) → (b : Bool) →
        HasUse (if b then (x.0, earlier (if b then Some x.1 else lookup (nat_eq k) uses) used) ∷ uses
        else x ∷ insert_entry nat_eq uses k (earlier (if b then Some x.1 else lookup (nat_eq k) uses) used)) d n
    by_test rest true = replaced (nat_eq d x.0) has.1
    by_test rest false = further rest (nat_eq d x.0) has.1

-- it is there itself, or an earlier one
there_put : (uses : List (ℕ × Use)) (k : ℕ) (used : Use) → HasUse (with_use k used uses) k used.ordinal
there_put [] k used = (used, ap (λ b. if b then Some used else None) (itself k), omega arith)
  where
    itself : (k : ℕ) → nat_eq k k ≡ true
    itself k = grind arith
there_put (x ∷ uses) k used = by_test (there_put uses k used) (nat_eq k x.0) refl
  where
    by_test : HasUse (with_use k used uses) k used.ordinal → (b : Bool) → nat_eq k x.0 ≡ b →
        HasUse (if b then (x.0, earlier (if b then Some x.1 else lookup (nat_eq k) uses) used) ∷ uses
        else x ∷ insert_entry nat_eq uses k (earlier (if b then Some x.1 else lookup (nat_eq k) uses) used)) k used.ordinal
    by_test rest true same =
        (earlier (Some x.1) used, ap (λ b. if b then Some (earlier (Some x.1) used) else lookup (nat_eq k) uses) same, earlier_first (Some x.1) used)
    by_test rest false other = (rest.0, ap (λ b. if b then Some x.1 else lookup (nat_eq k) (with_use k used uses)) other ∙ rest.1, rest.2)

-- ---- walks

module _ (spoken_of : Env → Expr → Option Declared) (at_end : Env) where
  pub uses_same : (old new : List (ℕ × Use)) → new ≡ old → AddsUses spoken_of at_end old [] new
  uses_same old new same = record {
    truth = λ d u h. inl (subst (IsIn (d, u)) same h);
    kept = λ d n has. subst (λ uses. HasUse uses d n) (sym same) has;
    each = λ outer never. absurd never;
  }

  pub uses_still : (old middle new : List (ℕ × Use)) (ps : List Placed) → new ≡ middle → AddsUses spoken_of at_end old ps middle → AddsUses spoken_of at_end old ps new
  uses_still old middle new ps same adds = subst (AddsUses spoken_of at_end old ps) (sym same) adds

  pub uses_behind : (old middle new : List (ℕ × Use)) (ps : List Placed) → middle ≡ old → AddsUses spoken_of at_end middle ps new → AddsUses spoken_of at_end old ps new
  uses_behind old middle new ps same adds = subst (λ uses. AddsUses spoken_of at_end uses ps new) same adds

  pub uses_then : (old middle new : List (ℕ × Use)) (ps qs : List Placed) → AddsUses spoken_of at_end old ps middle → AddsUses spoken_of at_end middle qs new → AddsUses spoken_of at_end old (ps ++ qs) new
  uses_then old middle new ps qs first second = record {
    truth = adds_then at_end (IsOfUse spoken_of) old middle new (ps ++ qs)
        (adds_among at_end (IsOfUse spoken_of) old middle ps (ps ++ qs) (among_first at_end ps qs) first.truth)
        (adds_among at_end (IsOfUse spoken_of) middle new qs (ps ++ qs) (among_second at_end ps qs) second.truth);
    kept = λ d n has. second.kept d n (first.kept d n has);
    each = λ outer among env e declared stands found. of outer env e declared stands found (in_one outer ps qs among);
  }
    where
      of : (outer : Placed) (env : Env) (e : Expr) (declared : Declared) → StandsAt at_end outer.env outer.node env (AnExpression e) → spoken_of env e ≡ Some declared →
          IsIn outer ps ⊎ IsIn outer qs → HasUse new declared.ordinal e.ordinal
      of outer env e declared stands found (inl h) = second.kept declared.ordinal e.ordinal (first.each outer h env e declared stands found)
      of outer env e declared stands found (inr h) = second.each outer h env e declared stands found

  -- the same nodes, taken apart
  pub uses_of : (old new : List (ℕ × Use)) (ps qs : List Placed) → AreNodesOf at_end ps qs → AddsUses spoken_of at_end old ps new → AddsUses spoken_of at_end old qs new
  uses_of old new ps qs nodes adds = record {
    truth = adds_among at_end (IsOfUse spoken_of) old new ps qs nodes.among adds.truth;
    kept = adds.kept;
    each = λ outer among env e declared stands found. let p = nodes.cover outer among env e stands in adds.each p.0 p.1 env e declared p.2 found;
  }

  -- ---- an expression behind its parts

  -- it speaks of no name
  pub uses_silent : (old new : List (ℕ × Use)) (env : Env) (e : Expr) → spoken_of env e ≡ None → AddsUses spoken_of at_end old (parts at_end env (AnExpression e)) new →
      AddsUses spoken_of at_end old (at env (AnExpression e) ∷ []) new
  uses_silent old new env e silent adds = record {
    truth = adds_among at_end (IsOfUse spoken_of) old new (parts at_end env (AnExpression e)) (at env (AnExpression e) ∷ []) (among_node at_end env (AnExpression e)) adds.truth;
    kept = adds.kept;
    each = each;
  }
    where
      none_is : (d : Declared) → ◌≡◌ {A = Option Declared} None (Some d) → ⊥
      none_is d is = cc

      of : (env' : Env) (e' : Expr) (declared : Declared) → StandsAt at_end env (AnExpression e) env' (AnExpression e') → spoken_of env' e' ≡ Some declared → HasUse new declared.ordinal e'.ordinal
      of env' e' declared here found = absurd (none_is declared (sym silent ∙ found))
      of env' e' declared (inside part among stands) found = adds.each part among env' e' declared stands found

      each : HasUses spoken_of at_end (at env (AnExpression e) ∷ []) new
      each outer (inl is) env' e' declared stands found = of env' e' declared (subst (λ (p : Placed). StandsAt at_end p.env p.node env' (AnExpression e')) is stands) found
      each outer (inr never) env' e' declared stands found = absurd never

  -- it speaks of one
  pub uses_spoken : (old new : List (ℕ × Use)) (env : Env) (e : Expr) (d : Declared) → spoken_of env e ≡ Some d → AddsUses spoken_of at_end old (parts at_end env (AnExpression e)) new →
      AddsUses spoken_of at_end old (at env (AnExpression e) ∷ []) (with_use d.ordinal (use_of e) new)
  uses_spoken old new env e d is adds = record { truth = truth; kept = λ m n has. kept_put new d.ordinal (use_of e) m n (adds.kept m n has); each = each }
    where
      inner : AddsTruth at_end (IsOfUse spoken_of) old (at env (AnExpression e) ∷ []) new
      inner = adds_among at_end (IsOfUse spoken_of) old new (parts at_end env (AnExpression e)) (at env (AnExpression e) ∷ []) (among_node at_end env (AnExpression e)) adds.truth

      own : (m : ℕ) (u : Use) → m ≡ d.ordinal → u ≡ use_of e → IsSoInside at_end (at env (AnExpression e) ∷ []) (IsOfUse spoken_of m u)
      own m u number used = record {
        outer = at env (AnExpression e);
        among = inl refl;
        env = env;
        node = AnExpression e;
        stands = here;
        is_so = record { e = e; is = refl; used_at = used; declared = d; found = is; number = sym number };
      }

      truth : AddsTruth at_end (IsOfUse spoken_of) old (at env (AnExpression e) ∷ []) (with_use d.ordinal (use_of e) new)
      truth m u h = of (put_is at_end new d.ordinal (earlier (lookup (nat_eq d.ordinal) new) (use_of e)) m u h)
        where
          by_use : m ≡ d.ordinal → u ≡ earlier (lookup (nat_eq d.ordinal) new) (use_of e) →
              (earlier (lookup (nat_eq d.ordinal) new) (use_of e) ≡ use_of e) ⊎ (Some (earlier (lookup (nat_eq d.ordinal) new) (use_of e)) ≡ lookup (nat_eq d.ordinal) new) →
              IsIn (m, u) old ⊎ IsSoInside at_end (at env (AnExpression e) ∷ []) (IsOfUse spoken_of m u)
          by_use number used (inl same) = inr (own m u number (used ∙ same))
          by_use number used (inr before) =
              inner m u (subst (λ m. IsIn (m, u) new) (sym number) (found_in new d.ordinal u (sym before ∙ ap Some (sym used))))

          of : IsIn (m, u) new ⊎ ((m ≡ d.ordinal) × (u ≡ earlier (lookup (nat_eq d.ordinal) new) (use_of e))) → IsIn (m, u) old ⊎ IsSoInside at_end (at env (AnExpression e) ∷ []) (IsOfUse spoken_of m u)
          of (inl h) = inner m u h
          of (inr both) = by_use both.0 both.1 (earlier_is (lookup (nat_eq d.ordinal) new) (use_of e))

      some_is : (a b : Declared) → ◌≡◌ {A = Option Declared} (Some a) (Some b) → a ≡ b
      some_is a b same = cc

      of : (env' : Env) (e' : Expr) (declared : Declared) → StandsAt at_end env (AnExpression e) env' (AnExpression e') → spoken_of env' e' ≡ Some declared →
          HasUse (with_use d.ordinal (use_of e) new) declared.ordinal e'.ordinal
      of env' e' declared here found =
          subst (λ (x : Declared). HasUse (with_use d.ordinal (use_of e) new) x.ordinal e.ordinal) (some_is d declared (sym is ∙ found)) (there_put new d.ordinal (use_of e))
      of env' e' declared (inside part among stands) found = kept_put new d.ordinal (use_of e) declared.ordinal e'.ordinal (adds.each part among env' e' declared stands found)

      each : HasUses spoken_of at_end (at env (AnExpression e) ∷ []) (with_use d.ordinal (use_of e) new)
      each outer (inl same) env' e' declared stands found = of env' e' declared (subst (λ (p : Placed). StandsAt at_end p.env p.node env' (AnExpression e')) same stands) found
      each outer (inr never) env' e' declared stands found = absurd never
