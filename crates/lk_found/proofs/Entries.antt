-- Entries of records that are true of nodes, where those nodes are among others, and where entries are put.
use Rattle.std.proofs.Common.{◌≡◌, ◌∙◌, ◌⊎◌, ◌++◌, ℕ, Bool, true, false, List, [], ◌∷◌, refl, sym, ap, subst, inl, inr, arith, nat_eq}
use Rattle.std.proofs.lemmas.Bool.{false≢true}
use Rattle.std.specs.Prelude.{if◌then◌else◌}
use Rattle.std.proofs.lemmas.Bool.Decides.{nat_tests}
use Rattle.indexmap.specs.IndexMap.{insert_entry}
use Rattle.lk_typed.specs.Env.{Env}
use Rattle.lk_typed.specs.NodeParts.{parts}
use Rattle.lk_typed.specs.NodeRules.{breaches, hiding, mark_of}
use Rattle.lk_tree.specs.declared.expression.Expr.{Expr}
use Rattle.lk_typed.specs.Nodes.{Node, Placed, AnExternal, ADeclaration, ADefinition, AMember, AnItem, AParameter, ATypeName, ADeclarator, AnInitialiser, AStatement, AnExpression, at}
use Rattle.lk_typed.specs.Stands.{IsIn, Stands}
use Rattle.lk_typed.specs.Stands.Stands.{here, inside}
use Rattle.lk_found.specs.Truth.{AddsTruth, IsSoInside}

-- ---- membership

in_left : {A : Type 0} (x : A) (xs ys : List A) → IsIn x xs → IsIn x (xs ++ ys)
in_left x [] ys h = absurd h
in_left x (y ∷ xs) ys (inl e) = inl e
in_left x (y ∷ xs) ys (inr h) = inr (in_left x xs ys h)

in_right : {A : Type 0} (x : A) (xs ys : List A) → IsIn x ys → IsIn x (xs ++ ys)
in_right x [] ys h = h
in_right x (y ∷ xs) ys h = inr (in_right x xs ys h)

pub in_one : {A : Type 0} (x : A) (xs ys : List A) → IsIn x (xs ++ ys) → IsIn x xs ⊎ IsIn x ys
in_one x [] ys h = inr h
in_one x (y ∷ xs) ys (inl e) = inl (inl e)
in_one x (y ∷ xs) ys (inr h) = more (in_one x xs ys h)
  where
    more : IsIn x xs ⊎ IsIn x ys → IsIn x (y ∷ xs) ⊎ IsIn x ys
    more (inl i) = inl (inr i)
    more (inr i) = inr i

pub same_number : (m n : ℕ) → nat_eq m n ≡ true → m ≡ n
same_number m n is = grind (arith, nat_tests)

abbrev pub is_expression : Node → Bool
is_expression (AnExternal d) = false
is_expression (ADeclaration scope node) = false
is_expression (ADefinition node) = false
is_expression (AMember before m) = false
is_expression (AnItem before i) = false
is_expression (AParameter lone p) = false
is_expression (ATypeName n) = false
is_expression (ADeclarator left d) = false
is_expression (AnInitialiser object init) = false
is_expression (AStatement around s) = false
is_expression (AnExpression e) = true

-- ---- nodes in nodes, where `at_end` is the environment behind the whole source

module _ (at_end : Env) where
  abbrev pub StandsAt : Env → Node → Env → Node → Type 0
  StandsAt env node env' node' = Stands (parts at_end) (breaches at_end) (hiding at_end) mark_of env node env' node'

  stands_then : {env env' env'' : Env} {node node' node'' : Node} → StandsAt env node env' node' → StandsAt env' node' env'' node'' → StandsAt env node env'' node''
  stands_then here g = g
  stands_then (inside part among f) g = inside part among (stands_then f g)

  -- each of these nodes stands in one of those
  abbrev pub AreAmong : List Placed → List Placed → Type 0
  AreAmong ps qs = (p : Placed) → IsIn p ps → (q : Placed) × IsIn q qs × StandsAt q.env q.node p.env p.node

  pub among_first : (ps qs : List Placed) → AreAmong ps (ps ++ qs)
  among_first ps qs p h = (p, in_left p ps qs h, here)

  pub among_second : (ps qs : List Placed) → AreAmong qs (ps ++ qs)
  among_second ps qs p h = (p, in_right p ps qs h, here)

  pub among_node : (env : Env) (node : Node) → AreAmong (parts at_end env node) (at env node ∷ [])
  among_node env node p h = (at env node, inl refl, inside p h here)

  -- each expression in those stands in one of these
  abbrev pub AreCovered : List Placed → List Placed → Type 0
  AreCovered qs ps = (q : Placed) → IsIn q qs → (env : Env) (e : Expr) → StandsAt q.env q.node env (AnExpression e) → (p : Placed) × IsIn p ps × StandsAt p.env p.node env (AnExpression e)

  -- these nodes are those, taken apart: both have the same expressions
  pub record AreNodesOf (ps qs : List Placed) : Type 0 where
    pub among : AreAmong ps qs
    pub cover : AreCovered qs ps

  pub nodes_then : (ps qs rs : List Placed) → AreNodesOf ps qs → AreNodesOf qs rs → AreNodesOf ps rs
  nodes_then ps qs rs f g = record { among = among; cover = cover }
    where
      among : AreAmong ps rs
      among p h =
          let q = f.among p h in
          let r = g.among q.0 q.1 in
          (r.0, r.1, stands_then r.2 q.2)

      cover : AreCovered rs ps
      cover r h env e stands = let q = g.cover r h env e stands in f.cover q.0 q.1 env e q.2

  -- beside others
  pub nodes_beside : (ps qs rs : List Placed) → AreNodesOf ps qs → AreNodesOf (ps ++ rs) (qs ++ rs)
  nodes_beside ps qs rs f = record { among = λ p h. among p (in_one p ps rs h); cover = λ q h. cover q (in_one q qs rs h) }
    where
      among : (p : Placed) → IsIn p ps ⊎ IsIn p rs → (q : Placed) × IsIn q (qs ++ rs) × StandsAt q.env q.node p.env p.node
      among p (inl h) = let q = f.among p h in (q.0, in_left q.0 qs rs q.1, q.2)
      among p (inr h) = (p, in_right p qs rs h, here)

      cover : (q : Placed) → IsIn q qs ⊎ IsIn q rs → (env : Env) (e : Expr) → StandsAt q.env q.node env (AnExpression e) → (p : Placed) × IsIn p (ps ++ rs) × StandsAt p.env p.node env (AnExpression e)
      cover q (inl h) env e stands = let p = f.cover q h env e stands in (p.0, in_left p.0 ps rs p.1, p.2)
      cover q (inr h) env e stands = (q, in_right q ps rs h, stands)

  -- a node that is no expression is its parts
  pub nodes_of_node : (env : Env) (node : Node) → is_expression node ≡ false → AreNodesOf (parts at_end env node) (at env node ∷ [])
  nodes_of_node env node other = record { among = among_node env node; cover = cover }
    where
      true_is : {A : Type 0} → true ≡ false → A
      true_is never = absurd (false≢true (sym never))

      within : {n : Node} (env' : Env) (e : Expr) → is_expression n ≡ false → StandsAt env n env' (AnExpression e) →
          (p : Placed) × IsIn p (parts at_end env n) × StandsAt p.env p.node env' (AnExpression e)
      within env' e other here = true_is other
      within env' e other (inside part among stands) = (part, among, stands)

      cover : AreCovered (at env node ∷ []) (parts at_end env node)
      cover q (inl is) env' e stands = within env' e other (subst (λ (q : Placed). StandsAt q.env q.node env' (AnExpression e)) is stands)
      cover q (inr never) env' e stands = absurd never

  -- ---- entries

  pub so_among : (ps qs : List Placed) (IsSo : Env → Node → Type 0) → AreAmong ps qs → IsSoInside at_end ps IsSo → IsSoInside at_end qs IsSo
  so_among ps qs IsSo among so =
      let q = among so.outer so.among in
      record { outer = q.0; among = q.1; env = so.env; node = so.node; stands = stands_then q.2 so.stands; is_so = so.is_so }

  pub so_still : (ps : List Placed) (A B : Env → Node → Type 0) → ((env : Env) (node : Node) → A env node → B env node) → IsSoInside at_end ps A → IsSoInside at_end ps B
  so_still ps A B still so = record { outer = so.outer; among = so.among; env = so.env; node = so.node; stands = so.stands; is_so = still so.env so.node so.is_so }

  module _ {V : Type 0} where
    pub adds_same : (Is : ℕ → V → Env → Node → Type 0) (xs ys : List (ℕ × V)) (ps : List Placed) → ys ≡ xs → AddsTruth at_end Is xs ps ys
    adds_same Is xs ys ps same n v h = inl (subst (IsIn (n, v)) same h)

    pub adds_among : (Is : ℕ → V → Env → Node → Type 0) (xs ys : List (ℕ × V)) (ps qs : List Placed) → AreAmong ps qs → AddsTruth at_end Is xs ps ys → AddsTruth at_end Is xs qs ys
    adds_among Is xs ys ps qs among adds n v h = of (adds n v h)
      where
        of : IsIn (n, v) xs ⊎ IsSoInside at_end ps (Is n v) → IsIn (n, v) xs ⊎ IsSoInside at_end qs (Is n v)
        of (inl h) = inl h
        of (inr so) = inr (so_among ps qs (Is n v) among so)

    pub adds_still : (A B : ℕ → V → Env → Node → Type 0) (xs ys : List (ℕ × V)) (ps : List Placed) → ((n : ℕ) (v : V) (env : Env) (node : Node) → A n v env node → B n v env node) →
        AddsTruth at_end A xs ps ys → AddsTruth at_end B xs ps ys
    adds_still A B xs ys ps still adds n v h = of (adds n v h)
      where
        of : IsIn (n, v) xs ⊎ IsSoInside at_end ps (A n v) → IsIn (n, v) xs ⊎ IsSoInside at_end ps (B n v)
        of (inl h) = inl h
        of (inr so) = inr (so_still ps (A n v) (B n v) (still n v) so)

    -- others behind them, in the same nodes
    pub adds_then : (Is : ℕ → V → Env → Node → Type 0) (xs ys zs : List (ℕ × V)) (ps : List Placed) → AddsTruth at_end Is xs ps ys → AddsTruth at_end Is ys ps zs → AddsTruth at_end Is xs ps zs
    adds_then Is xs ys zs ps first second n v h = of (second n v h)
      where
        of : IsIn (n, v) ys ⊎ IsSoInside at_end ps (Is n v) → IsIn (n, v) xs ⊎ IsSoInside at_end ps (Is n v)
        of (inl h) = first n v h
        of (inr so) = inr so

    -- an entry that is put
    pub put_is : (xs : List (ℕ × V)) (k : ℕ) (w : V) (n : ℕ) (v : V) → IsIn (n, v) (insert_entry nat_eq xs k w) → IsIn (n, v) xs ⊎ ((n ≡ k) × (v ≡ w))
    put_is [] k w n v (inl is) = inr (ap (λ (p : ℕ × V). p.0) is, ap (λ (p : ℕ × V). p.1) is)
    put_is [] k w n v (inr never) = absurd never
    put_is (x ∷ xs) k w n v h = by_test (λ h. put_is xs k w n v h) (nat_eq k x.0) refl h
      where
        of_rest : IsIn (n, v) xs ⊎ ((n ≡ k) × (v ≡ w)) → IsIn (n, v) (x ∷ xs) ⊎ ((n ≡ k) × (v ≡ w))
        of_rest (inl h) = inl (inr h)
        of_rest (inr is) = inr is

        by_test : (IsIn (n, v) (insert_entry nat_eq xs k w) → IsIn (n, v) xs ⊎ ((n ≡ k) × (v ≡ w))) → (b : Bool) → nat_eq k x.0 ≡ b →
            IsIn (n, v) (if b then (x.0, w) ∷ xs else x ∷ insert_entry nat_eq xs k w) → IsIn (n, v) (x ∷ xs) ⊎ ((n ≡ k) × (v ≡ w))
        by_test rest true same (inl is) = inr (ap (λ (p : ℕ × V). p.0) is ∙ sym (same_number k x.0 same), ap (λ (p : ℕ × V). p.1) is)
        by_test rest true same (inr h) = inl (inr h)
        by_test rest false other (inl is) = inl (inl is)
        by_test rest false other (inr h) = of_rest (rest h)

    -- of a node that is one of these
    pub adds_put : (Is : ℕ → V → Env → Node → Type 0) (xs ys : List (ℕ × V)) (k : ℕ) (w : V) (env : Env) (node : Node) → Is k w env node → AddsTruth at_end Is xs (at env node ∷ []) ys →
        AddsTruth at_end Is xs (at env node ∷ []) (insert_entry nat_eq ys k w)
    adds_put Is xs ys k w env node is adds n v h = of (put_is ys k w n v h)
      where
        of : IsIn (n, v) ys ⊎ ((n ≡ k) × (v ≡ w)) → IsIn (n, v) xs ⊎ IsSoInside at_end (at env node ∷ []) (Is n v)
        of (inl h) = adds n v h
        of (inr same) =
            inr (record { outer = at env node; among = inl refl; env = env; node = node; stands = here; is_so = subst (λ n. Is n v env node) (sym same.0) (subst (λ v. Is k v env node) (sym same.1) is) })
