-- Walks through nodes: how they are put together and taken apart, and which nodes they list.
use Rattle.std.proofs.Common.{◌≡◌, ℕ, zero, suc, ◌<◌, ◌⊎◌, List, [], ◌∷◌, ◌++◌, length, get_or, Contains, inl, inr, refl, sym, ap, ◌∙◌, subst, arith}
use Rattle.std.proofs.lemmas.List.Elements.{Contains-append_cases, Contains-append_left, Contains-append_right}
use Rattle.lk_facts.specs.LabelRules.{Walk, parts_of}
use Rattle.lk_facts.specs.LabelRules.Walk.{done, again, fresh}
use Rattle.lk_types.specs.Nodes.{Node}
use Rattle.lk_types.specs.Table.{Table}

pub assoc : {X : Type 0} (u v w : List X) → (u ++ v) ++ w ≡ u ++ (v ++ w)
assoc [] v w = refl
assoc (x ∷ u) v w = ap (λ y. x ∷ y) (assoc u v w)

-- one in front of a list
pub Contains-first : {X : Type 0} (x : X) (xs : List X) → Contains (x ∷ xs) x
Contains-first x xs = Contains-append_left (x ∷ []) xs x (0, omega arith, refl)

pub Contains-behind : {X : Type 0} (y x : X) (xs : List X) → Contains xs x → Contains (y ∷ xs) x
Contains-behind y x xs there = Contains-append_right (y ∷ []) xs x there

pub Contains-cons_cases : {X : Type 0} (y x : X) (xs : List X) → Contains (y ∷ xs) x → (y ≡ x) ⊎ Contains xs x
Contains-cons_cases y x xs there =
    elim (Contains-append_cases (y ∷ []) xs x there) [
      | inl here ↦ inl (only here)
      | inr behind ↦ inr behind
    ]
  where
    only : Contains (y ∷ []) x → y ≡ x
    only here = one here.0 here.1 here.2
      where
        one : (k : ℕ) → k < length (y ∷ []) → get_or (y ∷ []) k x ≡ x → y ≡ x
        one zero below is = is
        one (suc k) below is = absurd (omega (arith, below))

pub Contains-none : {X : Type 0} (x : X) → Contains [] x → ⊥
Contains-none x there = omega (arith, there.1)

module _ (table : Table) where
  -- a walk through some nodes and then others: what the first give, and then the others
  pub record Splits (seen ps rest listed : List Node) : Type 0 where
    pub below : List Node
    pub more : List Node
    pub is : listed ≡ below ++ more
    pub first : Walk table seen ps below
    pub then : Walk table (seen ++ below) rest more

  pub split : {seen listed : List Node} (ps rest : List Node) → Walk table seen (ps ++ rest) listed → Splits seen ps rest listed
  split {seen} {listed} [] rest walk =
      record { below = []; more = listed; is = refl; first = done seen; then = subst (λ s. Walk table s rest listed) (sym (append_none seen)) walk }
    where
      append_none : (xs : List Node) → xs ++ [] ≡ xs
      append_none [] = refl
      append_none (x ∷ xs) = ap (λ y. x ∷ y) (append_none xs)
  split (p ∷ ps) rest (again node seen ahead more there walk) =
      let on = split ps rest walk in
      record { below = on.below; more = on.more; is = on.is; first = again node seen ps on.below there on.first; then = on.then }
  split (p ∷ ps) rest (fresh node seen ahead below more out inner walk) =
      let on = split ps rest walk in
      record {
        below = node ∷ below ++ on.below;
        more = on.more;
        is = ap (λ xs. node ∷ below ++ xs) on.is ∙ ap (λ xs. node ∷ xs) (sym (assoc below on.below on.more));
        first = fresh node seen ps below on.below out inner on.first;
        then = subst (λ s. Walk table s rest on.more) (assoc seen (node ∷ below) on.below) on.then;
      }

  -- all that is ahead is listed, or was
  pub lists_ahead : {seen ahead listed : List Node} → Walk table seen ahead listed → (n : Node) → Contains ahead n → Contains (seen ++ listed) n
  lists_ahead (done seen) n there = absurd (Contains-none n there)
  lists_ahead (again node seen ahead more was walk) n there =
      elim (Contains-cons_cases node n ahead there) [
        | inl same ↦ subst (Contains (seen ++ more)) same (Contains-append_left seen more node was)
        | inr behind ↦ lists_ahead walk n behind
      ]
  lists_ahead (fresh node seen ahead below more out inner walk) n there =
      elim (Contains-cons_cases node n ahead there) [
        | inl same ↦ Contains-append_right seen (node ∷ below ++ more) n (subst (Contains (node ∷ below ++ more)) same (Contains-first node (below ++ more)))
        | inr behind ↦ subst (λ xs. Contains xs n) (assoc seen (node ∷ below) more) (lists_ahead walk n behind)
      ]

  -- so are the parts of all that it lists
  pub lists_parts : {seen ahead listed : List Node} → Walk table seen ahead listed → (n k : Node) → Contains listed n → Contains (parts_of table n) k → Contains (seen ++ listed) k
  lists_parts (done seen) n k there part = absurd (Contains-none n there)
  lists_parts (again node seen ahead more was walk) n k there part = lists_parts walk n k there part
  lists_parts (fresh node seen ahead below more out inner walk) n k there part =
      elim (Contains-append_cases (node ∷ below) more n there) [
        | inl here ↦ elim (Contains-cons_cases node n below here) [
          | inl same ↦ widen (lists_ahead inner k (subst (λ m. Contains (parts_of table m) k) (sym same) part))
          | inr lower ↦ widen (lists_parts inner n k lower part)
        ]
        | inr later ↦ subst (λ xs. Contains xs k) (assoc seen (node ∷ below) more) (lists_parts walk n k later part)
      ]
    where
      widen : Contains ((seen ++ node ∷ []) ++ below) k → Contains (seen ++ (node ∷ below ++ more)) k
      widen found = subst (λ xs. Contains xs k) (assoc seen (node ∷ below) more) (Contains-append_left (seen ++ node ∷ below) more k (subst (λ xs. Contains xs k) (assoc seen (node ∷ []) below) found))

  -- What holds of all that is ahead, and of the parts of what it holds of, holds of all that is listed. All that is listed is in L.
  pub lists_only : (P : Node → Type 0) (L : List Node) → ((n k : Node) → Contains L n → P n → Contains (parts_of table n) k → P k) → {seen ahead listed : List Node} → Walk table seen ahead listed → ((n : Node) → Contains listed n → Contains L n) → ((n : Node) → Contains ahead n → P n) → (n : Node) → Contains listed n → P n
  lists_only P L on (done seen) in_l are n there = absurd (Contains-none n there)
  lists_only P L on (again node seen ahead more was walk) in_l are n there = lists_only P L on walk in_l (λ m h. are m (Contains-behind node m ahead h)) n there
  lists_only P L on (fresh node seen ahead below more out inner walk) in_l are n there =
      let here : P node = are node (Contains-first node ahead) in
      let listed : Contains L node = in_l node (Contains-first node (below ++ more)) in
      elim (Contains-append_cases (node ∷ below) more n there) [
        | inl first ↦ elim (Contains-cons_cases node n below first) [
          | inl same ↦ subst P same here
          | inr lower ↦ lists_only P L on inner (λ m h. in_l m (Contains-append_left (node ∷ below) more m (Contains-behind node m below h))) (λ m h. on node m listed here h) n lower
        ]
        | inr later ↦ lists_only P L on walk (λ m h. in_l m (Contains-append_right (node ∷ below) more m h)) (λ m h. are m (Contains-behind node m ahead h)) n later
      ]
