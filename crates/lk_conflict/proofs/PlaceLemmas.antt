-- The lock places that are held at each racing item of an access.
use Rattle.std.proofs.Common.{◌≡◌, ◌<◌, ◌+◌, ◌++◌, ◌&&◌, ◌⊎◌, ◌↔◌, ℕ, Bool, true, false, not, List, [], ◌∷◌, length, get_or, Some, None, refl, sym, ◌∙◌, subst, inl, inr, arith}
use Rattle.std.specs.Option.{is_some, option_map_or}
use Rattle.std.proofs.lemmas.Bool.{and_from, and_parts, cases_eq, false≢true}
use Rattle.std.proofs.Math.ListN.{get_or-append}
use Rattle.std.proofs.lemmas.List.{get_or_push}
use Rattle.lk_facts.specs.Basis.{Basis}
use Rattle.lk_facts.specs.Flow.{MeansOnly}
use Rattle.lk_facts.specs.Lists.{Lists}
use Rattle.lk_facts.specs.Verdicts.{InLockSet}
use Rattle.lk_sets.specs.Ids.{has_id, IsSetOf}
use Rattle.lk_rise.specs.declared.correlations.Correlation.{Correlation}
use Rattle.lk_rise.specs.Conflicts.{every_place}
use Rattle.lk_rise.specs.Correlations.{set_of, item_of, has_of, locks_of}
use Rattle.lk_conflict.specs.Places.{IsPlaceOf}

same_or_other : (c d : Bool) → (c ≡ d) ⊎ (c ≡ not d)
same_or_other true true = inl refl
same_or_other true false = inr refl
same_or_other false true = inr refl
same_or_other false false = inl refl

-- a set of numbers with a property has just these
pub set_lists : (P : ℕ → Type 0) (members ids : List ℕ) → ((x : ℕ) → (has_id members x ≡ true) ↔ P x) → IsSetOf (has_id members) ids → Lists P ids
set_lists P members ids is set = record {
  sorted = set.sorted;
  members = λ x. (λ there. (is x).0 (sym (set.members x) ∙ there), λ holds. set.members x ∙ (is x).1 holds);
}

-- what a list has at each place, one element more
pub each_more : {X : Type 0} (P : ℕ → X → Type 0) (d : X) (old new : List X) (x : X) (n : ℕ) → new ≡ old ++ x ∷ [] → length old ≡ n → P n x → ((i : ℕ) → i < n → P i (get_or old i d)) → (i : ℕ) → i < n + 1 → P i (get_or new i d)
each_more P d old new x n is long here before i less = subst (λ xs. P i (get_or xs i d)) (sym is)
    (elim (cases_eq i n) [
      | inl same ↦ subst (P i) (sym (get_or_push old x d i (long ∙ sym same))) (subst (λ j. P j x) (sym same) here)
      | inr other ↦
          let below : i < n = omega arith in
          subst (P i) (sym (get_or-append old (x ∷ []) d i (omega (arith, long, below)))) (before i below)
    ])

-- the linear ones of the lock places of an access are its lock set
pub set_narrowed : (basis : Basis) (entries : List (Correlation × List ℕ)) (linear : List ℕ) (o a : ℕ) (places ids : List ℕ) → Lists (InLockSet basis (has_of entries) (locks_of entries) every_place o a) places →
    IsSetOf (λ q. has_id places q && has_id linear q) ids → Lists (InLockSet basis (has_of entries) (locks_of entries) (has_id linear) o a) ids
set_narrowed basis entries linear o a places ids are set = record {
  sorted = set.sorted;
  members = λ q. (
    λ there.
        let parts = and_parts (has_id places q) (has_id linear q) (sym (set.members q) ∙ there) in
        let found = (are.members q).0 parts.0 in
        record { is_place = found.is_place; is_linear = parts.1; is_locked = found.is_locked },
    λ locked.
        set.members q ∙ and_from _ _ ((are.members q).1 (record { is_place = locked.is_place; is_linear = refl; is_locked = locked.is_locked })) locked.is_linear,
  );
}

module _ (basis : Basis) (linear : ℕ → Bool) (entries : List (Correlation × List ℕ)) (o a : ℕ) where
  -- what an own and a child item of the access have in common
  pub both_held : (own child places others ids : List ℕ) →
      Some own ≡ set_of entries (item_of basis.program.main false o a) → Some child ≡ set_of entries (item_of basis.program.main true o a) →
      Lists (IsPlaceOf basis linear own) places → Lists (IsPlaceOf basis linear child) others → IsSetOf (λ x. has_id places x && has_id others x) ids →
      Lists (InLockSet basis (has_of entries) (locks_of entries) linear o a) ids
  both_held own child places others ids at_own at_child are are' set = record {
    sorted = set.sorted;
    members = λ q. (
      λ there.
          let parts = and_parts (has_id places q) (has_id others q) (sym (set.members q) ∙ there) in
          let first = (are.members q).0 parts.0 in
          let second = (are'.members q).0 parts.1 in
          record {
            is_place = first.2.is_place;
            is_linear = first.2.is_linear;
            is_locked = λ c. elim c as (λ c. has_of entries basis.program.main c o a ≡ true → (x : ℕ) × (locks_of entries basis.program.main c o a x ≡ true) × MeansOnly basis.flow x q) [
              | true ↦ λ has. (second.0, subst (λ s. option_map_or (λ (t : List ℕ). has_id t second.0) s false ≡ true) at_child second.1, second.2.means)
              | false ↦ λ has. (first.0, subst (λ s. option_map_or (λ (t : List ℕ). has_id t first.0) s false ≡ true) at_own first.1, first.2.means)
            ];
          },
      λ locked.
          let first = locked.is_locked false (subst (λ s. is_some s ≡ true) at_own refl) in
          let second = locked.is_locked true (subst (λ s. is_some s ≡ true) at_child refl) in
          set.members q ∙ and_from _ _
          ((are.members q).1 (first.0, subst (λ s. option_map_or (λ (t : List ℕ). has_id t first.0) s false ≡ true) (sym at_own) first.1, record { is_place = locked.is_place; is_linear = locked.is_linear; means = first.2 }))
          ((are'.members q).1 (second.0, subst (λ s. option_map_or (λ (t : List ℕ). has_id t second.0) s false ≡ true) (sym at_child) second.1, record { is_place = locked.is_place; is_linear = locked.is_linear; means = second.2 })),
    );
  }

  -- what the one item of the access holds
  pub one_held : (child : Bool) (locks ids : List ℕ) → Some locks ≡ set_of entries (item_of basis.program.main child o a) →
      None ≡ set_of entries (item_of basis.program.main (not child) o a) →
      Lists (IsPlaceOf basis linear locks) ids → Lists (InLockSet basis (has_of entries) (locks_of entries) linear o a) ids
  one_held child locks ids at none are = record {
    sorted = are.sorted;
    members = λ q. (
      λ there.
          let found = (are.members q).0 there in
          record {
            is_place = found.2.is_place;
            is_linear = found.2.is_linear;
            is_locked = λ c has. elim (same_or_other c child) [
              | inl same ↦ (found.0, subst (λ d. locks_of entries basis.program.main d o a found.0 ≡ true) (sym same) (subst (λ s. option_map_or (λ (t : List ℕ). has_id t found.0) s false ≡ true) at found.1), found.2.means)
              | inr other ↦ absurd (false≢true (subst (λ s. is_some s ≡ true) (sym none) (subst (λ d. has_of entries basis.program.main d o a ≡ true) other has)))
            ];
          },
      λ locked.
          let found = locked.is_locked child (subst (λ s. is_some s ≡ true) at refl) in
          (are.members q).1 (found.0, subst (λ s. option_map_or (λ (t : List ℕ). has_id t found.0) s false ≡ true) (sym at) found.1, record { is_place = locked.is_place; is_linear = locked.is_linear; means = found.2 }),
    );
  }
