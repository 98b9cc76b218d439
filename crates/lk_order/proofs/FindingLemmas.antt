-- Pairs of places that are put to rows.
use Rattle.std.proofs.Common.{◌≡◌, ◌<◌, ◌≤◌, ◌+◌, ◌&&◌, ◌||◌, ◌↔◌, ◌⊎◌, ℕ, Bool, true, false, eqb, List, Contains, length, get_or, take, refl, sym, ◌∙◌, subst, ⊎_elim, inl, inr, arith}
use Rattle.std.proofs.lemmas.Bool.{and_from, and_parts, both_ways, eqb-true, eq-eqb, false≢true, or_cases, or_left, or_right}
use Rattle.std.proofs.lemmas.List.{take_all}
use Rattle.lk_facts.specs.Basis.{Basis}
use Rattle.lk_facts.specs.Program.{IsLockPlace}
use Rattle.lk_links.proofs.SetLemmas.{some_more}
use Rattle.lk_order.specs.Finding.{AreOrderRows, ArePlacesOf, AreTwoLocks, IsGivenBy, MayMeanInMain, Puts}
use Rattle.lk_order.specs.Pairing.{ArePairs, IsPair, paired_of}
use Rattle.lk_order.specs.declared.pairing.Paired.{Paired}
use Rattle.lk_order.proofs.WorkLemmas.{read_is}
use Rattle.lk_rise.proofs.ListLemmas.{there_more}
use Rattle.lk_sets.specs.Ids.{has_id}
use Rattle.lk_sets.specs.Rows.{Rows, has}

pub puts_none : (P : ℕ → ℕ → Type 0) (rows : Rows) → ((x y : ℕ) → P x y → ⊥) → Puts P rows rows
puts_none P rows never = record { size = refl; pairs = λ x y. (λ there. inl there, λ either. ⊎_elim (λ there. there) (λ p. absurd (never x y p)) either) }

pub puts_as : (P Q : ℕ → ℕ → Type 0) (old new : Rows) → ((x y : ℕ) → P x y ↔ Q x y) → Puts P old new → Puts Q old new
puts_as P Q old new same puts = record {
  size = puts.size;
  pairs = λ x y.
      (λ there. ⊎_elim (λ before. inl before) (λ p. inr ((same x y).0 p)) ((puts.pairs x y).0 there), λ either. (puts.pairs x y).1 (⊎_elim (λ before. inl before) (λ q. inr ((same x y).1 q)) either));
}

-- more pairs are put
puts_more : (P Q R : ℕ → ℕ → Type 0) (old mid new : Rows) → ((x y : ℕ) → R x y ↔ (P x y ⊎ Q x y)) → Puts P old mid → Puts Q mid new → Puts R old new
puts_more P Q R old mid new parts first second = record {
  size = second.size ∙ first.size;
  pairs = λ x y. (
    λ there. ⊎_elim (λ earlier. ⊎_elim (λ before. inl before) (λ p. inr ((parts x y).1 (inl p))) ((first.pairs x y).0 earlier)) (λ q. inr ((parts x y).1 (inr q))) ((second.pairs x y).0 there),
    λ either.
        (second.pairs x y).1
        (⊎_elim (λ before. inl ((first.pairs x y).1 (inl before))) (λ r. ⊎_elim (λ p. inl ((first.pairs x y).1 (inr p))) (λ q. inr q) ((parts x y).0 r)) either),
  );
}

module _ (Gives : ℕ → ℕ → ℕ → Type 0) (ids : List ℕ) where
  pub puts_each_none : (rows : Rows) → Puts (IsGivenBy Gives (take 0 ids)) rows rows
  puts_each_none rows = puts_none (IsGivenBy Gives (take 0 ids)) rows (λ x y given. false≢true given.1)

  pub puts_each_more : (i d : ℕ) (old mid new : Rows) → i < length ids → Puts (IsGivenBy Gives (take i ids)) old mid → Puts (Gives (get_or ids i d)) mid new → Puts (IsGivenBy Gives (take (i + 1) ids)) old new
  puts_each_more i d old mid new within before puts =
      puts_more (IsGivenBy Gives (take i ids)) (Gives (get_or ids i d)) (IsGivenBy Gives (take (i + 1) ids)) old mid new (λ x y. some_more (λ e. Gives e x y) ids i d within) before puts

  pub puts_each_all : (i : ℕ) (old new : Rows) → length ids ≤ i → Puts (IsGivenBy Gives (take i ids)) old new → Puts (IsGivenBy Gives ids) old new
  puts_each_all i old new past puts = subst (λ es. Puts (IsGivenBy Gives es) old new) (take_all i ids past) puts

module _ (basis : Basis) where
  -- one pair of lock places
  pub two_put : (q r : ℕ) (old new : Rows) → IsLockPlace basis.program q → IsLockPlace basis.program r → new.size ≡ old.size → ((x y : ℕ) → has new x y ≡ (has old x y || eqb x q && eqb y r)) → Puts (AreTwoLocks basis q r) old new
  two_put q r old new lock lock' size put = record {
    size = size;
    pairs = λ x y. (
      λ there.
          elim (or_cases (has old x y) (eqb x q && eqb y r) (sym (put x y) ∙ there)) [
            | inl before ↦ inl before
            | inr now ↦ let parts = and_parts (eqb x q) (eqb y r) now in inr (record { first = eqb-true x q parts.0; second = eqb-true y r parts.1; held_place = lock; wanted_place = lock' })
          ],
      λ either.
          put x y ∙ ⊎_elim (λ before. or_left _ _ before) (λ is. or_right (has old x y) _ (and_from (eqb x q) (eqb y r) (eq-eqb x q is.first) (eq-eqb y r is.second))) either,
    );
  }

  pub none_put : (q r : ℕ) (rows : Rows) → (IsLockPlace basis.program q → IsLockPlace basis.program r → ⊥) → Puts (AreTwoLocks basis q r) rows rows
  none_put q r rows never = puts_none (AreTwoLocks basis q r) rows (λ x y is. never is.held_place is.wanted_place)

  -- the places that the labels of a pair may mean
  pub mean_is : (pair : Paired) (held wanted : List ℕ) → ((q : ℕ) → (has_id held q ≡ true) ↔ (basis.flow.all pair.held q ≡ true)) → ((r : ℕ) → (has_id wanted r ≡ true) ↔ (basis.flow.all pair.wanted r ≡ true)) →
      pair.function ≡ basis.program.main → (x y : ℕ) → IsGivenBy (λ q. IsGivenBy (AreTwoLocks basis q) wanted) held x y ↔ MayMeanInMain basis pair x y
  mean_is pair held wanted holds wants in_main x y = (
    λ given.
        let q = given.0 in
        let r = given.2.0 in
        let two = given.2.2 in (
          in_main,
          record {
            held = subst (λ k. basis.flow.all pair.held k ≡ true) (sym two.first) ((holds q).0 given.1);
            wanted = subst (λ k. basis.flow.all pair.wanted k ≡ true) (sym two.second) ((wants r).0 given.2.1);
            held_place = subst (IsLockPlace basis.program) (sym two.first) two.held_place;
            wanted_place = subst (IsLockPlace basis.program) (sym two.second) two.wanted_place;
          },
        ),
    λ may.
        (x, (holds x).1 may.1.held, (y, (wants y).1 may.1.wanted, record { first = refl; second = refl; held_place = may.1.held_place; wanted_place = may.1.wanted_place })),
  )

  pub not_main : (pair : Paired) (rows : Rows) → (pair.function ≡ basis.program.main → ⊥) → Puts (MayMeanInMain basis pair) rows rows
  not_main pair rows other = puts_none (MayMeanInMain basis pair) rows (λ x y may. other may.0)

  -- the pairs of a list, one more
  abbrev pub SomeMayMean : List Paired → ℕ → ℕ → Type 0
  SomeMayMean pairs q r = (pair : Paired) × Contains pairs pair × MayMeanInMain basis pair q r

  pub means_none : (pairs : List Paired) (rows : Rows) → Puts (SomeMayMean (take 0 pairs)) rows rows
  means_none pairs rows = puts_none (SomeMayMean (take 0 pairs)) rows (λ x y given. omega (arith, given.1.1))

  pub means_more : (pairs : List Paired) (i : ℕ) (d : Paired) (old mid new : Rows) → i < length pairs → Puts (SomeMayMean (take i pairs)) old mid → Puts (MayMeanInMain basis (get_or pairs i d)) mid new → Puts (SomeMayMean (take (i + 1) pairs)) old new
  means_more pairs i d old mid new within before puts =
      let pair = get_or pairs i d in
      let more = λ (other : Paired). there_more pairs i pair other within (read_is pairs i d within) in
      puts_more (SomeMayMean (take i pairs)) (MayMeanInMain basis pair) (SomeMayMean (take (i + 1) pairs)) old mid new
      (λ x y. (
        λ found. ⊎_elim (λ earlier. inl (found.0, earlier, found.2)) (λ same. inr (subst (λ p. MayMeanInMain basis p x y) same found.2)) ((more found.0).0 found.1),
        λ either. ⊎_elim (λ found. (found.0, (more found.0).1 (inl found.1), found.2)) (λ now. (pair, (more pair).1 (inr refl), now)) either,
      ))
      before puts

  pub means_all : (pairs : List Paired) (i : ℕ) (first rows : Rows) → length pairs ≤ i → first.size ≡ length basis.program.places → ((x y : ℕ) → has first x y ≡ false) → Puts (SomeMayMean (take i pairs)) first rows → ArePlacesOf basis pairs rows
  means_all pairs i first rows past size none puts = record {
    size = puts.size ∙ size;
    exact = λ q r. (
      λ there. all (⊎_elim (λ before. absurd (both_ways (has first q r) (none q r) before)) (λ found. found) ((puts.pairs q r).0 there)),
      λ found. (puts.pairs q r).1 (inr (subst (λ ps. SomeMayMean ps q r) (sym (take_all i pairs past)) found)),
    );
  }
    where
      all : {q r : ℕ} → SomeMayMean (take i pairs) q r → SomeMayMean pairs q r
      all {q} {r} found = subst (λ ps. SomeMayMean ps q r) (take_all i pairs past) found

-- the places that pairs of main may mean are the pairs of the order
pub order_rows : (basis : Basis) (linear : ℕ → Bool) (pairs : List Paired) (rows : Rows) → ArePairs basis linear pairs → ArePlacesOf basis pairs rows → AreOrderRows basis linear rows
order_rows basis linear pairs rows are places = record {
  size = places.size;
  exact = λ q r. (
    λ there.
        let found = (places.exact q r).0 there in
        let pair = found.0 in
        let may = found.2.1 in
        record {
          held = pair.held;
          wanted = pair.wanted;
          pair = subst (λ f. IsPair basis linear (paired_of f pair.held pair.wanted)) found.2.0 (are.sound pair found.1);
          held_is = may.held;
          wanted_is = may.wanted;
          held_place = may.held_place;
          wanted_place = may.wanted_place;
        },
    λ before.
        (places.exact q r).1 (
          paired_of basis.program.main before.held before.wanted,
          are.all (paired_of basis.program.main before.held before.wanted) before.pair,
          (refl, record { held = before.held_is; wanted = before.wanted_is; held_place = before.held_place; wanted_place = before.wanted_place }),
        ),
  );
}
