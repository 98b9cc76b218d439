-- Sets that grow, step by step.
use Rattle.std.proofs.Common.{◌≡◌, ◌<◌, ℕ, Bool, true, false, List, [], length, get_or, replicate, All, refl, sym, ap, ◌∙◌, subst, ⊎_elim, inl, inr, arith}
use Rattle.std.proofs.lemmas.Bool.{cases_lt, false≢true}
use Rattle.std.proofs.lemmas.List.{get_or-replicate, get_or_past, length-replicate, length-set}
use Rattle.std.proofs.lemmas.List.Elements.{All-replicate}
use Rattle.lk_facts.specs.Origins.{IsSetBelow}
use Rattle.lk_held.proofs.ReleasingLemmas.{joined_has, joined_kept, puts_below, puts_falls}
use Rattle.lk_held.specs.Progress.{Progress}
use Rattle.lk_held.specs.Releasing.{has_in, Joins, room}
use Rattle.lk_order.specs.Growing.{AreSets, AreSound, Gains}
use Rattle.lk_sets.specs.Ids.{has_id}

module _ (count labels : ℕ) where
  -- sets stay such sets where numbers join one
  pub joined_sets : (old new : List (List ℕ)) (place : ℕ) (ids : List ℕ) (changed : Bool) → place < count → AreSets count labels old → All (λ x. x < labels) ids → Joins old new place ids changed → AreSets count labels new
  joined_sets old new place ids changed within sets small joins = at_change changed joins
    where
      at_change : (b : Bool) → Joins old new place ids b → AreSets count labels new
      at_change true joined =
          let puts = joined.puts refl in
          record {
            all = ap length puts.is ∙ length-set old place puts.set ∙ sets.all;
            below = puts_below labels old new place ids (omega (arith, sets.all)) sets.below small puts;
          }
      at_change false joined = subst (AreSets count labels) (sym (joined.same refl)) sets

  -- sets without numbers
  pub empty_are : AreSets count labels (replicate count [])
  empty_are = record {
    all = length-replicate count [];
    below = record { each = All-replicate (IsSetBelow labels) count [] (record { sorted = λ k lt. absurd (omega arith); below = λ k d lt. absurd (omega arith) }) };
  }

  module _ (P : ℕ → ℕ → Type 0) where
    pub empty_sound : AreSound count labels P (replicate count [])
    empty_sound f x there =
        let none : get_or (replicate count []) f [] ≡ [] = elim (cases_lt f count) [
          | inl within ↦ get_or-replicate count f [] [] within
          | inr past ↦ get_or_past (replicate count []) f [] (omega (arith, length-replicate {A = List ℕ} count []))
        ] in
        absurd (false≢true (subst (λ ids. has_id ids x ≡ true) none there))

    pub gains_none : (sets : List (List ℕ)) → Gains count labels P sets sets
    gains_none sets = record { sets = λ are. are; sound = λ sound. sound }

    pub gains_more : (old mid new : List (List ℕ)) → Gains count labels P old mid → Gains count labels P mid new → Gains count labels P old new
    gains_more old mid new first second = record {
      sets = λ are. second.sets (first.sets are);
      sound = λ sound. second.sound (first.sound sound);
    }

    -- numbers join a set of which each of them is so
    pub grown : (old new : List (List ℕ)) (place : ℕ) (ids : List ℕ) (changed : Bool) (Done : List (List ℕ) → Type 0) → place < count → AreSets count labels old → All (λ x. x < labels) ids →
        (AreSound count labels P old → (x : ℕ) → has_id ids x ≡ true → P place x) → ((old ≡ new) → ((x : ℕ) → has_id ids x ≡ true → has_in new place x ≡ true) → Done new) →
        Joins old new place ids changed → Progress (room labels) (Gains count labels P) Done old new changed
    grown old new place ids changed Done within sets small so done joins =
        let inside : place < length old = omega (arith, sets.all) in
        record {
          keeps = record {
            sets = λ _. joined_sets old new place ids changed within sets small joins;
            sound = λ sound g x there. ⊎_elim (sound g x) (λ now. subst (λ k. P k x) (sym now.0) (so sound x now.1)) (joined_has old new place ids inside changed joins g x there);
          };
          falls = λ yes. puts_falls labels old new place ids inside sets.below small (joins.puts yes);
          same = joins.same;
          done = λ none. done (sym (joins.same none)) (λ x there. joined_kept old new place ids inside changed joins place x (inr (refl, there)));
        }
