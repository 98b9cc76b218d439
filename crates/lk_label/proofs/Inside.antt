-- The nodes of a type that are reached without Target, node by node.
use Rattle.std.proofs.Common.{◌≡◌, ◌↔◌, ℕ, ◌+◌, ◌<◌, ◌≤◌, true, false, List, length, Some, Contains, inl, inr, refl, sym, ◌∙◌, subst, arith}
use Rattle.std.specs.Prelude.{slice_get}
use Rattle.std.proofs.lemmas.Bool.{cases_lt}
use Rattle.std.proofs.lemmas.Option.{slice_get_within, same_Some}
use Rattle.lk_facts.specs.LabelRules.{IsStart, IsWithin, form_of}
use Rattle.lk_facts.specs.LabelRules.IsWithin.{start as start_within, part as part_within}
use Rattle.lk_types.specs.Nodes.{IsNode}
use Rattle.lk_types.specs.Table.{Table}
use Rattle.lk_types.specs.declared.node.NodeId.{NodeId}
use Rattle.lk_label.specs.Inner.{AreFound, LeadsInside, PutsInner, has_inner}
use Rattle.lk_label.specs.Naming.{AreJoined}
use Rattle.lk_label.specs.Walking.{ArePartsOfNode}
use Rattle.lk_label.proofs.HolderLists.{at}
use Rattle.lk_label.proofs.PartSteps.{inside_from_object, none_inside, part_listed, part_stepped}
use Rattle.lk_label.proofs.WalkSteps.{contains_got, got_contains}

module _ (table : Table) where
  -- what is put for a node that has parts in the same object, and for one that has none
  pub object_inner : (m : NodeId) (old parts new : List NodeId) → has_inner (form_of table m) ≡ true → ArePartsOfNode table m parts → AreJoined old parts new → PutsInner table m old new
  object_inner m old parts new has of joined = record {
    kept = joined.kept;
    put = λ n inside. (joined.each n).1 (inr (part_listed table m n inside.0 parts of inside.2));
    only = λ n there. elim ((joined.each n).0 there) [
      | inl was ↦ inl was
      | inr part ↦ let to = part_stepped table m n parts of part in inr (to.0, inside_from_object table m n to.0 has to.1, to.1)
    ];
  }

  pub none_inner : (m : NodeId) (old : List NodeId) → has_inner (form_of table m) ≡ false → PutsInner table m old old
  none_inner m old isnt = record {
    kept = λ i n at. at;
    put = λ n inside. absurd (none_inside table m n inside.0 isnt inside.1 inside.2);
    only = λ n there. inl there;
  }

  pub found_first : (t : ℕ) (found : List NodeId) → ((n : NodeId) → Contains found n ↔ ((true ≡ true) × IsStart table t n)) → AreFound table t 0 found
  found_first t found starts = record {
    within = omega arith;
    only = λ n there. start_within n ((starts n).0 there).1;
    start = λ n is. (starts n).1 (refl, is);
    done = λ i m n less at inside. absurd (omega (arith, less));
  }

  pub found_more : (t k : ℕ) (m : NodeId) (old new : List NodeId) → slice_get old k ≡ Some m → AreFound table t k old → PutsInner table m old new → AreFound table t (k + 1) new
  found_more t k m old new here before puts = record {
    within = (let on = slice_get_within new k m (puts.kept k m here) in omega (arith, on));
    only = λ n there. elim (puts.only n there) [
      | inl was ↦ before.only n was
      | inr inside ↦ part_within m n inside.0 (before.only m (contains_got old k m here)) inside.1 inside.2
    ];
    start = λ n is. kept n (before.start n is);
    done = done;
  }
    where
      kept : (n : NodeId) → Contains old n → Contains new n
      kept n there = contains_got new there.0 n (puts.kept there.0 n (got_contains old n there))

      done : (i : ℕ) (x n : NodeId) → i < k + 1 → slice_get new i ≡ Some x → LeadsInside table x n → Contains new n
      done i x n less got inside = elim (cases_lt i k) [
        | inl lower ↦
            let within = slice_get_within old k m here in
            let was = at old i (omega (arith, lower, within)) in
            let same : was.0 ≡ x = same_Some was.0 x (sym (puts.kept i was.0 was.1) ∙ got) in
            kept n (before.done i x n lower (was.1 ∙ (λ j. Some (same j))) inside)
        | inr more ↦
            let level : i ≡ k = omega (arith, less, more) in
            let same : x ≡ m = same_Some x m (sym (subst (λ j. slice_get new j ≡ Some x) level got) ∙ puts.kept k m here) in
            puts.put n (subst (λ y. LeadsInside table y n) same inside)
      ]

  pub found_all : (t k : ℕ) (found : List NodeId) → length found ≤ k → AreFound table t k found → (n : NodeId) → Contains found n ↔ IsWithin table t n
  found_all t k found all are n = (are.only n, back)
    where
      back : {m : NodeId} → IsWithin table t m → Contains found m
      back (start_within m is) = are.start m is
      back (part_within l m s w inside steps) =
          let there = back w in
          are.done there.0 l m (omega (arith, there.1, all)) (got_contains found l there) (s, inside, steps)

  pub within_node : (t : ℕ) (n : NodeId) → IsWithin table t n → IsNode table n
  within_node t n (start_within m is) = is.node
  within_node t n (part_within l m s w inside steps) = steps.node
