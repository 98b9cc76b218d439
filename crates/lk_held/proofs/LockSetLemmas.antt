-- The lock sets of points and functions, as lists.
use Rattle.std.proofs.Common.{◌≡◌, ◌<◌, ◌≤◌, ◌+◌, ◌++◌, ◌↔◌, ℕ, true, List, [], ◌∷◌, length, get_or, map, All, Some, refl, sym, ap, ◌∙◌, subst, inl, inr, arith}
use Rattle.std.specs.List.{range_with_len}
use Rattle.std.specs.List.Sorted.{IsStrictlyIncreasing}
use Rattle.std.specs.Option.{option_map, option_map_or, unwrap_or}
use Rattle.std.proofs.Math.Path.{fun_ext}
use Rattle.std.proofs.lemmas.Bool.{cases_Bool, cases_lt, false≢true}
use Rattle.std.proofs.lemmas.List.{get_or_append_left, get_or_past, get_or_push, length_push}
use Rattle.std.proofs.lemmas.List.Elements.{All-push}
use Rattle.std.proofs.lemmas.List.FromFn.{get_or-map-range_with_len, length-map-range_with_len, map-range_with_len_more}
use Rattle.std.proofs.lemmas.Option.{none-some, slice_get_cases, slice_get_past}
use Rattle.lk_facts.specs.Basis.{Basis}
use Rattle.lk_facts.specs.declared.function.Function.{Function}
use Rattle.lk_facts.specs.Held.{Released, Keeps, IsHeldTable, AreLockSets}
use Rattle.lk_facts.specs.LockSets.{LockSets, sets_of, AreLockSetsInRange}
use Rattle.lk_facts.specs.Origins.{IsSetBelow, AreSetsBelow}
use Rattle.lk_facts.specs.Program.{exit_of}
use Rattle.lk_sets.specs.Ids.{has_id}
use Rattle.lk_held.specs.declared.states.States.{States}
use Rattle.lk_held.specs.Holding.{AreStates, AreHeld, IsKept}
use Rattle.lk_held.specs.LockSets.{out_set, AreKept}
use Rattle.lk_held.specs.Releasing.{AreReleased}
use Rattle.lk_held.specs.States.{set_of, holds}
use Rattle.lk_facts.proofs.Ranges.{lock_within}
use Rattle.lk_held.proofs.AddLemmas.{states_within}
use Rattle.lk_held.proofs.HoldLemmas.{held_table, may_map}
use Rattle.lk_links.proofs.SetLemmas.{All-from_has_id}

-- the locks at a point are a set of labels
pub set_below : (basis : Basis) (states : States) (p : ℕ) (ids : List ℕ) → AreStates basis states → ids ≡ set_of states p → IsStrictlyIncreasing ids → IsSetBelow (length basis.labels.entries) ids
set_below basis states p ids are is up = record {
  sorted = up;
  below = subst (All (λ x. x < length basis.labels.entries)) (sym is) (states_within basis states p are);
}

-- so are those that it keeps
pub kept_below : (basis : Basis) (states : States) (p : ℕ) (ids : List ℕ) → AreStates basis states → IsKept basis p (set_of states p) ids → IsSetBelow (length basis.labels.entries) ids
kept_below basis states p ids are kept = record {
  sorted = kept.sorted;
  below = All-from_has_id (λ x. x < length basis.labels.entries) ids (λ x there. lock_within basis.labels x (are.inside p x (kept.among x there)));
}

-- one list more
pub lists_more : (f : ℕ → List ℕ) (n i : ℕ) (old new : List (List ℕ)) (ids : List ℕ) → new ≡ old ++ ids ∷ [] → ids ≡ f i → IsSetBelow n ids →
    (old ≡ map f (range_with_len 0 i)) × AreSetsBelow n old → (new ≡ map f (range_with_len 0 (i + 1))) × AreSetsBelow n new
lists_more f n i old new ids is here below before = (
  is ∙ ap (λ s. s ++ ids ∷ []) before.0 ∙ ap (λ s. map f (range_with_len 0 i) ++ s ∷ []) here ∙ sym (map-range_with_len_more f 0 i i (omega arith)),
  record { each = subst (All (IsSetBelow n)) (sym is) (All-push (IsSetBelow n) old ids before.1.each below) },
)

module _ (basis : Basis) (states : States) where
  pub kept_more : (n i : ℕ) (old new : List (List ℕ)) (ids : List ℕ) → new ≡ old ++ ids ∷ [] → IsKept basis i (set_of states i) ids → IsSetBelow n ids →
      AreKept basis states i old × AreSetsBelow n old → AreKept basis states (i + 1) new × AreSetsBelow n new
  kept_more n i old new ids is here below before = (
    record {
      all = ap length is ∙ length_push old ids ∙ ap (λ k. k + 1) before.0.all;
      each = λ p within. elim (cases_lt p i) [
        | inl earlier ↦ subst (IsKept basis p (set_of states p)) (sym (ap (λ s. get_or s p []) is ∙ get_or_append_left old (ids ∷ []) [] p (omega (arith, before.0.all)))) (before.0.each p earlier)
        | inr last ↦
            let same : i ≡ p = omega arith in
            let there : get_or new i [] ≡ ids = ap (λ s. get_or s i []) is ∙ get_or_push old ids [] i before.0.all in
            subst (λ q. IsKept basis q (set_of states q) (get_or new q [])) same (subst (IsKept basis i (set_of states i)) (sym there) here)
      ];
    },
    record { each = subst (All (IsSetBelow n)) (sym is) (All-push (IsSetBelow n) old ids before.1.each below) },
  )

  module _ (at keep out released : List (List ℕ)) (are : AreHeld basis states) (at_is : at ≡ map (set_of states) (range_with_len 0 (length basis.program.points)))
      (keep_is : AreKept basis states (length basis.program.points) keep) (out_is : out ≡ map (out_set basis.program states) (range_with_len 0 (length basis.program.functions))) (released_is : AreReleased basis released) where
    sets : LockSets
    sets = sets_of (length basis.labels.entries) at keep out released

    -- nothing is held past the last point
    set_past : (p : ℕ) → length basis.program.points ≤ p → set_of states p ≡ []
    set_past p past = ap (λ o. option_map_or (λ s. unwrap_or s states.locks) o []) (slice_get_past states.sets.items p (omega (arith, are.states.all)))

    at_known : (p : ℕ) → get_or at p [] ≡ set_of states p
    at_known p =
        let n = length basis.program.points in
        ap (λ s. get_or s p []) at_is ∙ elim (cases_lt p n) [
          | inl within ↦ get_or-map-range_with_len (set_of states) 0 n p p [] within (omega arith)
          | inr past ↦ get_or_past (map (set_of states) (range_with_len 0 n)) p [] (omega (arith, length-map-range_with_len (set_of states) 0 n)) ∙ sym (set_past p past)
        ]

    -- the table of the lists is that of the states
    same_table : (λ (p x : ℕ). has_id (get_or at p []) x) ≡ holds states
    same_table = fun_ext (λ p. fun_ext (λ x. ap (λ s. has_id s x) (at_known p)))

    abbrev releases : ℕ → ℕ → Type 0
    releases f x = has_id (get_or released f []) x ≡ true

    -- what is kept by the released sets is what is kept by the rules
    kept_same : (p x : ℕ) → (has_id (get_or keep p []) x ≡ true) ↔ Keeps basis releases (holds states) p x
    kept_same p x =
        elim (cases_lt p (length basis.program.points)) [
          | inl within ↦
              let kept = keep_is.each p within in (
                λ there. (kept.among x there, λ may. kept.kept x there (may_map basis releases (Released basis) (λ g y. (released_is.exact g y).0) may)),
                λ keeps. elim (cases_Bool (has_id (get_or keep p []) x)) [
                  | inl there ↦ there
                  | inr lacks ↦ absurd (keeps.1 (may_map basis (Released basis) releases (λ g y. (released_is.exact g y).1) (kept.lost x keeps.0 lacks)))
                ],
              )
          | inr past ↦ (
            λ there. absurd (false≢true (subst (λ s. has_id s x ≡ true) (get_or_past keep p [] (omega (arith, keep_is.all))) there)),
            λ keeps. absurd (false≢true (subst (λ s. has_id s x ≡ true) (set_past p past) keeps.0)),
          )
        ]

    keep_known : (p x : ℕ) → (has_id (get_or keep p []) x ≡ true) ↔ Keeps basis releases (λ (q y : ℕ). has_id (get_or at q []) y) p x
    keep_known p x = subst (λ table. (has_id (get_or keep p []) x ≡ true) ↔ Keeps basis releases table p x) (sym same_table) (kept_same p x)

    exit_within : (f e : ℕ) → exit_of basis.program f ≡ Some e → f < length basis.program.functions
    exit_within f e exit =
        elim (slice_get_cases basis.program.functions f).1 [
          | inl found ↦ found.1
          | inr past ↦ absurd (none-some e (sym (ap (option_map (λ (x : Function). x.exit)) past.1) ∙ exit))
        ]

    out_known : (f e : ℕ) → exit_of basis.program f ≡ Some e → get_or out f [] ≡ get_or at e []
    out_known f e exit =
        let count = length basis.program.functions in
        ap (λ s. get_or s f []) out_is ∙ get_or-map-range_with_len (out_set basis.program states) 0 count f f [] (exit_within f e exit) (omega arith)
        ∙ ap (λ o. option_map_or (set_of states) o []) exit ∙ sym (at_known e)

    -- the lists are the lock sets
    pub lock_sets_are : AreLockSets basis (sets_of (length basis.labels.entries) at keep out released)
    lock_sets_are = record {
      sizes = record {
        labels = refl;
        points = ap length at_is ∙ length-map-range_with_len (set_of states) 0 (length basis.program.points);
        functions = ap length out_is ∙ length-map-range_with_len (out_set basis.program states) 0 (length basis.program.functions);
      };
      closed = record {
        released = record {
          itself = λ p f x frees. (released_is.exact f x).1 (Released.itself frees);
          callee = λ p f g y x way runs rel over. (released_is.exact f x).1 (Released.callee runs ((released_is.exact g y).0 rel) over);
        };
        at = subst (IsHeldTable basis releases) (sym same_table) (held_table basis states releases (λ f x. (released_is.exact f x).0) are);
        keep = λ p x. (keep_known p x).0;
        out = λ f e x exit there. subst (λ s. has_id s x ≡ true) (out_known f e exit) there;
      };
      exact = record {
        released = λ f x. (released_is.exact f x).0;
        at = λ p x lock none. are.lost p x lock (ap (λ s. has_id s x) (sym (at_known p)) ∙ none);
        keep = λ p x. (keep_known p x).1;
        out = λ f e x exit there. subst (λ s. has_id s x ≡ true) (sym (out_known f e exit)) there;
      };
    }

    -- and in range
    pub lock_sets_in_range : AreSetsBelow (length basis.labels.entries) at → AreSetsBelow (length basis.labels.entries) keep → AreSetsBelow (length basis.labels.entries) out → AreLockSetsInRange (sets_of (length basis.labels.entries) at keep out released)
    lock_sets_in_range at_below keep_below out_below = record {
      points = keep_is.all ∙ sym (ap length at_is ∙ length-map-range_with_len (set_of states) 0 (length basis.program.points));
      functions = released_is.sets.all ∙ sym (ap length out_is ∙ length-map-range_with_len (out_set basis.program states) 0 (length basis.program.functions));
      at = at_below;
      keep = keep_below;
      out = out_below;
      released = released_is.sets.below;
    }
