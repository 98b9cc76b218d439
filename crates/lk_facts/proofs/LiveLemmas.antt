-- The points that are found to be live.
use Rattle.std.proofs.Common.{◌≡◌, ◌<◌, ◌+◌, ◌||◌, ◌∷◌, [], ◌++◌, ◌⊎◌, ℕ, Bool, true, false, eqb, List, length, take, set, get_or, replicate, Some, Contains, ⊎_elim, refl, sym, subst, ap, ◌∙◌, arith, length-append, inl, inr}
use Rattle.std.specs.Prelude.{slice_get}
use Rattle.std.proofs.Math.Bool.{or-false}
use Rattle.std.proofs.Math.ListN.{get_or-append}
use Rattle.std.proofs.lemmas.Bool.{false≢true, cases_eq, eq-eqb, eqb-true, or_cases, or_left, or_right}
use Rattle.std.proofs.lemmas.List.{length-set, length-replicate, get_or-replicate, get_or-set_same, get_or-set_other}
use Rattle.std.proofs.lemmas.List.Elements.{Contains-append_left, Contains-append_right, Contains-append_cases}
use Rattle.std.proofs.lemmas.List.Folds.{list_any_more}
use Rattle.std.proofs.lemmas.Option.{slice_get-get_or, slice_get_within, get_or_from_slice_get, same_Some}
use Rattle.lk_sets.proofs.Members.{Contains-from_has_id, has_id-from_Contains}
use Rattle.lk_facts.specs.Live.{IsReached}
use Rattle.lk_facts.specs.Marks.{IsMarked, AreMarked, AreFound, AreFollowed}
use Rattle.lk_facts.specs.declared.function.Function.{Function}
use Rattle.lk_facts.specs.declared.live.Marks.{Marks}
use Rattle.lk_facts.specs.declared.point.Point.{Point}
use Rattle.lk_sets.specs.Ids.{has_id}

-- the number that a list of one has
one_is : (p q : ℕ) → has_id (p ∷ []) q ≡ eqb p q
one_is p q = or-false (eqb p q)

is_one : (p q : ℕ) → has_id (p ∷ []) q ≡ true → p ≡ q
is_one p q has = eqb-true p q (sym (one_is p q) ∙ has)

-- a point that is set is marked, and the others are as before
set_here : (xs : List Bool) (p : ℕ) → p < length xs → slice_get (set xs p true) p ≡ Some true
set_here xs p within = slice_get-get_or (set xs p true) p false (omega (arith, length-set xs p true)) ∙ ap Some (get_or-set_same xs p true false within)

set_kept : (xs : List Bool) (p q : ℕ) → p < length xs → slice_get xs q ≡ Some true → slice_get (set xs p true) q ≡ Some true
set_kept xs p q within at =
    elim (cases_eq q p) [
      | inl same ↦ subst (λ r. slice_get (set xs p true) r ≡ Some true) (sym same) (set_here xs p within)
      | inr other ↦
          slice_get-get_or (set xs p true) q false (omega (arith, length-set xs p true, slice_get_within xs q true at))
          ∙ ap Some (get_or-set_other xs p q true false other ∙ get_or_from_slice_get xs q true false at)
    ]

set_only : (xs : List Bool) (p q : ℕ) → slice_get (set xs p true) q ≡ Some true → (slice_get xs q ≡ Some true) ⊎ (has_id (p ∷ []) q ≡ true)
set_only xs p q at =
    elim (cases_eq q p) [
      | inl same ↦ inr (one_is p q ∙ eq-eqb p q (sym same))
      | inr other ↦ inl (slice_get-get_or xs q false (omega (arith, length-set xs p true, slice_get_within (set xs p true) q true at))
          ∙ ap Some (sym (get_or-set_other xs p q true false other) ∙ get_or_from_slice_get (set xs p true) q true false at))
    ]

Contains_kept : (xs : List ℕ) (i p : ℕ) (ys : List ℕ) → slice_get xs i ≡ Some p → slice_get (xs ++ ys) i ≡ Some p
Contains_kept xs i p ys at =
    let within = slice_get_within xs i p at in
    slice_get-get_or (xs ++ ys) i p (omega (arith, length-append xs ys)) ∙ ap Some (get_or-append xs ys p i within ∙ get_or_from_slice_get xs i p p at)

pub put_new : (old new : Marks) (p : ℕ) → p < length old.live.items → new.live.items ≡ set old.live.items p true → new.found.items ≡ old.found.items ++ p ∷ [] → AreMarked (p ∷ []) old new
put_new old new p within live found = record {
  long = ap length live ∙ length-set old.live.items p true;
  each = λ q one. subst (λ xs. slice_get xs q ≡ Some true) (sym live) (subst (λ r. slice_get (set old.live.items p true) r ≡ Some true) (is_one p q one) (set_here old.live.items p within));
  kept = λ q was. subst (λ xs. slice_get xs q ≡ Some true) (sym live) (set_kept old.live.items p q within was);
  only = λ q now. set_only old.live.items p q (subst (λ xs. slice_get xs q ≡ Some true) live now);
  places = λ i q at. subst (λ xs. slice_get xs i ≡ Some q) (sym found) (Contains_kept old.found.items i q (p ∷ []) at);
  listed = λ before. record {
    listed = λ q now. subst (λ xs. Contains xs q) (sym found) (⊎_elim
        (λ was. Contains-append_left old.found.items (p ∷ []) q (before.listed q was))
        (λ one. Contains-append_right old.found.items (p ∷ []) q (Contains-from_has_id (p ∷ []) q one))
        (set_only old.live.items p q (subst (λ xs. slice_get xs q ≡ Some true) live now)));
    marked = λ q there. subst (λ xs. slice_get xs q ≡ Some true) (sym live) (⊎_elim
        (λ was. set_kept old.live.items p q within (before.marked q was))
        (λ one. subst (λ r. slice_get (set old.live.items p true) r ≡ Some true) (is_one p q (has_id-from_Contains (p ∷ []) q one)) (set_here old.live.items p within))
        (Contains-append_cases old.found.items (p ∷ []) q (subst (λ xs. Contains xs q) found there)));
  };
}

pub put_old : (marks : Marks) (p : ℕ) → p < length marks.live.items → get_or marks.live.items p true ≡ true → AreMarked (p ∷ []) marks marks
put_old marks p within is = record {
  long = refl;
  each = λ q one. subst (IsMarked marks) (is_one p q one) (slice_get-get_or marks.live.items p true within ∙ ap Some is);
  kept = λ q was. was;
  only = λ q now. inl now;
  places = λ i q at. at;
  listed = λ before. before;
}

pub marked_none : (marks : Marks) → AreMarked [] marks marks
marked_none marks = record {
  long = refl;
  each = λ q one. absurd (false≢true one);
  kept = λ q was. was;
  only = λ q now. inl now;
  places = λ i q at. at;
  listed = λ before. before;
}

-- where nothing was marked yet, nothing is
pub unmarked : (marks : Marks) (n p : ℕ) → marks.live.items ≡ replicate n false → IsMarked marks p → ⊥
unmarked marks n p all at =
    let here = subst (λ xs. slice_get xs p ≡ Some true) all at in
    let within = slice_get_within (replicate n false) p true here in
    false≢true (sym (get_or-replicate n p false false (omega (arith, length-replicate n false))) ∙ get_or_from_slice_get (replicate n false) p true false here)

-- one more point of a list is marked
pub marked_more : (ps : List ℕ) (i p : ℕ) (first old new : Marks) → i < length ps → p ≡ get_or ps i 0 → AreMarked (take i ps) first old → AreMarked (p ∷ []) old new → AreMarked (take (i + 1) ps) first new
marked_more ps i p first old new within is before step = record {
  long = step.long ∙ before.long;
  each = λ q one. ⊎_elim (λ was. step.kept q (before.each q was)) (λ now. step.each q now) (either q one);
  kept = λ q was. step.kept q (before.kept q was);
  only = λ q now. ⊎_elim
      (λ was. ⊎_elim (λ earlier. inl earlier) (λ one. inr (left q one)) (before.only q was))
      (λ one. inr (right q one))
      (step.only q now);
  places = λ k q at. step.places k q (before.places k q at);
  listed = λ listed. step.listed (before.listed listed);
}
  where
    parts : (q : ℕ) → has_id (take (i + 1) ps) q ≡ (has_id (take i ps) q || eqb p q)
    parts q = subst (λ r. has_id (take (i + 1) ps) q ≡ (has_id (take i ps) q || eqb r q)) (sym is) (list_any_more (λ y. eqb y q) ps i 0 within)

    either : (q : ℕ) → has_id (take (i + 1) ps) q ≡ true → (has_id (take i ps) q ≡ true) ⊎ (has_id (p ∷ []) q ≡ true)
    either q one = ⊎_elim (λ a. inl a) (λ b. inr (one_is p q ∙ b)) (or_cases (has_id (take i ps) q) (eqb p q) (sym (parts q) ∙ one))

    left : (q : ℕ) → has_id (take i ps) q ≡ true → has_id (take (i + 1) ps) q ≡ true
    left q one = parts q ∙ or_left (has_id (take i ps) q) (eqb p q) one

    right : (q : ℕ) → has_id (p ∷ []) q ≡ true → has_id (take (i + 1) ps) q ≡ true
    right q one = parts q ∙ or_right (has_id (take i ps) q) (eqb p q) (sym (one_is p q) ∙ one)

module _ (points : List Point) (functions : List Function) where
  -- where points are marked that are reached, all marked points still are
  pub found_more : (ps : List ℕ) (old new : Marks) → ((p : ℕ) → has_id ps p ≡ true → IsReached points functions p) → AreMarked ps old new → AreFound points functions old → AreFound points functions new
  found_more ps old new reached step before = record {
    long = step.long ∙ before.long;
    entries = λ f function at. step.kept function.entry (before.entries f function at);
    sound = λ p marked. ⊎_elim (λ was. before.sound p was) (λ one. reached p one) (step.only p marked);
    listed = step.listed before.listed;
  }

  -- the successors of a found point are reached
  pub next_reached : (marks : Marks) (k p : ℕ) (point : Point) → AreFound points functions marks → slice_get marks.found.items k ≡ Some p → slice_get points p ≡ Some point → (q : ℕ) → has_id point.next q ≡ true → IsReached points functions q
  next_reached marks k p point before at is q next =
      let here = before.listed.marked p (k, slice_get_within marks.found.items k p at, get_or_from_slice_get marks.found.items k p p at) in
      IsReached.next p point (before.sound p here) is next

  pub exact : (marks : Marks) → AreFound points functions marks → AreFollowed points marks (length marks.found.items) → (p : ℕ) → IsReached points functions p → IsMarked marks p
  exact marks found followed p (IsReached.entry f function at) = found.entries f function at
  exact marks found followed q (IsReached.next p point before at next) =
      let listed = found.listed.listed p (exact marks found followed p before) in
      let place : slice_get marks.found.items listed.0 ≡ Some p = slice_get-get_or marks.found.items listed.0 p listed.1 ∙ ap Some listed.2 in
      followed listed.0 p point listed.1 place at q next

  -- a listed point is one of the points
  pub listed_within : (marks : Marks) (k p : ℕ) → AreFound points functions marks → slice_get marks.found.items k ≡ Some p → p < length points
  listed_within marks k p found at =
      let here = found.listed.marked p (k, slice_get_within marks.found.items k p at, get_or_from_slice_get marks.found.items k p p at) in
      subst (λ n. p < n) found.long (slice_get_within marks.live.items p true here)

  -- the entries of the first functions are marked, and one more
  pub entries_more : (old new : Marks) (k : ℕ) (function : Function) → slice_get functions k ≡ Some function → AreMarked (function.entry ∷ []) old new →
      ((f : ℕ) (other : Function) → f < k → slice_get functions f ≡ Some other → IsMarked old other.entry) → (f : ℕ) (other : Function) → f < k + 1 → slice_get functions f ≡ Some other → IsMarked new other.entry
  entries_more old new k function is step before f other less at =
      elim (cases_eq f k) [
        | inl same ↦
            let both : function ≡ other = same_Some _ _ (sym is ∙ subst (λ i. slice_get functions i ≡ Some other) same at) in
            step.each other.entry (one_is function.entry other.entry ∙ eq-eqb function.entry other.entry (ap (λ x. x.entry) both))
        | inr apart ↦ step.kept other.entry (before f other (omega arith) at)
      ]

  pub entry_reached : (old new : Marks) (k : ℕ) (function : Function) → slice_get functions k ≡ Some function → AreMarked (function.entry ∷ []) old new →
      ((p : ℕ) → IsMarked old p → IsReached points functions p) → (p : ℕ) → IsMarked new p → IsReached points functions p
  entry_reached old new k function is step before p now =
      ⊎_elim (λ was. before p was) (λ one. subst (IsReached points functions) (is_one function.entry p one) (IsReached.entry k function is)) (step.only p now)

module _ (points : List Point) where
  -- where the successors of the next listed point are marked, one more is followed
  pub followed_more : (old new : Marks) (k p : ℕ) (point : Point) → slice_get old.found.items k ≡ Some p → slice_get points p ≡ Some point →
      AreMarked point.next old new → AreFollowed points old k → AreFollowed points new (k + 1)
  followed_more old new k p point at is step before i r other less at' is' q next =
      elim (cases_eq i k) [
        | inl same ↦
            let one : p ≡ r = same_Some _ _ (sym (step.places k p at) ∙ subst (λ j. slice_get new.found.items j ≡ Some r) same at') in
            let both : point ≡ other = same_Some _ _ (sym is ∙ subst (λ x. slice_get points x ≡ Some other) (sym one) is') in
            step.each q (subst (λ x. has_id x.next q ≡ true) (sym both) next)
        | inr apart ↦
            let below : i < k = omega arith in
            let was = slice_get-get_or old.found.items i r (omega (arith, slice_get_within old.found.items k p at)) in
            let one = same_Some _ _ (sym (step.places i _ was) ∙ at') in
            step.kept q (before i r other below (was ∙ ap Some one) is' q next)
      ]
