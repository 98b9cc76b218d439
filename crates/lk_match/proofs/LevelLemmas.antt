-- Finding Level: one round over the summary edges of what is found so far, and what is there at the end.
use Rattle.std.proofs.Common.{ℕ, ◌+◌, ◌<◌, ◌≡◌, ◌↔◌, ◌⊎◌, ◌||◌, ◌&&◌, Bool, true, false, eqb, ltb, List, [], ◌∷◌, ◌++◌, length, get_or, take, All, Contains, refl, sym, ap, ◌∙◌, subst, inl, inr}
use Rattle.std.proofs.lemmas.Bool.{and_from, and_parts, eqb-true, eq-eqb, lt-ltb, ltb-true, or_cases, or_left, or_parts, or_right}
use Rattle.std.proofs.lemmas.List.{take_more}
use Rattle.std.proofs.lemmas.List.Elements.{All-contains, All-contains_itself, All-weaker, Contains-append_left, Contains-push, Contains-push_cases}
use Rattle.lk_sets.specs.Adding.{IsGiven}
use Rattle.lk_sets.specs.Closing.{Grows, Going}
use Rattle.lk_sets.specs.Rows.{Rows, has, IsSquare}
use Rattle.lk_sets.specs.Spread.{IsWithin, Spread}
use Rattle.lk_sets.specs.Spread.Spread.{stands, passed}
use Rattle.lk_sets.specs.declared.spread.Arrow.{Arrow}
use Rattle.lk_sets.proofs.Closing.{grows_twice}
use Rattle.lk_facts.specs.declared.edge.Edge.{Edge}
use Rattle.lk_facts.specs.declared.edge.Mark.TheVariants.{Plain, Enter, Leave}
use Rattle.lk_facts.specs.Labels.{LabelTable, is_global_at}
use Rattle.lk_facts.specs.PathRules.{Summary, IsLevelClosed}
use Rattle.lk_facts.specs.PathRules.Summary.{plain, call}
use Rattle.lk_facts.specs.Paths.{HasEdge, Level}
use Rattle.lk_facts.specs.PathTables.{IsEdgeWithin, AreEdgesWithin, AreLevels}
use Rattle.lk_facts.proofs.PathClosing.{level_itself, level_summary, level_join, level_least}
use Rattle.lk_facts.proofs.TableLemmas.{summary_more}
use Rattle.lk_match.specs.Levels.{IsPassedOn, AreSound, AreClosed}
use Rattle.lk_match.specs.Summaries.{summary_of, IsSummaryWithin}
use Rattle.lk_match.specs.declared.summary.SummaryEdge.{SummaryEdge}
use Rattle.lk_match.proofs.SummaryLemmas.{summary_within}

-- one summary edge more is put
pub put_more : (old mid new : Rows) (xs : List SummaryEdge) (i : ℕ) (s : SummaryEdge) → i < length xs → s ≡ get_or xs i s → ((x y : ℕ) → has new x y ≡ (has mid x y || (eqb x s.from && eqb y s.to))) →
    ((a b : ℕ) → (has mid a b ≡ true) ↔ ((has old a b ≡ true) ⊎ Contains (take i xs) (summary_of a b))) → (a b : ℕ) → (has new a b ≡ true) ↔ ((has old a b ≡ true) ⊎ Contains (take (i + 1) xs) (summary_of a b))
put_more old mid new xs i s within same pairs before a b = (there, back)
  where
    more : take (i + 1) xs ≡ take i xs ++ s ∷ []
    more = take_more xs i s within ∙ ap (λ x. take i xs ++ x ∷ []) (sym same)

    there : has new a b ≡ true → (has old a b ≡ true) ⊎ Contains (take (i + 1) xs) (summary_of a b)
    there h =
        elim (or_cases (has mid a b) _ (sym (pairs a b) ∙ h)) [
          | inl earlier ↦ elim ((before a b).0 earlier) [ inl first ↦ inl first | inr put ↦ inr (subst (λ ys. Contains ys (summary_of a b)) (sym more) (Contains-append_left (take i xs) _ _ put)) ]
          | inr here ↦
              let parts = and_parts (eqb a s.from) (eqb b s.to) here in
              let from = eqb-true a s.from parts.0 in
              let to = eqb-true b s.to parts.1 in
              let is : s ≡ summary_of a b = ap (λ x. summary_of x s.to) (sym from) ∙ ap (λ y. summary_of a y) (sym to) in
              inr (subst (λ ys. Contains ys (summary_of a b)) (sym more) (subst (λ x. Contains (take i xs ++ s ∷ []) x) is (Contains-push (take i xs) s)))
        ]

    back : (has old a b ≡ true) ⊎ Contains (take (i + 1) xs) (summary_of a b) → has new a b ≡ true
    back (inl first) = pairs a b ∙ or_left _ _ ((before a b).1 (inl first))
    back (inr put) =
        elim (Contains-push_cases (take i xs) s (summary_of a b) (subst (λ ys. Contains ys (summary_of a b)) more put)) [
          | inl earlier ↦ pairs a b ∙ or_left _ _ ((before a b).1 (inr earlier))
          | inr is ↦ pairs a b ∙ or_right (has mid a b) _ (and_from _ _ (eq-eqb a s.from (ap (λ x. x.from) (sym is))) (eq-eqb b s.to (ap (λ x. x.to) (sym is))))
        ]

pub arrows_within : (global : ℕ → Bool) (count : ℕ) (found : List SummaryEdge) (arrows : List Arrow) → All (IsSummaryWithin count) found → ((x : Arrow) → Contains arrows x ↔ IsGiven (IsPassedOn global) found x) → All (IsWithin count) arrows
arrows_within global count found arrows all are =
    All-weaker (Contains arrows) (IsWithin count) (λ x h.
    let given = (are x).0 h in
    let within = All-contains (IsSummaryWithin count) found given.0 all given.1 in
    subst (IsWithin count) given.2.1 (within.1, within.0)) arrows (All-contains_itself arrows)

module _ (es : List Edge) (global : ℕ → Bool) where
  module _ (old mid new : Rows) (found : List SummaryEdge) (arrows : List Arrow) (each : (s : SummaryEdge) → Contains found s ↔ Summary (HasEdge es) global (λ x y. has old x y ≡ true) s.from s.to)
      (back : (x : Arrow) → Contains arrows x ↔ IsGiven (IsPassedOn global) found x) (put : (a b : ℕ) → (has mid a b ≡ true) ↔ ((has old a b ≡ true) ⊎ Contains found (summary_of a b)))
      (spread : (a b : ℕ) → (has new a b ≡ true) ↔ Spread arrows mid a b) where
    module _ (sound : AreSound es global old) where
      found_level : (s : SummaryEdge) → Contains found s → Level (HasEdge es) global s.from s.to
      found_level s h = level_summary (summary_more sound ((each s).0 h))

      put_level : (a b : ℕ) → has mid a b ≡ true → Level (HasEdge es) global a b
      put_level a b h = elim ((put a b).0 h) [ inl first ↦ sound a b first | inr there ↦ found_level (summary_of a b) there ]

      spread_level : {a b : ℕ} → Spread arrows mid a b → Level (HasEdge es) global a b
      spread_level {a} {b} (stands h) = put_level a b h
      spread_level {a} {b} (passed arrow there rest) =
          let given = (back arrow).0 there in
          let s = given.0 in
          let on : Level (HasEdge es) global s.to b = subst (λ (x : Arrow). Level (HasEdge es) global x.from b) (sym given.2.1) (spread_level rest) in
          subst (λ (x : Arrow). Level (HasEdge es) global x.into b) given.2.1 (level_join (found_level s given.1) (inr given.2.0) on)

    pub extended : (p q : Bool) → Grows old mid p → Grows mid new q → Going (AreSound es global) (AreClosed es global) old new (p || q)
    extended p q first second = record {
      grows = grows_twice first second;
      sound = λ sound a b h. spread_level sound ((spread a b).0 h);
      done = λ none.
          let parts = or_parts p q none in
          let same : new ≡ mid = second.same parts.1 in
          let before : new ≡ old = same ∙ first.same parts.0 in
          let in_found : (a b : ℕ) → Summary (HasEdge es) global (λ x y. has new x y ≡ true) a b → Contains found (summary_of a b) =
          λ a b s. (each (summary_of a b)).1 (summary_more (λ x y h. subst (λ r. has r x y ≡ true) before h) s) in
          record {
            last = λ a b s. subst (λ r. has r a b ≡ true) (sym same) ((put a b).1 (inr (in_found a b s)));
            more = λ a b c s at h.
                (spread a c).1 (passed (record { from = b; into = a }) ((back (record { from = b; into = a })).1 (summary_of a b, in_found a b s, (at, refl))) ((spread b c).0 h));
          };
    }

  -- a relation that is closed over its own summary edges, and in which each label stands with itself, has Level
  module _ (count : ℕ) (within : All (IsEdgeWithin count) es) (r : Rows) (itself : (a : ℕ) → a < count → has r a a ≡ true) (closed : AreClosed es global r) where
    abbrev OrSame : ℕ → ℕ → Type 0
    OrSame a b = (has r a b ≡ true) ⊎ (a ≡ b)

    in_range : (a b : ℕ) → a < count → OrSame a b → has r a b ≡ true
    in_range a b at (inl h) = h
    in_range a b at (inr same) = subst (λ x. has r a x ≡ true) same (itself a at)

    of_range : {a b : ℕ} → Summary (HasEdge es) global OrSame a b → Summary (HasEdge es) global (λ x y. has r x y ≡ true) a b
    of_range (plain h) = plain h
    of_range (call i x y enters at inside at' leaves) = call i x y enters at (in_range x y (All-contains (IsEdgeWithin count) es _ within enters).1 inside) at' leaves

    or_same_closed : IsLevelClosed (HasEdge es) global OrSame
    or_same_closed = record {
      itself = λ a. inr refl;
      last = λ a b s. inl (closed.last a b (of_range s));
      more = λ a b c s at h. elim h [ inl there ↦ inl (closed.more a b c (of_range s) at there) | inr same ↦ inl (subst (λ x. has r a x ≡ true) same (closed.last a b (of_range s))) ];
    }

    pub has_levels : (a b : ℕ) → a < count → Level (HasEdge es) global a b → has r a b ≡ true
    has_levels a b at h = in_range a b at (level_least OrSame or_same_closed a b h)

pub are_levels : (es : List Edge) (labels : LabelTable) (first r : Rows) → AreEdgesWithin labels es → ((a b : ℕ) → has first a b ≡ (ltb a (length labels.entries) && eqb a b)) → ((a b : ℕ) → has first a b ≡ true → has r a b ≡ true) → (AreSound es (is_global_at labels) first → AreSound es (is_global_at labels) r) → AreClosed es (is_global_at labels) r → r.size ≡ length labels.entries → AreLevels es labels r
are_levels es labels first r within pairs kept sound closed size = record {
  size = size;
  levels = λ a b at.
      let global = is_global_at labels in
      let first_sound : AreSound es global first = λ x y h.
      let parts = and_parts (ltb x (length labels.entries)) (eqb x y) (sym (pairs x y) ∙ h) in
      subst (Level (HasEdge es) global x) (eqb-true x y parts.1) (level_itself x) in
      let itself : (x : ℕ) → x < length labels.entries → has r x x ≡ true = λ x below. kept x x (pairs x x ∙ and_from _ _ (lt-ltb x (length labels.entries) below) (eq-eqb x x refl)) in
      (sound first_sound a b, has_levels es global (length labels.entries) within r itself closed a b (subst (λ n. a < n) size at));
}
