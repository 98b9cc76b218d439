-- The locations at which there is a race are found.
use Rattle.std.proofs.Common.{◌≡◌, ◌≢◌, ◌∙◌, ℕ, ◌+◌, ◌<◌, ◌≤◌, ◌==◌, Bool, true, false, ◌||◌, ◌&&◌, if◌then◌else◌, ◌⊎◌, inl, inr, List, [], ◌∷◌, ◌++◌, Option, None, Some, length, refl, sym, ap, subst, arith}
use Rattle.std.proofs.lemmas.Bool.{and_parts, cases_lt, eqb-true, eq-eqb, false≢true}
use Rattle.std.proofs.lemmas.Grind.{common_steps}
use Rattle.std.proofs.lemmas.List.Folds.{list_any-append}
use Rattle.std.proofs.lemmas.Option.{none-some, slice_get_past, same_Some, some_pair_parts}
use Rattle.std.specs.Option.{option_and_then}
use Rattle.std.specs.Prelude.{slice_get, nat_eq}
use Rattle.lk_base.specs.Steps.{is_step}
use Rattle.lk_base.specs.declared.cell.CellStep.{CellStep}
use Rattle.lk_base.specs.declared.cell.CellStep.TheVariants.{Field, Index}
use Rattle.lk_cells.specs.Places as places
use Rattle.lk_cells.specs.declared.state.State.{State}
use Rattle.lk_cells.specs.declared.state.Thread.{Thread}
use Rattle.lk_facts.specs.Lowered.{IsLowered}
use Rattle.lk_facts.specs.Program.{action_at, place_of}
use Rattle.lk_facts.specs.declared.place.Place.{Place}
use Rattle.lk_facts.specs.declared.program.Program.{Program}
use Rattle.lk_meaning.specs.Locations.{HasLocation, IsLocation}
use Rattle.lk_meaning.specs.Runs as runs
use Rattle.lk_meaning.specs.declared.touching.Touched.{Touched}
use Rattle.lk_meaning.proofs.CellLemmas.{one_path}
use Rattle.lk_meaning.proofs.Reading.{get_left}
use Rattle.lk_play.specs.Calls.{AreAllRaced, AreFoundBelow, AreTouches, HasOther, IsAt, IsRacedBy, TellsRacedBy, touched_at}
use Rattle.lk_play.specs.Races.{AreRaced, HasRaceAt}
use Rattle.lk_sets.specs.Ids.{has_id, IsSetOf}
use Rattle.lk_types.proofs.PathLemmas.{equal_nodes_have_equal_ids}
use Rattle.lk_types.specs.Nodes.{Node}
use Rattle.lk_values.specs.Paths.{is_path}
use Rattle.lk_values.specs.declared.cell.Cell.{Cell}

-- ---- cells

step_itself : (a : CellStep) → is_step a a ≡ true
step_itself (Field a) = grind (arith, common_steps)
step_itself (Index a) = grind (arith, common_steps)

path_itself : (p : List CellStep) → is_path p p ≡ true
path_itself [] = refl
path_itself (a ∷ p) = rw (step_itself a, path_itself p) refl

abbrev cell_of : ℕ → List CellStep → Cell
cell_of o path = record { object = o; path = path }

one_cell : (a b : Cell) → a.object ≡ b.object → a.path ≡ b.path → a ≡ b
one_cell a b p q = ap (λ o. cell_of o a.path) p ∙ ap (λ r. cell_of b.object r) q

pub same_cell : (a b : Cell) → (nat_eq a.object b.object && is_path a.path b.path) ≡ true → a ≡ b
same_cell a b h =
    let parts = and_parts (nat_eq a.object b.object) (is_path a.path b.path) h in
    one_cell a b (eqb-true a.object b.object parts.0) (one_path a.path b.path parts.1)

pub cell_itself : (a b : Cell) → a ≡ b → (nat_eq a.object b.object && is_path a.path b.path) ≡ true
cell_itself a b h =
    subst (λ c. (nat_eq a.object c.object && is_path a.path c.path) ≡ true) h
    (rw (eq-eqb a.object a.object refl, path_itself a.path) refl)

abbrev touched_of : Cell → Bool → Touched
touched_of c w = record { cell = c; writes = w }

pub at_yes : (touched : Touched) (o : Option Touched) (c : Cell) (b : Bool) → Some touched ≡ o →
    b ≡ (nat_eq touched.cell.object c.object && is_path touched.cell.path c.path) → b ≡ true → IsAt o c
at_yes touched o c b e is h = (touched.writes, sym e ∙ ap (λ d. Some (touched_of d touched.writes)) (same_cell touched.cell c (sym is ∙ h)))

pub at_no : (touched : Touched) (o : Option Touched) (c : Cell) (b : Bool) → Some touched ≡ o →
    b ≡ (nat_eq touched.cell.object c.object && is_path touched.cell.path c.path) → IsAt o c → b ≡ true
at_no touched o c b e is at = is ∙ cell_itself touched.cell c (ap (λ (t : Touched). t.cell) (same_Some _ _ (e ∙ at.1)))

-- ---- what threads touch

touched_past : (touches : List (Option Touched)) (t : ℕ) → length touches ≤ t → touched_at touches t ≡ None
touched_past touches t h = ap (λ o. option_and_then (λ touched. touched) o) (slice_get_past touches t h)

get_end : {X : Type 0} (xs : List X) (x : X) (i : ℕ) → i ≡ length xs → slice_get (xs ++ x ∷ []) i ≡ Some x
get_end [] x i h = ap (slice_get (x ∷ [])) h
get_end (y ∷ xs) x i h = ap (slice_get (y ∷ (xs ++ x ∷ []))) h ∙ get_end xs x (length xs) refl

below_or_past : (t n : ℕ) → (t < n) ⊎ (n ≤ t)
below_or_past t n = cases_lt t n

below_or_last : (t i : ℕ) → t < i + 1 → (t < i) ⊎ (t ≡ i)
below_or_last t i h = elim (cases_lt t i) [ inl below ↦ inl below | inr past ↦ inr (omega (arith, h, past)) ]

module _ (touches : List (Option Touched)) (t : ℕ) (c : Cell) where
  pub no_more : (i : ℕ) → ((u : ℕ) → u < i → u ≢ t → IsAt (touched_at touches u) c → ⊥) → (b : Bool) →
      (i ≢ t → IsAt (touched_at touches i) c → b ≡ true) → b ≡ false →
      (u : ℕ) → u < i + 1 → u ≢ t → IsAt (touched_at touches u) c → ⊥
  no_more i none b says not u below other at = elim (below_or_last u i below) [
    | inl before ↦ none u before other at
    | inr last ↦ false≢true (sym not ∙ says (λ same. other (last ∙ same)) (subst (λ k. IsAt (touched_at touches k) c) last at))
  ]

  pub no_other : (i : ℕ) → length touches ≤ i → ((u : ℕ) → u < i → u ≢ t → IsAt (touched_at touches u) c → ⊥) → HasOther touches t c → ⊥
  no_other i all none has = elim (below_or_past has.other (length touches)) [
    | inl below ↦ none has.other (omega (arith, below, all)) has.different has.at
    | inr past ↦ none-some _ (sym (touched_past touches has.other past) ∙ has.at.1)
  ]

module _ (program : Program) (s : State) where
  -- the thread writes the cell, and another touches it
  pub raced_here : (touches : List (Option Touched)) (t : ℕ) (touched : Touched) → Some touched ≡ touched_at touches t →
      touched.writes ≡ true → places.lives s touched.cell.object ≡ true → HasOther touches t touched.cell →
      (r : Option ℕ) → IsLocation program s touched.cell r → TellsRacedBy program s touches t r
  raced_here touches t touched at writes lives other None none = λ n raced.
      let cells : raced.cell ≡ touched.cell = ap (λ (x : Touched). x.cell) (same_Some _ _ (sym raced.writes ∙ sym at)) in
      none n (subst (λ c. HasLocation program s c n) cells raced.of)
  raced_here touches t touched at writes lives other (Some n) of = record {
    cell = touched.cell;
    writes = sym at ∙ ap (λ w. Some (touched_of touched.cell w)) writes;
    lives = lives;
    other = other;
    of = of;
  }

  abbrev touch_of : Thread → Option Touched
  touch_of thread =
      if thread.ended || s.ended then None else option_and_then (runs.touched_by s thread) (action_at program thread.frame.point)

  -- the threads below i are looked at
  pub record AreBelow (i : ℕ) (touches : List (Option Touched)) : Type 0 where
    pub long : length touches ≡ i
    pub each : (t : ℕ) → t < i → touched_at touches t ≡ runs.touch program s t

  pub none_below : AreBelow 0 []
  none_below = record { long = refl; each = λ t h. absurd (omega (arith, h)) }

  pub one_below : (i : ℕ) (touches new : List (Option Touched)) (touched : Option Touched) → AreBelow i touches →
      new ≡ touches ++ touched ∷ [] → touched ≡ runs.touch program s i → AreBelow (i + 1) new
  one_below i touches new touched are push is =
      subst (AreBelow (i + 1)) (sym push) (record { long = longer touches ∙ ap (λ n. n + 1) are.long; each = each })
    where
      longer : (xs : List (Option Touched)) → length (xs ++ touched ∷ []) ≡ length xs + 1
      longer [] = refl
      longer (x ∷ xs) = omega (arith, longer xs)

      opened : Option (Option Touched) → Option Touched
      opened o = option_and_then (λ found. found) o

      at : (t : ℕ) → (t < i) ⊎ (t ≡ i) → touched_at (touches ++ touched ∷ []) t ≡ runs.touch program s t
      at t (inl below) = ap opened (get_left touches (touched ∷ []) t (omega (arith, below, are.long))) ∙ are.each t below
      at t (inr last) = ap opened (get_end touches touched t (last ∙ sym are.long)) ∙ is ∙ ap (runs.touch program s) (sym last)

      each : (t : ℕ) → t < i + 1 → touched_at (touches ++ touched ∷ []) t ≡ runs.touch program s t
      each t h = at t (below_or_last t i (omega (arith, h)))

  pub all_below : (touches : List (Option Touched)) → AreBelow (length s.threads) touches → AreTouches program s touches
  all_below touches are t = by (below_or_past t (length s.threads))
    where
      by : (t < length s.threads) ⊎ (length s.threads ≤ t) → touched_at touches t ≡ runs.touch program s t
      by (inl below) = are.each t below
      by (inr past) =
          touched_past touches t (omega (arith, past, are.long)) ∙ sym (ap (λ o. option_and_then touch_of o) (slice_get_past s.threads t past))

  -- ---- locations

  same_place : (a b : Place) → a.root ≡ b.root → a.node ≡ b.node → a ≡ b
  same_place a b p q = ap (λ r. place_of r a.node) p ∙ ap (λ n. place_of b.root n) q

  -- a cell has one location
  pub one_location : IsLowered program → (c : Cell) (n m : ℕ) → HasLocation program s c n → HasLocation program s c m → n ≡ m
  one_location ok c n m h k =
      let parts = same_parts (sym h.is ∙ k.is) in
      let nodes = equal_nodes_have_equal_ids program.types h.place.node k.place.node h.known k.known parts.1 in
      let places = same_place h.place k.place parts.0 nodes in
      ok.places_differ n m h.place h.number (k.number ∙ ap Some (sym places))
    where
      same_parts : {a b : ℕ} {x y : Node} → ◌≡◌ {A = Option (ℕ × Node)} (Some (a, x)) (Some (b, y)) → (a ≡ b) × (x ≡ y)
      same_parts {a = a} {b = b} {x = x} {y = y} e = some_pair_parts a b x y e

  module _ (touches : List (Option Touched)) where
    pub none_found : AreFoundBelow program s touches 0 []
    none_found n = (λ h. absurd (false≢true h), λ h. absurd (omega (arith, h.1)))

    past_is_none : (t n : ℕ) → length touches ≤ t → IsRacedBy program s touches t n → ⊥
    past_is_none t n h raced = none-some _ (sym (touched_past touches t h) ∙ raced.writes)

    -- one thread more, at which there is none
    pub none_more : (i : ℕ) (found : List ℕ) → AreFoundBelow program s touches i found → TellsRacedBy program s touches i None →
        AreFoundBelow program s touches (i + 1) found
    none_more i found are none n = (to, from)
      where
        to : has_id found n ≡ true → (t : ℕ) × (t < i + 1) × IsRacedBy program s touches t n
        to h = let at = (are n).0 h in (at.0, omega (arith, at.1), at.2)

        at : (t : ℕ) → (t < i) ⊎ (t ≡ i) → IsRacedBy program s touches t n → has_id found n ≡ true
        at t (inl below) raced = (are n).1 (t, below, raced)
        at t (inr last) raced = absurd (none n (subst (λ k. IsRacedBy program s touches k n) last raced))

        from : (t : ℕ) × (t < i + 1) × IsRacedBy program s touches t n → has_id found n ≡ true
        from h = at h.0 (below_or_last h.0 i h.1) h.2

    has_more : (found : List ℕ) (m n : ℕ) → has_id (found ++ m ∷ []) n ≡ (has_id found n || ((m == n) || false))
    has_more found m n = list_any-append (λ y. y == n) found (m ∷ [])

    -- one thread more, which races at m
    pub one_more : IsLowered program → (i : ℕ) (found new : List ℕ) (m : ℕ) → AreFoundBelow program s touches i found →
        TellsRacedBy program s touches i (Some m) → new ≡ found ++ m ∷ [] → AreFoundBelow program s touches (i + 1) new
    one_more ok i found new m are raced push n = (to, from)
      where
        by : (a b : Bool) → has_id found n ≡ a → (m == n) ≡ b → (a || (b || false)) ≡ true →
            (t : ℕ) × (t < i + 1) × IsRacedBy program s touches t n
        by true b e f h = let at = (are n).0 e in (at.0, omega (arith, at.1), at.2)
        by false true e f h = (i, omega arith, subst (IsRacedBy program s touches i) (eqb-true m n f) raced)
        by false false e f h = absurd (false≢true h)

        to : has_id new n ≡ true → (t : ℕ) × (t < i + 1) × IsRacedBy program s touches t n
        to h = by (has_id found n) (m == n) refl refl (sym (ap (λ l. has_id l n) push ∙ has_more found m n) ∙ h)

        or_right : (a b : Bool) → b ≡ true → (a || (b || false)) ≡ true
        or_right true b h = refl
        or_right false true h = refl
        or_right false false h = absurd (false≢true h)

        or_left : (a b : Bool) → a ≡ true → (a || (b || false)) ≡ true
        or_left true b h = refl
        or_left false b h = absurd (false≢true h)

        same_number : IsRacedBy program s touches i n → m ≡ n
        same_number other =
            let cells : raced.cell ≡ other.cell = one_touched (sym raced.writes ∙ other.writes) in
            one_location ok other.cell m n (subst (λ c. HasLocation program s c m) cells raced.of) other.of
          where
            one_touched : {a b : Cell} → ◌≡◌ {A = Option Touched} (Some (record { cell = a; writes = true })) (Some (record { cell = b; writes = true })) → a ≡ b
            one_touched e = ap (λ (t : Touched). t.cell) (same_Some _ _ e)

        at : (t : ℕ) → (t < i) ⊎ (t ≡ i) → IsRacedBy program s touches t n → has_id new n ≡ true
        at t (inl below) other =
            ap (λ l. has_id l n) push ∙ has_more found m n ∙ or_left (has_id found n) (m == n) ((are n).1 (t, below, other))
        at t (inr last) other =
            ap (λ l. has_id l n) push ∙ has_more found m n
            ∙ or_right (has_id found n) (m == n) (eq-eqb m n (same_number (subst (λ k. IsRacedBy program s touches k n) last other)))

        from : (t : ℕ) × (t < i + 1) × IsRacedBy program s touches t n → has_id new n ≡ true
        from h = at h.0 (below_or_last h.0 i h.1) h.2

    -- of all threads
    pub all_found : (found : List ℕ) → AreFoundBelow program s touches (length touches) found → AreAllRaced program s touches found
    all_found found are n = (λ h. let at = (are n).0 h in (at.0, at.2), λ h. by h.0 h.1 (below_or_past h.0 (length touches)))
      where
        by : (t : ℕ) → IsRacedBy program s touches t n → (t < length touches) ⊎ (length touches ≤ t) → has_id found n ≡ true
        by t raced (inl below) = (are n).1 (t, below, raced)
        by t raced (inr past) = absurd (past_is_none t n past raced)

    -- these are the locations with a race
    module _ (are : AreTouches program s touches) where
      to_race : (t n : ℕ) → IsRacedBy program s touches t n → HasRaceAt program s n
      to_race t n raced = record {
        cell = raced.cell;
        race = record {
          lives = raced.lives;
          first = t;
          second = raced.other.other;
          different = λ same. raced.other.different (sym same);
          first_writes = true;
          second_writes = raced.other.at.0;
          first_touches = sym (are t) ∙ raced.writes;
          second_touches = sym (are raced.other.other) ∙ raced.other.at.1;
          writes = refl;
        };
        of = raced.of;
      }

      from_race : (n : ℕ) → HasRaceAt program s n → (t : ℕ) × IsRacedBy program s touches t n
      from_race n has = by has.race.first_writes has.race.second_writes refl refl has.race.writes
        where
          race : runs.Race program s has.cell
          race = has.race

          first_at : touched_at touches race.first ≡ Some (record { cell = has.cell; writes = race.first_writes })
          first_at = are race.first ∙ race.first_touches

          second_at : touched_at touches race.second ≡ Some (record { cell = has.cell; writes = race.second_writes })
          second_at = are race.second ∙ race.second_touches

          written : (t : ℕ) (w : Bool) → touched_at touches t ≡ Some (record { cell = has.cell; writes = w }) → w ≡ true →
              touched_at touches t ≡ Some (record { cell = has.cell; writes = true })
          written t w at is = at ∙ ap (λ b. Some (record { cell = has.cell; writes = b })) is

          by : (a b : Bool) → race.first_writes ≡ a → race.second_writes ≡ b → (race.first_writes || race.second_writes) ≡ true →
              (t : ℕ) × IsRacedBy program s touches t n
          by true b e f h = (
            race.first,
            record {
              cell = has.cell;
              writes = written race.first race.first_writes first_at e;
              lives = race.lives;
              other = record { other = race.second; different = λ same. race.different (sym same); at = (race.second_writes, second_at) };
              of = has.of;
            },
          )
          by false true e f h = (
            race.second,
            record {
              cell = has.cell;
              writes = written race.second race.second_writes second_at f;
              lives = race.lives;
              other = record { other = race.first; different = race.different; at = (race.first_writes, first_at) };
              of = has.of;
            },
          )
          by false false e f h = absurd (false≢true (sym (ap (λ x. x || race.second_writes) e ∙ f) ∙ h))

      pub are_raced : (found ids : List ℕ) → AreAllRaced program s touches found → IsSetOf (has_id found) ids → AreRaced program s ids
      are_raced found ids all set = record {
        in_order = set.sorted;
        each = λ n. (
          λ h. let at = (all n).0 (sym (set.members n) ∙ h) in to_race at.0 n at.1,
          λ h. set.members n ∙ (all n).1 (from_race n h),
        );
      }
