-- The places of all cells: that they are those of the program, and that none stands twice.
use Rattle.std.proofs.Common.{arith, ap, sym, subst, ◌∙◌, ◌≡◌, ◌<◌, ◌≤◌, ◌+◌, ◌-◌, ◌++◌, ◌⊎◌, ◌↔◌, inl, inr, ℕ, zero, suc, Bool, true, false, List, [], ◌∷◌, length, slice_get, get_or, take, drop, Some, All, Contains, refl, append_assoc, length-append}
use Rattle.std.proofs.lemmas.Bool.{cases_lt, both_ways}
use Rattle.std.proofs.lemmas.List.Elements.{All-contains_itself, Contains-append_left, Contains-append_cases, Contains-push}
use Rattle.std.proofs.lemmas.List.Sorted.{Contains-permutation}
use Rattle.std.proofs.lemmas.Option.{same_Some, slice_get-get_or, slice_get_within, get_or_from_slice_get}
use Rattle.std.specs.Prelude.{IsPermutation}
use Rattle.lk_facts.specs.LabelRules.{form_of}
use Rattle.lk_facts.specs.Lowered.{IsPartOfObject, IsPlaceOfMutex, IsPlaceOfValue, holds_cells}
use Rattle.lk_facts.specs.Places.{AreDifferent, IsMissing}
use Rattle.lk_facts.specs.Program.{place_at, IsLocation, IsLockPlace}
use Rattle.lk_facts.specs.declared.place.Place.{Place}
use Rattle.lk_facts.specs.declared.program.Program.{Program}
use Rattle.lk_facts.specs.declared.root.Root.{Root}
use Rattle.lk_facts.specs.declared.root.RootKind.{RootKind}
use Rattle.lk_facts.specs.declared.root.RootKind.TheVariants.{Global, Static, Local, Heap, Text, Argv, Args, Function}
use Rattle.lk_lower_expr.specs.Lowering.{Numbers}
use Rattle.lk_lower_expr.specs.Programs.{ArePlaces, IsPlaceBefore, IsSpotBefore}
use Rattle.lk_lower_parts.proofs.CellLists.{value_alone}
use Rattle.lk_lower_parts.proofs.Ordered.{in_order}
use Rattle.lk_lower_parts.proofs.Reached.{within_node}
use Rattle.lk_lower_parts.specs.Cells.{ArePlacesOf, HasMorePlacesOf, IsPlaceIn}
use Rattle.lk_lower_parts.specs.TextOrder.{Ascend, IsBefore, IsBeforeOf}
use Rattle.lk_lower_parts.specs.Within.{AreCells, AreInOrder, HaveRoots, IsInObject, IsInRoots, count_of_cells, has_cells}
use Rattle.lk_lower_parts.specs.declared.places.Cells.{Cells}
use Rattle.lk_typed.specs.declared.whole.Whole.{Whole}
use Rattle.lk_types.specs.Objects.{is_mutex}
use Rattle.lk_types.specs.Table.{Table}

-- ---- lists, and where a thing is in them

pub there_at : {X : Type 0} (xs : List X) (i : ℕ) (x : X) → slice_get xs i ≡ Some x → Contains xs x
there_at xs i x at = (i, slice_get_within xs i x at, get_or_from_slice_get xs i x x at)

pub at_there : {X : Type 0} (xs : List X) (x : X) → (there : Contains xs x) → slice_get xs there.0 ≡ Some x
at_there xs x there = slice_get-get_or xs there.0 x there.1 ∙ ap Some there.2

in_front : {X : Type 0} (xs ys : List X) (i : ℕ) → i < length xs → slice_get (xs ++ ys) i ≡ slice_get xs i
in_front [] ys i below = absurd (omega arith)
in_front (x ∷ xs) ys zero below = refl
in_front (x ∷ xs) ys (suc i) below = in_front xs ys i (omega arith)

at_back : {X : Type 0} (xs ys : List X) (i k : ℕ) → i ≡ length xs + k → slice_get (xs ++ ys) i ≡ slice_get ys k
at_back [] ys i k is = ap (slice_get ys) (let same : i ≡ k = omega arith in same)
at_back (x ∷ xs) ys zero k is = absurd (omega arith)
at_back (x ∷ xs) ys (suc i) k is = at_back xs ys i k (omega arith)

front_at : {X : Type 0} (xs ys : List X) (i : ℕ) (x : X) → slice_get xs i ≡ Some x → slice_get (xs ++ ys) i ≡ Some x
front_at xs ys i x at = in_front xs ys i (slice_get_within xs i x at) ∙ at

pub front_different : {X : Type 0} (xs ys : List X) → AreDifferent (xs ++ ys) → AreDifferent xs
front_different xs ys different i j x at_i at_j = different i j x (front_at xs ys i x at_i) (front_at xs ys j x at_j)

take_drop : {X : Type 0} (k : ℕ) (xs : List X) → take k xs ++ drop k xs ≡ xs
take_drop zero xs = refl
take_drop (suc k) [] = refl
take_drop (suc k) (x ∷ xs) = ap (λ ys. x ∷ ys) (take_drop k xs)

pub length_take : {X : Type 0} (k : ℕ) (xs : List X) → length (take k xs) ≤ k
length_take zero xs = omega arith
length_take (suc k) [] = omega arith
length_take (suc k) (x ∷ xs) = let h = length_take k xs in omega arith

-- where all are different, the next isn't among those before it
pub next_missing : {X : Type 0} (old xs : List X) (k : ℕ) (x : X) → AreDifferent (old ++ xs) → slice_get xs k ≡ Some x → IsMissing (old ++ take k xs) x
next_missing old xs k x different at i there =
    let front : slice_get ((old ++ take k xs) ++ drop k xs) i ≡ Some x = front_at (old ++ take k xs) (drop k xs) i x there in
    let whole : (old ++ take k xs) ++ drop k xs ≡ old ++ xs = append_assoc old (take k xs) (drop k xs) ∙ ap (λ ys. old ++ ys) (take_drop k xs) in
    let same : i ≡ length old + k = different i (length old + k) x (subst (λ ys. slice_get ys i ≡ Some x) whole front) (at_back old xs (length old + k) k refl ∙ at) in
    let below : i < length (old ++ take k xs) = slice_get_within (old ++ take k xs) i x there in
    omega (arith, same, below, length-append old (take k xs), length_take k xs)

back_got : {X : Type 0} (xs ys : List X) (i : ℕ) (x : X) → length xs ≤ i → slice_get (xs ++ ys) i ≡ Some x → slice_get ys (i - length xs) ≡ Some x
back_got xs ys i x past at = sym (at_back xs ys i (i - length xs) (omega (arith, past))) ∙ at

front_got : {X : Type 0} (xs ys : List X) (i : ℕ) (x : X) → i < length xs → slice_get (xs ++ ys) i ≡ Some x → slice_get xs i ≡ Some x
front_got xs ys i x below at = sym (in_front xs ys i below) ∙ at

-- lists of different things that have none in common
pub both_different : {X : Type 0} (xs ys : List X) → AreDifferent xs → AreDifferent ys → ((x : X) → Contains xs x → Contains ys x → ⊥) → AreDifferent (xs ++ ys)
both_different {X} xs ys first second apart i j x at_i at_j = elim (cases_lt i (length xs)) [
  | inl i_first ↦ elim (cases_lt j (length xs)) [
    | inl j_first ↦ first i j x (front_got xs ys i x i_first at_i) (front_got xs ys j x j_first at_j)
    | inr j_second ↦ absurd (apart x (there_at xs i x (front_got xs ys i x i_first at_i)) (there_at ys (j - length xs) x (back_got xs ys j x j_second at_j)))
  ]
  | inr i_second ↦ elim (cases_lt j (length xs)) [
    | inl j_first ↦ absurd (apart x (there_at xs j x (front_got xs ys j x j_first at_j)) (there_at ys (i - length xs) x (back_got xs ys i x i_second at_i)))
    | inr j_second ↦
        let same : i - length xs ≡ j - length xs = second (i - length xs) (j - length xs) x (back_got xs ys i x i_second at_i) (back_got xs ys j x j_second at_j) in
        omega (arith, same, i_second, j_second)
  ]
]

pub all_of : {X : Type 0} (P : X → Type 0) (xs : List X) → ((x : X) → Contains xs x → P x) → All P xs
all_of P xs each k d below = each (get_or xs k d) (All-contains_itself xs k d below)

pub not_full : (b : Bool) (m n : ℕ) → b ≡ false → (b ≡ true) ↔ (m < n) → n ≤ m
not_full b m n isnt iff = elim (cases_lt m n) [
  | inl less ↦ absurd (both_ways b isnt (iff.1 less))
  | inr few ↦ few
]

-- ---- the roots in the order of the text

pub roots_more : (order : List (ℕ × ℕ × ℕ × ℕ)) (n file line col : ℕ) → HaveRoots order n → HaveRoots (order ++ (file, line, col, n) ∷ []) (n + 1)
roots_more order n file line col have r below = elim (cases_lt r n) [
  | inl less ↦ (let was = have r less in (was.0, was.1, was.2, Contains-append_left order ((file, line, col, n) ∷ []) (was.0, was.1, was.2, r) was.3))
  | inr more ↦
      let same : n ≡ r = omega (arith, below, more) in
      (file, line, col, subst (λ m. Contains (order ++ (file, line, col, n) ∷ []) (file, line, col, m)) same (Contains-push order (file, line, col, n)))
]

pub roots_sorted : (xs ys : List (ℕ × ℕ × ℕ × ℕ)) (n : ℕ) → IsPermutation xs ys → HaveRoots xs n → HaveRoots ys n
roots_sorted xs ys n same have r below = let was = have r below in (was.0, was.1, was.2, Contains-permutation xs ys (was.0, was.1, was.2, r) same was.3)

module _ (table : Table) (roots : List Root) where
  pub no_roots : (place : Place) → IsInRoots table roots [] place → ⊥
  no_roots place here = let below = here.0.3.1 in omega (arith, below)

  -- where all roots were gone through, the cells are those of all
  pub all_gone : (order : List (ℕ × ℕ × ℕ × ℕ)) (cells : Cells) → HaveRoots order (length roots) → AreCells table (IsInRoots table roots order) cells → AreCells table (IsInObject table roots) cells
  all_gone order cells have are = record {
    only_values = λ place there. (let is = are.only_values place there in (is.0.1, is.1));
    only_locks = λ place there. (let is = are.only_locks place there in (is.0.1, is.1));
    each_value = λ few place is passes. are.each_value few place (have place.root (slice_get_within roots place.root is.root is.of), is) passes;
    each_lock = λ few place is passes. are.each_lock few place (have place.root (slice_get_within roots place.root is.root is.of), is) passes;
  }

  -- ---- places that rise are different

  no_spot_before : (ra rb : Root) → ra ≡ rb → IsSpotBefore ra.spot rb.spot → ⊥
  no_spot_before ra rb same (inl file) = let e = ap (λ (r : Root). r.spot.file) same in omega (arith, file, e)
  no_spot_before ra rb same (inr (file, inl line)) = let e = ap (λ (r : Root). r.spot.line) same in omega (arith, line, e)
  no_spot_before ra rb same (inr (file, inr (line, col))) = let e = ap (λ (r : Root). r.spot.col) same in omega (arith, col, e)

  no_before_of : (ra rb : Root) (a : Place) → ra ≡ rb → IsBeforeOf ra rb a a → ⊥
  no_before_of ra rb a same (inl spot) = no_spot_before ra rb same spot
  no_before_of ra rb a same (inr (spot, inl root)) = omega (arith, root)
  no_before_of ra rb a same (inr (spot, inr (root, node))) = omega (arith, node)

  not_before_itself : (a : Place) → IsBefore roots a a → ⊥
  not_before_itself a is = no_before_of is.ra is.rb a (same_Some is.ra is.rb (sym is.of_a ∙ is.of_b)) is.before

  pub rising_different : (places : List Place) → Ascend roots places 0 (length places) → AreDifferent places
  rising_different places rise i j x at_i at_j = elim (cases_lt i j) [
    | inl less ↦ absurd (not_before_itself x (in_order roots places 0 (length places) rise i j x x (omega arith) less (slice_get_within places j x at_j) at_i at_j))
    | inr more ↦ elim (cases_lt j i) [
      | inl greater ↦ absurd (not_before_itself x (in_order roots places 0 (length places) rise j i x x (omega arith) greater (slice_get_within places i x at_i) at_j at_i))
      | inr less ↦ omega (arith, more, less)
    ]
  ]

  pub cells_different : (cells : Cells) → AreCells table (IsInObject table roots) cells → AreInOrder roots cells → AreDifferent (cells.values.items ++ cells.locks.items)
  cells_different cells are order = both_different cells.values.items cells.locks.items (rising_different cells.values.items order.values) (rising_different cells.locks.items order.locks)
      (λ place value lock. both_ways (is_mutex (form_of table place.node)) (value_alone table (form_of table place.node) (are.only_values place value).1).2 (are.only_locks place lock).1)

  pub cell_nodes : (cells : Cells) → AreCells table (IsInObject table roots) cells → All (IsPlaceIn table) (cells.values.items ++ cells.locks.items)
  cell_nodes cells are = all_of (IsPlaceIn table) (cells.values.items ++ cells.locks.items) (λ place there. elim (Contains-append_cases cells.values.items cells.locks.items place there) [
    | inl value ↦ (let is = (are.only_values place value).0 in within_node table is.root.ty is.within)
    | inr lock ↦ (let is = (are.only_locks place lock).0 in within_node table is.root.ty is.within)
  ])

-- ---- of a program with these types and roots

module _ (program : Program) where
  kinds : (kind : RootKind) → holds_cells kind ≡ has_cells kind
  kinds Global = refl
  kinds Static = refl
  kinds Local = refl
  kinds (Heap one) = refl
  kinds Text = refl
  kinds Argv = refl
  kinds Args = refl
  kinds Function = refl

  to_part : (place : Place) → IsInObject program.types program.roots place → IsPartOfObject program place
  to_part place is = record { root = is.root; of = is.of; cells = kinds is.root.kind ∙ is.cells; within = is.within }

  from_part : (place : Place) → IsPartOfObject program place → IsInObject program.types program.roots place
  from_part place is = record { root = is.root; of = is.of; cells = sym (kinds is.root.kind) ∙ is.cells; within = is.within }

  module _ (cells : Cells) (are : AreCells program.types (IsInObject program.types program.roots) cells) where
    abbrev values : List Place
    values = cells.values.items

    abbrev locks : List Place
    locks = cells.locks.items

    each_is : All (λ place. IsPlaceOfValue program place ⊎ IsPlaceOfMutex program place) (values ++ locks)
    each_is = all_of (λ place. IsPlaceOfValue program place ⊎ IsPlaceOfMutex program place) (values ++ locks) (λ place there. elim (Contains-append_cases values locks place there) [
      | inl value ↦ (let is = are.only_values place value in inl (to_part place is.0, is.1))
      | inr lock ↦ (let is = are.only_locks place lock in inr (to_part place is.0, is.1))
    ])

    module _ (whole : Whole) (numbers : Numbers) (order : AreInOrder program.roots cells) (few : count_of_cells cells ≤ 65536) (places_are : program.places ≡ values ++ locks) (locations_are : program.locations ≡ length values) where
      there : (n : ℕ) (a : Place) → place_at program n ≡ Some a → slice_get (values ++ locks) n ≡ Some a
      there n a at = subst (λ (all : List Place). slice_get all n ≡ Some a) places_are at

      placed : (n : ℕ) (a : Place) → slice_get (values ++ locks) n ≡ Some a → place_at program n ≡ Some a
      placed n a at = subst (λ (all : List Place). slice_get all n ≡ Some a) (sym places_are) at

      value_at : (n : ℕ) (a : Place) → IsLocation program n → place_at program n ≡ Some a → slice_get values n ≡ Some a
      value_at n a is at = front_got values locks n a (subst (λ k. n < k) locations_are is) (there n a at)

      lock_at : (n : ℕ) (a : Place) → IsLockPlace program n → place_at program n ≡ Some a → slice_get locks (n - length values) ≡ Some a
      lock_at n a is at = back_got values locks n a (subst (λ k. k ≤ n) locations_are is.0) (there n a at)

      is_value_place : (place : Place) → ((n : ℕ) × IsLocation program n × (place_at program n ≡ Some place)) ↔ IsPlaceOfValue program place
      is_value_place place = (on, back)
        where
          on : (n : ℕ) × IsLocation program n × (place_at program n ≡ Some place) → IsPlaceOfValue program place
          on found = let is = are.only_values place (there_at values found.0 place (value_at found.0 place found.1 found.2)) in (to_part place is.0, is.1)

          back : IsPlaceOfValue program place → (n : ℕ) × IsLocation program n × (place_at program n ≡ Some place)
          back is =
              let has = are.each_value few place (from_part place is.0) is.1 in
              (has.0, subst (λ k. has.0 < k) (sym locations_are) has.1, placed has.0 place (front_at values locks has.0 place (at_there values place has)))

      is_lock_place : (place : Place) → ((n : ℕ) × IsLockPlace program n × (place_at program n ≡ Some place)) ↔ IsPlaceOfMutex program place
      is_lock_place place = (on, back)
        where
          on : (n : ℕ) × IsLockPlace program n × (place_at program n ≡ Some place) → IsPlaceOfMutex program place
          on found = let is = are.only_locks place (there_at locks (found.0 - length values) place (lock_at found.0 place found.1 found.2)) in (to_part place is.0, is.1)

          back : IsPlaceOfMutex program place → (n : ℕ) × IsLockPlace program n × (place_at program n ≡ Some place)
          back is =
              let has = are.each_lock few place (from_part place is.0) is.1 in
              let n : ℕ = length values + has.0 in
              let at : slice_get (values ++ locks) n ≡ Some place = at_back values locks n has.0 refl ∙ at_there locks place has in
              (n, (subst (λ k. k ≤ n) (sym locations_are) (omega arith), subst (λ (all : List Place). n < length all) (sym places_are) (slice_get_within (values ++ locks) n place at)), placed n place at)

      place_before : (a b : Place) → IsBefore program.roots a b → IsPlaceBefore whole numbers program a b
      place_before a b is = record { ra = is.ra; rb = is.rb; of_a = is.of_a; of_b = is.of_b; before = is.before }

      pub are_places : ArePlaces whole numbers program
      are_places = record {
        values = is_value_place;
        mutexes = is_lock_place;
        locations = λ n m a b is_n is_m less at_a at_b. place_before a b
            (let at = value_at m b is_m at_b in in_order program.roots values 0 (length values) order.values n m a b (omega arith) less (slice_get_within values m b at) (value_at n a is_n at_a) at);
        locks = λ n m a b is_n is_m less at_a at_b. place_before a b
            (let at = lock_at m b is_m at_b in
            let past : length values ≤ n = subst (λ k. k ≤ n) locations_are is_n.0 in
            in_order program.roots locks 0 (length locks) order.locks (n - length values) (m - length values) a b (omega arith) (omega (arith, less, past)) (slice_get_within locks (m - length values) b at) (lock_at n a is_n at_a) at);
      }

module _ (table : Table) (roots : List Root) (cells : Cells) (are : AreCells table (IsInObject table roots) cells) (order : AreInOrder roots cells) where
  cells_of_program : (program : Program) → program.types ≡ table → program.roots ≡ roots → AreCells program.types (IsInObject program.types program.roots) cells
  cells_of_program program types_are roots_are =
      subst (λ (t : Table). AreCells t (IsInObject t program.roots) cells) (sym types_are) (subst (λ (rs : List Root). AreCells table (IsInObject table rs) cells) (sym roots_are) are)

  pub places_of_cells : (places : List Place) (locations : ℕ) → count_of_cells cells ≤ 65536 → places ≡ cells.values.items ++ cells.locks.items → locations ≡ length cells.values.items → ArePlacesOf table roots places locations
  places_of_cells places locations few places_are locations_are whole numbers program same_types same_roots same_places same_locations =
      are_places program cells (cells_of_program program same_types same_roots) whole numbers (subst (λ (rs : List Root). AreInOrder rs cells) (sym same_roots) order) few (same_places ∙ places_are) (same_locations ∙ locations_are)

  pub more_cells : 65536 < count_of_cells cells → HasMorePlacesOf table roots 65536
  more_cells many = record {
    places = cells.values.items ++ cells.locks.items;
    each = λ program same_types same_roots. each_is program cells (cells_of_program program same_types same_roots);
    different = cells_different table roots cells are order;
    many = omega (arith, many, length-append cells.values.items cells.locks.items);
  }
