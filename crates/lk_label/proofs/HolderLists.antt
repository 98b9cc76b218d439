-- Going through the holders in their order: one more of them, and the same with another bound.
use Rattle.std.proofs.Common.{◌≡◌, ℕ, zero, suc, ◌+◌, ◌<◌, ◌⊎◌, List, [], ◌∷◌, ◌++◌, length, get_or, Contains, Option, Some, None, true, false, inl, inr, refl, sym, ap, ◌∙◌, subst, arith}
use Rattle.std.specs.Prelude.{slice_get, is_some}
use Rattle.std.specs.Option.{option_map, option_and_then}
use Rattle.std.proofs.lemmas.Bool.{cases_lt, false≢true}
use Rattle.std.proofs.lemmas.List.Elements.{Contains-append_cases, Contains-append_left, Contains-append_right}
use Rattle.std.proofs.lemmas.List.Quantifiers.{all_pairs_push}
use Rattle.std.proofs.lemmas.Option.{slice_get_within, none-some, same_Some}
use Rattle.lk_facts.specs.LabelRules.{AreHolders, IsHolder, StandsBefore}
use Rattle.lk_facts.specs.Program.{slots_of, value_type_at}
use Rattle.lk_facts.specs.Typed.{IsHolderType}
use Rattle.lk_facts.specs.declared.program.Program.{Program}
use Rattle.lk_facts.specs.declared.root.Holder.{Holder}
use Rattle.lk_facts.specs.declared.root.Holder.TheVariants.{Root, Slot, Result, Point}
use Rattle.lk_label.specs.Holding.{AreBelow}
use Rattle.lk_label.proofs.Walks.{Contains-cons_cases, Contains-none, Contains-first}

pub at : {X : Type 0} (xs : List X) (k : ℕ) → k < length xs → (x : X) × (slice_get xs k ≡ Some x)
at [] k within = absurd (omega (arith, within))
at (x ∷ xs) zero within = (x, refl)
at (x ∷ xs) (suc k) within = at xs k (omega (arith, within))

-- what is read from one of a list is read from one that is there
read_within : {X Y : Type 0} (read : X → Y) (xs : List X) (k : ℕ) (y : Y) → option_map read (slice_get xs k) ≡ Some y → k < length xs
read_within read [] k y is = absurd (none-some y is)
read_within read (x ∷ xs) zero y is = omega arith
read_within read (x ∷ xs) (suc k) y is = let on = read_within read xs k y is in omega (arith, on)

found_within : {X Y : Type 0} (read : X → Option Y) (xs : List X) (k : ℕ) (y : Y) → option_and_then read (slice_get xs k) ≡ Some y → k < length xs
found_within read [] k y is = absurd (none-some y is)
found_within read (x ∷ xs) zero y is = omega arith
found_within read (x ∷ xs) (suc k) y is = let on = found_within read xs k y is in omega (arith, on)

module _ (program : Program) where
  -- the same holders stand before another bound
  pub moved : {holders : List Holder} (bound next : Holder) → ((h : Holder) → IsHolder program h → StandsBefore h next → StandsBefore h bound) → ((h : Holder) → StandsBefore h bound → StandsBefore h next) → AreBelow program bound holders → AreBelow program next holders
  moved bound next back on below = record {
    only = λ h there. let is = below.only h there in (is.0, on h is.1);
    all = λ h holder before. below.all h holder (back h holder before);
    ordered = below.ordered;
  }

  -- the bound itself comes behind
  pub pushed : {holders : List Holder} (bound next : Holder) → IsHolder program bound → ((h : Holder) → IsHolder program h → StandsBefore h next → StandsBefore h bound ⊎ (bound ≡ h)) →
      ((h : Holder) → StandsBefore h bound → StandsBefore h next) → StandsBefore bound next → AreBelow program bound holders → AreBelow program next (holders ++ bound ∷ [])
  pushed {holders} bound next is back on itself below = record {
    only = λ h there. elim (Contains-append_cases holders (bound ∷ []) h there) [
      | inl before ↦ let was = below.only h before in (was.0, on h was.1)
      | inr last ↦ elim (Contains-cons_cases bound h [] last) [
        | inl same ↦ subst (λ x. IsHolder program x × StandsBefore x next) same (is, itself)
        | inr none ↦ absurd (Contains-none h none)
      ]
    ];
    all = λ h holder before. elim (back h holder before) [
      | inl was ↦ Contains-append_left holders (bound ∷ []) h (below.all h holder was)
      | inr same ↦ Contains-append_right holders (bound ∷ []) h (subst (Contains (bound ∷ [])) same (Contains-first bound []))
    ];
    ordered = all_pairs_push StandsBefore holders bound below.ordered (λ k d within. (below.only (get_or holders k d) (k, within, get_again holders k d within)).1);
  }
    where
      get_again : (xs : List Holder) (k : ℕ) (d : Holder) → k < length xs → get_or xs k (get_or xs k d) ≡ get_or xs k d
      get_again [] k d within = absurd (omega (arith, within))
      get_again (x ∷ xs) zero d within = refl
      get_again (x ∷ xs) (suc k) d within = get_again xs k d (omega (arith, within))

  pub no_holders : AreBelow program (Root 0) []
  no_holders = record {
    only = λ h there. absurd (Contains-none h there);
    all = λ h holder before. absurd (none h before);
    ordered = λ i j d less within. absurd (omega (arith, within));
  }
    where
      none : (h : Holder) → StandsBefore h (Root 0) → ⊥
      none (Root r) before = omega (arith, before)
      none (Slot f s) before = before
      none (Result f) before = before
      none (Point p) before = before

  pub root_more : {holders : List Holder} (r : ℕ) → r < length program.roots → AreBelow program (Root r) holders → AreBelow program (Root (r + 1)) (holders ++ Root r ∷ [])
  root_more r within below = let root = at program.roots r within in pushed (Root r) (Root (r + 1)) (root.0.ty, (root.0, root.1, refl)) back on (omega arith) below
    where
      back : (h : Holder) → IsHolder program h → StandsBefore h (Root (r + 1)) → StandsBefore h (Root r) ⊎ (Root r ≡ h)
      back (Root q) holder before = elim (cases_lt q r) [
        | inl less ↦ inl less
        | inr more ↦ let same : r ≡ q = omega (arith, before, more) in inr (ap Root same)
      ]
      back (Slot f s) holder before = absurd before
      back (Result f) holder before = absurd before
      back (Point p) holder before = absurd before

      on : (h : Holder) → StandsBefore h (Root r) → StandsBefore h (Root (r + 1))
      on (Root q) before = omega (arith, before)
      on (Slot f s) before = before
      on (Result f) before = before
      on (Point p) before = before

  pub roots_all : {holders : List Holder} → AreBelow program (Root (length program.roots)) holders → AreBelow program (Slot 0 0) holders
  roots_all below = moved (Root (length program.roots)) (Slot 0 0) back on below
    where
      back : (h : Holder) → IsHolder program h → StandsBefore h (Slot 0 0) → StandsBefore h (Root (length program.roots))
      back (Root q) (t, (root, read, is)) before = slice_get_within program.roots q root read
      back (Slot f s) holder before = elim before [
        | inl less ↦ absurd (omega (arith, less))
        | inr same ↦ let less = same.1 in absurd (omega (arith, less))
      ]
      back (Result f) holder before = before
      back (Point p) holder before = before

      on : (h : Holder) → StandsBefore h (Root (length program.roots)) → StandsBefore h (Slot 0 0)
      on (Root q) before = tt
      on (Slot f s) before = absurd before
      on (Result f) before = before
      on (Point p) before = before

  pub slot_more : {holders : List Holder} (f s : ℕ) (slots : List ℕ) → slots_of program f ≡ Some slots → s < length slots → AreBelow program (Slot f s) holders → AreBelow program (Slot f (s + 1)) (holders ++ Slot f s ∷ [])
  slot_more f s slots are within below = let slot = at slots s within in pushed (Slot f s) (Slot f (s + 1)) (slot.0, (slots, are, slot.1)) back on (inr (refl, omega arith)) below
    where
      back : (h : Holder) → IsHolder program h → StandsBefore h (Slot f (s + 1)) → StandsBefore h (Slot f s) ⊎ (Slot f s ≡ h)
      back (Root q) holder before = inl tt
      back (Slot g l) holder before = elim before [
        | inl less ↦ inl (inl less)
        | inr (same, less) ↦ elim (cases_lt l s) [
          | inl lower ↦ inl (inr (same, lower))
          | inr more ↦ let equal : s ≡ l = omega (arith, less, more) in inr (ap (λ k. Slot k s) (sym same) ∙ ap (Slot g) equal)
        ]
      ]
      back (Result g) holder before = absurd before
      back (Point p) holder before = absurd before

      on : (h : Holder) → StandsBefore h (Slot f s) → StandsBefore h (Slot f (s + 1))
      on (Root q) before = tt
      on (Slot g l) before = elim before [
        | inl less ↦ inl less
        | inr (same, less) ↦ inr (same, omega (arith, less))
      ]
      on (Result g) before = before
      on (Point p) before = before

  pub slots_all : {holders : List Holder} (f : ℕ) (slots : List ℕ) → slots_of program f ≡ Some slots → AreBelow program (Slot f (length slots)) holders → AreBelow program (Slot (f + 1) 0) holders
  slots_all f slots are below = moved (Slot f (length slots)) (Slot (f + 1) 0) back on below
    where
      back : (h : Holder) → IsHolder program h → StandsBefore h (Slot (f + 1) 0) → StandsBefore h (Slot f (length slots))
      back (Root q) holder before = tt
      back (Slot g l) (t, (types, their, here)) before = elim before [
        | inl less ↦ elim (cases_lt g f) [
          | inl lower ↦ inl lower
          | inr more ↦ let same : g ≡ f = omega (arith, less, more) in
              let equal : types ≡ slots = same_Some types slots (sym their ∙ ap (slots_of program) same ∙ are) in
              inr (same, subst (λ xs. l < length xs) equal (slice_get_within types l t here))
        ]
        | inr (same, less) ↦ absurd (omega (arith, less))
      ]
      back (Result g) holder before = absurd before
      back (Point p) holder before = absurd before

      on : (h : Holder) → StandsBefore h (Slot f (length slots)) → StandsBefore h (Slot (f + 1) 0)
      on (Root q) before = tt
      on (Slot g l) before = elim before [
        | inl less ↦ inl (omega (arith, less))
        | inr (same, less) ↦ inl (omega (arith, same))
      ]
      on (Result g) before = before
      on (Point p) before = before

  pub functions_all : {holders : List Holder} → AreBelow program (Slot (length program.functions) 0) holders → AreBelow program (Result 0) holders
  functions_all below = moved (Slot (length program.functions) 0) (Result 0) back on below
    where
      back : (h : Holder) → IsHolder program h → StandsBefore h (Result 0) → StandsBefore h (Slot (length program.functions) 0)
      back (Root q) holder before = tt
      back (Slot g l) (t, (types, their, here)) before = inl (read_within (λ function. function.slots) program.functions g types their)
      back (Result g) holder before = absurd (omega (arith, before))
      back (Point p) holder before = absurd before

      on : (h : Holder) → StandsBefore h (Slot (length program.functions) 0) → StandsBefore h (Result 0)
      on (Root q) before = tt
      on (Slot g l) before = tt
      on (Result g) before = absurd before
      on (Point p) before = before

  pub result_more : {holders : List Holder} (f : ℕ) → f < length program.functions → AreBelow program (Result f) holders → AreBelow program (Result (f + 1)) (holders ++ Result f ∷ [])
  result_more f within below = let function = at program.functions f within in pushed (Result f) (Result (f + 1)) (function.0.result, ap (option_map (λ one. one.result)) function.1) back on (omega arith) below
    where
      back : (h : Holder) → IsHolder program h → StandsBefore h (Result (f + 1)) → StandsBefore h (Result f) ⊎ (Result f ≡ h)
      back (Root q) holder before = inl tt
      back (Slot g l) holder before = inl tt
      back (Result g) holder before = elim (cases_lt g f) [
        | inl less ↦ inl less
        | inr more ↦ let same : f ≡ g = omega (arith, before, more) in inr (ap Result same)
      ]
      back (Point p) holder before = absurd before

      on : (h : Holder) → StandsBefore h (Result f) → StandsBefore h (Result (f + 1))
      on (Root q) before = tt
      on (Slot g l) before = tt
      on (Result g) before = omega (arith, before)
      on (Point p) before = before

  pub results_all : {holders : List Holder} → AreBelow program (Result (length program.functions)) holders → AreBelow program (Point 0) holders
  results_all below = moved (Result (length program.functions)) (Point 0) back on below
    where
      back : (h : Holder) → IsHolder program h → StandsBefore h (Point 0) → StandsBefore h (Result (length program.functions))
      back (Root q) holder before = tt
      back (Slot g l) holder before = tt
      back (Result g) (t, is) before = read_within (λ function. function.result) program.functions g t is
      back (Point p) holder before = absurd (omega (arith, before))

      on : (h : Holder) → StandsBefore h (Result (length program.functions)) → StandsBefore h (Point 0)
      on (Root q) before = tt
      on (Slot g l) before = tt
      on (Result g) before = tt
      on (Point p) before = absurd before

  over_point : (p : ℕ) (h : Holder) → StandsBefore h (Point p) → StandsBefore h (Point (p + 1))
  over_point p (Root q) before = tt
  over_point p (Slot g l) before = tt
  over_point p (Result g) before = tt
  over_point p (Point q) before = omega (arith, before)

  before_point : (p : ℕ) (h : Holder) → StandsBefore h (Point (p + 1)) → StandsBefore h (Point p) ⊎ (Point p ≡ h)
  before_point p (Root q) before = inl tt
  before_point p (Slot g l) before = inl tt
  before_point p (Result g) before = inl tt
  before_point p (Point q) before = elim (cases_lt q p) [
    | inl less ↦ inl less
    | inr more ↦ let same : p ≡ q = omega (arith, before, more) in inr (ap Point same)
  ]

  -- a point of this value, or of none
  pub point_more : {holders : List Holder} (p t : ℕ) → value_type_at program p ≡ Some t → AreBelow program (Point p) holders → AreBelow program (Point (p + 1)) (holders ++ Point p ∷ [])
  point_more p t is below = pushed (Point p) (Point (p + 1)) (t, is) (λ h holder before. before_point p h before) (over_point p) (omega arith) below

  pub point_over : {holders : List Holder} (p : ℕ) → value_type_at program p ≡ None → AreBelow program (Point p) holders → AreBelow program (Point (p + 1)) holders
  point_over p none below = moved (Point p) (Point (p + 1)) back (over_point p) below
    where
      back : (h : Holder) → IsHolder program h → StandsBefore h (Point (p + 1)) → StandsBefore h (Point p)
      back h (t, is) before = elim (before_point p h before) [
        | inl less ↦ less
        | inr same ↦ absurd (none-some t (sym none ∙ subst (λ x. IsHolderType program x t) (sym same) is))
      ]

  pub points_all : {holders : List Holder} → AreBelow program (Point (length program.points)) holders → AreHolders program holders
  points_all below = record {
    each = λ h. (λ there. (below.only h there).0, λ holder. below.all h holder (last h holder));
    ordered = below.ordered;
  }
    where
      last : (h : Holder) → IsHolder program h → StandsBefore h (Point (length program.points))
      last (Root q) holder = tt
      last (Slot g l) holder = tt
      last (Result g) holder = tt
      last (Point p) (t, is) = found_within (λ point. point.value) program.points p t is

  pub point_some : {holders : List Holder} (p : ℕ) (value : Option ℕ) → value_type_at program p ≡ value → is_some value ≡ true → AreBelow program (Point p) holders → AreBelow program (Point (p + 1)) (holders ++ Point p ∷ [])
  point_some p None is some below = absurd (false≢true some)
  point_some p (Some t) is some below = point_more p t is below

  pub point_none : {holders : List Holder} (p : ℕ) (value : Option ℕ) → value_type_at program p ≡ value → is_some value ≡ false → AreBelow program (Point p) holders → AreBelow program (Point (p + 1)) holders
  point_none p None is none below = point_over p is below
  point_none p (Some t) is none below = absurd (false≢true (sym none))
