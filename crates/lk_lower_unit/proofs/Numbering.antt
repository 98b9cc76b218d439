-- The numbers of the steps of all sources.
use Rattle.std.proofs.Common.{arith, ap, sym, subst, ◌∙◌, ◌≡◌, ◌<◌, ◌≤◌, ◌+◌, ◌⊎◌, inl, inr, ℕ, zero, suc, List, [], ◌∷◌, ◌++◌, length, get_or, slice_get, Option, None, Some, Result, Ok, Err, IfOk, refl}
use Rattle.std.specs.Option.{is_some, option_and_then}
use Rattle.std.specs.Prelude.{◌^◌, if◌then◌else◌, Bool, true, false}
use Rattle.std.proofs.lemmas.Bool.{cases_lt}
use Rattle.std.proofs.lemmas.List.Elements.{All-from_get_or}
use Rattle.std.proofs.lemmas.Option.{none-some, same_Some}
use Rattle.lk_facts.specs.declared.program.Program.{Program}
use Rattle.lk_lower_expr.specs.Lowering as lowering
use Rattle.lk_lower_expr.specs.Lowering.{ComesBefore, Counts, Numbers, StandsIn, names_in, place_in_body, source, node, step}
use Rattle.lk_lower_expr.specs.Names.{Node}
use Rattle.lk_lower_expr.specs.declared.step.Step.{Step}
use Rattle.lk_lower_unit.proofs.Sums.{counted}
use Rattle.lk_lower_parts.specs.Givens.{at_node}
use Rattle.lk_lower_unit.specs.Counting.{AreBases, Has, number_by, total}
use Rattle.lk_lower_unit.specs.PointNumbers.{ArePointNumbers, CountSources, CountsUnit, HasMorePoints, HasStep, SayOf, ordinal_of, slot_of}
use Rattle.lk_lower_unit.specs.Prefixes.{rows_from}
use Rattle.lk_lower_unit.specs.Stands.{IsStepOf, of_body, of_static}
use Rattle.lk_lower_unit.specs.declared.bases.Bases.{Bases}
use Rattle.lk_typed.specs.declared.unit.Local.{Local}
use Rattle.lk_typed.specs.declared.whole.Linked.{Linked}
use Rattle.lk_typed.specs.declared.whole.Whole.{Whole}

-- ---- the sources by their numbers

pub counts_at : (sources : List Linked) (counts : List (List ℕ)) (s : ℕ) (linked : Linked) → CountSources sources counts → slice_get sources s ≡ Some linked → CountsUnit linked.unit (get_or counts s [])
counts_at [] [] s linked all at = absurd (none-some linked at)
counts_at [] (row ∷ counts) s linked all at = absurd all
counts_at (one ∷ sources) [] s linked all at = absurd all
counts_at (one ∷ sources) (row ∷ counts) zero linked all at = subst (λ (l : Linked). CountsUnit l.unit row) (same_Some one linked at) all.0
counts_at (one ∷ sources) (row ∷ counts) (suc s) linked all at = counts_at sources counts s linked all.1 at

abbrev Source : List Linked → ℕ → Type 0
Source sources s = (linked : Linked) × (slice_get sources s ≡ Some linked)

pub source_at : (sources : List Linked) (counts : List (List ℕ)) (s o k : ℕ) → CountSources sources counts → Has counts s o k → Source sources s
source_at [] [] s o k all has = absurd (omega (arith, has))
source_at [] (row ∷ counts) s o k all has = absurd all
source_at (one ∷ sources) [] s o k all has = absurd all
source_at (one ∷ sources) (row ∷ counts) zero o k all has = (one, refl)
source_at (one ∷ sources) (row ∷ counts) (suc s) o k all has = source_at sources counts s o k all.1 has

pub more_sources : (sources : List Linked) (counts : List (List ℕ)) (linked : Linked) (row : List ℕ) → CountSources sources counts → CountsUnit linked.unit row → CountSources (sources ++ (linked ∷ [])) (counts ++ (row ∷ []))
more_sources [] [] linked row all is = (is, tt)
more_sources [] (other ∷ counts) linked row all is = absurd all
more_sources (one ∷ sources) [] linked row all is = absurd all
more_sources (one ∷ sources) (other ∷ counts) linked row all is = (all.0, more_sources sources counts linked row all.1 is)

-- ---- what the numbers of a program stand for

module _ (whole : Whole) (numbers : Numbers) where
  abbrev node_there : Option Local → Node
  node_there None = record { ordinal = 0; spot = record { file = 0; line = 0; col = 0 }; type = 0 }
  node_there (Some local) = record { ordinal = local.ordinal; spot = local.spot; type = local.ty }

  declared_there : (found : Option Local) → (node_there found).ordinal ≡ ordinal_of found
  declared_there None = refl
  declared_there (Some local) = refl

  slot_there : (s : ℕ) (is_slot : Bool) (o : ℕ) → is_some (if is_slot then Some (numbers.slot s o) else None) ≡ is_slot
  slot_there s true o = refl
  slot_there s false o = refl

  slots_there : (s : ℕ) (found : Option Local) → is_some (option_and_then (λ (local : Local). if local.is_slot then Some (numbers.slot s local.ordinal) else None) found) ≡ slot_of found
  slots_there s None = refl
  slots_there s (Some local) = slot_there s local.is_slot local.ordinal

  program_says : (s : ℕ) (linked : Linked) → SayOf linked.unit (names_in whole numbers s linked)
  program_says s linked = record { form = λ locals t. refl; declared = λ locals l. declared_there (slice_get locals l); slot = λ locals l. slots_there s (slice_get locals l) }

  module _ (program : Program) (counts : List (List ℕ)) (all : CountSources whole.sources counts) where
    pub there_has : (s o k : ℕ) → HasStep whole numbers program s o k → Has counts s o k
    there_has s o k found = has found.0 found.1 found.2
      where
        has : (is : Step) (f : ℕ) → StandsIn whole numbers program s o k is f → Has counts s o k
        has is f (lowering.of_body linked b body at at_b is_step) =
            (counts_at whole.sources counts s linked all at).only (names_in whole numbers s linked) (place_in_body whole numbers s linked) (numbers.function s) (length program.functions) o k is (numbers.function s b) (program_says s linked)
            (of_body b body at_b is_step)
        has is f (lowering.of_static linked object entity at there at_e is_step) =
            (counts_at whole.sources counts s linked all at).only (names_in whole numbers s linked) (place_in_body whole numbers s linked) (numbers.function s) (length program.functions) o k is (length program.functions)
            (program_says s linked) (of_static object entity there at_e is_step)

    pub has_there : (s o k : ℕ) → Has counts s o k → HasStep whole numbers program s o k
    has_there s o k has =
        let linked = source_at whole.sources counts s o k all has in
        let found = (counts_at whole.sources counts s linked.0 all linked.1).each (names_in whole numbers s linked.0) (place_in_body whole numbers s linked.0) (numbers.function s) (length program.functions) o k (program_says s linked.0) has in (
          found.0,
          found.1,
          stands linked.0 linked.1 found.0 found.1 found.2,
        )
      where
        stands : (linked : Linked) → slice_get whole.sources s ≡ Some linked → (is : Step) (f : ℕ) →
            IsStepOf (names_in whole numbers s linked) (place_in_body whole numbers s linked) linked.unit (numbers.function s) (length program.functions) o k is f → StandsIn whole numbers program s o k is f
        stands linked at is f (of_body b body at_b is_step) = lowering.of_body linked b body at at_b is_step
        stands linked at is f (of_static object entity there at_e is_step) = lowering.of_static linked object entity at there at_e is_step

-- ---- numberings

-- of the same things with the same numbers
pub same_counts : (H J : (s o k : ℕ) → Type 0) (first count : ℕ) (f g : ℕ → ℕ → ℕ → ℕ) → ((s o k : ℕ) → H s o k → J s o k) → ((s o k : ℕ) → J s o k → H s o k) → ((s o k : ℕ) → g s o k ≡ f s o k) →
    Counts H first count f → Counts J first count g
same_counts H J first count f g there back same is = record {
  least = λ s o k has. subst (λ n. first ≤ n) (sym (same s o k)) (is.least s o k (back s o k has));
  below = λ s o k has. subst (λ n. n < first + count) (sym (same s o k)) (is.below s o k (back s o k has));
  rising = λ s o k t p l has too before. subst (λ n. n < g t p l) (sym (same s o k)) (subst (λ n. f s o k < n) (sym (same t p l)) (is.rising s o k t p l (back s o k has) (back t p l too) before));
  onto = λ n within. let found = is.onto n within in (found.0, found.1, found.2, there found.0 found.1 found.2 found.3, same found.0 found.1 found.2 ∙ found.4);
}

abbrev Compared : (s o k t p l : ℕ) → Type 0
Compared s o k t p l = ComesBefore s o k t p l ⊎ (ComesBefore t p l s o k ⊎ ((s ≡ t) × (o ≡ p) × (k ≡ l)))

equal_from : (m n : ℕ) → m ≤ n → n ≤ m → m ≡ n
equal_from m n below above = omega (arith, below, above)

compare_steps : (s o k l : ℕ) → Compared s o k s o l
compare_steps s o k l = elim (cases_lt k l) [
  | inl before ↦ inl (step before)
  | inr behind ↦ elim (cases_lt l k) [ inl after ↦ inr (inl (step after)) | inr not ↦ inr (inr (refl, refl, equal_from k l not behind)) ]
]

compare_nodes : (s o k p l : ℕ) → Compared s o k s p l
compare_nodes s o k p l = elim (cases_lt o p) [
  | inl before ↦ inl (node before)
  | inr behind ↦ elim (cases_lt p o) [
    | inl after ↦ inr (inl (node after))
    | inr not ↦ subst (λ q. Compared s o k s q l) (equal_from o p not behind) (compare_steps s o k l)
  ]
]

compare : (s o k t p l : ℕ) → Compared s o k t p l
compare s o k t p l = elim (cases_lt s t) [
  | inl before ↦ inl (source before)
  | inr behind ↦ elim (cases_lt t s) [
    | inl after ↦ inr (inl (source after))
    | inr not ↦ subst (λ q. Compared s o k q p l) (equal_from s t not behind) (compare_nodes s o k p l)
  ]
]

module _ (H : (s o k : ℕ) → Type 0) (a b : ℕ) (f g : ℕ → ℕ → ℕ → ℕ) (left : Counts H 0 a f) (right : Counts H 0 b g) where
  abbrev number_at : (n : ℕ) → n < a → ℕ
  number_at n within = let x = left.onto n within in g x.0 x.1 x.2

  later : (n : ℕ) (before : n < a) (next : suc n < a) → number_at n before < number_at (suc n) next
  later n before next =
      let x = left.onto n before in
      let y = left.onto (suc n) next in elim (compare x.0 x.1 x.2 y.0 y.1 y.2) [
        | inl is ↦ right.rising x.0 x.1 x.2 y.0 y.1 y.2 x.3 y.3 is
        | inr other ↦ elim other [
          | inl is ↦ absurd (falls (f x.0 x.1 x.2) (f y.0 y.1 y.2) x.4 y.4 (left.rising y.0 y.1 y.2 x.0 x.1 x.2 y.3 x.3 is))
          | inr same ↦ absurd (stays (f x.0 x.1 x.2) (f y.0 y.1 y.2) x.4 y.4 (ap (λ s. f s x.1 x.2) same.0 ∙ ap (λ o. f y.0 o x.2) same.1 ∙ ap (λ k. f y.0 y.1 k) same.2))
        ]
      ]
    where
      falls : (v w : ℕ) → v ≡ 0 + n → w ≡ 0 + suc n → w < v → ⊥
      falls v w is too less = omega (arith, is, too, less)

      stays : (v w : ℕ) → v ≡ 0 + n → w ≡ 0 + suc n → v ≡ w → ⊥
      stays v w is too same = omega (arith, is, too, same)

  rises : (n : ℕ) (within : n < a) → n ≤ number_at n within
  rises zero within = omega arith
  rises (suc n) within = further (rises n (lower n within)) (later n (lower n within) within)
    where
      lower : (n : ℕ) → suc n < a → n < a
      lower n within = omega (arith, within)

      further : {v w : ℕ} → n ≤ v → v < w → suc n ≤ w
      further most less = omega (arith, most, less)

  -- things have no more numbers in one numbering than in another
  pub no_more : (c : ℕ) → c ≡ a → c ≤ b
  no_more zero is = omega arith
  no_more (suc m) is = last (rises m within) (right.below found.0 found.1 found.2 found.3)
    where
      within : m < a
      within = omega (arith, is)

      found : (s : ℕ) × (o : ℕ) × (k : ℕ) × H s o k × (f s o k ≡ 0 + m)
      found = left.onto m within

      last : {v : ℕ} → m ≤ v → v < 0 + b → suc m ≤ b
      last most less = omega (arith, most, less)

-- ---- all points

pub are_point_numbers : (whole : Whole) (counts : List (List ℕ)) (found : Bases) → CountSources whole.sources counts → AreBases counts 0 65536 found → ArePointNumbers whole found
are_point_numbers whole counts found all is = record {
  order = λ numbers program same.
      same_counts (Has counts) (HasStep whole numbers program) 0 found.count (number_by found.bases) numbers.point (has_there whole numbers program counts all) (there_has whole numbers program counts all) same is.order;
  few = let e = is.all in let f = is.few in omega (arith, e, f);
  small = λ s. All-from_get_or (λ base. base < 2 ^ 31) (get_or found.bases s []) 0 (λ o within. below (at_node found.bases s o) (is.bases s o));
}
  where
    below : (base : ℕ) → base ≤ 65536 → base < 2 ^ 31
    below base most = omega (arith, most)

pub more_points : (whole : Whole) (counts : List (List ℕ)) → CountSources whole.sources counts → 65536 < 0 + total counts → HasMorePoints whole 65536
more_points whole counts all more numbers program count is =
    let fewer = no_more (Has counts) (total counts) count (number_by (rows_from 0 counts)) numbers.point (counted 0 counts)
    (same_counts (HasStep whole numbers program) (Has counts) 0 count numbers.point numbers.point (there_has whole numbers program counts all) (has_there whole numbers program counts all) (λ s o k. refl) is) (total counts) refl
    in omega (arith, more, fewer)

pub numbers_if : {E : Type 0} (whole : Whole) (counts : List (List ℕ)) (result : Result Bases E) → CountSources whole.sources counts → IfOk result (AreBases counts 0 65536) → IfOk result (ArePointNumbers whole)
numbers_if whole counts (Ok found) all is = are_point_numbers whole counts found all is
numbers_if whole counts (Err e) all is = tt
