-- The number of a root is its own, so that a label of a function's root names the function: there is a list of all holders, and in it the
-- roots come first.
use Rattle.std.proofs.Common.{◌≡◌, ◌⊎◌, ℕ, ◌-◌, ◌<◌, ◌≤◌, ◌^◌, min, zero, suc, List, [], ◌∷◌, ◌++◌}
use Rattle.std.proofs.Common.{length, length-append, get_or, Option, Some, None, Contains, inl, inr, refl, sym, ap, subst, ◌∙◌, arith}
use Rattle.std.proofs.lemmas.Bool.{cases_lt}
use Rattle.std.proofs.lemmas.List.Elements.{Contains-append_cases, Contains-append_left, Contains-append_right}
use Rattle.std.proofs.lemmas.Option.{get_or_from_slice_get, none-some, slice_get_within}
use Rattle.std.specs.Option.{option_map, option_map_or, option_and_then}
use Rattle.std.specs.Prelude.{slice_get, AllPairs}
use Rattle.lk_facts.specs.Basis.{Basis}
use Rattle.lk_facts.specs.Doing.{NamesFunction}
use Rattle.lk_facts.specs.EdgeRules.{code}
use Rattle.lk_facts.specs.InRange.{IsInRange}
use Rattle.lk_facts.specs.LabelRules.{AreHolders, AreLabels, IsHolder, IsNumberOfHolder, StandsBefore}
use Rattle.lk_facts.specs.Labels.{LabelTable, AreLabelsInRange, root_of}
use Rattle.lk_facts.specs.Program.{slots_of, value_type_at}
use Rattle.lk_facts.specs.Typed.{IsHolderType}
use Rattle.lk_facts.specs.declared.edge.Edge.{Edge}
use Rattle.lk_facts.specs.declared.function.Function.{Function}
use Rattle.lk_facts.specs.declared.label_entry.LabelEntry.{LabelEntry}
use Rattle.lk_facts.specs.declared.label_entry.LabelName.{LabelName}
use Rattle.lk_facts.specs.declared.point.Point.{Point as PointOf}
use Rattle.lk_facts.specs.declared.program.Program.{Program}
use Rattle.lk_facts.specs.declared.root.Holder.{Holder}
use Rattle.lk_facts.specs.declared.root.Holder.TheVariants.{Root, Slot, Result, Point}
use Rattle.lk_right.specs.Laws.{IsAnalysed}

-- ---- lists in an order

module _ {X : Type 0} where
  found_at : (xs : List X) (i : ℕ) → i < length xs → (x : X) × (slice_get xs i ≡ Some x)
  found_at [] i within = absurd (omega (arith, within))
  found_at (x ∷ xs) zero within = (x, refl)
  found_at (x ∷ xs) (suc i) within = found_at xs i (omega (arith, within))

  found_left : (xs ys : List X) (i : ℕ) (x : X) → slice_get xs i ≡ Some x → slice_get (xs ++ ys) i ≡ Some x
  found_left [] ys i x there = absurd (none-some x there)
  found_left (y ∷ xs) ys zero x there = there
  found_left (y ∷ xs) ys (suc i) x there = found_left xs ys i x there

  found_last : (xs : List X) (x : X) → slice_get (xs ++ x ∷ []) (length xs) ≡ Some x
  found_last [] x = refl
  found_last (y ∷ xs) x = found_last xs x

  contained : (xs : List X) (i : ℕ) (x : X) → slice_get xs i ≡ Some x → Contains xs x
  contained xs i x there = (i, slice_get_within xs i x there, get_or_from_slice_get xs i x x there)

  none_contained : (x : X) → Contains [] x → ⊥
  none_contained x there = let within = there.1 in omega (arith, within)

  one_contained : (y x : X) → Contains (y ∷ []) x → y ≡ x
  one_contained y x (zero, within, is) = is
  one_contained y x (suc k, within, is) = absurd (omega (arith, within))

  got_again : (xs : List X) (k : ℕ) (d : X) → k < length xs → get_or xs k (get_or xs k d) ≡ get_or xs k d
  got_again [] k d within = absurd (omega (arith, within))
  got_again (x ∷ xs) zero d within = refl
  got_again (x ∷ xs) (suc k) d within = got_again xs k d (omega (arith, within))

  got_contained : (xs : List X) (k : ℕ) (d : X) → k < length xs → Contains xs (get_or xs k d)
  got_contained xs k d within = (k, within, got_again xs k d within)

  -- two lists in order, each of the first before each of the second
  pairs_joined : (R : X → X → Type 0) (xs ys : List X) → AllPairs R xs → AllPairs R ys → ((x y : X) → Contains xs x → Contains ys y → R x y) → AllPairs R (xs ++ ys)
  pairs_joined R [] ys first second across i j d less within = second i j d less within
  pairs_joined R (x ∷ xs) ys first second across zero zero d less within = absurd (omega (arith, less))
  pairs_joined R (x ∷ xs) ys first second across (suc i) zero d less within = absurd (omega (arith, less))
  pairs_joined R (x ∷ xs) ys first second across zero (suc j) d less within = elim (cases_lt j (length xs)) [
    | inl inside ↦ subst (λ y. R x y) (in_first xs ys j d inside) (first zero (suc j) d (omega arith) (omega (arith, inside)))
    | inr past ↦
        let end = length-append xs ys in
        let k : j - length xs < length ys = omega (arith, past, within, end) in
        subst (λ y. R x y) (in_second xs ys j d past) (across x (get_or ys (j - length xs) d) (zero, omega arith, refl) (got_contained ys (j - length xs) d k))
  ]
    where
      in_first : (xs ys : List X) (j : ℕ) (d : X) → j < length xs → get_or xs j d ≡ get_or (xs ++ ys) j d
      in_first [] ys j d inside = absurd (omega (arith, inside))
      in_first (x ∷ xs) ys zero d inside = refl
      in_first (x ∷ xs) ys (suc j) d inside = in_first xs ys j d (omega (arith, inside))

      in_second : (xs ys : List X) (j : ℕ) (d : X) → length xs ≤ j → get_or ys (j - length xs) d ≡ get_or (xs ++ ys) j d
      in_second [] ys j d past = let same : j - zero ≡ j = omega arith in ap (λ n. get_or ys n d) same
      in_second (x ∷ xs) ys zero d past = absurd (omega (arith, past))
      in_second (x ∷ xs) ys (suc j) d past = let same : suc j - suc (length xs) ≡ j - length xs = omega arith in ap (λ n. get_or ys n d) same ∙ in_second xs ys j d (omega (arith, past))
  pairs_joined R (x ∷ xs) ys first second across (suc i) (suc j) d less within =
      pairs_joined R xs ys (λ a b e less within. first (suc a) (suc b) e (omega (arith, less)) (omega (arith, within))) second
      (λ a b a_in b_in. across a b (behind a a_in) b_in) i j d (omega (arith, less)) (omega (arith, within))
    where
      behind : (a : X) → Contains xs a → Contains (x ∷ xs) a
      behind a (k, inside, is) = (suc k, omega (arith, inside), is)

-- the list has just the holders of the kind, in their order
record Lists (P : Holder → Type 0) (holders : List Holder) : Type 0 where
  only : (h : Holder) → Contains holders h → P h
  all : (h : Holder) → P h → Contains holders h
  ordered : AllPairs StandsBefore holders

lists_none : Lists (λ h. ⊥) []
lists_none = record { only = none_contained; all = λ h none. absurd none; ordered = λ i j d less within. absurd (omega (arith, within)) }

lists_one : (h : Holder) → Lists (λ x. h ≡ x) (h ∷ [])
lists_one h = record {
  only = λ x there. one_contained h x there;
  all = λ x same. (zero, omega arith, same);
  ordered = λ i j d less within. absurd (omega (arith, less, within));
}

lists_same : {P Q : Holder → Type 0} {holders : List Holder} → ((h : Holder) → P h → Q h) → ((h : Holder) → Q h → P h) → Lists P holders → Lists Q holders
lists_same on back lists = record { only = λ h there. on h (lists.only h there); all = λ h is. lists.all h (back h is); ordered = lists.ordered }

lists_joined : {P Q : Holder → Type 0} {xs ys : List Holder} → Lists P xs → Lists Q ys → ((x y : Holder) → P x → Q y → StandsBefore x y) → Lists (λ h. P h ⊎ Q h) (xs ++ ys)
lists_joined {P} {Q} {xs} {ys} first second across = record {
  only = λ h there. elim (Contains-append_cases xs ys h there) [ inl before ↦ inl (first.only h before) | inr behind ↦ inr (second.only h behind) ];
  all = λ h is. elim is [ inl before ↦ Contains-append_left xs ys h (first.all h before) | inr behind ↦ Contains-append_right xs ys h (second.all h behind) ];
  ordered = pairs_joined StandsBefore xs ys first.ordered second.ordered (λ x y x_in y_in. across x y (first.only x x_in) (second.only y y_in));
}

-- lists by number, one behind the other
abbrev rows : (ℕ → List Holder) → ℕ → List Holder
rows each zero = []
rows each (suc n) = rows each n ++ each n

abbrev InRows : (ℕ → Holder → Type 0) → ℕ → Holder → Type 0
InRows P n h = (i : ℕ) × (i < n) × P i h

lists_rows : (each : ℕ → List Holder) (P : ℕ → Holder → Type 0) → ((i : ℕ) → Lists (P i) (each i)) → ((i j : ℕ) (x y : Holder) → i < j → P i x → P j y → StandsBefore x y) → (n : ℕ) →
    Lists (InRows P n) (rows each n)
lists_rows each P lists across zero = lists_same (λ h none. absurd none) (λ h is. let less = is.1 in absurd (omega (arith, less))) lists_none
lists_rows each P lists across (suc n) =
    lists_same on back (lists_joined (lists_rows each P lists across n) (lists n) (λ x y x_in y_in. across x_in.0 n x y x_in.1 x_in.2 y_in))
  where
    on : (h : Holder) → InRows P n h ⊎ P n h → InRows P (suc n) h
    on h (inl (i, less, is)) = (i, omega (arith, less), is)
    on h (inr is) = (n, omega arith, is)

    back : (h : Holder) → InRows P (suc n) h → InRows P n h ⊎ P n h
    back h (i, less, is) = elim (cases_lt i n) [
      | inl lower ↦ inl (i, lower, is)
      | inr more ↦ let same : i ≡ n = omega (arith, less, more) in inr (subst (λ k. P k h) same is)
    ]

-- ---- all holders

-- what is read from one of a list is read from one that is there
read_within : {X Y : Type 0} → (read : X → Y) (xs : List X) (k : ℕ) (y : Y) → option_map read (slice_get xs k) ≡ Some y → k < length xs
read_within read [] k y is = absurd (none-some y is)
read_within read (x ∷ xs) zero y is = omega arith
read_within read (x ∷ xs) (suc k) y is = let on = read_within read xs k y is in omega (arith, on)

found_within : {X Y : Type 0} → (read : X → Option Y) (xs : List X) (k : ℕ) (y : Y) → option_and_then read (slice_get xs k) ≡ Some y → k < length xs
found_within read [] k y is = absurd (none-some y is)
found_within read (x ∷ xs) zero y is = omega arith
found_within read (x ∷ xs) (suc k) y is = let on = found_within read xs k y is in omega (arith, on)

-- two holders by what they are
two : (a b x y : Holder) → a ≡ x → b ≡ y → StandsBefore a b → StandsBefore x y
two a b x y a_is b_is before = subst (λ h. StandsBefore h y) a_is (subst (λ h. StandsBefore a h) b_is before)

-- the roots, in their order
abbrev roots_below : ℕ → List Holder
roots_below n = rows (λ r. Root r ∷ []) n

length_roots : (n : ℕ) → length (roots_below n) ≡ n
length_roots zero = refl
length_roots (suc n) = let many = length-append (roots_below n) (Root n ∷ []) in let so_far = length_roots n in omega (arith, many, so_far)

root_there : (n r : ℕ) → r < n → slice_get (roots_below n) r ≡ Some (Root r)
root_there zero r less = absurd (omega (arith, less))
root_there (suc n) r less = elim (cases_lt r n) [
  | inl lower ↦ found_left (roots_below n) (Root n ∷ []) r (Root r) (root_there n r lower)
  | inr more ↦
      let same : n ≡ r = omega (arith, less, more) in
      subst (λ k. slice_get (roots_below n ++ Root n ∷ []) k ≡ Some (Root k)) same
      (subst (λ k. slice_get (roots_below n ++ Root n ∷ []) k ≡ Some (Root n)) (length_roots n) (found_last (roots_below n) (Root n)))
]

module _ (program : Program) where
  abbrev IsRoot : Holder → Type 0
  IsRoot = InRows (λ r h. Root r ≡ h) (length program.roots)

  lists_roots : Lists IsRoot (roots_below (length program.roots))
  lists_roots = lists_rows (λ r. Root r ∷ []) (λ r h. Root r ≡ h) (λ r. lists_one (Root r)) (λ i j x y less x_is y_is. two (Root i) (Root j) x y x_is y_is less) (length program.roots)

  -- the slots of a function, as many as it has
  abbrev count_of : Option (List ℕ) → ℕ
  count_of found = option_map_or length found 0

  abbrev IsSlotOf : ℕ → Holder → Type 0
  IsSlotOf f = InRows (λ s h. Slot f s ≡ h) (count_of (slots_of program f))

  abbrev slots_listed : ℕ → List Holder
  slots_listed f = rows (λ s. Slot f s ∷ []) (count_of (slots_of program f))

  lists_slots_of : (f : ℕ) → Lists (IsSlotOf f) (slots_listed f)
  lists_slots_of f =
      lists_rows (λ s. Slot f s ∷ []) (λ s h. Slot f s ≡ h) (λ s. lists_one (Slot f s))
      (λ i j x y less x_is y_is. two (Slot f i) (Slot f j) x y x_is y_is (inr (refl, less))) (count_of (slots_of program f))

  abbrev IsSlot : Holder → Type 0
  IsSlot = InRows IsSlotOf (length program.functions)

  lists_slots : Lists IsSlot (rows slots_listed (length program.functions))
  lists_slots =
      lists_rows slots_listed IsSlotOf lists_slots_of (λ i j x y less x_is y_is. two (Slot i x_is.0) (Slot j y_is.0) x y x_is.2 y_is.2 (inl less)) (length program.functions)

  abbrev IsResult : Holder → Type 0
  IsResult = InRows (λ f h. Result f ≡ h) (length program.functions)

  lists_results : Lists IsResult (rows (λ f. Result f ∷ []) (length program.functions))
  lists_results = lists_rows (λ f. Result f ∷ []) (λ f h. Result f ≡ h) (λ f. lists_one (Result f)) (λ i j x y less x_is y_is. two (Result i) (Result j) x y x_is y_is less) (length program.functions)

  -- a point that gives a value
  abbrev IsValueOf : Option ℕ → ℕ → Holder → Type 0
  IsValueOf found p h = ((t : ℕ) × (found ≡ Some t)) × (Point p ≡ h)

  abbrev value_listed : Option ℕ → ℕ → List Holder
  value_listed None p = []
  value_listed (Some t) p = Point p ∷ []

  lists_value : (found : Option ℕ) (p : ℕ) → Lists (IsValueOf found p) (value_listed found p)
  lists_value None p = lists_same (λ h none. absurd none) (λ h is. absurd (none-some is.0.0 is.0.1)) lists_none
  lists_value (Some t) p = lists_same (λ h same. ((t, refl), same)) (λ h is. is.1) (lists_one (Point p))

  abbrev IsPoint : Holder → Type 0
  IsPoint = InRows (λ p. IsValueOf (value_type_at program p) p) (length program.points)

  abbrev points_listed : List Holder
  points_listed = rows (λ p. value_listed (value_type_at program p) p) (length program.points)

  lists_points : Lists IsPoint points_listed
  lists_points =
      lists_rows (λ p. value_listed (value_type_at program p) p) (λ p. IsValueOf (value_type_at program p) p) (λ p. lists_value (value_type_at program p) p)
      (λ i j x y less x_is y_is. two (Point i) (Point j) x y x_is.1 y_is.1 less) (length program.points)

  abbrev behind_roots : List Holder
  behind_roots = rows slots_listed (length program.functions) ++ (rows (λ f. Result f ∷ []) (length program.functions) ++ points_listed)

  abbrev IsAny : Holder → Type 0
  IsAny h = IsRoot h ⊎ (IsSlot h ⊎ (IsResult h ⊎ IsPoint h))

  lists_any : Lists IsAny (roots_below (length program.roots) ++ behind_roots)
  lists_any = lists_joined lists_roots (lists_joined lists_slots (lists_joined lists_results lists_points third) second) first
    where
      third : (x y : Holder) → IsResult x → IsPoint y → StandsBefore x y
      third x y (f, f_in, x_is) (p, p_in, (value, y_is)) = two (Result f) (Point p) x y x_is y_is tt

      second : (x y : Holder) → IsSlot x → IsResult y ⊎ IsPoint y → StandsBefore x y
      second x y (f, f_in, (s, s_in, x_is)) (inl (g, g_in, y_is)) = two (Slot f s) (Result g) x y x_is y_is tt
      second x y (f, f_in, (s, s_in, x_is)) (inr (p, p_in, (value, y_is))) = two (Slot f s) (Point p) x y x_is y_is tt

      first : (x y : Holder) → IsRoot x → IsSlot y ⊎ (IsResult y ⊎ IsPoint y) → StandsBefore x y
      first x y (r, r_in, x_is) (inl (f, f_in, (s, s_in, y_is))) = two (Root r) (Slot f s) x y x_is y_is tt
      first x y (r, r_in, x_is) (inr (inl (g, g_in, y_is))) = two (Root r) (Result g) x y x_is y_is tt
      first x y (r, r_in, x_is) (inr (inr (p, p_in, (value, y_is)))) = two (Root r) (Point p) x y x_is y_is tt

  -- what is listed is a holder
  slot_type : (f s : ℕ) (found : Option (List ℕ)) → slots_of program f ≡ found → s < count_of found → IsHolder program (Slot f s)
  slot_type f s None is less = absurd (omega (arith, less))
  slot_type f s (Some slots) is less = let slot = found_at slots s less in (slot.0, (slots, is, slot.1))

  is_holder : (h : Holder) → IsAny h → IsHolder program h
  is_holder h (inl (r, less, is)) = let root = found_at program.roots r less in subst (λ x. IsHolder program x) is (root.0.ty, (root.0, root.1, refl))
  is_holder h (inr (inl (f, less, (s, within, is)))) = subst (λ x. IsHolder program x) is (slot_type f s (slots_of program f) refl within)
  is_holder h (inr (inr (inl (f, less, is)))) =
      let function = found_at program.functions f less in subst (λ x. IsHolder program x) is (function.0.result, ap (option_map (λ (one : Function). one.result)) function.1)
  is_holder h (inr (inr (inr (p, less, (value, is))))) = subst (λ x. IsHolder program x) is (value.0, value.1)

  -- and each holder is listed
  is_any : (h : Holder) → IsHolder program h → IsAny h
  is_any (Root r) (t, (root, there, is)) = inl (r, slice_get_within program.roots r root there, refl)
  is_any (Slot f s) (t, (slots, are, there)) =
      let within : s < count_of (slots_of program f) = subst (λ found. s < count_of found) (sym are) (slice_get_within slots s t there) in
      inr (inl (f, read_within (λ (function : Function). function.slots) program.functions f slots are, (s, within, refl)))
  is_any (Result f) (t, is) = inr (inr (inl (f, read_within (λ (function : Function). function.result) program.functions f t is, refl)))
  is_any (Point p) (t, is) = inr (inr (inr (p, found_within (λ (point : PointOf). point.value) program.points p t is, ((t, is), refl))))

  are_holders : AreHolders program (roots_below (length program.roots) ++ behind_roots)
  are_holders = record {
    each = λ h. ((λ there. is_holder h (lists_any.only h there)), (λ holder. lists_any.all h (is_any h holder)));
    ordered = lists_any.ordered;
  }

  -- the number of a root is its own
  pub number_of_root : (r : ℕ) → r < length program.roots → IsNumberOfHolder program (Root r) r
  number_of_root r within =
      (roots_below (length program.roots) ++ behind_roots, are_holders, found_left (roots_below (length program.roots)) behind_roots r (Root r) (root_there (length program.roots) r within))

  module _ (labels : LabelTable) (in_range : IsInRange program) (labelled : AreLabels program labels) (few : AreLabelsInRange labels) where
    small : (r : ℕ) → r < length program.roots → min r (2 ^ 32 - 1) ≡ r
    small r within = let roots = in_range.few_roots in omega (arith, within, roots)

    pub number_known : (o r : ℕ) (x : LabelName) → slice_get labels.names o ≡ Some x → x.holder ≡ Root r → root_of labels o ≡ Some r
    number_known o r x named is =
        let found = found_at labels.entries o (subst (λ n. o < n) few.named (slice_get_within labels.names o x named)) in
        let entry = labelled.entries o x found.0 named found.1 in
        let label = (labelled.each x).0 (contained labels.names o x named) in
        let root : IsHolderType program (Root r) label.0 = subst (λ h. IsHolderType program h label.0) is label.1 in
        let within : r < length program.roots = slice_get_within program.roots r root.0 root.1 in
        let number : IsNumberOfHolder program x.holder r = subst (λ h. IsNumberOfHolder program h r) (sym is) (number_of_root r within) in
        ap (option_map (λ (entry : LabelEntry). entry.root)) found.1 ∙ ap Some (entry.root r number ∙ small r within)

-- a label whose holder is a root has its number
pub root_number : (program : Program) (labels : LabelTable) (es : List Edge) → IsAnalysed program labels es → (o r : ℕ) (x : LabelName) →
    slice_get labels.names o ≡ Some x → x.holder ≡ Root r → root_of labels o ≡ Some r
root_number program labels es ok o r x named is = number_known program labels ok.in_range ok.labelled ok.few_labels o r x named is

-- so the label of a function itself names it
pub names_function : (basis : Basis) (es : List Edge) → IsAnalysed basis.program basis.labels es → (o g : ℕ) (x : LabelName) →
    slice_get basis.labels.names o ≡ Some x → code basis.program g x → NamesFunction basis o g
names_function basis es ok o g x named (r, root, whole) =
    (r, root_number basis.program basis.labels es ok o r x named whole.holder, (ok.lowered.function_roots g r).0 root)
