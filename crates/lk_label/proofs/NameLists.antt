-- The names of labels, holder by holder, and then with the places first.
use Rattle.std.proofs.Common.{◌≡◌, ◌↔◌, ℕ, suc, ◌+◌, ◌-◌, ◌<◌, ◌≤◌, ◌⊎◌, List, [], ◌∷◌, ◌++◌, take, length, get_or, Some, Contains, inl, inr, refl, sym, ap, ◌∙◌, subst, arith}
use Rattle.std.specs.Prelude.{slice_get, AllPairs}
use Rattle.std.proofs.lemmas.Bool.{cases_lt}
use Rattle.std.proofs.lemmas.Grind.{common_steps}
use Rattle.std.proofs.lemmas.List.{get_or_default, take_more}
use Rattle.std.proofs.lemmas.List.Edits.{get_or-remove_below, get_or-remove_above, length-remove}
use Rattle.std.specs.List.{remove}
use Rattle.std.proofs.lemmas.List.Elements.{Contains-append_left, Contains-get_or, Contains-push, Contains-push_cases}
use Rattle.std.proofs.lemmas.List.Quantifiers.{all_pairs_push}
use Rattle.std.proofs.lemmas.Option.{slice_get_within, same_Some}
use Rattle.lk_facts.specs.LabelRules.{AreHolders, ComesBefore, HasMoreLabels, IsBefore, IsLabel, IsNoPlace, IsOrigin, IsPlaceNumber, IsWithin, NamesPlace, StandsBefore, is_root}
use Rattle.lk_facts.specs.LabelRules.IsBefore.{places as before_places, place_first, holders as before_holders, nodes as before_nodes}
use Rattle.lk_facts.specs.Labels.{name_with}
use Rattle.lk_facts.specs.Places.{AreDifferent, IsMissing, IsPut}
use Rattle.lk_facts.specs.Places.IsPut.{there as was_there, added}
use Rattle.lk_facts.specs.Program.{place_of}
use Rattle.lk_facts.specs.Typed.{IsHolderType}
use Rattle.lk_facts.specs.declared.label_entry.LabelName.{LabelName}
use Rattle.lk_facts.specs.declared.place.Place.{Place}
use Rattle.lk_facts.specs.declared.program.Program.{Program}
use Rattle.lk_facts.specs.declared.root.Holder.{Holder}
use Rattle.lk_facts.specs.declared.root.Root.{Root as RootOf}
use Rattle.lk_facts.specs.declared.root.Holder.TheVariants.{Root}
use Rattle.lk_types.specs.declared.node.NodeId.{NodeId}
use Rattle.lk_label.specs.Gathering.{AreAllLabels, AreLabelsOf, AreOrdered, AreOrderedTo, AreOrigins, AreOriginsTo, ArePlacesTo, ByHolder, HasPlace, PutsKnown, PutsLabels, PutsNames}
use Rattle.lk_label.specs.Gathering.ByHolder.{holders as by_holders, nodes as by_nodes}
use Rattle.lk_label.specs.Gathering.PutsKnown.{put as known_put, over as known_over}
use Rattle.lk_label.specs.Gathering.PutsNames.{none as puts_none, more as puts_more}
use Rattle.lk_label.specs.Naming.{AreNamed}
use Rattle.lk_label.proofs.NodeLists.{put_cases}
use Rattle.lk_label.proofs.Walks.{Contains-none}
use Rattle.lk_label.proofs.WalkSteps.{contains_got, got_contains}

-- lists in order: all but the last, the last, and those before one
pairs_front : {X : Type 0} (R : X → X → Type 0) (xs : List X) (y : X) → AllPairs R (xs ++ y ∷ []) → AllPairs R xs
pairs_front R xs y all i j d less within =
    let low : get_or (xs ++ y ∷ []) i d ≡ get_or xs i d = grind (arith, common_steps) in
    let high : get_or (xs ++ y ∷ []) j d ≡ get_or xs j d = grind (arith, common_steps) in
    let long : j < length (xs ++ y ∷ []) = grind (arith, common_steps) in
    subst (λ a. R a (get_or xs j d)) low (subst (R (get_or (xs ++ y ∷ []) i d)) high (all i j d less long))

pairs_last : {X : Type 0} (R : X → X → Type 0) (xs : List X) (y : X) → AllPairs R (xs ++ y ∷ []) → (x : X) → Contains xs x → R x y
pairs_last R xs y all x there =
    let i = there.0 in
    let within : i < length xs = there.1 in
    let low : get_or (xs ++ y ∷ []) i x ≡ get_or xs i x = grind (arith, common_steps) in
    let high : get_or (xs ++ y ∷ []) (length xs) x ≡ y = grind (arith, common_steps) in
    let long : length xs < length (xs ++ y ∷ []) = grind (arith, common_steps) in
    subst (λ a. R a y) (low ∙ there.2) (subst (R (get_or (xs ++ y ∷ []) i x)) high (all i (length xs) x within long))

pairs_below : {X : Type 0} (R : X → X → Type 0) (xs : List X) (k : ℕ) (d : X) → AllPairs R xs → k < length xs → (x : X) → Contains (take k xs) x → R x (get_or xs k d)
pairs_below R xs k d all within x there =
    let i = there.0 in
    let short : i < length (take k xs) = there.1 in
    let less : i < k = grind (arith, common_steps) in
    let low : get_or (take k xs) i x ≡ get_or xs i x = grind (arith, common_steps) in
    let here : get_or xs k x ≡ get_or xs k d = get_or_default xs k x d within in
    subst (λ a. R a (get_or xs k d)) (sym low ∙ there.2) (subst (R (get_or xs i x)) here (all i k x less within))

-- what is missing isn't among them
pub missing_contains : {X : Type 0} (xs : List X) (x : X) → IsMissing xs x → Contains xs x → ⊥
missing_contains xs x out there = out there.0 (got_contains xs x there)

-- a list of different things that are all among others is no longer
pub no_longer : {X : Type 0} (xs ys : List X) → AreDifferent xs → ((x : X) → Contains xs x → Contains ys x) → length xs ≤ length ys
no_longer [] ys different among = omega arith
no_longer {X} (x ∷ xs) ys different among =
    let rest = no_longer xs (remove ys first.0) (λ a b z a_at b_at. (let two = different (suc a) (suc b) z a_at b_at in omega (arith, two))) later in
    let one = length-remove ys first.0 first.1 in
    omega (arith, rest, one)
  where
    first : Contains ys x
    first = among x (0, omega arith, refl)

    later : (z : X) → Contains xs z → Contains (remove ys first.0) z
    later z there =
        let other = among z (suc there.0, omega (arith, there.1), there.2) in
        let one = length-remove ys first.0 first.1 in
        elim (cases_lt other.0 first.0) [
          | inl below ↦ (other.0, omega (arith, below, one, first.1), get_or-remove_below ys first.0 z other.0 below first.1 ∙ other.2)
          | inr more ↦ elim (cases_lt first.0 other.0) [
            | inl above ↦
                let up : (other.0 - 1) + 1 ≡ other.0 = omega (arith, above) in
                (other.0 - 1, omega (arith, above, one, other.1), get_or-remove_above ys first.0 z (other.0 - 1) (omega (arith, above)) first.1 ∙ (ap (λ k. get_or ys k z) up ∙ other.2))
            | inr same ↦
                let level : other.0 ≡ first.0 = omega (arith, more, same) in
                let equal : z ≡ x = same_Some z x (sym (got_contains ys z other) ∙ (ap (slice_get ys) level ∙ got_contains ys x first)) in
                let two = different (suc there.0) 0 z (got_contains xs z there) (ap Some (sym equal)) in
                absurd (omega (arith, two))
          ]
        ]

pub name_equal : (h : Holder) (n : NodeId) (x : LabelName) → x.holder ≡ h → n ≡ x.node → name_with h n ≡ x
name_equal h n x holder node = λ i. record { holder = sym holder i; node = node i }

-- names of one holder that are put
pub puts_each : {h : Holder} {old new : List LabelName} {nodes : List NodeId} → PutsNames h old nodes new → (x : LabelName) → Contains new x ↔ (Contains old x ⊎ ((x.holder ≡ h) × Contains nodes x.node))
puts_each puts_none x = (
  λ there. inl there,
  λ either. elim either [
    | inl was ↦ was
    | inr both ↦ absurd (Contains-none x.node both.1)
  ],
)
puts_each {h} {old} {new} (puts_more n nodes mid _ i before put) x = (there (puts_each before x), back (puts_each before x))
  where
    there : (Contains mid x ↔ (Contains old x ⊎ ((x.holder ≡ h) × Contains nodes x.node))) → Contains new x → Contains old x ⊎ ((x.holder ≡ h) × Contains (nodes ++ n ∷ []) x.node)
    there on among = elim ((put_cases put x).0 among) [
      | inl was ↦ elim (on.0 was) [
        | inl early ↦ inl early
        | inr both ↦ inr (both.0, Contains-append_left nodes (n ∷ []) x.node both.1)
      ]
      | inr same ↦ inr (sym (ap (λ (y : LabelName). y.holder) same), subst (Contains (nodes ++ n ∷ [])) (ap (λ (y : LabelName). y.node) same) (Contains-push nodes n))
    ]

    back : (Contains mid x ↔ (Contains old x ⊎ ((x.holder ≡ h) × Contains nodes x.node))) → Contains old x ⊎ ((x.holder ≡ h) × Contains (nodes ++ n ∷ []) x.node) → Contains new x
    back on (inl early) = (put_cases put x).1 (inl (on.1 (inl early)))
    back on (inr both) = elim (Contains-push_cases nodes n x.node both.1) [
      | inl was ↦ (put_cases put x).1 (inl (on.1 (inr (both.0, was))))
      | inr same ↦ (put_cases put x).1 (inr (name_equal h n x both.0 same))
    ]

module _ (program : Program) where
  puts_ordered : {h : Holder} {old new : List LabelName} {nodes : List NodeId} (t : ℕ) → IsHolderType program h t → PutsNames h old nodes new → AllPairs (ComesBefore program.types t) nodes → AllPairs (ByHolder program) old →
      ((x : LabelName) → Contains old x → StandsBefore x.holder h) → AllPairs (ByHolder program) new
  puts_ordered t has puts_none walked ordered above = ordered
  puts_ordered {h} {old} {new} t has (puts_more n nodes mid _ i before put) walked ordered above =
      on put (puts_ordered t has before (pairs_front (ComesBefore program.types t) nodes n walked) ordered above)
    where
      earlier : (x : LabelName) → Contains mid x → ByHolder program x (name_with h n)
      earlier x there = elim ((puts_each before x).0 there) [
        | inl was ↦ by_holders (above x was)
        | inr both ↦ by_nodes t both.0 (subst (λ g. IsHolderType program g t) (sym both.0) has) (pairs_last (ComesBefore program.types t) nodes n walked x.node both.1)
      ]

      on : {j : ℕ} → IsPut mid new (name_with h n) j → AllPairs (ByHolder program) mid → AllPairs (ByHolder program) new
      on (was_there at same) all = subst (AllPairs (ByHolder program)) (sym same) all
      on (added out is) all = subst (AllPairs (ByHolder program)) (sym is) (all_pairs_push (ByHolder program) mid (name_with h n) all (λ k d within. earlier (get_or mid k d) (Contains-get_or mid k d within)))

  -- the labels of a holder are the names with those of its nodes that name places and functions
  pub labels_put : (h : Holder) (t : ℕ) (nodes : List NodeId) (old new : List LabelName) → ((u : ℕ) → IsHolderType program h u ↔ (Some t ≡ Some u)) → AreNamed program.types t (is_root h) nodes → PutsNames h old nodes new → PutsLabels program h old new
  labels_put h t nodes old new types named puts = record {
    each = λ x. (there x, back x);
    ordered = λ ordered above. puts_ordered t ((types t).1 refl) puts named.ordered ordered above;
  }
    where
      there : (x : LabelName) → Contains new x → Contains old x ⊎ ((x.holder ≡ h) × IsLabel program x)
      there x among = elim ((puts_each puts x).0 among) [
        | inl was ↦ inl was
        | inr both ↦
            let has : IsHolderType program x.holder t = subst (λ g. IsHolderType program g t) (sym both.0) ((types t).1 refl) in
            let names : NamesPlace program.types t (is_root x.holder) x.node = subst (λ g. NamesPlace program.types t (is_root g) x.node) (sym both.0) ((named.each x.node).0 both.1) in
            inr (both.0, (t, has, names))
      ]

      back : (x : LabelName) → Contains old x ⊎ ((x.holder ≡ h) × IsLabel program x) → Contains new x
      back x (inl was) = (puts_each puts x).1 (inl was)
      back x (inr (is, (u, has, names))) =
          let one : t ≡ u = same_Some t u ((types u).0 (subst (λ g. IsHolderType program g u) is has)) in
          let named_there : NamesPlace program.types t (is_root h) x.node = subst (λ v. NamesPlace program.types v (is_root h) x.node) (sym one) (subst (λ g. NamesPlace program.types u (is_root g) x.node) is names) in
          (puts_each puts x).1 (inr (is, (named.each x.node).1 named_there))

  pub labels_none : AreLabelsOf program [] []
  labels_none = record {
    each = λ x. (λ there. absurd (Contains-none x there), λ both. absurd (Contains-none x.holder both.0));
    ordered = λ i j d less within. absurd (omega (arith, within));
    few = omega arith;
  }

  pub labels_more : (holders : List Holder) (k : ℕ) (d : Holder) (old new : List LabelName) → AreHolders program holders → k < length holders → AreLabelsOf program (take k holders) old → PutsLabels program (get_or holders k d) old new → length new ≤ 65536 → AreLabelsOf program (take (k + 1) holders) new
  labels_more holders k d old new are within before puts few = subst (λ hs. AreLabelsOf program hs new) (sym (take_more holders k d within)) (record {
    each = λ x. (there x, back x);
    ordered = puts.ordered before.ordered (λ x was. pairs_below StandsBefore holders k d are.ordered within x.holder ((before.each x).0 was).0);
    few = few;
  })
    where
      h : Holder
      h = get_or holders k d

      there : (x : LabelName) → Contains new x → Contains (take k holders ++ h ∷ []) x.holder × IsLabel program x
      there x among = elim ((puts.each x).0 among) [
        | inl was ↦ (let both = (before.each x).0 was in (Contains-append_left (take k holders) (h ∷ []) x.holder both.0, both.1))
        | inr both ↦ (subst (Contains (take k holders ++ h ∷ [])) (sym both.0) (Contains-push (take k holders) h), both.1)
      ]

      back : (x : LabelName) → Contains (take k holders ++ h ∷ []) x.holder × IsLabel program x → Contains new x
      back x both = elim (Contains-push_cases (take k holders) h x.holder both.0) [
        | inl early ↦ (puts.each x).1 (inl ((before.each x).1 (early, both.1)))
        | inr same ↦ (puts.each x).1 (inr (sym same, both.1))
      ]

  pub labels_over : (done : List Holder) (h : Holder) (old new : List LabelName) → AreLabelsOf program done old → PutsLabels program h old new → AreDifferent new → 65536 < length new → HasMoreLabels program 65536
  labels_over done h old new before puts different more = record {
    names = new;
    labels = λ x among. elim ((puts.each x).0 among) [
      | inl was ↦ ((before.each x).0 was).1
      | inr both ↦ both.1
    ];
    different = different;
    more = more;
  }

  pub labels_all : (holders : List Holder) (names : List LabelName) → AreHolders program holders → AreLabelsOf program holders names → AreAllLabels program names
  labels_all holders names are all = record {
    each = λ x. (λ there. ((all.each x).0 there).1, λ label. (all.each x).1 ((are.each x.holder).1 (label.0, label.1), label));
    ordered = all.ordered;
    few = all.few;
  }

  -- the place n is that of one name
  place_name : (n : ℕ) (place : Place) (x : LabelName) → slice_get program.places n ≡ Some place → IsPlaceNumber program x n → name_with (Root place.root) place.node ≡ x
  place_name n place x at (r, holder, is) =
      let same : place ≡ place_of r x.node = same_Some place (place_of r x.node) (sym at ∙ is) in
      name_equal (Root place.root) place.node x (holder ∙ ap (λ (p : Place). Root p.root) (sym same)) (ap (λ (p : Place). p.node) same)

  pub no_places : (names : List LabelName) → ArePlacesTo program names 0 []
  no_places names = record {
    only = λ x there. absurd (Contains-none x there);
    all = λ x k among less is. absurd (omega (arith, less));
    ordered = λ i j d less within. absurd (omega (arith, within));
  }

  place_over : (names found : List LabelName) (n : ℕ) (place : Place) → slice_get program.places n ≡ Some place → IsMissing names (name_with (Root place.root) place.node) → ArePlacesTo program names n found → ArePlacesTo program names (n + 1) found
  place_over names found n place at out before = record {
    only = λ x there. let was = before.only x there in (was.0, (was.1.0, omega (arith, was.1.1), was.1.2));
    all = λ x k among less is. elim (cases_lt k n) [
      | inl lower ↦ before.all x k among lower is
      | inr more ↦
          let same : k ≡ n = omega (arith, less, more) in
          let name = place_name n place x at (subst (IsPlaceNumber program x) same is) in
          absurd (missing_contains names x (subst (IsMissing names) name out) among)
    ];
    ordered = before.ordered;
  }

  place_put : (names old new : List LabelName) (n : ℕ) (place : Place) {i : ℕ} → slice_get program.places n ≡ Some place → Contains names (name_with (Root place.root) place.node) → IsPut old new (name_with (Root place.root) place.node) i → ArePlacesTo program names n old →
      ArePlacesTo program names (n + 1) new
  place_put names old new n place at among put before = record { only = only; all = all; ordered = on put }
    where
      name : LabelName
      name = name_with (Root place.root) place.node

      number : IsPlaceNumber program name n
      number = (place.root, refl, at)

      only : (x : LabelName) → Contains new x → Contains names x × ((k : ℕ) × (k < n + 1) × IsPlaceNumber program x k)
      only x there = elim ((put_cases put x).0 there) [
        | inl early ↦ let was = before.only x early in (was.0, (was.1.0, omega (arith, was.1.1), was.1.2))
        | inr same ↦ subst (λ y. Contains names y × ((k : ℕ) × (k < n + 1) × IsPlaceNumber program y k)) same (among, (n, omega arith, number))
      ]

      all : (x : LabelName) (k : ℕ) → Contains names x → k < n + 1 → IsPlaceNumber program x k → Contains new x
      all x k there less is = elim (cases_lt k n) [
        | inl lower ↦ (put_cases put x).1 (inl (before.all x k there lower is))
        | inr more ↦
            let same : k ≡ n = omega (arith, less, more) in
            (put_cases put x).1 (inr (place_name n place x at (subst (IsPlaceNumber program x) same is)))
      ]

      earlier : (x : LabelName) → Contains old x → IsBefore program x name
      earlier x there = let was = before.only x there in before_places was.1.0 n was.1.2 number was.1.1

      on : {j : ℕ} → IsPut old new name j → AllPairs (IsBefore program) new
      on (was_there at same) = subst (AllPairs (IsBefore program)) (sym same) before.ordered
      on (added out is) = subst (AllPairs (IsBefore program)) (sym is) (all_pairs_push (IsBefore program) old name before.ordered (λ k d within. earlier (get_or old k d) (Contains-get_or old k d within)))

  pub place_more : (names old new : List LabelName) (n : ℕ) (place : Place) → slice_get program.places n ≡ Some place → PutsKnown names (name_with (Root place.root) place.node) old new → ArePlacesTo program names n old → ArePlacesTo program names (n + 1) new
  place_more names old new n place at (known_put i among put) before = place_put names old new n place at among put before
  place_more names old new n place at (known_over out same) before = subst (ArePlacesTo program names (n + 1)) (sym same) (place_over names old n place at out before)

  pub order_start : (names found : List LabelName) → ArePlacesTo program names (length program.places) found → AreOrderedTo program names [] found
  order_start names found are = record {
    only = λ x there. let was = are.only x there in (was.0, inl (was.1.0, was.1.2));
    places = λ x among has. are.all x has.0 among (slice_get_within program.places has.0 (place_of has.1.0 x.node) has.1.2) has.1;
    all = λ x none. absurd (Contains-none x none);
    ordered = are.ordered;
  }

  from_holders : (x y : LabelName) → IsNoPlace program x → IsNoPlace program y → ByHolder program x y → IsBefore program x y
  from_holders x y x_none y_none (by_holders less) = before_holders x_none y_none less
  from_holders x y x_none y_none (by_nodes t same has comes) = before_nodes t x_none y_none same has comes

  widened : (done : List LabelName) (x y : LabelName) → HasPlace program y ⊎ (IsNoPlace program y × Contains done y) → HasPlace program y ⊎ (IsNoPlace program y × Contains (done ++ x ∷ []) y)
  widened done x y (inl has) = inl has
  widened done x y (inr both) = inr (both.0, Contains-append_left done (x ∷ []) y both.1)

  order_there : (names done old new : List LabelName) (x : LabelName) → Contains old x → new ≡ old → AreOrderedTo program names done old → AreOrderedTo program names (done ++ x ∷ []) new
  order_there names done old new x was same before = record {
    only = λ y there. let is = before.only y (subst (λ xs. Contains xs y) same there) in (is.0, widened done x y is.1);
    places = λ y there has. subst (λ xs. Contains xs y) (sym same) (before.places y there has);
    all = λ y there. subst (λ xs. Contains xs y) (sym same) (elim (Contains-push_cases done x y there) [
      | inl early ↦ before.all y early
      | inr equal ↦ subst (Contains old) equal was
    ]);
    ordered = subst (AllPairs (IsBefore program)) (sym same) before.ordered;
  }

  order_added : (names done old new : List LabelName) (x : LabelName) → Contains names x → ((y : LabelName) → Contains done y → ByHolder program y x) → IsMissing old x → new ≡ old ++ x ∷ [] → AreOrderedTo program names done old → AreOrderedTo program names (done ++ x ∷ []) new
  order_added names done old new x among above out is before = record {
    only = λ y there. elim (Contains-push_cases old x y (subst (λ xs. Contains xs y) is there)) [
      | inl early ↦ (let was = before.only y early in (was.0, widened done x y was.1))
      | inr equal ↦ subst (λ z. Contains names z × (HasPlace program z ⊎ (IsNoPlace program z × Contains (done ++ x ∷ []) z))) equal (among, inr (no_place, Contains-push done x))
    ];
    places = λ y there has. subst (λ xs. Contains xs y) (sym is) (Contains-append_left old (x ∷ []) y (before.places y there has));
    all = λ y there. subst (λ xs. Contains xs y) (sym is) (elim (Contains-push_cases done x y there) [
      | inl early ↦ Contains-append_left old (x ∷ []) y (before.all y early)
      | inr equal ↦ subst (Contains (old ++ x ∷ [])) equal (Contains-push old x)
    ]);
    ordered = subst (AllPairs (IsBefore program)) (sym is) (all_pairs_push (IsBefore program) old x before.ordered (λ j d short. earlier (get_or old j d) (Contains-get_or old j d short)));
  }
    where
      no_place : IsNoPlace program x
      no_place n number = missing_contains old x out (before.places x among (n, number))

      earlier : (y : LabelName) → Contains old y → IsBefore program y x
      earlier y there = elim (before.only y there).1 [
        | inl has ↦ place_first has.0 has.1 no_place
        | inr both ↦ from_holders y x both.0 no_place (above y both.1)
      ]

  pub order_more : (names old new : List LabelName) (k : ℕ) (x : LabelName) {i : ℕ} → AllPairs (ByHolder program) names → k < length names → x ≡ get_or names k x → IsPut old new x i → AreOrderedTo program names (take k names) old → AreOrderedTo program names (take k names ++ x ∷ []) new
  order_more names old new k x {i} sorted within is (was_there at same) before = order_there names (take k names) old new x (contains_got old i x at) same before
  order_more names old new k x sorted within is (added out put) before =
      order_added names (take k names) old new x (k, within, sym is) (λ y early. subst (ByHolder program y) (sym is) (pairs_below (ByHolder program) names k x sorted within y early)) out put before

  pub order_all : (names found : List LabelName) → AreAllLabels program names → AreDifferent found → AreOrderedTo program names names found → AreOrdered program found
  order_all names found are different all = record {
    each = λ x. (λ there. (are.each x).0 (all.only x there).0, λ label. all.all x ((are.each x).1 label));
    ordered = all.ordered;
    few = (let short = no_longer found names different (λ x there. (all.only x there).0) in let few = are.few in omega (arith, short, few));
  }

  -- where all labels are few, there is no longer list of them
  pub labels_few : (names : List LabelName) → AreOrdered program names → HasMoreLabels program 65536 → ⊥
  labels_few names are others =
      let short = no_longer others.names names others.different (λ x there. (are.each x).1 (others.labels x there)) in
      let few = are.few in
      let more = others.more in
      omega (arith, short, few, more)

  -- origins, root by root
  pub no_origins : AreOriginsTo program 0 []
  no_origins x = (λ there. absurd (Contains-none x there), λ is. absurd (omega (arith, is.2)))

  pub origins_more : (r t : ℕ) (nodes : List NodeId) (old new : List LabelName) → IsHolderType program (Root r) t → ((n : NodeId) → Contains nodes n ↔ IsWithin program.types t n) → PutsNames (Root r) old nodes new → AreOriginsTo program r old → AreOriginsTo program (r + 1) new
  origins_more r t nodes old new has within puts before x = (there, back)
    where
      there : Contains new x → (q : ℕ) × (u : ℕ) × (q < r + 1) × (x.holder ≡ Root q) × IsHolderType program (Root q) u × IsWithin program.types u x.node
      there among = elim ((puts_each puts x).0 among) [
        | inl was ↦ let on = (before x).0 was in (on.0, on.1, omega (arith, on.2), on.3, on.4, on.5)
        | inr both ↦ (r, t, omega arith, both.0, has, (within x.node).0 both.1)
      ]

      one_type : (q u : ℕ) → q ≡ r → IsHolderType program (Root q) u → u ≡ t
      one_type q u same its = sym its.2 ∙ (ap (λ (a : RootOf). a.ty) (same_Some its.0 has.0 (sym its.1 ∙ (ap (slice_get program.roots) same ∙ has.1))) ∙ has.2)

      back : (q : ℕ) × (u : ℕ) × (q < r + 1) × (x.holder ≡ Root q) × IsHolderType program (Root q) u × IsWithin program.types u x.node → Contains new x
      back (q, u, less, is, its, inside) = elim (cases_lt q r) [
        | inl lower ↦ (puts_each puts x).1 (inl ((before x).1 (q, u, lower, is, its, inside)))
        | inr more ↦
            let same : q ≡ r = omega (arith, less, more) in
            let one : u ≡ t = one_type q u same its in
            (puts_each puts x).1 (inr (is ∙ ap Root same, (within x.node).1 (subst (λ v. IsWithin program.types v x.node) one inside)))
      ]

  pub origins_all : (found : List LabelName) → AreOriginsTo program (length program.roots) found → AreOrigins program found
  origins_all found are x = (λ there. let is = (are x).0 there in (is.0, is.1, is.3, is.4, is.5), λ origin. (are x).1 (origin.0, origin.1, within origin, origin.2, origin.3, origin.4))
    where
      within : (origin : IsOrigin program x) → origin.0 < length program.roots
      within origin = slice_get_within program.roots origin.0 origin.3.0 origin.3.1
