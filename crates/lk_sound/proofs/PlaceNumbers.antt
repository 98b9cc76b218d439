-- The number of a label that is a location or a lock place is that of the place: the labels begin with the places, in their order.
use Rattle.std.proofs.Common.{◌≡◌, ◌<◌, ℕ, suc, zero, true, List, [], ◌∷◌, Some, inl, inr, refl, sym, ap, subst, subst₂, ◌∙◌, length, arith}
use Rattle.std.proofs.lemmas.Bool.{cases_lt, cases_order}
use Rattle.std.proofs.lemmas.Option.{get_or_from_slice_get, slice_get_within, same_Some}
use Rattle.std.specs.List.{slice_get}
use Rattle.lk_facts.specs.LabelRules.{IsLabel, IsWithin, IsNodeOf, NamesPlace, IsBefore, IsPlaceNumber}
use Rattle.lk_facts.specs.LabelRules.IsBefore.{places, place_first, holders, nodes}
use Rattle.lk_facts.specs.LabelRules.IsNodeOf.{start as node_start, part as node_part}
use Rattle.lk_facts.specs.LabelRules.IsWithin.{start as within_start, part as within_part}
use Rattle.lk_facts.specs.LabelRules.NamesPlace.{start as place_start, part as place_part}
use Rattle.lk_facts.specs.LabelRules.{form_of}
use Rattle.lk_facts.specs.Labels.{LabelTable, name_with}
use Rattle.lk_facts.specs.Lowered.{IsPartOfObject}
use Rattle.lk_facts.specs.Program.{place_of, place_at}
use Rattle.lk_facts.specs.declared.edge.Edge.{Edge}
use Rattle.lk_facts.specs.declared.label_entry.LabelName.{LabelName}
use Rattle.lk_facts.specs.declared.place.Place.{Place}
use Rattle.lk_facts.specs.declared.program.Program.{Program}
use Rattle.lk_facts.specs.declared.root.Holder.TheVariants.{Root}
use Rattle.lk_laws.proofs.EdgeEnds.{inside_to_place}
use Rattle.lk_right.proofs.Carrying.{numbered}
use Rattle.lk_right.specs.Laws.{IsAnalysed}
use Rattle.lk_types.specs.Table.{Table}
use Rattle.lk_types.specs.declared.node.NodeId.{NodeId}

-- what stands in a list at a number below its length
pub element_at : {X : Type 0} → (xs : List X) (i : ℕ) → i < length xs → (x : X) × (slice_get xs i ≡ Some x)
element_at [] i h = absurd (omega (arith, h))
element_at (x ∷ xs) zero h = (x, refl)
element_at (x ∷ xs) (suc i) h = element_at xs i (omega (arith, h))

-- a node that is reached without Target names a place
node_within : (table : Table) (t : ℕ) {n : NodeId} → IsWithin table t n → IsNodeOf table t n
node_within table t (within_start n at) = node_start n at
node_within table t (within_part m n s within leads steps) = node_part m n s (node_within table t within) steps

pub place_within : (table : Table) (t : ℕ) {n : NodeId} → IsWithin table t n → NamesPlace table t true n
place_within table t (within_start n at) = place_start n refl at
place_within table t (within_part m n s within leads steps) = place_part m n s (node_within table t within) (inside_to_place (form_of table m) s leads) steps

root_is : (r q : ℕ) → Root r ≡ Root q → r ≡ q
root_is r q h = cc

module _ (program : Program) (labels : LabelTable) (es : List Edge) (ok : IsAnalysed program labels es) where
  abbrev Named : ℕ → LabelName → Type 0
  Named l x = slice_get labels.names l ≡ Some x

  -- a part of an object of a root is a label
  part_label : (place : Place) → IsPartOfObject program place → IsLabel program (name_with (Root place.root) place.node)
  part_label place part = (part.root.ty, (part.root, part.of, refl), place_within program.types part.root.ty part.within)

  record IsPlaceLabel (n : ℕ) : Type 0 where
    number : ℕ
    name : LabelName
    named : Named number name
    place : IsPlaceNumber program name n

  labelled_part : (n : ℕ) (place : Place) → place_at program n ≡ Some place → IsPartOfObject program place → IsPlaceLabel n
  labelled_part n place at part =
      let name = name_with (Root place.root) place.node in
      let number = numbered program labels es ok name (part_label place part) in
      record { number = number.0; name = name; named = number.1; place = (place.root, refl, at) }

  -- each place has a label
  place_label : (n : ℕ) → n < length program.places → IsPlaceLabel n
  place_label n less =
      let there = element_at program.places n less in
      elim (cases_lt n program.locations) [
        | inl location ↦ labelled_part n there.0 there.1 ((ok.lowered.locations there.0).0 (n, location, there.1)).0
        | inr lock ↦ labelled_part n there.0 there.1 ((ok.lowered.locks there.0).0 (n, (lock, less), there.1)).0
      ]

  -- a label is one place at most
  one_number : (x : LabelName) (n m : ℕ) → IsPlaceNumber program x n → IsPlaceNumber program x m → n ≡ m
  one_number x n m h k =
      let roots = root_is k.0 h.0 (sym k.1 ∙ h.1) in
      ok.lowered.places_differ n m (place_of h.0 x.node) h.2 (k.2 ∙ ap (λ r. Some (place_of r x.node)) roots)

  before : (i j : ℕ) (x y : LabelName) → Named i x → Named j y → i < j → IsBefore program x y
  before i j x y hi hj less =
      subst₂ (IsBefore program) (get_or_from_slice_get labels.names i x x hi) (get_or_from_slice_get labels.names j y x hj) (ok.labelled.ordered i j x less (slice_get_within labels.names j y hj))

  -- what comes before a place is a place of a lesser number
  place_before : (x y : LabelName) (m : ℕ) → IsPlaceNumber program y m → IsBefore program x y → (n : ℕ) × IsPlaceNumber program x n × (n < m)
  place_before x y m at (places n k h k_at less) = (n, h, subst (λ i. n < i) (one_number y k m k_at at) less)
  place_before x y m at (place_first n h none) = absurd (none m at)
  place_before x y m at (holders none_x none order) = absurd (none m at)
  place_before x y m at (nodes t none_x none same has order) = absurd (none m at)

  -- the labels of the places below a number have their numbers
  abbrev AreBelow : ℕ → Type 0
  AreBelow bound = (m k : ℕ) (y : LabelName) → m < bound → Named k y → IsPlaceNumber program y m → k ≡ m

  -- the number of a place's label, where the numbers of those before it are so
  by_bound : (bound n l : ℕ) (x : LabelName) → n < bound → Named l x → IsPlaceNumber program x n → l ≡ n
  by_bound zero n l x less named place = absurd (omega (arith, less))
  by_bound (suc bound) n l x less named place = at_place (λ m k y lower h at. by_bound bound m k y lower h at)
    where
      within : n < length program.places
      within = slice_get_within program.places n (place_of place.0 x.node) place.2

      not_lower : AreBelow bound → l < n → ⊥
      not_lower below lower =
          let own = place_label l (omega (arith, lower, within)) in
          let there = below l own.number own.name (omega (arith, lower, less)) own.named own.place in
          let name : own.name ≡ x = same_Some own.name x (sym own.named ∙ (ap (λ i. slice_get labels.names i) there ∙ named)) in
          let numbers : l ≡ n = one_number x l n (subst (λ y. IsPlaceNumber program y l) name own.place) place in
          absurd (omega (arith, lower, numbers))

      not_higher : AreBelow bound → n < l → ⊥
      not_higher below higher =
          let there = element_at labels.names n (omega (arith, higher, slice_get_within labels.names l x named)) in
          let lesser = place_before there.0 x n place (before n l there.0 x there.1 named higher) in
          let numbers = below lesser.0 n there.0 (omega (arith, lesser.2, less)) there.1 lesser.1 in
          absurd (omega (arith, lesser.2, numbers))

      at_place : AreBelow bound → l ≡ n
      at_place below = elim (cases_order l n) [
        | inl equal ↦ equal
        | inr other ↦ elim other [ inl lower ↦ absurd (not_lower below lower) | inr higher ↦ absurd (not_higher below higher) ]
      ]

  pub place_number : (l n : ℕ) (x : LabelName) → Named l x → IsPlaceNumber program x n → l ≡ n
  place_number l n x named place = by_bound (suc n) n l x (omega arith) named place
