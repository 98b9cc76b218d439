-- The numbers of structs in the program.
use Rattle.std.proofs.Common.{◌≡◌, ◌∙◌, ◌⊎◌, ◌↔◌, inl, inr, ◌<◌, ◌≤◌, ℕ, List, [], Some, All, refl, sym, ap, subst, length, get_or, arith}
use Rattle.std.proofs.lemmas.Bool.{cases_lt}
use Rattle.std.proofs.lemmas.Option.{none-some, same_Some, slice_get-get_or, slice_get_within}
use Rattle.std.specs.List.{slice_get}
use Rattle.lk_link.specs.Sources.{Units}
use Rattle.lk_link.specs.Structs.{AreResolved, Becomes}
use Rattle.lk_link.specs.declared.place.StructOf.{StructOf}
use Rattle.lk_link.proofs.Becoming.{becomes_same}
use Rattle.lk_link.proofs.Growing.{at_contains}
use Rattle.lk_typed.specs.declared.unit.TypedUnit.{TypedUnit}
use Rattle.lk_join.specs.Classes.{AreNumbers, AreOneStruct, IsInProgram, IsNumber}
use Rattle.lk_join.specs.Classes.AreOneStruct.{same, next}
use Rattle.lk_join.specs.Labels.{AreLabels, IsKeptPair, IsLabelled}
use Rattle.lk_join.specs.Numbering.{AreLabelled, IsNumbered}
use Rattle.lk_join.specs.Places.{AreAllPutAt, HavePlaces}
use Rattle.lk_join.proofs.Chains.{image_itself, one_in_program, one_then, one_turned}
use Rattle.lk_join.proofs.Symmetry.{kept_turned}
use Rattle.lk_join.proofs.Zips.{zip_at, zip_back, zip_long}

abbrev is_place : List StructOf → ℕ → StructOf → Type 0
is_place structs place s = slice_get structs place ≡ Some s

module _ (units : Units) (becomes : List (List StructOf)) (resolved : AreResolved units becomes) (structs : List StructOf) (places : List (List ℕ)) (put : AreAllPutAt [] structs becomes places) where
  at_place : (k : ℕ) (x : StructOf) → slice_get structs k ≡ Some x → IsInProgram units x
  at_place k x at = elim (put.from k x at) [
    | inl old ↦ absurd (none-some x old)
    | inr there ↦
        let row = at_contains becomes there.0 there.1 in
        let here = at_contains there.0 x there.2 in
        let is = (resolved.each row.0 there.0 row.1).each here.0 x here.1 in
        record { known = is.0; itself_there = image_itself units is.1 }
  ]

  pub all_in_program : All (IsInProgram units) structs
  all_in_program k d less = at_place k (get_or structs k d) (slice_get-get_or structs k d less)

  place_of : (x : StructOf) → IsInProgram units x → (p : ℕ) × (slice_get structs p ≡ Some x)
  place_of x is =
      let k = is.known in
      let source_in = slice_get_within units x.source k.unit k.at in
      let long = resolved.sources in
      let row = get_or becomes x.source [] in
      let row_at = slice_get-get_or becomes x.source [] (omega (arith, source_in, long)) in
      let of = resolved.each x.source row row_at in
      let row_long = of.whole k.unit k.at in
      let number_in = k.known in
      let b = get_or row x.number x in
      let b_at = slice_get-get_or row x.number x (omega (arith, number_in, row_long)) in
      let same_one = becomes_same units (of.each x.number b b_at).1 is.itself_there in
      let ps = zip_back (HavePlaces structs) places becomes put.each x.source row row_at in
      let p = zip_back (is_place structs) ps.0 row ps.2 x.number b b_at in
      (p.0, p.2 ∙ ap Some same_one)

  pub places_in : (n : ℕ) → n ≡ length structs → All (λ row. All (λ place. place < n) row) places
  places_in n is k d less j e within =
      let row = get_or places k d in
      let b = zip_at (HavePlaces structs) places becomes put.each k row (slice_get-get_or places k d less) in
      let s = zip_at (is_place structs) row b.0 b.2 j (get_or row j e) (slice_get-get_or row j e within) in
      let there = slice_get_within structs (get_or row j e) s.0 s.2 in
      omega (arith, there, is)

  module _ (labels : List ℕ) (are : AreLabels units structs labels) where
    pub labels_in : All (λ label. label < length structs) labels
    labels_in k d less =
        let size = are.size in
        let s_at = slice_get-get_or structs k (record { source = 0; number = 0 }) (omega (arith, less, size)) in
        let is = are.sound k (get_or structs k (record { source = 0; number = 0 })) s_at in
        let there = slice_get_within structs is.1.0 is.0 is.1.2 in
        let label = same_Some (get_or labels k d) is.1.0 (sym (slice_get-get_or labels k d less) ∙ is.1.1) in
        omega (arith, there, label)

    met_any : (i j : ℕ) (s z : StructOf) → slice_get structs i ≡ Some s → slice_get structs j ≡ Some z → IsKeptPair units (record { first = s; second = z }) → slice_get labels i ≡ slice_get labels j
    met_any i j s z at bt kept = by (cases_lt i j) (cases_lt j i)
      where
        by : (i < j) ⊎ (j ≤ i) → (j < i) ⊎ (i ≤ j) → slice_get labels i ≡ slice_get labels j
        by (inl less) r = are.met i j less (slice_get_within structs j z bt) s z at bt kept
        by (inr l) (inl less) = sym (are.met j i less (slice_get_within structs i s at) z s bt at (kept_turned units (record { first = s; second = z }) kept))
        by (inr l) (inr r) = let e : i ≡ j = omega arith in ap (slice_get labels) e

    module _ (r : StructOf) (p : ℕ) (p_at : slice_get structs p ≡ Some r) where
      chain_label : {x : StructOf} → AreOneStruct units r x → (q : ℕ) → slice_get structs q ≡ Some x → slice_get labels p ≡ slice_get labels q
      chain_label same q q_at = ap (slice_get labels) (are.distinct p q r p_at q_at)
      chain_label (next one is (inl (inl e))) q q_at = chain_label one q (q_at ∙ ap Some (sym e))
      chain_label (next one is (inr (inl e))) q q_at = chain_label one q (q_at ∙ ap Some e)
      chain_label {x} (next {q = y} one is (inl (inr kept))) q q_at =
          let there = place_of y (one_in_program units (at_place p r p_at) one) in
          chain_label one there.0 there.1 ∙ met_any there.0 q y x there.1 q_at kept
      chain_label {x} (next {q = y} one is (inr (inr kept))) q q_at =
          let there = place_of y (one_in_program units (at_place p r p_at) one) in
          chain_label one there.0 there.1 ∙ sym (met_any q there.0 x y q_at there.1 kept)

    module _ (rows : List (List ℕ)) (count : ℕ) (numbered : IsNumbered structs labels places rows count) where
      record IsNumberOf (s : StructOf) (n : ℕ) : Type 0 where
        rep : StructOf
        place : ℕ
        becomes_one : StructOf
        class : slice_get numbered.classes n ≡ Some rep
        labelled : IsLabelled structs labels place rep
        at : slice_get structs place ≡ Some becomes_one
        becomes_it : Becomes units s becomes_one

      number_of : (s : StructOf) (n : ℕ) → IsNumber rows s n → IsNumberOf s n
      number_of s n h =
          let named = zip_at (HavePlaces numbered.classes) rows numbered.named numbered.put.each s.source h.0 h.1 in
          let rep = zip_at (is_place numbered.classes) h.0 named.0 named.2 s.number n h.2 in
          let ps = zip_back (AreLabelled structs labels) places numbered.named numbered.labelled s.source named.0 named.1 in
          let p = zip_back (IsLabelled structs labels) ps.0 named.0 ps.2 s.number rep.0 rep.1 in
          let row = zip_at (HavePlaces structs) places becomes put.each s.source ps.0 ps.1 in
          let b = zip_at (is_place structs) ps.0 row.0 row.2 s.number p.0 p.1 in
          record {
            rep = rep.0;
            place = p.0;
            becomes_one = b.0;
            class = rep.2;
            labelled = p.2;
            at = b.2;
            becomes_it = ((resolved.each s.source row.0 row.1).each s.number b.0 b.1).1;
          }

      same_label : (i j : ℕ) (x y : StructOf) → slice_get labels i ≡ slice_get labels j → IsLabelled structs labels i x → IsLabelled structs labels j y → x ≡ y
      same_label i j x y e h k = same_Some x y (sym h.2 ∙ ap (slice_get structs) (same_Some h.0 k.0 (sym h.1 ∙ e ∙ k.1)) ∙ k.2)

      -- a struct is one with that which its number tells
      one_with : (s r : StructOf) (n : ℕ) (h : IsNumberOf s n) → Becomes units s r → AreOneStruct units r h.rep
      one_with s r n h becomes_r =
          let is = are.sound h.place h.becomes_one h.at in
          subst (λ x. AreOneStruct units x h.rep) (becomes_same units h.becomes_it becomes_r)
          (subst (AreOneStruct units h.becomes_one) (same_label h.place h.place is.0 h.rep refl is.1 h.labelled) is.2)

      one_number : (s z r q : StructOf) (m n : ℕ) → IsNumber rows s m → IsNumber rows z n → Becomes units s r → Becomes units z q → (m ≡ n) ↔ AreOneStruct units r q
      one_number s z r q m n h k becomes_r becomes_q =
          let a = number_of s m h in
          let b = number_of z n k in
          let a_at = a.at ∙ ap Some (becomes_same units a.becomes_it becomes_r) in
          let b_at = b.at ∙ ap Some (becomes_same units b.becomes_it becomes_q) in (
            (λ e.
                let rep = same_Some a.rep b.rep (sym a.class ∙ ap (slice_get numbered.classes) e ∙ b.class) in
                one_then units (subst (AreOneStruct units r) rep (one_with s r m a becomes_r)) (one_turned units (at_place b.place q b_at) (one_with z q n b becomes_q))),
            (λ one.
                let rep = same_label a.place b.place a.rep b.rep (chain_label r a.place a_at one b.place b_at) a.labelled b.labelled in
                numbered.distinct m n b.rep (a.class ∙ ap Some rep) b.class),
          )

      all_there : (n : ℕ) → n < count → (s : StructOf) × IsNumber rows s n
      all_there n less =
          let long = numbered.whole in
          let d : StructOf = record { source = 0; number = 0 } in
          let rep = get_or numbered.classes n d in
          let rep_at = slice_get-get_or numbered.classes n d (omega (arith, less, long)) in
          elim (numbered.put.from n rep rep_at) [
            | inl old ↦ absurd (none-some rep old)
            | inr there ↦
                let row = at_contains numbered.named there.0 there.1 in
                let here = at_contains there.0 rep there.2 in
                let numbers = zip_back (HavePlaces numbered.classes) rows numbered.named numbered.put.each row.0 there.0 row.1 in
                let number = zip_back (is_place numbered.classes) numbers.0 there.0 numbers.2 here.0 rep here.1 in
                let is = numbered.distinct number.0 n rep number.2 rep_at in
                (record { source = row.0; number = here.0 }, (numbers.0, numbers.1, number.1 ∙ ap Some is))
          ]

      row_long : (s : ℕ) (unit : TypedUnit) (row : List ℕ) → slice_get units s ≡ Some unit → slice_get rows s ≡ Some row → length row ≡ length unit.types.members
      row_long s unit row at bt =
          let named = zip_at (HavePlaces numbered.classes) rows numbered.named numbered.put.each s row bt in
          let ps = zip_back (AreLabelled structs labels) places numbered.named numbered.labelled s named.0 named.1 in
          let b = zip_at (HavePlaces structs) places becomes put.each s ps.0 ps.1 in
          zip_long (is_place numbered.classes) row named.0 named.2 ∙ sym (zip_long (IsLabelled structs labels) ps.0 named.0 ps.2) ∙ zip_long (is_place structs) ps.0 b.0 b.2 ∙
          (resolved.each s b.0 b.1).whole unit at

      pub are_numbers : AreNumbers units rows count
      are_numbers = record {
        sources = zip_long (HavePlaces numbered.classes) rows numbered.named numbered.put.each ∙ sym (zip_long (AreLabelled structs labels) places numbered.named numbered.labelled) ∙
            zip_long (HavePlaces structs) places becomes put.each ∙ resolved.sources;
        row = row_long;
        one = one_number;
        below = λ s n h. let is = number_of s n h in let there = slice_get_within numbered.classes n is.rep is.class in let long = numbered.whole in omega (arith, there, long);
        all = all_there;
      }
