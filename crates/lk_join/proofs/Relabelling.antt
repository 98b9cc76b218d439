-- Labels that change.
use Rattle.std.proofs.Common.{◌≡◌, ◌∙◌, inl, inr, ◌<◌, ◌≤◌, ◌+◌, ◌++◌, ℕ, Bool, true, false, List, [], ◌∷◌, Some, All, length-append, refl, sym, ap, subst, length, get_or, nat_eq, if◌then◌else◌, arith}
use Rattle.std.proofs.lemmas.Bool.{eqb-true, eq-eqb}
use Rattle.std.proofs.lemmas.Option.{same_Some, slice_get-get_or, slice_get_within, get_or_from_slice_get}
use Rattle.std.proofs.lemmas.List.{get_or-set_same, get_or-set_other}
use Rattle.std.proofs.Math.ListN.{set, length-set}
use Rattle.std.proofs.Math.Nat.{eq-or-lt_of_le}
use Rattle.std.specs.List.{slice_get}
use Rattle.lk_link.specs.Sources.{Units}
use Rattle.lk_link.specs.Structs.{IsNoDifference}
use Rattle.lk_link.specs.declared.place.StructOf.{StructOf}
use Rattle.lk_types.proofs.AddLemmas.{last_got}
use Rattle.lk_types.proofs.GrowLemmas.{get_before}
use Rattle.lk_types.proofs.SizeLemmas.{all_read}
use Rattle.lk_join.specs.Classes.{AreOneStruct, IsInProgram}
use Rattle.lk_join.specs.Classes.AreOneStruct.{same}
use Rattle.lk_join.specs.Labels.{AreLabels, AreOwn, AreSound, HasMetAll, HaveMet, IsCoarser, IsKeptPair, IsLabelled, IsMet, IsRelabelled}
use Rattle.lk_join.specs.Places.{AreDistinct}
use Rattle.lk_join.proofs.Chains.{one_link, one_then, one_turned}

abbrev pub changed : (kept other label : ℕ) → ℕ
changed kept other label = if nat_eq label other then kept else label

-- the labels before a place are changed
pub record IsRelabelledBelow (old new : List ℕ) (kept other n : ℕ) : Type 0 where
  pub size : length new ≡ length old
  pub done : (i label : ℕ) → i < n → slice_get old i ≡ Some label → slice_get new i ≡ Some (changed kept other label)
  pub rest : (i label : ℕ) → n ≤ i → slice_get old i ≡ Some label → slice_get new i ≡ Some label

set_same : (xs : List ℕ) (n v : ℕ) → n < length xs → slice_get (set xs n v) n ≡ Some v
set_same xs n v less = slice_get-get_or (set xs n v) n 0 (omega (arith, less, length-set {A = ℕ})) ∙ ap Some (get_or-set_same xs n v 0 less)

set_other : (xs : List ℕ) (n v i label : ℕ) → (i ≡ n → ⊥) → slice_get xs i ≡ Some label → slice_get (set xs n v) i ≡ Some label
set_other xs n v i label other at =
    let less = slice_get_within xs i label at in
    slice_get-get_or (set xs n v) i 0 (omega (arith, less, length-set {A = ℕ})) ∙ ap Some (get_or-set_other xs n i v 0 other ∙ get_or_from_slice_get xs i label 0 at)

at_most : (n i : ℕ) → i < n + 1 → i ≤ n
at_most n i less = omega arith

pub own_none : AreOwn 0 []
own_none = record { size = refl; each = λ i less. absurd (omega (arith, less)) }

pub own_more : (n : ℕ) (labels : List ℕ) → AreOwn n labels → AreOwn (n + 1) (labels ++ n ∷ [])
own_more n labels h = let size = h.size in record {
  size = omega (arith, size, length-append labels (n ∷ []));
  each = λ i less. elim (eq-or-lt_of_le (at_most n i less)) [
    | inl last ↦ subst (λ j. slice_get (labels ++ j ∷ []) i ≡ Some i) last (ap (slice_get (labels ++ i ∷ [])) (last ∙ sym size) ∙ last_got labels i)
    | inr before ↦ get_before labels (n ∷ []) i (omega (arith, before, size)) ∙ h.each i before
  ];
}

pub below_none : (labels : List ℕ) (kept other : ℕ) → IsRelabelledBelow labels labels kept other 0
below_none labels kept other = record { size = refl; done = λ i label less. absurd (omega (arith, less)); rest = λ i label more at. at }

module _ (old now : List ℕ) (kept other n : ℕ) (h : IsRelabelledBelow old now kept other n) (x : ℕ) (is : slice_get now n ≡ Some x) where
  -- the label of a place is the old one, until it is changed
  label_is : (label : ℕ) → slice_get old n ≡ Some label → label ≡ x
  label_is label at = same_Some label x (sym (h.rest n label (omega arith) at) ∙ is)

  pub below_hit : x ≡ other → IsRelabelledBelow old (set now n kept) kept other (n + 1)
  below_hit hit = let size = h.size in record {
    size = omega (arith, size, length-set {A = ℕ});
    done = λ i label less at. elim (eq-or-lt_of_le (at_most n i less)) [
      | inl last ↦
          subst (λ j. slice_get (set now n kept) j ≡ Some (changed kept other label)) (sym last)
          (set_same now n kept (slice_get_within now n x is) ∙ ap (λ b. Some (if b then kept else label)) (sym (eq-eqb label other (label_is label (subst (λ j. slice_get old j ≡ Some label) last at) ∙ hit))))
      | inr before ↦ set_other now n kept i (changed kept other label) (λ e. absurd (omega (arith, before, e))) (h.done i label before at)
    ];
    rest = λ i label more at. set_other now n kept i label (λ e. absurd (omega (arith, more, e))) (h.rest i label (omega (arith, more)) at);
  }

  pub below_miss : (x ≡ other → ⊥) → IsRelabelledBelow old now kept other (n + 1)
  below_miss miss = record {
    size = h.size;
    done = λ i label less at. elim (eq-or-lt_of_le (at_most n i less)) [
      | inl last ↦
          let label_here = label_is label (subst (λ j. slice_get old j ≡ Some label) last at) in
          subst (λ j. slice_get now j ≡ Some (changed kept other label)) (sym last)
          (is ∙ ap Some (sym label_here) ∙ ap (λ b. Some (if b then kept else label)) (sym (differs label (λ e. miss (sym label_here ∙ e)) (nat_eq label other) refl)))
      | inr before ↦ h.done i label before at
    ];
    rest = λ i label more at. h.rest i label (omega (arith, more)) at;
  }
    where
      differs : (label : ℕ) → (label ≡ other → ⊥) → (b : Bool) → nat_eq label other ≡ b → nat_eq label other ≡ false
      differs label never true e = absurd (never (eqb-true label other e))
      differs label never false e = e

pub relabelled_all : (old new : List ℕ) (kept other n : ℕ) → length old ≤ n → IsRelabelledBelow old new kept other n → IsRelabelled old new kept other
relabelled_all old new kept other n whole h = record { size = h.size; each = λ i label at. let less = slice_get_within old i label at in h.done i label (omega (arith, less, whole)) at }

module _ (units : Units) (structs : List StructOf) where
  -- nothing changed
  pub coarser_same : (labels : List ℕ) → IsCoarser units structs labels labels
  coarser_same labels = record { size = refl; coarser = λ i j at bt e. e; sound = λ h. h }

  pub coarser_then : (a b c : List ℕ) → IsCoarser units structs a b → IsCoarser units structs b c → IsCoarser units structs a c
  coarser_then a b c h k = let size = h.size in record {
    size = k.size ∙ h.size;
    coarser = λ i j at bt e. k.coarser i j (omega (arith, at, size)) (omega (arith, bt, size)) (h.coarser i j at bt e);
    sound = λ is. k.sound (h.sound is);
  }

  -- what has met stays so
  pub met_stays : (old new : List ℕ) → length old ≡ length structs → IsCoarser units structs old new → (i j : ℕ) → IsMet units structs old i j → IsMet units structs new i j
  met_stays old new size h i j met = λ s z at bt kept.
      let i_in = slice_get_within structs i s at in
      let j_in = slice_get_within structs j z bt in
      h.coarser i j (omega (arith, i_in, size)) (omega (arith, j_in, size)) (met s z at bt kept)

  module _ (labels : List ℕ) (size : length labels ≡ length structs) (first second kept other : ℕ) (at : slice_get labels first ≡ Some kept) (bt : slice_get labels second ≡ Some other) where
    -- two that have one label
    pub met_already : kept ≡ other → HaveMet units structs labels labels first second
    met_already one = record { change = coarser_same labels; met = λ s z a b k. at ∙ ap Some one ∙ sym bt }

    module _ (s z : StructOf) (s_at : slice_get structs first ≡ Some s) (z_at : slice_get structs second ≡ Some z) where
      -- two that differ
      pub met_never : (IsNoDifference units (record { first = s; second = z }) → ⊥) → HaveMet units structs labels labels first second
      met_never differ = record { change = coarser_same labels; met = λ r q a b k. absurd (differ (inr (kept_here r q a b k))) }
        where
          kept_here : (r q : StructOf) → slice_get structs first ≡ Some r → slice_get structs second ≡ Some q → IsKeptPair units (record { first = r; second = q }) → IsKeptPair units (record { first = s; second = z })
          kept_here r q a b k =
              subst (λ x. IsKeptPair units (record { first = x; second = z })) (same_Some r s (sym a ∙ s_at))
              (subst (λ y. IsKeptPair units (record { first = r; second = y })) (same_Some q z (sym b ∙ z_at)) k)

      -- two that are one
      module _ (in_program : All (IsInProgram units) structs) (one : IsNoDifference units (record { first = s; second = z })) (new : List ℕ) (h : IsRelabelled labels new kept other) where
        label_at : (i : ℕ) → i < length labels → slice_get labels i ≡ Some (get_or labels i 0)
        label_at i less = slice_get-get_or labels i 0 less

        coarser : (i j : ℕ) → i < length labels → j < length labels → slice_get labels i ≡ slice_get labels j → slice_get new i ≡ slice_get new j
        coarser i j i_in j_in e =
            let l = get_or labels i 0 in
            h.each i l (label_at i i_in) ∙ sym (h.each j l (sym e ∙ label_at i i_in))

        is_in : (i : ℕ) (x : StructOf) → slice_get structs i ≡ Some x → IsInProgram units x
        is_in i x there = all_read (IsInProgram units) structs i x in_program there

        -- the struct of the one label and that of the other are one
        ends : AreSound units structs labels → (x y : StructOf) → slice_get structs other ≡ Some x → slice_get structs kept ≡ Some y → AreOneStruct units x y
        ends sound x y x_at y_at =
            let a = sound first s s_at in
            let b = sound second z z_at in
            let y_is = same_Some a.0 y (sym a.1.2 ∙ ap (slice_get structs) (same_Some a.1.0 kept (sym a.1.1 ∙ at)) ∙ y_at) in
            let x_is = same_Some b.0 x (sym b.1.2 ∙ ap (slice_get structs) (same_Some b.1.0 other (sym b.1.1 ∙ bt)) ∙ x_at) in
            let to_z = one_turned units (is_in second z z_at) (subst (AreOneStruct units z) x_is b.2) in
            one_then units to_z (one_then units (one_link units z s (is_in first s s_at) (inr one)) (subst (AreOneStruct units s) y_is a.2))

        sound_after : AreSound units structs labels → AreSound units structs new
        sound_after sound i x there =
            let a = sound i x there in
            by a.0 a.1.0 a.1.1 a.1.2 a.2 (nat_eq a.1.0 other) refl
          where
            by : (rep : StructOf) (label : ℕ) → slice_get labels i ≡ Some label → slice_get structs label ≡ Some rep → AreOneStruct units x rep → (b : Bool) → nat_eq label other ≡ b →
                (rep : StructOf) × IsLabelled structs new i rep × AreOneStruct units x rep
            by rep label is rep_at link true e =
                let a = sound first s s_at in
                let kept_at : slice_get structs kept ≡ Some a.0 = ap (slice_get structs) (sym (same_Some a.1.0 kept (sym a.1.1 ∙ at))) ∙ a.1.2 in
                let other_at : slice_get structs other ≡ Some rep = ap (slice_get structs) (sym (eqb-true label other e)) ∙ rep_at in
                (a.0, (kept, h.each i label is ∙ ap (λ b. Some (if b then kept else label)) e, kept_at), one_then units link (ends sound rep a.0 other_at kept_at))
            by rep label is rep_at link false e = (rep, (label, h.each i label is ∙ ap (λ b. Some (if b then kept else label)) e, rep_at), link)

        pub met_now : HaveMet units structs labels new first second
        met_now = record {
          change = record { size = h.size; coarser = coarser; sound = sound_after };
          met = λ r q a b k. h.each first kept at ∙ ap Some (own kept (nat_eq kept other) refl) ∙ sym (h.each second other bt ∙ ap (λ b. Some (if b then kept else other)) (eq-eqb other other refl));
        }
          where
            own : (label : ℕ) (b : Bool) → nat_eq kept other ≡ b → (if nat_eq kept other then kept else kept) ≡ kept
            own label true e = ap (λ b. if b then kept else kept) e
            own label false e = ap (λ b. if b then kept else kept) e

  -- one more before a struct
  pub all_none : (labels : List ℕ) (j : ℕ) → HasMetAll units structs labels labels 0 j
  all_none labels j = record { change = coarser_same labels; met = λ i less. absurd (omega (arith, less)) }

  pub all_more : (a b c : List ℕ) (n j : ℕ) → length a ≡ length structs → HasMetAll units structs a b n j → HaveMet units structs b c n j → HasMetAll units structs a c (n + 1) j
  all_more a b c n j size h k = record {
    change = coarser_then a b c h.change k.change;
    met = λ i less. elim (eq-or-lt_of_le (at_most i less)) [
      | inl last ↦ subst (λ m. IsMet units structs c m j) (sym last) k.met
      | inr before ↦ met_stays b c (h.change.size ∙ size) k.change i j (h.met i before)
    ];
  }
    where
      at_most : (i : ℕ) → i < n + 1 → i ≤ n
      at_most i less = omega arith

  -- labels as far as the structs before a place
  pub record AreLabelsBelow (labels : List ℕ) (n : ℕ) : Type 0 where
    pub size : length labels ≡ length structs
    pub sound : AreSound units structs labels
    pub met : (i j : ℕ) → i < j → j < n → IsMet units structs labels i j

  pub below_own : (labels : List ℕ) → AreOwn (length structs) labels → AreLabelsBelow labels 0
  below_own labels own = record {
    size = own.size;
    sound = λ i s at. (s, (i, own.each i (slice_get_within structs i s at), at), same);
    met = λ i j before less. absurd (omega (arith, less));
  }

  pub below_more : (old new : List ℕ) (n : ℕ) → AreLabelsBelow old n → HasMetAll units structs old new n n → AreLabelsBelow new (n + 1)
  below_more old new n h k = record {
    size = k.change.size ∙ h.size;
    sound = k.change.sound h.sound;
    met = λ i j before less. elim (eq-or-lt_of_le (at_most j less)) [
      | inl last ↦ subst (λ m. IsMet units structs new i m) (sym last) (k.met i (omega (arith, before, last)))
      | inr earlier ↦ met_stays old new h.size k.change i j (h.met i j before earlier)
    ];
  }
    where
      at_most : (j : ℕ) → j < n + 1 → j ≤ n
      at_most j less = omega arith

  pub below_all : (labels : List ℕ) (n : ℕ) → AreDistinct structs → length structs ≤ n → AreLabelsBelow labels n → AreLabels units structs labels
  below_all labels n distinct whole h = record { distinct = distinct; size = h.size; sound = h.sound; met = λ i j before less. h.met i j before (omega (arith, less, whole)) }
