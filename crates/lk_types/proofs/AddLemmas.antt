-- What is kept stays true when a type is added.
use Rattle.std.proofs.Common.{◌≡◌, ◌∙◌, ◌≤◌, ◌<◌, ◌⊎◌, inl, inr, ℕ, zero, suc, Bool, true, false, List, [], ◌∷◌, ◌++◌, length, map, refl, sym, ap, subst, arith, All, Option, Some, None, length-append}
use Rattle.std.specs.List.{slice_get}
use Rattle.std.specs.Option.{option_map}
use Rattle.std.specs.Prelude.{unwrap_or, ◌||◌}
use Rattle.std.proofs.lemmas.Bool.{false≢true}
use Rattle.std.proofs.lemmas.List.{length-map}
use Rattle.std.proofs.lemmas.List.Elements.{All-head, All-tail, All-weaker}
use Rattle.std.proofs.lemmas.Option.{none-some, same_Some, slice_get-map, slice_get_within, some_pair_parts}
use Rattle.lk_types.specs.Building.{IsTable, IsType, IsLonger, IsClosed, IsClosedForm, IsMadeOf, IsForm, IsPassed, IsAdded, ArePartsOf, types_of}
use Rattle.lk_types.specs.Forms.{AreApart, IsAbsent}
use Rattle.lk_types.specs.Kept.{table_of, AreKept, kept_size, size_by, HasKey, key_form, key_of}
use Rattle.lk_types.specs.Sizes.{size_at, form_size, is_over}
use Rattle.lk_types.specs.Table.{Table, type_at, least_of, members_of, fields_of, struct_of, IsKnown}
use Rattle.lk_types.specs.Walks.{target, element, branches, holds, holds_within, holds_struct, has_tag, is_void}
use Rattle.lk_types.specs.declared.c_type.CType.{CType}
use Rattle.lk_types.specs.declared.c_type.CType.TheVariants.{Void, Int, ThreadId, Mutex, Cond, Pointer, Array, Struct, Function, Opaque}
use Rattle.lk_types.specs.declared.facts.StructEntry.{StructEntry}
use Rattle.lk_types.specs.declared.facts.TypeFacts.{TypeFacts}
use Rattle.lk_types.proofs.AlikeLemmas.{AreKeys, is_least, alike_iff}
use Rattle.lk_types.proofs.ClosedLemmas.{closed_complete, closed_members}
use Rattle.lk_types.proofs.Entries.{OfParts}
use Rattle.lk_types.proofs.Fuel.{size_at_is}
use Rattle.lk_types.proofs.GrowLemmas.{IsOwn, IsOfKnown, branches_by, form_size_by, type_from, type_grown, size_same, holds_struct_same, holds_agree, known_same, type_same, least_same, get_before}
use Rattle.lk_types.proofs.KeptLemmas.{known_got, members_got}
use Rattle.lk_types.proofs.OrderLemmas.{ordered_added, pushed}
use Rattle.lk_types.proofs.PartLemmas.{of_fields, no_parts, one_part, target_type}
use Rattle.lk_types.proofs.RestLemmas.{sized_grown}
use Rattle.lk_types.proofs.SizeLemmas.{struct_form_size}

map-push : {X Y : Type 0} (f : X → Y) (xs : List X) (x : X) → map f (xs ++ x ∷ []) ≡ map f xs ++ f x ∷ []
map-push f [] x = refl
map-push f (y ∷ xs) x = ap (λ ys. f y ∷ ys) (map-push f xs x)

pub last_got : {X : Type 0} (xs : List X) (x : X) → slice_get (xs ++ x ∷ []) (length xs) ≡ Some x
last_got [] x = refl
last_got (y ∷ xs) x = last_got xs x

-- a type that holds no struct is no incomplete struct
closed_form : (below : ℕ → Bool) (table : Table) (form : CType) → holds below form ≡ false → IsClosedForm table form
closed_form below table Void none = tt
closed_form below table (Int kind) none = tt
closed_form below table ThreadId none = tt
closed_form below table Mutex none = tt
closed_form below table Cond none = tt
closed_form below table (Pointer t) none = tt
closed_form below table (Array t n) none = tt
closed_form below table (Struct s) none = absurd (false≢true (sym none))
closed_form below table (Function result params dots) none = tt
closed_form below table (Opaque n) none = tt

pub closed_plain : (table : Table) (t : ℕ) → holds_struct table t ≡ false → IsClosed table t
unfolding holds_within
closed_plain table t none = closed_form (holds_within t table) table (type_at table t) none

or-false : (a b : Bool) → (a || b) ≡ false → b ≡ false
or-false true b is = absurd (false≢true (sym is))
or-false false b is = is

-- what is known of a struct's members
abbrev pub AreMembersClosed : Table → Type 0
AreMembersClosed table = (s : ℕ) → s < length table.members → All (λ u. IsKnown table u × IsClosed table u) (types_of (members_of table s))

target_tag_of : (table : Table) (u : ℕ) → (target table u).tag ≡ false → has_tag table u ≡ false
target_tag_of table u plain = of (has_tag table u) refl plain
  where
    of : (b : Bool) → has_tag table u ≡ b → (target table u).tag ≡ false → b ≡ false
    of true is plain = rw is at plain
    of false is plain = refl

-- the parts of a form that may be put are known and no incomplete structs
pub parts_of_form : (table : Table) → AreMembersClosed table → (form : CType) → IsForm table form → OfParts (λ u. IsKnown table u × IsClosed table u) (branches table form)
parts_of_form table closed Void ok = no_parts (λ u. IsKnown table u × IsClosed table u)
parts_of_form table closed (Int kind) ok = no_parts (λ u. IsKnown table u × IsClosed table u)
parts_of_form table closed ThreadId ok = no_parts (λ u. IsKnown table u × IsClosed table u)
parts_of_form table closed Mutex ok = no_parts (λ u. IsKnown table u × IsClosed table u)
parts_of_form table closed Cond ok = no_parts (λ u. IsKnown table u × IsClosed table u)
parts_of_form table closed (Pointer u) ok = one_part (λ u. IsKnown table u × IsClosed table u) (target table u)
    (λ plain. subst (λ v. IsKnown table v × IsClosed table v) (sym (target_type table u plain))
    (ok, closed_plain table u (or-false (is_void (type_at table u)) (holds_struct table u) (target_tag_of table u plain))))
parts_of_form table closed (Array u n) ok = one_part (λ u. IsKnown table u × IsClosed table u) (element u) (λ plain. (ok.known, closed_complete table u ok.complete))
parts_of_form table closed (Struct s) ok = of_fields (λ u. IsKnown table u × IsClosed table u) (fields_of table (Struct s)) 0 (closed s ok)
parts_of_form table closed (Function result params dots) ok =
    of_fields (λ u. IsKnown table u × IsClosed table u) (result ∷ params) 0
    (All-weaker (IsPassed table) (λ u. IsKnown table u × IsClosed table u) (λ u passed. (passed.known, closed_plain table u passed.no_struct)) (result ∷ params) ok)
parts_of_form table closed (Opaque n) ok = no_parts (λ u. IsKnown table u × IsClosed table u)

-- what a form is made of stands before it
pub made_of_form : (old new : Table) → length old.types ≤ length new.types → new.members ≡ old.members → AreMembersClosed old → (form : CType) → IsForm old form → IsMadeOf new (length old.types) form
made_of_form old new more same closed Void ok = tt
made_of_form old new more same closed (Int kind) ok = tt
made_of_form old new more same closed ThreadId ok = tt
made_of_form old new more same closed Mutex ok = tt
made_of_form old new more same closed Cond ok = tt
made_of_form old new more same closed (Pointer u) ok = ok
made_of_form old new more same closed (Array u n) ok = ok.known
made_of_form old new more same closed (Struct s) ok = (
  subst (λ ms. s < length ms) (sym same) ok,
  subst (λ ms. All (IsKnown new) (types_of (unwrap_or (slice_get ms s) []))) (sym same)
      (All-weaker (λ u. IsKnown old u × IsClosed old u) (IsKnown new) (λ u h. let k = h.0 in omega arith) (types_of (members_of old s)) (closed s ok)),
)
made_of_form old new more same closed (Function result params dots) ok = All-weaker (IsPassed old) (λ u. u < length old.types) (λ u passed. passed.known) (result ∷ params) ok
made_of_form old new more same closed (Opaque n) ok = tt

-- keys are the same by two functions that agree on what a form is made of
map_agree : (f g : ℕ → ℕ) (P : ℕ → Type 0) → ((u : ℕ) → P u → f u ≡ g u) → (us : List ℕ) → All P us → map f us ≡ map g us
map_agree f g P agree [] all = refl
map_agree f g P agree (u ∷ us) all = ap (λ v. v ∷ map f us) (agree u (All-head P u us all)) ∙ ap (λ vs. g u ∷ vs) (map_agree f g P agree us (All-tail P u us all))

pub key_agree : (f g : ℕ → ℕ) (table : Table) (t : ℕ) (form : CType) → IsMadeOf table t form → ((u : ℕ) → u < t → f u ≡ g u) → key_form f form ≡ key_form g form
key_agree f g table t Void made agree = refl
key_agree f g table t (Int kind) made agree = refl
key_agree f g table t ThreadId made agree = refl
key_agree f g table t Mutex made agree = refl
key_agree f g table t Cond made agree = refl
key_agree f g table t (Pointer u) made agree = ap Pointer (agree u made)
key_agree f g table t (Array u n) made agree = ap (λ v. Array v 0) (agree u made)
key_agree f g table t (Struct s) made agree = refl
key_agree f g table t (Function result params dots) made agree =
    ap (λ v. Function v (map f params) dots) (agree result (All-head (λ u. u < t) result params made)) ∙
    ap (λ vs. Function (g result) vs dots) (map_agree f g (λ u. u < t) agree params (All-tail (λ u. u < t) result params made))
key_agree f g table t (Opaque n) made agree = refl

-- how deep is looked into arrays doesn't count, where elements have lesser numbers
pub holds_depth : (table : Table) → ((t : ℕ) → IsKnown table t → IsMadeOf table t (type_at table t)) → (d e t : ℕ) → IsKnown table t → t < d → t < e → holds_within d table t ≡ holds_within e table t
unfolding holds_within
holds_depth table made zero e t known low low' = absurd (omega arith)
holds_depth table made (suc d) zero t known low low' = absurd (omega arith)
holds_depth table made (suc d) (suc e) t known low low' =
    holds_agree (holds_within d table) (holds_within e table) table t (type_at table t) (made t known) (λ u less. holds_depth table made d e u (omega arith) (omega arith) (omega arith))

holds_suc : (table : Table) (t : ℕ) → holds_struct table t ≡ holds (holds_within t table) (type_at table t)
unfolding holds_within
holds_suc table t = refl

module _ (types : List (CType × TypeFacts)) (classes : List (CType × ℕ)) (structs : List StructEntry) (parts : List ℕ) (kept : AreKept types classes structs (table_of types structs parts))
    (c : CType) (fact : TypeFacts) (absent : (t : ℕ) → slice_get (table_of types structs parts).types t ≡ Some c → ⊥) (ok : IsForm (table_of types structs parts) c)
    (small : is_over (form_size (table_of types structs parts) c) ≡ false) where
  abbrev old : Table
  old = table_of types structs parts

  abbrev pub types' : List (CType × TypeFacts)
  types' = types ++ (c, fact) ∷ []

  abbrev new : Table
  new = table_of types' structs parts

  good : IsTable old
  good = kept.table_is

  forms_are : new.types ≡ old.types ++ c ∷ []
  forms_are = map-push (λ entry. entry.0) types (c, fact)

  leasts_are : new.least ≡ old.least ++ fact.least ∷ []
  leasts_are = map-push (λ entry. entry.1.least) types (c, fact)

  pub added_longer : IsLonger old new
  added_longer = record { types = (c ∷ [], forms_are); least = (fact.least ∷ [], leasts_are); structs = omega arith; members = λ s shut. refl }

  count_is : length old.types ≡ length types
  count_is = length-map types (λ entry. entry.0)

  new_count : length new.types ≡ suc (length types)
  new_count = omega (arith, length-map types' (λ entry. entry.0), length-append types ((c, fact) ∷ []))

  own : (form : CType) → IsOwn old new good added_longer form
  own form s is = refl

  -- a type of the new table is an old one, or the new one
  known_or : (t : ℕ) → IsKnown new t → IsKnown old t ⊎ (t ≡ length types)
  known_or t known = or (within_or t (length types))
    where
      within_or : (s n : ℕ) → (s < n) ⊎ (n ≤ s)
      within_or s zero = inr (omega arith)
      within_or zero (suc n) = inl (omega arith)
      within_or (suc s) (suc n) = elim (within_or s n) [ inl h ↦ inl (omega arith) | inr h ↦ inr (omega arith) ]

      or : (t < length types) ⊎ (length types ≤ t) → IsKnown old t ⊎ (t ≡ length types)
      or (inl h) = inl (omega (arith, count_is, h))
      or (inr h) = inr (omega (arith, new_count, known, h))

  new_form : slice_get new.types (length types) ≡ Some c
  new_form = slice_get-map (λ entry. entry.0) types' (length types) ∙ ap (option_map (λ entry. entry.0)) (last_got types (c, fact))

  new_type : type_at new (length types) ≡ c
  new_type = ap (λ o. unwrap_or o Void) new_form

  new_least : least_of new (length types) ≡ fact.least
  new_least = ap (λ o. unwrap_or o (length types)) (slice_get-map (λ entry. entry.1.least) types' (length types) ∙ ap (option_map (λ entry. entry.1.least)) (last_got types (c, fact)))

  members_closed : AreMembersClosed old
  members_closed s within = of (slice_get structs s) refl
    where
      of : (o : Option StructEntry) → slice_get structs s ≡ o → All (λ u. IsKnown old u × IsClosed old u) (types_of (members_of old s))
      of None is = absurd (none_within structs s is (omega (arith, within, length-map structs (λ entry. entry.members))))
        where
          none_within : (ss : List StructEntry) (k : ℕ) → slice_get ss k ≡ None → k < length ss → ⊥
          none_within [] k is within = omega arith
          none_within (x ∷ ss) zero is within = none-some x (sym is)
          none_within (x ∷ ss) (suc k) is within = none_within ss k is (omega arith)
      of (Some entry) is = subst (λ ms. All (λ u. IsKnown old u × IsClosed old u) (types_of ms)) (sym (members_got types structs parts s entry is)) (closed_members old (types_of entry.members) (kept.structs_sized s entry is).parts)

  new_parts : OfParts (λ u. IsKnown old u × IsClosed old u) (branches old c)
  new_parts = parts_of_form old members_closed c ok

  new_made : IsMadeOf new (length types) c
  new_made = subst (λ n. IsMadeOf new n c) count_is (made_of_form old new (omega (arith, new_count, count_is)) refl members_closed c ok)

  of_known : IsOfKnown old new good added_longer c
  of_known u is = subst (IsForm old) is ok

  new_branches : branches new c ≡ branches old c
  new_branches = branches_by old new good added_longer c of_known (own c)

  new_is_type : IsType new (length types)
  new_is_type = type_from old new good added_longer (length types) c new_type new_made ok new_branches new_parts small

  types_are : (t : ℕ) → IsKnown new t → IsType new t
  types_are t known = elim (known_or t known) [
    | inl h ↦ type_grown old new good added_longer t h (own (type_at old t))
    | inr h ↦ subst (IsType new) (sym h) new_is_type
  ]

  different_are : (t u : ℕ) (form : CType) → slice_get new.types t ≡ Some form → slice_get new.types u ≡ Some form → t ≡ u
  different_are t u form at at' = of (pushed old.types c form t (sym (ap (λ fs. slice_get fs t) forms_are) ∙ at)) (pushed old.types c form u (sym (ap (λ fs. slice_get fs u) forms_are) ∙ at'))
    where
      of : (slice_get old.types t ≡ Some form) ⊎ ((t ≡ length old.types) × (form ≡ c)) → (slice_get old.types u ≡ Some form) ⊎ ((u ≡ length old.types) × (form ≡ c)) → t ≡ u
      of (inl a) (inl b) = good.different t u form a b
      of (inl a) (inr b) = absurd (absent t (a ∙ ap Some b.1))
      of (inr a) (inl b) = absurd (absent u (b ∙ ap Some a.1))
      of (inr a) (inr b) = a.0 ∙ sym b.0

  -- keys of the old types
  key_same : (t : ℕ) → IsKnown old t → key_of new t ≡ key_of old t
  key_same t known =
      ap (key_form (least_of new)) (type_same old new good added_longer t known) ∙
      key_agree (least_of new) (least_of old) old t (type_at old t) (good.types t known).made_of (λ u less. least_same old new good added_longer u (omega arith))

  new_key : key_of new (length types) ≡ key_form (least_of old) c
  new_key =
      ap (key_form (least_of new)) new_type ∙
      key_agree (least_of new) (least_of old) new (length types) c new_made (λ u less. least_same old new good added_longer u (omega (arith, less, count_is)))

  module _ (classes' : List (CType × ℕ)) (apart : AreApart classes') (there : HasKey classes' (key_form (least_of old) c) fact.least)
      (from : (place : ℕ) (k : CType) (v : ℕ) → slice_get classes' place ≡ Some (k, v) → (slice_get classes place ≡ Some (k, v)) ⊎ ((k ≡ key_form (least_of old) c) × (v ≡ length types)))
      (stay : (k : CType) (v : ℕ) → HasKey classes k v → HasKey classes' k v) (low : fact.least ≤ length types) where
    keyed' : (t : ℕ) → IsKnown new t → HasKey classes' (key_of new t) (least_of new t)
    keyed' t known = elim (known_or t known) [
      | inl h ↦ subst (λ k. HasKey classes' k (least_of new t)) (sym (key_same t h)) (subst (HasKey classes' (key_of old t)) (sym (least_same old new good added_longer t h)) (stay (key_of old t) (least_of old t) (kept.keyed t h)))
      | inr h ↦ subst (λ n. HasKey classes' (key_of new n) (least_of new n)) (sym h)
          (subst (λ k. HasKey classes' k (least_of new (length types))) (sym new_key) (subst (HasKey classes' (key_form (least_of old) c)) (sym new_least) there))
    ]

    keys' : (place : ℕ) (key : CType) (t : ℕ) → slice_get classes' place ≡ Some (key, t) → IsKnown new t × (key_of new t ≡ key)
    keys' place key t at = elim (from place key t at) [
      | inl h ↦ let k = kept.keys place key t h in (known_same old new good added_longer t k.0, key_same t k.0 ∙ k.1)
      | inr h ↦ (omega (arith, new_count, h.1), ap (key_of new) h.1 ∙ new_key ∙ sym h.0)
    ]

    lesser' : (t : ℕ) → IsKnown new t → least_of new t ≤ t
    lesser' t known = elim (known_or t known) [
      | inl h ↦ let l = kept.lesser t h in let e = least_same old new good added_longer t h in omega arith
      | inr h ↦ omega (arith, low, h, ap (least_of new) h, new_least)
    ]

    are_keys : AreKeys new
    are_keys = record {
      made = λ t known. (types_are t known).made_of;
      different = different_are;
      shared = λ t known. let at = keyed' t known in (keys' at.0 (key_of new t) (least_of new t) at.1).1;
      decides = λ t u known known' same.
          let a = keyed' t known in
          let b = keyed' u known' in
          let place = apart (key_of new t) a.0 b.0 (least_of new t) (least_of new u) a.1 (subst (λ k. slice_get classes' b.0 ≡ Some (k, least_of new u)) (sym same) b.1) in
          (some_pair_parts (key_of new t) (key_of new u) (least_of new t) (least_of new u) (sym a.1 ∙ ap (slice_get classes') place ∙ b.1)).1;
      lesser = lesser';
    }

    new_good : IsTable new
    new_good = record {
      types = types_are;
      different = different_are;
      leasts = omega (arith, length-map types' (λ entry. entry.0), length-map types' (λ entry. entry.1.least));
      least = is_least new are_keys;
      alike = alike_iff new are_keys;
    }

    parts_are' : ArePartsOf new parts
    parts_are' = record {
      each = λ k d within. let part = kept.parts_are.each k d within in record {
        known = known_same old new good added_longer _ part.known;
        no_void = ap is_void (type_same old new good added_longer _ part.known) ∙ part.no_void;
        least = least_same old new good added_longer _ part.known ∙ part.least;
      };
      different = kept.parts_are.different;
    }

    module _ (size : fact.size ≡ form_size old c) (holding : fact.holds_struct ≡ holds (holds_struct old) c) (room : length types < 4294967295) where
      new_holds : holds_struct new (length types) ≡ holds (holds_struct old) c
      new_holds =
          holds_suc new (length types) ∙ ap (holds (holds_within (length types) new)) new_type ∙
          holds_agree (holds_within (length types) new) (holds_struct old) new (length types) c new_made
          (λ u less. let known : IsKnown old u = omega (arith, less, count_is) in
          holds_depth new (λ t k. (types_are t k).made_of) (length types) (suc u) u (known_same old new good added_longer u known) less (omega arith) ∙ holds_struct_same old new good added_longer u known)

      new_size : kept_size structs c fact ≡ Some (size_at new (length types))
      new_size = of (struct_of c) refl ∙ ap Some (sym (form_size_by old new good added_longer c new_branches new_parts) ∙ ap (form_size new) (sym new_type) ∙ sym (size_at_is new (length types) new_is_type.small))
        where
          struct_is : (form : CType) (s : ℕ) → struct_of form ≡ Some s → form ≡ Struct s
          struct_is Void s is = absurd (none-some s is)
          struct_is (Int kind) s is = absurd (none-some s is)
          struct_is ThreadId s is = absurd (none-some s is)
          struct_is Mutex s is = absurd (none-some s is)
          struct_is Cond s is = absurd (none-some s is)
          struct_is (Pointer t) s is = absurd (none-some s is)
          struct_is (Array t n) s is = absurd (none-some s is)
          struct_is (Struct r) s is = ap Struct (same_Some r s is)
          struct_is (Function result params dots) s is = absurd (none-some s is)
          struct_is (Opaque n) s is = absurd (none-some s is)

          entry_of : (s : ℕ) → s < length structs → (entry : StructEntry) × (slice_get structs s ≡ Some entry)
          entry_of s within = got structs s within
            where
              got : (ss : List StructEntry) (k : ℕ) → k < length ss → (entry : StructEntry) × (slice_get ss k ≡ Some entry)
              got [] k within = absurd (omega arith)
              got (x ∷ ss) zero within = (x, refl)
              got (x ∷ ss) (suc k) within = got ss k (omega arith)

          of : (o : Option ℕ) → struct_of c ≡ o → kept_size structs c fact ≡ Some (form_size old c)
          of None is = ap (size_by structs fact) is ∙ ap Some size
          of (Some s) is =
              let form = struct_is c s is in
              let known : s < length old.members = subst (IsForm old) form ok in
              let got = entry_of s (omega (arith, known, length-map structs (λ entry. entry.members))) in
              ap (size_by structs fact) is ∙ ap (option_map (λ entry. entry.size)) got.1 ∙ ap Some (struct_form_size types classes structs parts kept s got.0 got.1 ∙ ap (form_size old) (sym form))

      pub kept_added : AreKept types' classes' structs new
      kept_added = record {
        table_is = new_good;
        few_types = omega (arith, room, length-append types ((c, fact) ∷ []));
        few_structs = kept.few_structs;
        parts_are = parts_are';
        holding = λ t form f at. elim (pushed types (c, fact) (form, f) t at) [
          | inl h ↦ kept.holding t form f h ∙ sym (holds_struct_same old new good added_longer t (known_got types structs parts t form f h))
          | inr h ↦ let p = some_pair_parts form c f fact (ap Some h.1) in ap (λ g. g.holds_struct) p.1 ∙ holding ∙ sym new_holds ∙ ap (holds_struct new) (sym h.0)
        ];
        sized = λ t form f at. elim (pushed types (c, fact) (form, f) t at) [
          | inl h ↦ let known = known_got types structs parts t form f h in kept.sized t form f h ∙ ap Some (sym (size_same old new good added_longer t known (own (type_at old t))))
          | inr h ↦ let p = some_pair_parts form c f fact (ap Some h.1) in ap (λ g. kept_size structs g f) p.0 ∙ ap (kept_size structs c) p.1 ∙ new_size ∙ ap (λ n. Some (size_at new n)) (sym h.0)
        ];
        structs_sized = λ s entry at. sized_grown old new good added_longer entry (kept.structs_sized s entry at);
        keyed = keyed';
        keys = keys';
        lesser = lesser';
        ordered = ordered_added old new c forms_are refl good ok kept.ordered (λ t form at. slice_get_within old.types t form at);
      }

apart_pushed : (classes : List (CType × ℕ)) (key : CType) (n : ℕ) → AreApart classes → IsAbsent classes key → AreApart (classes ++ (key, n) ∷ [])
apart_pushed classes key n apart absent form i j v w at at' = of (pushed classes (key, n) (form, v) i at) (pushed classes (key, n) (form, w) j at')
  where
    of : (slice_get classes i ≡ Some (form, v)) ⊎ ((i ≡ length classes) × ◌≡◌ {A = CType × ℕ} (form, v) (key, n)) → (slice_get classes j ≡ Some (form, w)) ⊎ ((j ≡ length classes) × ◌≡◌ {A = CType × ℕ} (form, w) (key, n)) → i ≡ j
    of (inl a) (inl b) = apart form i j v w a b
    of (inl a) (inr b) = absurd (absent i v (subst (λ k. slice_get classes i ≡ Some (k, v)) (some_pair_parts form key w n (ap Some b.1)).0 a))
    of (inr a) (inl b) = absurd (absent j w (subst (λ k. slice_get classes j ≡ Some (k, w)) (some_pair_parts form key v n (ap Some a.1)).0 b))
    of (inr a) (inr b) = a.0 ∙ sym b.0

-- what is asked of a form that is added, with what is kept of it
pub record IsAddable (now : Table) (c : CType) (fact : TypeFacts) (key : CType) : Type 0 where
  pub absent : (t : ℕ) → slice_get now.types t ≡ Some c → ⊥
  pub form : IsForm now c
  pub small : is_over (form_size now c) ≡ false
  pub room : length now.types < 4294967295
  pub key_is : key ≡ key_form (least_of now) c
  pub size : fact.size ≡ form_size now c
  pub holding : fact.holds_struct ≡ holds (holds_struct now) c

module _ (types : List (CType × TypeFacts)) (classes : List (CType × ℕ)) (structs : List StructEntry) (parts : List ℕ) (kept : AreKept types classes structs (table_of types structs parts))
    (c : CType) (fact : TypeFacts) (key : CType) (apart : AreApart classes) where
  found_in : IsAddable (table_of types structs parts) c fact key → (place : ℕ) → slice_get classes place ≡ Some (key, fact.least) →
      AreKept (types ++ (c, fact) ∷ []) classes structs (table_of (types ++ (c, fact) ∷ []) structs parts)
  found_in ok place at =
      let there : HasKey classes (key_form (least_of (table_of types structs parts)) c) fact.least = (place, subst (λ k. slice_get classes place ≡ Some (k, fact.least)) ok.key_is at) in
      kept_added types classes structs parts kept c fact ok.absent ok.form ok.small classes apart there (λ p k v h. inl h) (λ k v h. h)
      (let known = (kept.keys place key fact.least at).0 in omega (arith, known, length-map types (λ entry. entry.0)))
      ok.size ok.holding (omega (arith, ok.room, length-map types (λ entry. entry.0)))

  pub added_found : (now : Table) → table_of types structs parts ≡ now → IsAddable now c fact key → (place : ℕ) → slice_get classes place ≡ Some (key, fact.least) →
      (later : List (CType × TypeFacts)) → later ≡ types ++ (c, fact) ∷ [] → AreKept later classes structs (table_of later structs parts)
  added_found now view ok place at later is =
      subst (λ ts. AreKept ts classes structs (table_of ts structs parts)) (sym is) (found_in (subst (λ table. IsAddable table c fact key) (sym view) ok) place at)

  fresh_in : IsAddable (table_of types structs parts) c fact key → IsAbsent classes key → fact.least ≡ length types →
      AreKept (types ++ (c, fact) ∷ []) (classes ++ (key, length types) ∷ []) structs (table_of (types ++ (c, fact) ∷ []) structs parts)
  fresh_in ok absent least =
      let old = table_of types structs parts in
      let there : HasKey (classes ++ (key, length types) ∷ []) (key_form (least_of old) c) fact.least =
      (length classes, last_got classes (key, length types) ∙ ap (λ k. Some (k, length types)) ok.key_is ∙ ap (λ n. Some (key_form (least_of old) c, n)) (sym least)) in
      kept_added types classes structs parts kept c fact ok.absent ok.form ok.small (classes ++ (key, length types) ∷ []) (apart_pushed classes key (length types) apart absent) there
      (λ p k v h. elim (pushed classes (key, length types) (k, v) p h) [
        | inl a ↦ inl a
        | inr b ↦ let q = some_pair_parts k key v (length types) (ap Some b.1) in inr (q.0 ∙ ok.key_is, q.1)
      ])
      (λ k v h. (h.0, get_before classes ((key, length types) ∷ []) h.0 (slice_get_within classes h.0 (k, v) h.1) ∙ h.1))
      (omega (arith, least))
      ok.size ok.holding (omega (arith, ok.room, length-map types (λ entry. entry.0)))

  pub added_fresh : (now : Table) → table_of types structs parts ≡ now → IsAddable now c fact key → IsAbsent classes key → (n : ℕ) → n ≡ length types → fact.least ≡ n →
      (later : List (CType × TypeFacts)) → later ≡ types ++ (c, fact) ∷ [] → (classes' : List (CType × ℕ)) → classes' ≡ classes ++ (key, n) ∷ [] →
      AreKept later classes' structs (table_of later structs parts)
  added_fresh now view ok absent n count least later is classes' is' =
      subst (λ ts. AreKept ts classes' structs (table_of ts structs parts)) (sym is)
      (subst (λ cs. AreKept (types ++ (c, fact) ∷ []) cs structs (table_of (types ++ (c, fact) ∷ []) structs parts)) (sym (is' ∙ ap (λ m. classes ++ (key, m) ∷ []) count))
      (fresh_in (subst (λ table. IsAddable table c fact key) (sym view) ok) absent (least ∙ count)))

-- the entry at a place that has a key
pub entry_at_key : (classes : List (CType × ℕ)) (key k : CType) (v w place : ℕ) → slice_get classes place ≡ Some (key, v) → slice_get classes place ≡ Some (k, w) → slice_get classes place ≡ Some (key, w)
entry_at_key classes key k v w place at at' = at ∙ ap (λ u. Some (key, u)) (some_pair_parts key k v w (sym at ∙ at')).1

-- a form of the table stands with what is kept of it
pub kept_of : (types : List (CType × TypeFacts)) (t : ℕ) (form : CType) → slice_get (map (λ entry. entry.0) types) t ≡ Some form → (fact : TypeFacts) × (slice_get types t ≡ Some (form, fact))
kept_of [] t form at = absurd (none-some form at)
kept_of (x ∷ types) zero form at = (x.1, ap (λ f. Some (f, x.1)) (same_Some x.0 form at))
kept_of (x ∷ types) (suc t) form at = kept_of types t form at

pub absent_from : (types : List (CType × TypeFacts)) (structs : List StructEntry) (parts : List ℕ) (now : Table) → table_of types structs parts ≡ now → (form : CType) → IsAbsent types form →
    (t : ℕ) → slice_get now.types t ≡ Some form → ⊥
absent_from types structs parts now view form absent t at =
    let found = kept_of types t form (subst (λ table. slice_get table.types t ≡ Some form) (sym view) at) in absent t found.0 found.1

-- the new form stands at its number
pub added_there : (old new : Table) (form : CType) (t : ℕ) → t ≡ length old.types → IsAdded old new form → slice_get new.types t ≡ Some form
added_there old new form t is added = ap (slice_get new.types) is ∙ ap (λ fs. slice_get fs (length old.types)) added.types ∙ last_got old.types form
