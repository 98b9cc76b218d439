-- Rows of structs that grow, and tags that are filled.
use Rattle.std.proofs.Common.{◌≡◌, ◌∙◌, ◌⊎◌, inl, inr, ◌<◌, ◌≤◌, ◌+◌, ◌++◌, ℕ, zero, suc, Bool, true, false, if◌then◌else◌, List, [], ◌∷◌, Option, Some, None, refl, sym, ap, subst, length, arith, nat_eq}
use Rattle.std.specs.Prelude.{unwrap_or}
use Rattle.std.specs.Option.{option_or, option_and_then}
use Rattle.lk_types.proofs.SizeLemmas.{all_read}
use Rattle.lk_typed.specs.declared.unit.TypedUnit.{TypedUnit}
use Rattle.std.specs.Cmp.Lexicographic.{pointwise}
use Rattle.std.proofs.lemmas.Bool.{false≢true}
use Rattle.std.proofs.lemmas.List.{length-append}
use Rattle.std.proofs.lemmas.Option.{none-some, same_Some, slice_get_within}
use Rattle.std.proofs.Math.Nat.{eq-or-lt_of_le}
use Rattle.std.specs.List.{slice_get}
use Rattle.lk_types.specs.Table.{is_empty}
use Rattle.lk_link.specs.Sources.{Units, IsSource, AreSources, IsStruct, ComesBefore}
use Rattle.lk_link.specs.Structs.{members_in, IsOutside, IsComplete, IsFirstComplete, Becomes, IsRowOf, struct_in}
use Rattle.lk_link.specs.Structs.Becomes.{completed, itself}
use Rattle.lk_link.specs.Tags.{struct_at, IsPutAt, AreFirsts}
use Rattle.lk_link.specs.declared.place.StructOf.{StructOf}
use Rattle.lk_link.proofs.Becoming.{outside_name}
use Rattle.lk_link.proofs.Meeting.{name_is, name_itself}

-- what stands in a list with one more
pub push_cases : {X : Type 0} (xs : List X) (y : X) (i : ℕ) (x : X) → slice_get (xs ++ y ∷ []) i ≡ Some x → (slice_get xs i ≡ Some x) ⊎ ((i ≡ length xs) × (y ≡ x))
push_cases [] y zero x at = inr (refl, same_Some y x at)
push_cases [] y (suc i) x at = absurd (none-some x at)
push_cases (z ∷ xs) y zero x at = inl at
push_cases (z ∷ xs) y (suc i) x at = elim (push_cases xs y i x at) [ inl h ↦ inl h | inr h ↦ inr (ap suc h.0, h.1) ]

pub record IsRowBelow (units : Units) (source number : ℕ) (row : List StructOf) : Type 0 where
  pub long : length row ≡ number
  pub each : (a : ℕ) (r : StructOf) → slice_get row a ≡ Some r → IsStruct units r × Becomes units (struct_in source a) r

pub record AreRowsBelow (units : Units) (source : ℕ) (rows : List (List StructOf)) : Type 0 where
  pub long : length rows ≡ source
  pub each : (s : ℕ) (row : List StructOf) → slice_get rows s ≡ Some row → IsRowOf units s row

module _ (units : Units) where
  pub no_row : (source : ℕ) → IsRowBelow units source 0 []
  no_row source = record { long = refl; each = λ a r at. absurd (none-some r at) }

  pub row_more : (source number : ℕ) (row : List StructOf) (q : StructOf) → IsRowBelow units source number row → IsStruct units q → Becomes units (struct_in source number) q → IsRowBelow units source (number + 1) (row ++ q ∷ [])
  row_more source number row q h known becomes = record {
    long = omega (arith, length-append row (q ∷ []), h.long);
    each = λ a r at. elim (push_cases row q a r at) [
      | inl there ↦ h.each a r there
      | inr last ↦
          let place : number ≡ a = sym h.long ∙ sym last.0 in
          (subst (IsStruct units) last.1 known, subst (λ n. Becomes units (struct_in source n) r) place (subst (Becomes units (struct_in source number)) last.1 becomes))
    ];
  }

  pub row_whole : (source number : ℕ) (row : List StructOf) (unit : TypedUnit) → slice_get units source ≡ Some unit → number ≡ length unit.types.members → IsRowBelow units source number row → IsRowOf units source row
  row_whole source number row unit at count h = record {
    whole = λ other there. h.long ∙ count ∙ ap (λ u. length u.types.members) (same_Some unit other (sym at ∙ there));
    each = h.each;
  }

  -- a struct of a tag stands in a source
  pub complete_within : (u : StructOf) (name : List ℕ) → IsComplete units u name → (unit : TypedUnit) × (slice_get units u.source ≡ Some unit) × (u.number < length unit.structs)
  complete_within u name complete = by (slice_get units u.source) refl
    where
      by : (o : Option TypedUnit) → slice_get units u.source ≡ o → (unit : TypedUnit) × (slice_get units u.source ≡ Some unit) × (u.number < length unit.structs)
      by None is = absurd (none-some (record { tag = Some name; is_outside = true }) (sym (ap (option_and_then (λ unit. slice_get unit.structs u.number)) is) ∙ complete.outside))
      by (Some unit) is =
          (unit, is, slice_get_within unit.structs u.number (record { tag = Some name; is_outside = true }) (sym (ap (option_and_then (λ unit. slice_get unit.structs u.number)) is) ∙ complete.outside))

  pub no_rows : AreRowsBelow units 0 []
  no_rows = record { long = refl; each = λ s row at. absurd (none-some row at) }

  pub rows_more : (source : ℕ) (rows : List (List StructOf)) (row : List StructOf) → AreRowsBelow units source rows → IsRowOf units source row → AreRowsBelow units (source + 1) (rows ++ row ∷ [])
  rows_more source rows row h is = record {
    long = omega (arith, length-append rows (row ∷ []), h.long);
    each = λ s r at. elim (push_cases rows row s r at) [
      | inl there ↦ h.each s r there
      | inr last ↦ subst (λ n. IsRowOf units n r) (sym h.long ∙ sym last.0) (subst (IsRowOf units source) last.1 is)
    ];
  }

  -- before the next struct stand those before this one, and this one
  next_cases : (source number : ℕ) (u : StructOf) → ComesBefore u.source u.number source (number + 1) → ComesBefore u.source u.number source number ⊎ (u ≡ record { source = source; number = number })
  next_cases source number u (inl less) = inl (inl less)
  next_cases source number u (inr same) = elim (eq-or-lt_of_le (at_most same.1)) [
    | inl number_is ↦ inr (λ i. record { source = same.0 i; number = number_is i })
    | inr less ↦ inl (inr (same.0, less))
  ]
    where
      at_most : u.number < number + 1 → u.number ≤ number
      at_most less = omega arith

  module _ (entries : List (List ℕ × StructOf)) (s : StructOf) (h : AreFirsts units entries s.source s.number) where
    -- a struct that completes no tag
    pub firsts_same : ((name : List ℕ) → IsComplete units s name → ⊥) → AreFirsts units entries s.source (s.number + 1)
    firsts_same never = record {
      found = h.found;
      none = λ name none_ u complete before. elim (next_cases s.source s.number u before) [
        | inl earlier ↦ h.none name none_ u complete earlier
        | inr is ↦ never name (subst (λ u. IsComplete units u name) is complete)
      ];
    }

    -- one that completes a tag
    pub firsts_put : (new : List (List ℕ × StructOf)) (name : List ℕ) → IsComplete units s name → IsStruct units s → IsPutAt entries new name s → AreFirsts units new s.source (s.number + 1)
    firsts_put new name complete known put = record {
      found = λ other t at. found other t (struct_at entries other) refl (pointwise nat_eq name other) refl (sym (put other) ∙ at);
      none = λ other none_ u k before. none_at other u k (struct_at entries other) refl (pointwise nat_eq name other) refl (sym (put other) ∙ none_) (next_cases s.source s.number u before);
    }
      where
        found : (other : List ℕ) (t : StructOf) (o : Option StructOf) → struct_at entries other ≡ o → (b : Bool) → pointwise nat_eq name other ≡ b →
            option_or (struct_at entries other) (if pointwise nat_eq name other then Some s else None) ≡ Some t → IsFirstComplete units t other × IsStruct units t
        found other t (Some x) is b same at =
            let e = same_Some x t (sym (ap (λ o. option_or o (if pointwise nat_eq name other then Some s else None)) is) ∙ at) in
            h.found other t (is ∙ ap Some e)
        found other t None is true same at =
            let e = same_Some s t (sym (ap (λ b. if b then Some s else None) same) ∙ sym (ap (λ o. option_or o (if pointwise nat_eq name other then Some s else None)) is) ∙ at) in
            let n = name_is name other same in
            subst (λ t. IsFirstComplete units t other × IsStruct units t) e (
              record {
                complete = subst (IsComplete units s) n complete;
                first = λ u k before. h.none other is u k before;
              },
              known,
            )
        found other t None is false same at = absurd (none-some t (sym (ap (λ b. if b then Some s else None) same) ∙ sym (ap (λ o. option_or o (if pointwise nat_eq name other then Some s else None)) is) ∙ at))

        none_at : (other : List ℕ) (u : StructOf) → IsComplete units u other → (o : Option StructOf) → struct_at entries other ≡ o → (b : Bool) → pointwise nat_eq name other ≡ b →
            option_or (struct_at entries other) (if pointwise nat_eq name other then Some s else None) ≡ None → ComesBefore u.source u.number s.source s.number ⊎ (u ≡ s) → ⊥
        none_at other u k (Some x) is b same none_ cases = none-some x (sym none_ ∙ ap (λ o. option_or o (if pointwise nat_eq name other then Some s else None)) is)
        none_at other u k None is true same none_ cases = none-some s (sym none_ ∙ ap (λ o. option_or o (if pointwise nat_eq name other then Some s else None)) is ∙ ap (λ b. if b then Some s else None) same)
        none_at other u k None is false same none_ (inl before) = h.none other is u k before
        none_at other u k None is false same none_ (inr this) =
            let k' = subst (λ u. IsComplete units u other) this k in
            false≢true (sym same ∙ name_itself name other (outside_name units s name other complete.outside k'.outside))

  pub no_firsts : AreFirsts units [] 0 0
  no_firsts = record {
    found = λ name t at. absurd (none-some t at);
    none = λ name none_ u complete before. never u before;
  }
    where
      never : (u : StructOf) → ComesBefore u.source u.number 0 0 → ⊥
      never u (inl less) = absurd (omega (arith, less))
      never u (inr same) = let less = same.1 in absurd (omega (arith, less))

  -- the structs of a source end
  pub firsts_next : (entries : List (List ℕ × StructOf)) (source number : ℕ) → ((u : StructOf) (name : List ℕ) → u.source ≡ source → IsComplete units u name → u.number < number) → AreFirsts units entries source number → AreFirsts units entries (source + 1) 0
  firsts_next entries source number all h = record {
    found = h.found;
    none = λ name none_ u complete before. h.none name none_ u complete (cases u name complete before);
  }
    where
      cases : (u : StructOf) (name : List ℕ) → IsComplete units u name → ComesBefore u.source u.number (source + 1) 0 → ComesBefore u.source u.number source number
      cases u name complete (inl less) = elim (eq-or-lt_of_le (at_most u less)) [ inl is ↦ inr (is, all u name is complete) | inr less ↦ inl less ]
        where
          at_most : (u : StructOf) → u.source < source + 1 → u.source ≤ source
          at_most u less = omega arith
      cases u name complete (inr same) = let less = same.1 in absurd (omega (arith, less))

  module _ (entries : List (List ℕ × StructOf)) (count : ℕ) (h : AreFirsts units entries count 0) (all : (u : StructOf) (name : List ℕ) → IsComplete units u name → u.source < count) (s : StructOf) where
    -- a complete struct, and one without a tag at file scope, are themselves
    pub becomes_closed : is_empty (members_in units s) ≡ false → Becomes units s s
    becomes_closed closed = itself (λ t k. false≢true (sym closed ∙ k.incomplete))

    pub becomes_inside : ((name : List ℕ) → IsOutside units s name → ⊥) → Becomes units s s
    becomes_inside never = itself (λ t k. never k.name k.outside)

    pub becomes_found : (name : List ℕ) (t : StructOf) → is_empty (members_in units s) ≡ true → IsOutside units s name → struct_at entries name ≡ Some t → Becomes units s t
    becomes_found name t open_ outside at = completed (record { name = name; outside = outside; incomplete = open_; by = (h.found name t at).0 })

    pub becomes_left : (name : List ℕ) → IsOutside units s name → struct_at entries name ≡ None → Becomes units s s
    becomes_left name outside none_ =
        itself (λ t k. h.none name none_ t (subst (IsComplete units t) (outside_name units s k.name name k.outside outside) k.by.complete) (inl (all t k.name k.by.complete)))

    pub becomes_by : (name : List ℕ) (o : Option StructOf) → o ≡ struct_at entries name → is_empty (members_in units s) ≡ true → IsOutside units s name → IsStruct units s → Becomes units s (unwrap_or o s) × IsStruct units (unwrap_or o s)
    becomes_by name (Some t) is open_ outside known = (becomes_found name t open_ outside (sym is), (h.found name t (sym is)).1)
    becomes_by name None is open_ outside known = (becomes_left name outside (sym is), known)

  -- where a source ends
  pub source_ends : AreSources units → (source number : ℕ) (unit : TypedUnit) → slice_get units source ≡ Some unit → number ≡ length unit.types.members → (u : StructOf) (name : List ℕ) → u.source ≡ source → IsComplete units u name → u.number < number
  source_ends sources source number unit at count u name here complete =
      let within = complete_within u name complete in
      let same = same_Some within.0 unit (sym within.1 ∙ ap (slice_get units) here ∙ at) in
      let less = subst (λ x. u.number < length x.structs) same within.2 in
      let tags = (all_read IsSource units source unit sources at).tags in
      omega (arith, less, tags, count)

  pub in_sources : (u : StructOf) (name : List ℕ) → IsComplete units u name → u.source < length units
  in_sources u name complete = let within = complete_within u name complete in slice_get_within units u.source within.0 within.1
