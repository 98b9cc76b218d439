-- The order in which types came, while a table grows.
use Rattle.std.proofs.Common.{◌≡◌, ◌∙◌, ◌≤◌, ◌<◌, ◌⊎◌, inl, inr, ℕ, zero, suc, true, false, List, [], ◌∷◌, ◌++◌, All, Some, length, length-append, refl, sym, ap, subst, arith}
use Rattle.std.specs.List.{slice_get}
use Rattle.std.specs.Prelude.{nat_eq, unwrap_or, if◌then◌else◌}
use Rattle.std.proofs.lemmas.Bool.{cases_eq, cases_lt, eq-eqb, false≢true, ne_eqb, not-true}
use Rattle.std.proofs.lemmas.List.Elements.{All-map, All-weaker}
use Rattle.std.proofs.lemmas.Option.{none-some, same_Some, slice_get_past}
use Rattle.lk_types.specs.Building.{IsTable, IsClosed, IsClosedForm, IsForm, IsPartOfObjects, HasSizedStructs, CanComplete, types_of}
use Rattle.lk_types.specs.Order.{IsDoneBy, AreDone, IsOrdered}
use Rattle.lk_types.specs.Table.{Table, members_of, is_open, is_empty, is_complete, is_complete_form, IsKnown}
use Rattle.lk_types.specs.declared.c_type.CType.{CType}
use Rattle.lk_types.specs.declared.c_type.CType.TheVariants.{Void, Array, Struct}
use Rattle.lk_types.specs.declared.member.StructMember.{StructMember}
use Rattle.lk_types.proofs.ClosedLemmas.{closed_complete}
use Rattle.lk_types.proofs.GrowLemmas.{get_before}
use Rattle.lk_types.proofs.KeptLemmas.{could_put_got, made_of_got}

-- what stands in a list with one more element
pub pushed : {X : Type 0} (xs : List X) (x y : X) (k : ℕ) → slice_get (xs ++ x ∷ []) k ≡ Some y → (slice_get xs k ≡ Some y) ⊎ ((k ≡ length xs) × (y ≡ x))
pushed [] x y zero at = inr (refl, sym (same_Some x y at))
pushed [] x y (suc k) at = absurd (none-some y at)
pushed (z ∷ xs) x y zero at = inl at
pushed (z ∷ xs) x y (suc k) at = elim (pushed xs x y k at) [ inl h ↦ inl h | inr h ↦ inr (ap suc h.0, h.1) ]

-- a type that is complete, or no incomplete struct, is a complete struct where it is one
pub complete_struct : (table : Table) (u s : ℕ) → is_complete table u ≡ true → slice_get table.types u ≡ Some (Struct s) → is_open table s ≡ false
complete_struct table u s is at = not-true (is_open table s) (subst (λ form. is_complete_form table form ≡ true) (ap (λ o. unwrap_or o Void) at) is)

pub closed_struct : (table : Table) (u s : ℕ) → IsClosed table u → slice_get table.types u ≡ Some (Struct s) → is_open table s ≡ false
closed_struct table u s is at = subst (IsClosedForm table) (ap (λ o. unwrap_or o Void) at) is

-- the members of a complete struct are no incomplete structs
pub sized_closed : (table : Table) → HasSizedStructs table → (s : ℕ) → is_open table s ≡ false → All (IsClosed table) (types_of (members_of table s))
sized_closed table sized s shut = elim (cases_lt s (length table.members)) [
  | inl less ↦ All-weaker (IsPartOfObjects table) (IsClosed table) (λ u part. closed_complete table u part.complete) (types_of (members_of table s)) (sized.parts s less)
  | inr past ↦ absurd (false≢true (sym shut ∙ ap (λ o. is_empty (unwrap_or o [])) (slice_get_past table.members s past)))
]

-- an earlier struct stays one where the types stay
pub ordered_same : (old new : Table) → new.types ≡ old.types → ((s : ℕ) → is_open new s ≡ false → members_of new s ≡ members_of old s) → IsOrdered old → IsOrdered new
ordered_same old new types same h = record {
  done = h.done;
  are = record {
    few = λ s shut. subst (λ ts. h.done s ≤ length ts) (sym types) (h.are.few s (before s shut));
    members = λ s shut. subst (λ ms. All (λ u. u < h.done s) (types_of ms)) (sym (same s shut)) (h.are.members s (before s shut));
    inside = λ s shut. subst (λ ms. All (IsDoneBy new h.done (h.done s)) (types_of ms)) (sym (same s shut))
        (All-weaker (IsDoneBy old h.done (h.done s)) (IsDoneBy new h.done (h.done s)) (λ u is. done_by (h.done s) u is) (types_of (members_of old s)) (h.are.inside s (before s shut)));
  };
  elements = λ t u n at. done_by t u (h.elements t u n (ap (λ ts. slice_get ts t) (sym types) ∙ at));
}
  where
    before : (s : ℕ) → is_open new s ≡ false → is_open old s ≡ false
    before s shut = ap is_empty (sym (same s shut)) ∙ shut

    done_by : (count u : ℕ) → IsDoneBy old h.done count u → IsDoneBy new h.done count u
    done_by count u is s at = is s (ap (λ ts. slice_get ts u) (sym types) ∙ at)

-- a type is added
module _ (old new : Table) (c : CType) (types : new.types ≡ old.types ++ c ∷ []) (members : new.members ≡ old.members) where
  members_same : (s : ℕ) → members_of new s ≡ members_of old s
  members_same s = ap (λ ms. unwrap_or (slice_get ms s) []) members

  open_before : (s : ℕ) → is_open new s ≡ false → is_open old s ≡ false
  open_before s shut = ap is_empty (sym (members_same s)) ∙ shut

  type_before : (u : ℕ) → IsKnown old u → slice_get new.types u ≡ slice_get old.types u
  type_before u known = ap (λ ts. slice_get ts u) types ∙ get_before old.types (c ∷ []) u known

  done_later : (done : ℕ → ℕ) (count u : ℕ) → IsKnown old u → IsDoneBy old done count u → IsDoneBy new done count u
  done_later done count u known is s at = is s (sym (type_before u known) ∙ at)

  inside_later : (done : ℕ → ℕ) (s u : ℕ) → done s ≤ length old.types → u < done s → IsDoneBy old done (done s) u → IsDoneBy new done (done s) u
  inside_later done s u few below is = done_later done (done s) u (omega (arith, few, below)) is

  are_done : (done : ℕ → ℕ) → AreDone old done → AreDone new done
  are_done done h = record {
    few = λ s shut. let few = h.few s (open_before s shut) in omega (arith, few, ap length types, length-append old.types (c ∷ []));
    members = λ s shut. subst (λ ms. All (λ u. u < done s) (types_of ms)) (sym (members_same s)) (h.members s (open_before s shut));
    inside = λ s shut. subst (λ ms. All (IsDoneBy new done (done s)) (types_of ms)) (sym (members_same s))
        (λ k d less. let shut' = open_before s shut in inside_later done s _ (h.few s shut') (h.members s shut' k d less) (h.inside s shut' k d less));
  }

  module _ (good : IsTable old) (ok : IsForm old c) (h : IsOrdered old) where
    -- the element of an array that is added is complete
    last_element : (u n t : ℕ) → t ≡ length old.types → ◌≡◌ {A = CType} (Array u n) c → IsDoneBy new h.done t u
    last_element u n t last is s at =
        let part : IsPartOfObjects old u = subst (IsForm old) (sym is) ok in
        let few = h.are.few s (complete_struct old u s part.complete (sym (type_before u part.known) ∙ at)) in
        omega (arith, last, few)

    old_element : (u n t : ℕ) → slice_get old.types t ≡ Some (Array u n) → IsKnown old t → IsDoneBy new h.done t u
    old_element u n t at known = let before : u < t = made_of_got old good t (Array u n) at in done_later h.done t u (omega (arith, before, known)) (h.elements t u n at)

    pub ordered_added : ((t : ℕ) (form : CType) → slice_get old.types t ≡ Some form → IsKnown old t) → IsOrdered new
    ordered_added known = record {
      done = h.done;
      are = are_done h.done h.are;
      elements = λ t u n at. elim (pushed old.types c (Array u n) t (ap (λ ts. slice_get ts t) (sym types) ∙ at)) [
        | inl before ↦ old_element u n t before (known t (Array u n) before)
        | inr last ↦ last_element u n t last.0 last.1
      ];
    }

-- a struct is completed
module _ (old new : Table) (s : ℕ) (ms : List StructMember) (types : new.types ≡ old.types) (here : members_of new s ≡ ms) (there : (r : ℕ) → (s ≡ r → ⊥) → members_of new r ≡ members_of old r)
    (ok : CanComplete old s ms) where
  done_now : (ℕ → ℕ) → ℕ → ℕ
  done_now done r = if nat_eq r s then length old.types else done r

  done_here : (done : ℕ → ℕ) (r : ℕ) → r ≡ s → done_now done r ≡ length old.types
  unfolding done_now
  done_here done r is = ap (λ b. if b then length old.types else done r) (eq-eqb r s is)

  done_there : (done : ℕ → ℕ) (r : ℕ) → (r ≡ s → ⊥) → done_now done r ≡ done r
  unfolding done_now
  done_there done r apart = ap (λ b. if b then length old.types else done r) (ne_eqb r s apart)

  -- a complete struct is another one
  apart_from : (q : ℕ) → is_open old q ≡ false → q ≡ s → ⊥
  apart_from q shut is = false≢true (sym shut ∙ ap (is_open old) is ∙ ok.incomplete)

  type_old : (u q : ℕ) → slice_get new.types u ≡ Some (Struct q) → slice_get old.types u ≡ Some (Struct q)
  type_old u q at = ap (λ ts. slice_get ts u) (sym types) ∙ at

  module _ (closed : (r : ℕ) → is_open old r ≡ false → All (IsClosed old) (types_of (members_of old r))) (good : IsTable old) (h : IsOrdered old) where
    abbrev now : ℕ → ℕ
    now = done_now h.done

    few_now : (r : ℕ) → is_open new r ≡ false → now r ≤ length new.types
    few_now r shut = subst (λ ts. done_now h.done r ≤ length ts) (sym types) (elim (cases_eq r s) [
      | inl it ↦ let is = done_here h.done r it in omega (arith, is)
      | inr apart ↦ let is = done_there h.done r apart in
          let few = h.are.few r (ap is_empty (sym (there r (λ same. apart (sym same)))) ∙ shut) in omega (arith, is, few)
    ])

    members_now : (r : ℕ) → is_open new r ≡ false → All (λ u. u < now r) (types_of (members_of new r))
    members_now r shut = elim (cases_eq r s) [
      | inl it ↦
          let known : All (IsKnown old) (types_of ms) = All-map (IsKnown old) (λ member. member.ty) ms (All-weaker (λ member. IsPartOfObjects old member.ty) (λ member. IsKnown old member.ty) (λ member part. part.known) ms ok.parts) in
          subst (λ n. All (λ u. u < n) (types_of (members_of new r))) (sym (done_here h.done r it))
          (subst (λ xs. All (IsKnown old) (types_of xs)) (sym (ap (members_of new) it ∙ here)) known)
      | inr apart ↦
          let same = there r (λ is. apart (sym is)) in
          subst (λ n. All (λ u. u < n) (types_of (members_of new r))) (sym (done_there h.done r apart))
          (subst (λ xs. All (λ u. u < h.done r) (types_of xs)) (sym same) (h.are.members r (ap is_empty (sym same) ∙ shut)))
    ]

    -- a struct among the members of the one that is completed
    inside_here : (r u : ℕ) → r ≡ s → is_complete old u ≡ true → IsDoneBy new now (now r) u
    inside_here r u it complete q at =
        let shut = complete_struct old u q complete (type_old u q at) in
        let few = h.are.few q shut in
        let is = done_there h.done q (apart_from q shut) in
        let one = done_here h.done r it in
        omega (arith, few, is, one)

    -- among those of another one
    inside_there : (r u : ℕ) → (r ≡ s → ⊥) → IsClosed old u → IsDoneBy old h.done (h.done r) u → IsDoneBy new now (now r) u
    inside_there r u apart shut done q at =
        let before = done q (type_old u q at) in
        let is = done_there h.done q (apart_from q (closed_struct old u q shut (type_old u q at))) in
        let one = done_there h.done r apart in
        omega (arith, before, is, one)

    inside_now : (r : ℕ) → is_open new r ≡ false → All (IsDoneBy new now (now r)) (types_of (members_of new r))
    inside_now r shut = elim (cases_eq r s) [
      | inl it ↦
          subst (λ xs. All (IsDoneBy new now (now r)) (types_of xs)) (sym (ap (members_of new) it ∙ here))
          (All-map (IsDoneBy new now (now r)) (λ member. member.ty) ms
          (All-weaker (λ member. IsPartOfObjects old member.ty) (λ member. IsDoneBy new now (now r) member.ty) (λ member part. inside_here r member.ty it part.complete) ms ok.parts))
      | inr apart ↦
          let same = there r (λ is. apart (sym is)) in
          let before = ap is_empty (sym same) ∙ shut in
          subst (λ xs. All (IsDoneBy new now (now r)) (types_of xs)) (sym same)
          (λ k d less. inside_there r _ apart (closed r before k d less) (h.are.inside r before k d less))
    ]

    -- the element of an array is complete
    element_now : (t u n : ℕ) → slice_get new.types t ≡ Some (Array u n) → IsDoneBy new now t u
    element_now t u n at q bt =
        let before = ap (λ ts. slice_get ts t) (sym types) ∙ at in
        let part : IsPartOfObjects old u = could_put_got old good t (Array u n) before in
        let shut = complete_struct old u q part.complete (type_old u q bt) in
        let done = h.elements t u n before q (type_old u q bt) in
        let is = done_there h.done q (apart_from q shut) in
        omega (arith, done, is)

    pub ordered_completed : IsOrdered new
    ordered_completed = record { done = now; are = record { few = few_now; members = members_now; inside = inside_now }; elements = element_now }
