-- What an entity has at the end of a source: its first use and the composite of its types.
use Rattle.std.proofs.Common.{◌≡◌, ◌∙◌, ◌<◌, ◌≤◌, ◌+◌, ◌++◌, ◌⊎◌, inl, inr, ℕ, zero, suc, length, slice_get, take, drop, List, [], ◌∷◌, Option, Some, None, Bool, true, false, refl, sym, ap, subst, arith, leb-true, leb-false}
use Rattle.std.specs.Prelude.{if◌then◌else◌, nat_eq, nat_le, slice_set}
use Rattle.std.specs.Map.{lookup}
use Rattle.std.specs.Option.{option_map}
use Rattle.std.proofs.lemmas.List.Elements.{Contains-append_left}
use Rattle.std.proofs.lemmas.Option.{none-some, same_Some}
use Rattle.lk_types.specs.Building.{IsLonger}
use Rattle.lk_types.specs.Table.{Table, IsKnown}
use Rattle.lk_types.specs.declared.c_type.CType.{CType}
use Rattle.lk_typed.proofs.Means.{means_meaning}
use Rattle.lk_typed.specs.Declarations.{composite_if_equal}
use Rattle.lk_typed.specs.Entities.{HaveComposite}
use Rattle.lk_typed.specs.Entities.HaveComposite.{no_more, next}
use Rattle.lk_typed.specs.Meaning.{meaning, IsReady}
use Rattle.lk_typed.specs.Ty.{Ty, Means}
use Rattle.lk_typed.specs.declared.entity.Declaration.{Declaration}
use Rattle.lk_typed.specs.declared.entity.Entity.{Entity}
use Rattle.lk_typed.specs.declared.entity.Use.{Use}
use Rattle.lk_elaborator.proofs.Gathering.{at_other, at_set, in_last, in_split, same_or_not}
use Rattle.lk_elaborator.proofs.Numbers.{means_on}
use Rattle.lk_elaborator.specs.Gathering.{IsComposite, IsFinished, IsFirstOf, IsRecorded, earlier}
use Rattle.lk_elaborator.specs.Gathering.IsFirstOf.{unused, used}

-- ---- the first use

module _ (uses : List (ℕ × Use)) (ds : List Declaration) (d : Declaration) where
  abbrev more_of : List Declaration
  more_of = ds ++ d ∷ []

  abbrev Here : Use → Type 0
  Here use_ = lookup (nat_eq d.ordinal) uses ≡ Some use_

  recorded_either : (use_ : Use) → IsRecorded uses more_of use_ → IsRecorded uses ds use_ ⊎ Here use_
  recorded_either use_ is = elim (in_split ds d is.is is.there) [
    | inl before ↦ inl (record { is = is.is; there = before; recorded = is.recorded })
    | inr last ↦ inr (subst (λ (x : Declaration). lookup (nat_eq x.ordinal) uses ≡ Some use_) last is.recorded)
  ]

  recorded_before : (use_ : Use) → IsRecorded uses ds use_ → IsRecorded uses more_of use_
  recorded_before use_ is = record { is = is.is; there = Contains-append_left ds (d ∷ []) is.is is.there; recorded = is.recorded }

  recorded_here : (use_ : Use) → Here use_ → IsRecorded uses more_of use_
  recorded_here use_ is = record { is = d; there = in_last ds d; recorded = is }

  -- of two that are the first of their parts
  first_by : (use_ other : Use) → IsRecorded uses ds use_ → ((u : Use) → IsRecorded uses ds u → use_.ordinal ≤ u.ordinal) → Here other →
      (b : Bool) → nat_le use_.ordinal other.ordinal ≡ b → IsFirstOf uses more_of (if b then Some use_ else Some other)
  first_by use_ other there least here true order = used (recorded_before use_ there) (λ u is. elim (recorded_either u is) [
    | inl before ↦ least u before
    | inr last ↦ subst (λ (x : Use). use_.ordinal ≤ x.ordinal) (same_Some other u (sym here ∙ last)) (leb-true use_.ordinal other.ordinal order)
  ])
  first_by use_ other there least here false order = used (recorded_here other here) (λ u is. elim (recorded_either u is) [
    | inl before ↦ let less = leb-false use_.ordinal other.ordinal order in let most = least u before in omega (arith, less, most)
    | inr last ↦ subst (λ (x : Use). other.ordinal ≤ x.ordinal) (same_Some other u (sym here ∙ last)) (omega arith)
  ])

  pub first_more : (before other : Option Use) → lookup (nat_eq d.ordinal) uses ≡ other → IsFirstOf uses ds before → IsFirstOf uses more_of (earlier before other)
  first_more None None is (unused none) = unused (λ u there. elim (recorded_either u there) [
    | inl before ↦ none u before
    | inr last ↦ none-some u (sym is ∙ last)
  ])
  first_more None (Some other) is (unused none) = used (recorded_here other is) (λ u there. elim (recorded_either u there) [
    | inl before ↦ absurd (none u before)
    | inr last ↦ subst (λ (x : Use). other.ordinal ≤ x.ordinal) (same_Some other u (sym is ∙ last)) (omega arith)
  ])
  first_more (Some use_) None is (used there least) = used (recorded_before use_ there) (λ u is_u. elim (recorded_either u is_u) [
    | inl before ↦ least u before
    | inr last ↦ absurd (none-some u (sym is ∙ last))
  ])
  first_more (Some use_) (Some other) is (used there least) = first_by use_ other there least is (nat_le use_.ordinal other.ordinal) refl

pub no_use : (uses : List (ℕ × Use)) → IsFirstOf uses [] None
no_use uses = unused (λ u is. absurd (let h = is.there in omega (arith, h.1)))

-- ---- the composite of the types

module _ (types more : List CType) where
  pub composite_on : {before : Option Ty} {ds : List Declaration} {whole : Ty} → HaveComposite types before ds whole → HaveComposite (types ++ more) before ds whole
  composite_on no_more = no_more
  composite_on (next means others) = next (means_on types more means) (composite_on others)

module _ (types : List CType) (d : Declaration) (t : Ty) (means : Means types d.ty t) where
  composite_more : {before : Option Ty} {ds : List Declaration} {whole : Ty} → HaveComposite types before ds whole → HaveComposite types before (ds ++ d ∷ []) (composite_if_equal t (Some whole))
  composite_more no_more = next means no_more
  composite_more (next first others) = next first (composite_more others)

-- the composite of the types of these declarations, where there is one of them
abbrev pub IsSoFar : Table → List Declaration → Option ℕ → Type 0
IsSoFar table ds None = ds ≡ []
IsSoFar table ds (Some t) = HaveComposite table.types None ds (meaning table t)

module _ (old new : Table) (ready : IsReady old) (longer : IsLonger old new) (ds : List Declaration) (d : Declaration) (known : IsKnown old d.ty) where
  means_new : Means new.types d.ty (meaning old d.ty)
  means_new = subst (λ types. Means types d.ty (meaning old d.ty)) (sym longer.types.1) (means_on old.types longer.types.0 (means_meaning old ready.table_is d.ty known))

  pub so_far_more : (before : Option ℕ) (made : ℕ) → meaning new made ≡ composite_if_equal (meaning old d.ty) (option_map (meaning old) before) → IsSoFar old ds before → IsSoFar new (ds ++ d ∷ []) (Some made)
  so_far_more None made is none =
      subst (λ xs. HaveComposite new.types None (xs ++ d ∷ []) (meaning new made)) (sym none) (subst (HaveComposite new.types None (d ∷ [])) (sym is) (next means_new no_more))
  so_far_more (Some t) made is so_far =
      subst (HaveComposite new.types None (ds ++ d ∷ [])) (sym is)
      (composite_more new.types d (meaning old d.ty) means_new (subst (λ types. HaveComposite types None ds (meaning old t)) (sym longer.types.1) (composite_on old.types longer.types.0 so_far)))

pub composite_found : (table : Table) (ds : List Declaration) (t : ℕ) → IsReady table → IsKnown table t → IsSoFar table ds (Some t) → IsComposite table.types ds t
composite_found table ds t ready known so_far = record { whole = meaning table t; type = so_far; is_type = means_meaning table ready.table_is t known }

-- ---- while types are added

pub finished_on : (old new : Table) (uses : List (ℕ × Use)) (was entity : Entity) → IsLonger old new → IsFinished old.types uses was entity → IsFinished new.types uses was entity
finished_on old new uses was entity longer is = subst (λ types. IsFinished types uses was entity) (sym longer.types.1) (record {
  same = is.same;
  use_ = is.use_;
  type = record {
    whole = is.type.whole;
    type = composite_on old.types longer.types.0 is.type.type;
    is_type = means_on old.types longer.types.0 is.type.is_type;
  };
})

-- one entity more is finished
module _ (old new : Table) (uses : List (ℕ × Use)) (were items : List Entity) (i : ℕ) (is made : Entity) (longer : IsLonger old new) (here : slice_get items i ≡ Some is)
    (done : (e : ℕ) (was entity : Entity) → e < i → slice_get were e ≡ Some was → slice_get items e ≡ Some entity → IsFinished old.types uses was entity)
    (others : (e : ℕ) → i ≤ e → slice_get items e ≡ slice_get were e) (finished : IsFinished new.types uses is made) where
  pub finished_more : (e : ℕ) (was entity : Entity) → e < i + 1 → slice_get were e ≡ Some was → slice_get (slice_set items i made) e ≡ Some entity → IsFinished new.types uses was entity
  finished_more e was entity within at_were at_now = elim (same_or_not e i) [
    | inl same ↦
        let is_was = same_Some is was (sym here ∙ (ap (slice_get items) (sym same) ∙ (others e (omega (arith, same)) ∙ at_were))) in
        let is_made = same_Some made entity (sym (at_set items i is made here) ∙ (ap (slice_get (slice_set items i made)) (sym same) ∙ at_now)) in
        subst (λ (x : Entity). IsFinished new.types uses x entity) is_was (subst (IsFinished new.types uses is) is_made finished)
    | inr apart ↦ finished_on old new uses was entity longer (done e was entity (omega (arith, within, apart)) at_were (sym (at_other items i e made apart) ∙ at_now))
  ]

pub others_more : {A : Type 0} (were items : List A) (i : ℕ) (made : A) → ((e : ℕ) → i ≤ e → slice_get items e ≡ slice_get were e) → (e : ℕ) → i + 1 ≤ e → slice_get (slice_set items i made) e ≡ slice_get were e
others_more were items i made others e more = at_other items i e made (λ same. omega (arith, same, more)) ∙ others e (omega (arith, more))

pub set_length : {A : Type 0} (xs : List A) (i : ℕ) (x : A) → length (slice_set xs i x) ≡ length xs
set_length [] i x = refl
set_length (y ∷ xs) zero x = refl
set_length (y ∷ xs) (suc i) x = ap suc (set_length xs i x)

-- what is written through a slice of a whole `Vec`
pub written_back : {A : Type 0} (n : ℕ) (xs ys : List A) → n ≡ length ys → length xs ≡ length ys → take n (xs ++ drop (length xs) ys) ≡ xs
written_back zero [] [] is same = refl
written_back (suc n) [] [] is same = absurd (omega (arith, is))
written_back n [] (y ∷ ys) is same = absurd (omega (arith, same))
written_back n (x ∷ xs) [] is same = absurd (omega (arith, same))
written_back zero (x ∷ xs) (y ∷ ys) is same = absurd (omega (arith, is))
written_back (suc n) (x ∷ xs) (y ∷ ys) is same = ap (λ zs. x ∷ zs) (written_back n xs ys (omega (arith, is)) (omega (arith, same)))
