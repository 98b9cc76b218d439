-- Pointers to the types of sources.
use Rattle.std.proofs.Common.{arith, Bool, true, false, ap, sym, subst, ◌∙◌, ◌≡◌, ◌<◌, ◌+◌, ◌++◌, inl, inr, ℕ, zero, suc, List, [], ◌∷◌, length, get_or, slice_get, Option, None, Some, refl, append_assoc, append-nil}
use Rattle.std.proofs.lemmas.Bool.{cases_lt}
use Rattle.std.proofs.lemmas.List.{get_or_append_left, get_or_push}
use Rattle.std.proofs.lemmas.Option.{get_or_from_slice_get, none-some}
use Rattle.lk_lower_parts.specs.Gathers.{AreTheirTypes}
use Rattle.lk_lower_parts.specs.declared.types.ArgumentTypes.{ArgumentTypes}
use Rattle.lk_lower_parts.specs.Tables.{ArePointersTo, HasMore}
use Rattle.lk_typed.specs.declared.whole.Linked.{Linked}
use Rattle.lk_types.specs.Building.{IsPut, found, added}
use Rattle.lk_types.specs.Table.{Table}
use Rattle.lk_types.specs.declared.c_type.CType.{CType}
use Rattle.lk_types.specs.declared.c_type.CType.TheVariants.{Pointer}

pub same_table : (table : Table) → HasMore table table
same_table table = record { more = []; types = sym (append-nil table.types); members = refl }

pub put_more : (old new : Table) (form : CType) (t : ℕ) → IsPut old new form t → HasMore old new
put_more old new form t (found there same) = subst (λ (table : Table). HasMore old table) (sym same) (same_table old)
put_more old new form t (added absent last is) = record { more = form ∷ []; types = is.types; members = is.members }

pub more_more : (a b c : Table) → HasMore a b → HasMore b c → HasMore a c
more_more a b c p q = record {
  more = p.more ++ q.more;
  types = q.types ∙ ap (λ types. types ++ q.more) p.types ∙ append_assoc a.types p.more q.more;
  members = q.members ∙ p.members;
}

kept_at : {A : Type 0} (xs ys : List A) (i : ℕ) (x : A) → slice_get xs i ≡ Some x → slice_get (xs ++ ys) i ≡ Some x
kept_at [] ys i x at = absurd (none-some x at)
kept_at (y ∷ xs) ys zero x at = at
kept_at (y ∷ xs) ys (suc i) x at = kept_at xs ys i x at

-- a type of a table is there in a later one
pub kept : (old new : Table) (t : ℕ) (form : CType) → HasMore old new → slice_get old.types t ≡ Some form → slice_get new.types t ≡ Some form
kept old new t form more at = ap (λ types. slice_get types t) more.types ∙ kept_at old.types more.more t form at

pub kept_pointers : (old new : Table) (types row : List ℕ) → HasMore old new → ArePointersTo old types row → ArePointersTo new types row
kept_pointers old new types row more are = record { as_many = are.as_many; each = λ t within. kept old new (get_or row t 0) (Pointer (get_or types t 0)) more (are.each t within) }

-- the pointers to the first types of a source
abbrev pub Below : Table → (i : ℕ) → (types row : List ℕ) → Type 0
Below table i types row = (t : ℕ) → t < i → slice_get table.types (get_or row t 0) ≡ Some (Pointer (get_or types t 0))

pub one_pointer : (old new : Table) (types row more : List ℕ) (i t pointer : ℕ) → HasMore old new → length row ≡ i → more ≡ row ++ (pointer ∷ []) → t ≡ get_or types i 0 → slice_get new.types pointer ≡ Some (Pointer t) →
    Below old i types row → Below new (i + 1) types more
one_pointer old new types row more i t pointer longer as_many put is there was k within = elim (cases_lt k i) [
  | inl before ↦ rw (put, get_or_append_left row (pointer ∷ []) 0 k (omega (arith, before, as_many))) (kept old new (get_or row k 0) (Pointer (get_or types k 0)) longer (was k before))
  | inr not ↦ at_end k (omega (arith, within, not))
]
  where
    at_end : (k : ℕ) → k ≡ i → slice_get new.types (get_or more k 0) ≡ Some (Pointer (get_or types k 0))
    at_end k here = rw (here, put, get_or_push row pointer 0 i as_many, sym is) there

-- the rows of the first sources
abbrev pub RowsBelow : Table → (i : ℕ) → List Linked → List (List ℕ) → Type 0
RowsBelow table i sources rows = (s : ℕ) (linked : Linked) → s < i → slice_get sources s ≡ Some linked → ArePointersTo table linked.types (get_or rows s [])

pub one_row : (old new : Table) (sources : List Linked) (rows more : List (List ℕ)) (row : List ℕ) (i : ℕ) (x : Linked) → HasMore old new → length rows ≡ i → more ≡ rows ++ (row ∷ []) → x ≡ get_or sources i x → ArePointersTo new x.types row →
    RowsBelow old i sources rows → RowsBelow new (i + 1) sources more
one_row old new sources rows more row i x longer as_many put is are was s linked within at = elim (cases_lt s i) [
  | inl before ↦ rw (put, get_or_append_left rows (row ∷ []) [] s (omega (arith, before, as_many))) (kept_pointers old new linked.types (get_or rows s []) longer (was s linked before at))
  | inr not ↦ at_end s (omega (arith, within, not)) at
]
  where
    at_end : (s : ℕ) → s ≡ i → slice_get sources s ≡ Some linked → ArePointersTo new linked.types (get_or more s [])
    at_end s here at = rw (same, here, put, get_or_push rows row [] i as_many) are
      where
        same : linked ≡ x
        same = sym (get_or_from_slice_get sources s linked x at) ∙ (ap (λ n. get_or sources n x) here ∙ sym is)

-- the types of main's arguments are there in a later table
pub kept_types : (has : Bool) (old new : Table) (types : Option ArgumentTypes) → HasMore old new → AreTheirTypes has old types → AreTheirTypes has new types
kept_types true old new None more are = absurd are
kept_types true old new (Some types) more are = record {
  string = are.string;
  string_form = kept old new are.string _ more are.string_form;
  strings_form = kept old new types.strings _ more are.strings_form;
  chars_form = kept old new types.chars _ more are.chars_form;
}
kept_types false old new None more are = tt
kept_types false old new (Some types) more are = absurd are
