-- What stays while the program's table and the rows of sources grow.
use Rattle.std.proofs.Common.{◌≡◌, ◌∙◌, ◌+◌, ◌<◌, ◌≤◌, ◌++◌, inl, inr, ℕ, zero, suc, get_or, Bool, true, false, List, [], ◌∷◌, Some, All, arith, length, length-append, refl, sym, ap, subst}
use Rattle.std.proofs.lemmas.Bool.{or_parts}
use Rattle.std.proofs.lemmas.List.Elements.{All-cons, All-from_get_or, All-head, All-nil, All-tail, All-weaker}
use Rattle.std.proofs.lemmas.Option.{none-some, same_Some, slice_get-get_or, slice_get_within}
use Rattle.std.proofs.Math.Nat.{eq-or-lt_of_le}
use Rattle.std.specs.List.{slice_get, AllZip}
use Rattle.lk_link.specs.Sources.{Units}
use Rattle.lk_typed.specs.declared.unit.TypedUnit.{TypedUnit}
use Rattle.lk_types.specs.Building.{IsClosed, IsLonger, IsTable}
use Rattle.lk_types.specs.Sizes.{is_over}
use Rattle.lk_types.specs.Table.{Table, HasKnown, IsKnown, type_at}
use Rattle.lk_types.specs.Walks.{branches, has_tag, holds_struct, is_void, target}
use Rattle.lk_types.specs.declared.c_type.CType.{CType}
use Rattle.lk_types.specs.declared.c_type.CType.TheVariants.{Pointer}
use Rattle.lk_types.proofs.AddLemmas.{closed_plain, last_got}
use Rattle.lk_types.proofs.Entries.{OfParts}
use Rattle.lk_types.proofs.GrowLemmas.{branches_by, form_size_by, get_before, longer_same, longer_then, own_closed}
use Rattle.lk_types.proofs.PartLemmas.{one_part, target_type}
use Rattle.lk_join.specs.Forms.{ArePutAt, AreRowsOf, HasForm, HasPointer, IsHere, IsPutAt, KeepsPointers}
use Rattle.lk_join.specs.Forms.HasForm.{void, integer, thread, mutex, condition, opaque, pointer, array, struct, function}
use Rattle.lk_join.proofs.Zips.{zip_push, zip_weaker}

pub get_longer : (old new : Table) → IsLonger old new → (t : ℕ) (form : CType) → slice_get old.types t ≡ Some form → slice_get new.types t ≡ Some form
get_longer old new longer t form at = ap (λ ts. slice_get ts t) longer.types.1 ∙ get_before old.types longer.types.0 t (slice_get_within old.types t form at) ∙ at

pub here_more : (row more : List ℕ) (t here : ℕ) → IsHere row t here → IsHere (row ++ more) t here
here_more row more t here at = get_before row more t (slice_get_within row t here at) ∙ at

form_more : (row more structs : List ℕ) {a b : CType} → HasForm row structs a b → HasForm (row ++ more) structs a b
form_more row more structs void = void
form_more row more structs integer = integer
form_more row more structs thread = thread
form_more row more structs mutex = mutex
form_more row more structs condition = condition
form_more row more structs opaque = opaque
form_more row more structs (pointer {a} {b} at) = pointer (here_more row more a b at)
form_more row more structs (array {a} {b} at) = array (here_more row more a b at)
form_more row more structs (struct at) = struct at
form_more row more structs (function {a} {b} {ps} {qs} at each) =
    function (here_more row more a b at) (zip_weaker (IsHere row) (IsHere (row ++ more)) (λ t here at. here_more row more t here at) ps qs each)

module _ (old new : Table) (longer : IsLonger old new) (structs : List ℕ) where
  pub put_more : (row more : List ℕ) (form : CType) (here : ℕ) → IsPutAt old row structs form here → IsPutAt new (row ++ more) structs form here
  put_more row more form here put = record { form_here = put.form_here; at = get_longer old new longer here put.form_here put.at; is = form_more row more structs put.is }

  pub put_later : (row : List ℕ) (form : CType) (here : ℕ) → IsPutAt old row structs form here → IsPutAt new row structs form here
  put_later row form here put = record { form_here = put.form_here; at = get_longer old new longer here put.form_here put.at; is = put.is }

  pub all_put_later : (row : List ℕ) (forms : List CType) → ArePutAt old row structs forms → ArePutAt new row structs forms
  all_put_later row forms put = zip_weaker (IsPutAt old row structs) (IsPutAt new row structs) (λ form here one. put_later row form here one) forms row put

  pub all_put_more : (row : List ℕ) (here : ℕ) (forms : List CType) (form : CType) → ArePutAt old row structs forms → IsPutAt new row structs form here →
      ArePutAt new (row ++ here ∷ []) structs (forms ++ form ∷ [])
  all_put_more row here forms form put one =
      let more = here ∷ [] in
      zip_push (IsPutAt new (row ++ more) structs) forms row form here
      (zip_weaker (IsPutAt old row structs) (IsPutAt new (row ++ more) structs) (λ f h is. put_more row more f h is) forms row put)
      (record { form_here = one.form_here; at = one.at; is = form_more row more structs one.is })

plain_tag : (table : Table) (t : ℕ) → (target table t).tag ≡ false → has_tag table t ≡ false
plain_tag table t plain = of (has_tag table t) refl plain
  where
    of : (b : Bool) → has_tag table t ≡ b → (target table t).tag ≡ false → b ≡ false
    of true is plain = rw is at plain
    of false is plain = refl

-- what a pointer leads to is known and no incomplete struct, but for a Tag
pointer_parts : (table : Table) (t : ℕ) → IsKnown table t → OfParts (λ u. IsKnown table u × IsClosed table u) (branches table (Pointer t))
pointer_parts table t known =
    one_part (λ u. IsKnown table u × IsClosed table u) (target table t)
    (λ plain. subst (λ u. IsKnown table u × IsClosed table u) (sym (target_type table t plain))
    (known, closed_plain table t (or_parts (is_void (type_at table t)) (holds_struct table t) (plain_tag table t plain)).1))

-- the pointers that a table has, a later one has
pub pointer_later : (old new : Table) → IsTable old → IsLonger old new → (t : ℕ) → IsKnown old t → HasPointer old t → HasPointer new t
pointer_later old new good longer t known has small =
    let same = form_size_by old new good longer (Pointer t)
    (branches_by old new good longer (Pointer t) (λ u is. subst (HasKnown old) is known) (own_closed old new good longer (Pointer t) tt))
    (pointer_parts old t known) in
    let pointer = has (sym (ap is_over same) ∙ small) in
    (pointer.0, get_longer old new longer pointer.0 (Pointer t) pointer.1)

pub keeps_same : (table : Table) → KeepsPointers table table
keeps_same table = record { longer = longer_same table; members = refl; kept = λ t known has. has }

pub keeps_longer : (old new : Table) → IsTable old → IsLonger old new → new.members ≡ old.members → KeepsPointers old new
keeps_longer old new good longer members = record { longer = longer; members = members; kept = λ t known has. pointer_later old new good longer t known has }

pub known_later : (old new : Table) → IsLonger old new → (t : ℕ) → IsKnown old t → IsKnown new t
known_later old new longer t known = let more = ap length longer.types.1 in omega (arith, known, more, length-append old.types longer.types.0)

pub keeps_then : (a b c : Table) → KeepsPointers a b → KeepsPointers b c → KeepsPointers a c
keeps_then a b c first second = record {
  longer = longer_then a b c first.longer second.longer;
  members = second.members ∙ first.members;
  kept = λ t known has. second.kept t (known_later a b first.longer t known) (first.kept t known has);
}

pub all_known_later : (old now : Table) → KeepsPointers old now → (ts : List ℕ) → All (IsKnown old) ts → All (IsKnown now) ts
all_known_later old now keeps ts known = All-weaker (IsKnown old) (IsKnown now) (λ t k. known_later old now keeps.longer t k) ts known

pub rows_known_later : (old now : Table) → KeepsPointers old now → (rows : List (List ℕ)) → All (All (IsKnown old)) rows → All (All (IsKnown now)) rows
rows_known_later old now keeps rows known = All-weaker (All (IsKnown old)) (All (IsKnown now)) (λ ts k. all_known_later old now keeps ts k) rows known

module _ (old now new : Table) (before : KeepsPointers old now) (after : KeepsPointers now new) where
  -- the pointers to types of an earlier table stay
  pub pointers_stay : (ts : List ℕ) → All (IsKnown now) ts → All (HasPointer now) ts → All (HasPointer new) ts
  pointers_stay [] known has = All-nil (HasPointer new)
  pointers_stay (t ∷ ts) known has =
      All-cons (HasPointer new) t ts (after.kept t (All-head (IsKnown now) t ts known) (All-head (HasPointer now) t ts has))
      (pointers_stay ts (All-tail (IsKnown now) t ts known) (All-tail (HasPointer now) t ts has))

  pub all_pointers_stay : (rows : List (List ℕ)) → All (All (IsKnown now)) rows → All (All (HasPointer now)) rows → All (All (HasPointer new)) rows
  all_pointers_stay [] known has = All-nil (All (HasPointer new))
  all_pointers_stay (row ∷ rows) known has =
      All-cons (All (HasPointer new)) row rows (pointers_stay row (All-head (All (IsKnown now)) row rows known) (All-head (All (HasPointer now)) row rows has))
      (all_pointers_stay rows (All-tail (All (IsKnown now)) row rows known) (All-tail (All (HasPointer now)) row rows has))

at_most : (i n : ℕ) → i < n + 1 → i ≤ n
at_most i n less = omega arith

-- a row has numbers of the table
pub all_put_known : (table : Table) (row structs rest : List ℕ) (forms : List CType) → AllZip (IsPutAt table row structs) forms rest → All (IsKnown table) rest
all_put_known table row structs [] forms put = All-nil (IsKnown table)
all_put_known table row structs (here ∷ rest) [] put = absurd put
all_put_known table row structs (here ∷ rest) (form ∷ forms) put =
    All-cons (IsKnown table) here rest (slice_get_within table.types here put.0.form_here put.0.at) (all_put_known table row structs rest forms put.1)

pub got : {X : Type 0} (xs : List X) (i : ℕ) → i < length xs → (x : X) × (slice_get xs i ≡ Some x)
got [] i less = absurd (omega (arith, less))
got (x ∷ xs) zero less = (x, refl)
got (x ∷ xs) (suc i) less = got xs i (omega (arith, less))

module _ (units : Units) (structs : List (List ℕ)) where
  pub no_rows : (table : Table) → AreRowsOf units structs table [] 0
  no_rows table = record { size = refl; each = λ s unit row at is. absurd (none-some row is) }

  pub rows_later : (old new : Table) → IsLonger old new → (rows : List (List ℕ)) (n : ℕ) → AreRowsOf units structs old rows n → AreRowsOf units structs new rows n
  rows_later old new longer rows n h = record {
    size = h.size;
    each = λ s unit row at is. let one = h.each s unit row at is in (one.0, one.1, all_put_later old new longer one.0 row unit.types.types one.2);
  }

  pub rows_more : (old new : Table) → IsLonger old new → (rows : List (List ℕ)) (n : ℕ) (row here : List ℕ) (unit : TypedUnit) → AreRowsOf units structs old rows n →
      slice_get units n ≡ Some unit → slice_get structs n ≡ Some here → ArePutAt new row here unit.types.types → AreRowsOf units structs new (rows ++ row ∷ []) (n + 1)
  rows_more old new longer rows n row here unit h unit_at here_at put = let size = h.size in record {
    size = omega (arith, size, length-append rows (row ∷ []));
    each = λ s u r at is.
        let within = slice_get_within (rows ++ row ∷ []) s r is in
        elim (eq-or-lt_of_le (at_most s n (omega (arith, within, size, length-append rows (row ∷ []))))) [
          | inl last ↦
              let here_is : slice_get (rows ++ row ∷ []) s ≡ Some row = ap (slice_get (rows ++ row ∷ [])) (last ∙ sym size) ∙ last_got rows row in
              let row_is : row ≡ r = same_Some row r (sym here_is ∙ is) in
              let unit_is : unit ≡ u = same_Some unit u (sym unit_at ∙ ap (slice_get units) (sym last) ∙ at) in
              (here, ap (slice_get structs) last ∙ here_at, subst (λ r. ArePutAt new r here u.types.types) row_is (subst (λ (u : TypedUnit). ArePutAt new row here u.types.types) unit_is put))
          | inr before ↦
              let one = h.each s u r at (sym (get_before rows (row ∷ []) s (omega (arith, before, size))) ∙ is) in
              (one.0, one.1, all_put_later old new longer one.0 r u.types.types one.2)
        ];
  }

  pub rows_known : (table : Table) (rows : List (List ℕ)) → AreRowsOf units structs table rows (length units) → All (All (IsKnown table)) rows
  rows_known table rows h =
      All-from_get_or (All (IsKnown table)) rows []
      (λ i less.
      let unit = let size = h.size in got units i (omega (arith, less, size)) in
      let row = get_or rows i [] in
      let one = h.each i unit.0 row unit.1 (slice_get-get_or rows i [] less) in
      all_put_known table row one.0 row unit.0.types.types one.2)
