-- Sizes that grow part by part.
use Rattle.std.proofs.Common.{◌≡◌, ◌∙◌, ◌≤◌, ◌<◌, ◌+◌, ℕ, zero, suc, Bool, true, false, List, [], ◌∷◌, ◌++◌, length, refl, sym, ap, subst, arith, All, Option, Some, None, take, drop, get_or}
use Rattle.std.specs.List.{fold, slice_get}
use Rattle.std.specs.Prelude.{◌↔◌, IsTrue}
use Rattle.std.proofs.lemmas.Bool.{false≢true}
use Rattle.std.proofs.lemmas.Bool.Decides.{nat_tests}
use Rattle.std.proofs.lemmas.List.Sums.{fold_push}
use Rattle.std.proofs.lemmas.List.{take-append-drop}
use Rattle.lk_types.specs.Sizes.{with_part, part_size, start_size, size_at, fields_size, form_size, with_types, is_over, Fits}
use Rattle.lk_types.specs.Table.{Table, IsKnown}
use Rattle.lk_types.specs.Walks.{fields}
use Rattle.lk_types.specs.declared.size.TypeSize.{TypeSize}
use Rattle.std.proofs.lemmas.List.Elements.{All-head, All-tail, All-cons, All-map, All-weaker}
use Rattle.std.proofs.lemmas.Option.{none-some, same_Some, slice_get-map, slice_get-get_or}
use Rattle.std.specs.Option.{option_map}
use Rattle.lk_types.specs.Building.{types_of, IsForm, IsPassed, IsPartOfObjects}
use Rattle.lk_types.specs.Kept.{table_of, AreKept}
use Rattle.lk_types.specs.declared.c_type.CType.{CType}
use Rattle.lk_types.specs.declared.c_type.CType.TheVariants.{Struct, Function}
use Rattle.lk_types.specs.declared.facts.StructEntry.{StructEntry}
use Rattle.lk_types.specs.declared.facts.TypeFacts.{TypeFacts}
use Rattle.lk_types.proofs.KeptLemmas.{members_got}
use Rattle.lk_types.specs.declared.member.StructMember.{StructMember}
use Rattle.lk_types.proofs.FormEq.{take_more}
use Rattle.lk_types.proofs.Fuel.{few_of}

fields_from : (table : Table) (size : TypeSize) (k : ℕ) (ts : List ℕ) → fold (λ size part. with_part size (part_size (size_at table) part)) size (fields k ts) ≡ with_types table size ts
fields_from table size k [] = refl
fields_from table size k (t ∷ ts) = fields_from table (with_part size (size_at table t)) (suc k) ts

pub fields_size_is : (table : Table) (ts : List ℕ) → fields_size table ts ≡ with_types table start_size ts
fields_size_is table ts = fields_from table start_size 0 ts

pub small_from : (size : TypeSize) → size.nodes ≤ 65537 → size.steps ≤ 1002 → is_over size ≡ false
small_from size few low = grind (arith, nat_tests)

pub large_grows : (a p : TypeSize) → is_over a ≡ true → is_over (with_part a p) ≡ true
large_grows a p large = of (is_over (with_part a p)) refl
  where
    of : (b : Bool) → is_over (with_part a p) ≡ b → b ≡ true
    of true is = refl
    of false is =
        let few = few_of (with_part a p) is in
        absurd (false≢true (sym (small_from a (omega (arith, few.0)) (omega (arith, few.1))) ∙ large))

pub large_stays : (table : Table) (ts : List ℕ) (a : TypeSize) → is_over a ≡ true → is_over (with_types table a ts) ≡ true
large_stays table [] a large = large
large_stays table (t ∷ ts) a large = large_stays table ts (with_part a (size_at table t)) (large_grows a (size_at table t) large)

pub sizes_more : (table : Table) (a : TypeSize) (ts : List ℕ) (t : ℕ) → with_types table a (ts ++ t ∷ []) ≡ with_part (with_types table a ts) (size_at table t)
sizes_more table a ts t = fold_push (λ size t. with_part size (size_at table t)) a ts t

-- where a front of the types is over the bounds of a table, all of them are
pub large_front : (table : Table) (a : TypeSize) (ts us : List ℕ) → is_over (with_types table a ts) ≡ true → is_over (with_types table a (ts ++ us)) ≡ true
large_front table a [] us large = large_stays table us a large
large_front table a (t ∷ ts) us large = large_front table (with_part a (size_at table t)) ts us large

-- one more type is taken
pub step_size : (table : Table) (a : TypeSize) (ts : List ℕ) (i t : ℕ) (size : TypeSize) → slice_get ts i ≡ Some t → size ≡ with_types table a (take i ts) → with_part size (size_at table t) ≡ with_types table a (take (i + 1) ts)
step_size table a ts i t size at is =
    ap (λ s. with_part s (size_at table t)) is ∙ sym (with_types_more a ts i t at)
  where
    with_types_more : (a : TypeSize) (ts : List ℕ) (i t : ℕ) → slice_get ts i ≡ Some t → with_types table a (take (i + 1) ts) ≡ with_part (with_types table a (take i ts)) (size_at table t)
    with_types_more a ts i t at = ap (with_types table a) (sym (take_more ts i t at)) ∙ sizes_more table a (take i ts) t

pub step_large : (table : Table) (a : TypeSize) (ts : List ℕ) (i t : ℕ) (size : TypeSize) → slice_get ts i ≡ Some t → size ≡ with_types table a (take i ts) → is_over (with_part size (size_at table t)) ≡ true →
    is_over (with_types table a ts) ≡ true
step_large table a ts i t size at is large =
    let front = large_front table a (take (i + 1) ts) (drop (i + 1) ts) (sym (ap is_over (step_size table a ts i t size at is)) ∙ large) in
    subst (λ us. is_over (with_types table a us) ≡ true) (take-append-drop (i + 1) ts) front

pub all_taken : {X : Type 0} (xs : List X) (i : ℕ) → length xs ≤ i → take i xs ≡ xs
all_taken [] zero past = refl
all_taken [] (suc i) past = refl
all_taken (x ∷ xs) zero past = absurd (omega arith)
all_taken (x ∷ xs) (suc i) past = ap (λ ys. x ∷ ys) (all_taken xs i (omega arith))

pub types_got : (ms : List StructMember) (i : ℕ) (m : StructMember) → i < length ms → m ≡ get_or ms i m → slice_get (types_of ms) i ≡ Some m.ty
types_got ms i m within got = slice_get-map (λ member. member.ty) ms i ∙ ap (option_map (λ member. member.ty)) (slice_get-get_or ms i m within ∙ ap Some (sym got))

-- what holds of all holds of the one that was read
pub all_read : {X : Type 0} (P : X → Type 0) (xs : List X) (i : ℕ) (x : X) → All P xs → slice_get xs i ≡ Some x → P x
all_read P [] i x all at = absurd (none-some x at)
all_read P (y ∷ xs) zero x all at = subst P (same_Some y x at) (All-head P y xs all)
all_read P (y ∷ xs) (suc i) x all at = all_read P xs i x (All-tail P y xs all) at

-- the size of a function's form
pub function_size : (table : Table) (r : ℕ) (ps : List ℕ) (dots : Bool) (form : CType) → form ≡ Function r ps dots → form_size table form ≡ with_types table (with_part start_size (size_at table r)) ps
function_size table r ps dots form is = ap (form_size table) is ∙ fields_size_is table (r ∷ ps)

pub passed_known : (table : Table) (r : ℕ) (ps : List ℕ) (dots : Bool) (form : CType) → form ≡ Function r ps dots → IsForm table form → All (IsKnown table) (r ∷ ps)
passed_known table r ps dots form is ok = All-weaker (IsPassed table) (IsKnown table) (λ u passed. passed.known) (r ∷ ps) (subst (IsForm table) is ok)

module _ (types : List (CType × TypeFacts)) (classes : List (CType × ℕ)) (structs : List StructEntry) (parts : List ℕ) (kept : AreKept types classes structs (table_of types structs parts)) where
  pub struct_form_size : (s : ℕ) (entry : StructEntry) → slice_get structs s ≡ Some entry → entry.size ≡ form_size (table_of types structs parts) (Struct s)
  struct_form_size s entry at =
      (kept.structs_sized s entry at).value ∙ ap (λ ms. fields_size (table_of types structs parts) (types_of ms)) (sym (members_got types structs parts s entry at))

  pub struct_form_fits : (s : ℕ) (entry : StructEntry) → slice_get structs s ≡ Some entry → (form : CType) → form ≡ Struct s →
      (entry.size ≡ form_size (table_of types structs parts) form) × (is_over (form_size (table_of types structs parts) form) ≡ false)
  struct_form_fits s entry at form is =
      let value = struct_form_size s entry at ∙ ap (form_size (table_of types structs parts)) (sym is) in
      (value, sym (ap is_over value) ∙ (kept.structs_sized s entry at).small)

pub kept_equal : {types types' : List (CType × TypeFacts)} {classes classes' : List (CType × ℕ)} {structs structs' : List StructEntry} {parts parts' : List ℕ} → types' ≡ types → classes' ≡ classes → structs' ≡ structs → parts' ≡ parts →
    AreKept types classes structs (table_of types structs parts) → AreKept types' classes' structs' (table_of types' structs' parts')
kept_equal {types} {types'} {classes} {classes'} {structs} {structs'} {parts} {parts'} a b c d kept =
    subst (λ ts. AreKept ts classes' structs' (table_of ts structs' parts')) (sym a)
    (subst (λ cs. AreKept types cs structs' (table_of types structs' parts')) (sym b)
    (subst (λ ss. AreKept types classes ss (table_of types ss parts')) (sym c) (subst (λ ps. AreKept types classes structs (table_of types structs ps)) (sym d) kept)))

pub passed_iff : (table : Table) (form : CType) (r : ℕ) (ps : List ℕ) (dots : Bool) → form ≡ Function r ps dots → IsPassed table r → (b : Bool) → IsTrue b ↔ All (IsPassed table) ps → IsTrue b ↔ IsForm table form
passed_iff table form r ps dots is first b iff =
    subst (λ f. IsTrue b ↔ IsForm table f) (sym is) (λ h. All-cons (IsPassed table) r ps first (iff.0 h), λ ok. iff.1 (All-tail (IsPassed table) r ps ok))

pub members_known : (table : Table) (ms : List StructMember) → All (λ member. IsPartOfObjects table member.ty) ms → All (IsKnown table) (types_of ms)
members_known table ms ok =
    All-map (IsKnown table) (λ member. member.ty) ms (All-weaker (λ member. IsPartOfObjects table member.ty) (λ member. IsKnown table member.ty) (λ member part. part.known) ms ok)

pub fits_got : (size x : TypeSize) (o : Option TypeSize) → o ≡ Some x → Fits size o → x ≡ size
fits_got size x None is fits = absurd (none-some x is)
fits_got size x (Some y) is fits = sym (same_Some y x is) ∙ fits.0
