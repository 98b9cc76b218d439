-- The table of the predeclared types.
use Rattle.std.proofs.Common.{◌≡◌, ◌∙◌, ◌<◌, ◌+◌, ◌++◌, ℕ, zero, suc, Bool, true, false, List, [], ◌∷◌, length, refl, sym, ap, subst, arith, Some, take}
use Rattle.std.specs.List.{slice_get, range_with_len}
use Rattle.std.specs.Prelude.{nat_eq, ◌&&◌, unwrap_or}
use Rattle.std.proofs.lemmas.Bool.{and_parts, eqb-true, false≢true}
use Rattle.std.proofs.lemmas.List.Elements.{All-nil}
use Rattle.std.proofs.lemmas.Option.{none-some, same_Some, slice_get_within}
use Rattle.lk_types.specs.Building.{IsForm, IsTable, IsPart}
use Rattle.lk_types.specs.Equal.{IsAlike}
use Rattle.lk_types.specs.Equal.IsEqualBut.{same, pointers, arrays, functions}
use Rattle.lk_types.specs.Kept.{table_of, AreKept}
use Rattle.lk_types.specs.Laws.{PredeclaredStay}
use Rattle.lk_types.specs.Predeclared.{predeclared, first_table, kind_id}
use Rattle.lk_types.specs.Sizes.{form_size, is_over}
use Rattle.lk_types.specs.Table.{Table, least_of, IsKnown}
use Rattle.lk_types.specs.declared.c_type.CType.{CType}
use Rattle.lk_types.specs.declared.c_type.CType.TheVariants.{Void, Int, ThreadId, Mutex, Cond, Pointer, Array, Struct, Function, Opaque}
use Rattle.lk_types.specs.declared.member.StructMember.{StructMember}
use Rattle.lk_types.specs.declared.facts.StructEntry.{StructEntry}
use Rattle.lk_types.specs.declared.facts.TypeFacts.{TypeFacts}
use Rattle.lk_types.proofs.FormEq.{got_take, take_more}

-- forms that are made of no types
is_plain : CType → Bool
is_plain Void = true
is_plain (Int kind) = true
is_plain ThreadId = true
is_plain Mutex = true
is_plain Cond = true
is_plain (Pointer t) = false
is_plain (Array t n) = false
is_plain (Struct s) = false
is_plain (Function result params dots) = false
is_plain (Opaque n) = true

plain_form : (table : Table) (form : CType) → is_plain form ≡ true → IsForm table form
unfolding is_plain
plain_form table Void is = tt
plain_form table (Int kind) is = tt
plain_form table ThreadId is = tt
plain_form table Mutex is = tt
plain_form table Cond is = tt
plain_form table (Pointer t) is = absurd (false≢true is)
plain_form table (Array t n) is = absurd (false≢true is)
plain_form table (Struct s) is = absurd (false≢true is)
plain_form table (Function result params dots) is = absurd (false≢true is)
plain_form table (Opaque n) is = tt

plain_small : (table : Table) (form : CType) → is_plain form ≡ true → is_over (form_size table form) ≡ false
unfolding is_plain
plain_small table Void is = refl
plain_small table (Int kind) is = refl
plain_small table ThreadId is = refl
plain_small table Mutex is = refl
plain_small table Cond is = refl
plain_small table (Pointer t) is = absurd (false≢true is)
plain_small table (Array t n) is = absurd (false≢true is)
plain_small table (Struct s) is = absurd (false≢true is)
plain_small table (Function result params dots) is = absurd (false≢true is)
plain_small table (Opaque n) is = refl

-- the place of a predeclared form
rank : CType → ℕ
rank Void = 0
rank (Int kind) = kind_id kind
rank ThreadId = 13
rank Mutex = 14
rank Cond = 15
rank (Pointer t) = 99
rank (Array t n) = 99
rank (Struct s) = 99
rank (Function result params dots) = 99
rank (Opaque n) = 16 + n

-- each form has its place as its rank, and is plain
are_ranked : ℕ → List CType → Bool
are_ranked n [] = true
are_ranked n (x ∷ xs) = nat_eq (rank x) n && (is_plain x && are_ranked (suc n) xs)

ranked_at : (xs : List CType) (n : ℕ) → are_ranked n xs ≡ true → (k : ℕ) (x : CType) → slice_get xs k ≡ Some x → (rank x ≡ n + k) × (is_plain x ≡ true)
unfolding are_ranked
ranked_at [] n is k x at = absurd (none-some x at)
ranked_at (y ∷ xs) n is zero x at =
    let p = and_parts (nat_eq (rank y) n) (is_plain y && are_ranked (suc n) xs) is in
    let q = and_parts (is_plain y) (are_ranked (suc n) xs) p.1 in
    let same = same_Some y x at in
    let r = eqb-true (rank y) n p.0 in
    (omega (arith, r, ap rank same), subst (λ z. is_plain z ≡ true) same q.0)
ranked_at (y ∷ xs) n is (suc k) x at =
    let p = and_parts (nat_eq (rank y) n) (is_plain y && are_ranked (suc n) xs) is in
    let q = and_parts (is_plain y) (are_ranked (suc n) xs) p.1 in
    let r = ranked_at xs (suc n) q.1 k x at in
    (omega (arith, r.0), r.1)

all_ranked : are_ranked 0 predeclared ≡ true
unfolding are_ranked rank is_plain
all_ranked = refl

pub predeclared_form : (table : Table) (k : ℕ) (form : CType) → slice_get predeclared k ≡ Some form → IsForm table form
predeclared_form table k form at = plain_form table form (ranked_at predeclared 0 all_ranked k form at).1

pub predeclared_small : (table : Table) (k : ℕ) (form : CType) → slice_get predeclared k ≡ Some form → is_over (form_size table form) ≡ false
predeclared_small table k form at = plain_small table form (ranked_at predeclared 0 all_ranked k form at).1

pub predeclared_new : (types : List CType) (k : ℕ) (form : CType) → slice_get predeclared k ≡ Some form → types ≡ take k predeclared → (t : ℕ) → slice_get types t ≡ Some form → ⊥
predeclared_new types k form at is t there =
    let got = got_take predeclared k t form (sym (ap (λ ts. slice_get ts t) is) ∙ there) in
    let one = (ranked_at predeclared 0 all_ranked k form at).0 in
    let two = (ranked_at predeclared 0 all_ranked t form got.1).0 in
    omega (arith, got.0, one, two)

-- an empty table
pub kept_none : AreKept [] [] [] (table_of [] [] [])
kept_none = record {
  table_is = record {
    types = λ t known. absurd (omega (arith, known));
    different = λ t u form at at'. absurd (none-some form at);
    leasts = refl;
    least = λ t known. absurd (omega (arith, known));
    alike = λ t u known known'. absurd (omega (arith, known));
  };
  few_types = omega arith;
  few_structs = omega arith;
  parts_are = record { each = All-nil (IsPart (table_of [] [] [])); different = λ i j t at at'. absurd (none-some t at) };
  holding = λ t form fact at. absurd (none-some (form, fact) at);
  sized = λ t form fact at. absurd (none-some (form, fact) at);
  structs_sized = λ s entry at. absurd (none-some entry at);
  keyed = λ t known. absurd (omega (arith, known));
  keys = λ place key t at. absurd (none-some (key, t) at);
  lesser = λ t known. absurd (omega (arith, known));
  ordered = record {
    done = λ s. 0;
    are = record { few = λ s shut. omega arith; members = λ s shut. absurd (false≢true (sym shut)); inside = λ s shut. absurd (false≢true (sym shut)) };
    elements = λ t u n at. absurd (none-some (Array u n) at);
  };
}

pub append-assoc : {X : Type 0} (xs ys zs : List X) → (xs ++ ys) ++ zs ≡ xs ++ (ys ++ zs)
append-assoc [] ys zs = refl
append-assoc (x ∷ xs) ys zs = ap (λ us. x ∷ us) (append-assoc xs ys zs)

pub predeclared_types_stay : PredeclaredStay
predeclared_types_stay old new longer has =
    (has.0 ++ longer.types.0, longer.types.1 ∙ ap (λ ts. ts ++ longer.types.0) has.1 ∙ append-assoc predeclared has.0 longer.types.0)

pub kept_empty : {types : List (CType × TypeFacts)} {classes : List (CType × ℕ)} {structs : List StructEntry} {parts : List ℕ} → types ≡ [] → classes ≡ [] → structs ≡ [] → parts ≡ [] →
    AreKept types classes structs (table_of types structs parts)
kept_empty {types} {classes} {structs} {parts} a b c d =
    subst (λ ts. AreKept ts classes structs (table_of ts structs parts)) (sym a)
    (subst (λ cs. AreKept [] cs structs (table_of [] structs parts)) (sym b)
    (subst (λ ss. AreKept [] [] ss (table_of [] ss parts)) (sym c) (subst (λ ps. AreKept [] [] [] (table_of [] [] ps)) (sym d) kept_none)))

pub predeclared_more : (types : List CType) (k : ℕ) (form : CType) → slice_get predeclared k ≡ Some form → types ≡ take k predeclared → types ++ form ∷ [] ≡ take (k + 1) predeclared
predeclared_more types k form at is = ap (λ ts. ts ++ form ∷ []) is ∙ take_more predeclared k form at

pub predeclared_within : (k : ℕ) (form : CType) → slice_get predeclared k ≡ Some form → k < 19
predeclared_within k form at = slice_get_within predeclared k form at

-- no two predeclared types are equal but for the sizes of arrays
own_alone : {a t : ℕ} → IsAlike predeclared a t → a ≡ t
unfolding is_plain
own_alone (same is) = is
own_alone (pointers {a} {b} {s} {t} at bt h) = absurd (false≢true (ranked_at predeclared 0 all_ranked a (Pointer s) at).1)
own_alone (arrays {a} {b} {s} {t} {n} {m} at bt h sizes) = absurd (false≢true (ranked_at predeclared 0 all_ranked a (Array s n) at).1)
own_alone (functions {a} {b} {r} {s} {ps} {qs} {dots} at bt h hs) = absurd (false≢true (ranked_at predeclared 0 all_ranked a (Function r ps dots) at).1)

-- a list in which each number is that of its place
in_order : (xs : List ℕ) (k : ℕ) → ((t x : ℕ) → slice_get xs t ≡ Some x → x ≡ k + t) → xs ≡ range_with_len k (length xs)
in_order [] k own = refl
in_order (x ∷ xs) k own =
    let head : x ≡ k = omega (arith, own 0 x refl) in
    let tail = in_order xs (k + 1) (λ t y at. omega (arith, own (suc t) y at)) in
    ap (λ y. y ∷ xs) head ∙ ap (λ ys. k ∷ ys) tail

same_table : {types types' : List CType} {members members' : List (List StructMember)} {parts parts' least least' : List ℕ} → types ≡ types' → members ≡ members' → parts ≡ parts' → least ≡ least' →
    ◌≡◌ {A = Table} (record { types = types; members = members; parts = parts; least = least }) (record { types = types'; members = members'; parts = parts'; least = least' })
same_table p q r s = cc

pub first_is : (table : Table) → IsTable table → table.types ≡ predeclared → table.members ≡ [] → table.parts ≡ [] → table ≡ first_table
first_is table good types members parts =
    let count : length table.least ≡ 19 = good.leasts ∙ ap length types in
    let own = λ (t x : ℕ) (at : slice_get table.least t ≡ Some x).
    let within = slice_get_within table.least t x at in
    let known : IsKnown table t = omega (arith, good.leasts, within) in
    let is = own_alone (subst (λ ts. IsAlike ts (least_of table t) t) types (good.least t known).alike) in
    let number : x ≡ 0 + t = omega (arith, sym (ap (λ o. unwrap_or o t) at) ∙ is) in number in
    same_table types members parts (in_order table.least 0 own ∙ ap (range_with_len 0) count)
