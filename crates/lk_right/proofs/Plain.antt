-- Values that are no pointers, so that nothing has to be right of them: what operators, conversions to numbers and ids, and the word give.
use Rattle.std.proofs.Common.{◌≡◌, ℕ, Bool, true, false, List, [], ◌∷◌, Option, Some, None, refl, subst}
use Rattle.std.proofs.lemmas.Option.{none-some, same_Some}
use Rattle.std.specs.Option.{option_and_then, option_map, option_eq}
use Rattle.std.specs.Prelude.{ℤ, Ok, Err, if◌then◌else◌, not, nat_eq, ◌&&◌, ◌||◌, int_lt, int_le, pos, ⊤}
use Rattle.lk_arith.specs.Conversions.{convert, truth}
use Rattle.lk_arith.specs.Kinds.{is_value}
use Rattle.lk_arith.specs.Operators as arithmetic
use Rattle.lk_arith.specs.declared.operators.Op.{Op}
use Rattle.lk_arith.specs.declared.operators.Op.TheVariants as op
use Rattle.lk_arith.specs.declared.operators.UnaryOp.{UnaryOp}
use Rattle.lk_arith.specs.declared.operators.UnaryOp.TheVariants as unary
use Rattle.lk_base.specs.declared.kind.Kind.{Kind}
use Rattle.lk_base.specs.declared.kind.Kind.TheVariants as kind
use Rattle.lk_cells.specs.Cells.{int_kind, number_of_type}
use Rattle.lk_cells.specs.Computing.{Computed, of_kind, tells, points, of_numbers, by_distance, of_addresses, amount_of, with_number, with_function, with_null}
use Rattle.lk_cells.specs.Computing.{of_address, unary_of, is_equal, distance, with_pointer, binary}
use Rattle.lk_cells.specs.Converting.{to_kind, to_id}
use Rattle.lk_cells.specs.Operands.{id_in}
use Rattle.lk_cells.specs.Parts.{form_of}
use Rattle.lk_cells.specs.Places.{moved_by}
use Rattle.lk_cells.specs.declared.state.State.{State}
use Rattle.lk_change.specs.Numbers.{value_of, by_word, equal_ids, ids_equal}
use Rattle.lk_facts.specs.Labels.{LabelTable}
use Rattle.lk_facts.specs.declared.edge.Edge.{Edge}
use Rattle.lk_facts.specs.declared.label_entry.LabelName.{LabelName}
use Rattle.lk_facts.specs.declared.program.Program.{Program}
use Rattle.lk_right.specs.Contexts.{Home}
use Rattle.lk_right.specs.Right.{IsRight}
use Rattle.lk_types.specs.Table.{Table}
use Rattle.lk_types.specs.declared.c_type.CType.{CType}
use Rattle.lk_values.proofs.Reasons.{mapped, chained}
use Rattle.lk_values.specs.declared.cell.Pointer.{Pointer as PointerTo}
use Rattle.lk_values.specs.declared.value.Value.{Value}
use Rattle.lk_values.specs.declared.value.Value.TheVariants.{Number, Pointer, Function, Null, Thread as Id, Indeterminate}
use Rattle.lk_values.specs.declared.why.Why.TheVariants as why

-- the value is no pointer
abbrev pub IsPlain : Value → Type 0
IsPlain (Number k n) = ⊤
IsPlain (Pointer at) = ⊥
IsPlain (Function g) = ⊥
IsPlain Null = ⊤
IsPlain (Id u) = ⊤
IsPlain Indeterminate = ⊤

-- such a value is right wherever it goes
pub plain_right : (program : Program) (labels : LabelTable) (es : List Edge) (homes : List Home) (X : LabelName → Type 0) (c : List ℕ) (v : Value) → IsPlain v → IsRight program labels es homes v X c
plain_right program labels es homes X c (Number k n) plain = tt
plain_right program labels es homes X c (Pointer at) plain = absurd plain
plain_right program labels es homes X c (Function g) plain = absurd plain
plain_right program labels es homes X c Null plain = tt
plain_right program labels es homes X c (Id u) plain = tt
plain_right program labels es homes X c Indeterminate plain = tt

-- ---- what is computed

number_plain : (k : Kind) (n : ℤ) (v : Value) → Number k n ≡ v → IsPlain v
number_plain k n v h = subst IsPlain h tt

-- a constant
pub value_plain : (form : CType) (n : ℤ) (v : Value) → number_of_type form n ≡ Some v → IsPlain v
value_plain form n v h = let made = mapped (λ kind. Number kind n) (int_kind form) v h in number_plain made.0 n v made.2

-- what is computed of something that is there
pub computed_of : {X : Type 0} → (f : X → Computed) (o : Option X) (v : Value) → value_of (option_and_then f o) ≡ Some v → (x : X) × (o ≡ Some x) × (value_of (f x) ≡ Some v)
computed_of f None v h = absurd (none-some v h)
computed_of f (Some x) v h = (x, refl, h)

of_kind_plain : (k : Kind) (outcome : arithmetic.Outcome) (v : Value) → value_of (of_kind k outcome) ≡ Some v → IsPlain v
of_kind_plain k (Ok n) v h = number_plain k n v (same_Some (Number k n) v h)
of_kind_plain k (Err reason) v h = absurd (none-some v h)

tells_plain : (b : Bool) (v : Value) → value_of (tells b) ≡ Some v → IsPlain v
tells_plain b v h = subst IsPlain (same_Some _ v h) tt

guarded_plain : (b : Bool) (computed : Computed) (v : Value) → (value_of computed ≡ Some v → IsPlain v) → value_of (if b then computed else None) ≡ Some v → IsPlain v
guarded_plain true computed v plain h = plain h
guarded_plain false computed v plain h = absurd (none-some v h)

-- of an address: whether it is null
of_address_plain : (o : UnaryOp) (is_null : Bool) (v : Value) → value_of (of_address o is_null) ≡ Some v → IsPlain v
of_address_plain unary.Plus is_null v h = absurd (none-some v h)
of_address_plain unary.Negate is_null v h = absurd (none-some v h)
of_address_plain unary.Complement is_null v h = absurd (none-some v h)
of_address_plain unary.Not is_null v h = tells_plain is_null v h

-- a unary operator gives no pointer
pub unary_plain : (o : UnaryOp) (x v : Value) → value_of (unary_of o x) ≡ Some v → IsPlain v
unary_plain o (Number k a) v h = guarded_plain (is_value k a) (of_kind (arithmetic.unary_kind o k) (arithmetic.unary_outcome o k a)) v (of_kind_plain (arithmetic.unary_kind o k) (arithmetic.unary_outcome o k a) v) h
unary_plain o (Pointer at) v h = of_address_plain o false v h
unary_plain o (Function g) v h = of_address_plain o false v h
unary_plain o Null v h = of_address_plain o true v h
unary_plain o (Id u) v h = absurd (none-some v h)
unary_plain o Indeterminate v h = absurd (none-some v h)

by_distance_plain : (between : Option ℤ) (result : ℤ → Computed) (v : Value) → ((d : ℤ) → value_of (result d) ≡ Some v → IsPlain v) → value_of (by_distance between result) ≡ Some v → IsPlain v
by_distance_plain None result v plain h = absurd (none-some v h)
by_distance_plain (Some d) result v plain h = plain d h

-- two addresses are compared or subtracted
pub of_addresses_plain : (o : Op) (same : Bool) (between : Option ℤ) (v : Value) → value_of (of_addresses o same between) ≡ Some v → IsPlain v
of_addresses_plain op.Multiply same between v h = absurd (none-some v h)
of_addresses_plain op.Divide same between v h = absurd (none-some v h)
of_addresses_plain op.Remainder same between v h = absurd (none-some v h)
of_addresses_plain op.Add same between v h = absurd (none-some v h)
of_addresses_plain op.Subtract same between v h = by_distance_plain between (λ d. Some (Ok (Number kind.Long d))) v (λ d g. number_plain kind.Long d v (same_Some (Number kind.Long d) v g)) h
of_addresses_plain op.ShiftLeft same between v h = absurd (none-some v h)
of_addresses_plain op.ShiftRight same between v h = absurd (none-some v h)
of_addresses_plain op.Less same between v h = by_distance_plain between (λ d. tells (int_lt d (pos 0))) v (λ d g. tells_plain (int_lt d (pos 0)) v g) h
of_addresses_plain op.Greater same between v h = by_distance_plain between (λ d. tells (int_lt (pos 0) d)) v (λ d g. tells_plain (int_lt (pos 0) d) v g) h
of_addresses_plain op.LessOrEqual same between v h = by_distance_plain between (λ d. tells (int_le d (pos 0))) v (λ d g. tells_plain (int_le d (pos 0)) v g) h
of_addresses_plain op.GreaterOrEqual same between v h = by_distance_plain between (λ d. tells (int_le (pos 0) d)) v (λ d g. tells_plain (int_le (pos 0) d) v g) h
of_addresses_plain op.Equal same between v h = tells_plain same v h
of_addresses_plain op.NotEqual same between v h = tells_plain (not same) v h
of_addresses_plain op.And same between v h = absurd (none-some v h)
of_addresses_plain op.Xor same between v h = absurd (none-some v h)
of_addresses_plain op.Or same between v h = absurd (none-some v h)

of_numbers_plain : (o : Op) (k : Kind) (a b : ℤ) (v : Value) → value_of (of_numbers o k a b) ≡ Some v → IsPlain v
of_numbers_plain o k a b v h =
    guarded_plain (is_value k a && (arithmetic.is_shift o || is_value k b)) (of_kind (arithmetic.result_kind o k) (arithmetic.outcome o k a b)) v (of_kind_plain (arithmetic.result_kind o k) (arithmetic.outcome o k a b) v) h

with_number_plain : (o : Op) (k : Kind) (a : ℤ) (y v : Value) → value_of (with_number o k a y) ≡ Some v → IsPlain v
with_number_plain o k a (Number j b) v h = of_numbers_plain o k a b v h
with_number_plain o k a (Pointer at) v h = absurd (none-some v h)
with_number_plain o k a (Function g) v h = absurd (none-some v h)
with_number_plain o k a Null v h = absurd (none-some v h)
with_number_plain o k a (Id u) v h = absurd (none-some v h)
with_number_plain o k a Indeterminate v h = absurd (none-some v h)

with_function_plain : (o : Op) (f : ℕ) (y v : Value) → value_of (with_function o f y) ≡ Some v → IsPlain v
with_function_plain o f (Number j b) v h = absurd (none-some v h)
with_function_plain o f (Pointer at) v h = of_addresses_plain o false None v h
with_function_plain o f (Function g) v h = of_addresses_plain o (nat_eq f g) None v h
with_function_plain o f Null v h = of_addresses_plain o false None v h
with_function_plain o f (Id u) v h = absurd (none-some v h)
with_function_plain o f Indeterminate v h = absurd (none-some v h)

with_null_plain : (o : Op) (y v : Value) → value_of (with_null o y) ≡ Some v → IsPlain v
with_null_plain o (Number j b) v h = let by = computed_of (λ n. Some (Err why.Outside)) (amount_of o j b) v h in absurd (none-some v by.2)
with_null_plain o (Pointer at) v h = of_addresses_plain o false None v h
with_null_plain o (Function g) v h = of_addresses_plain o false None v h
with_null_plain o Null v h = of_addresses_plain o true None v h
with_null_plain o (Id u) v h = absurd (none-some v h)
with_null_plain o Indeterminate v h = absurd (none-some v h)

points_gives : (o : Option PointerTo) (v : Value) → value_of (points o) ≡ Some v → (at : PointerTo) × (o ≡ Some at) × (Pointer at ≡ v)
points_gives None v h = absurd (none-some v h)
points_gives (Some at) v h = (at, refl, same_Some (Pointer at) v h)

module _ (table : Table) (s : State) where
  -- what a binary operator gives of two values: no pointer, or the pointer on its left, moved by the number on its right
  pub data Gives (x y v : Value) : Type 0 where
    no_pointer : IsPlain v → Gives x y v
    moving : (at next : PointerTo) (n : ℤ) → x ≡ Pointer at → moved_by table s at n ≡ Some next → Pointer next ≡ v → Gives x y v

  with_pointer_gives : (o : Op) (at : PointerTo) (y v : Value) → value_of (with_pointer table s o at y) ≡ Some v → Gives (Pointer at) y v
  with_pointer_gives o at (Number j b) v h =
      let by = computed_of (λ n. points (moved_by table s at n)) (amount_of o j b) v h in
      let next = points_gives (moved_by table s at by.0) v by.2 in
      moving at next.0 by.0 refl next.1 next.2
  with_pointer_gives o at (Pointer q) v h = no_pointer (of_addresses_plain o (is_equal table s at q) (distance table s at q) v h)
  with_pointer_gives o at (Function g) v h = no_pointer (of_addresses_plain o false None v h)
  with_pointer_gives o at Null v h = no_pointer (of_addresses_plain o false None v h)
  with_pointer_gives o at (Id u) v h = absurd (none-some v h)
  with_pointer_gives o at Indeterminate v h = absurd (none-some v h)

  pub binary_gives : (o : Op) (x y v : Value) → value_of (binary table s o x y) ≡ Some v → Gives x y v
  binary_gives o (Number k a) y v h = no_pointer (with_number_plain o k a y v h)
  binary_gives o (Pointer at) y v h = with_pointer_gives o at y v h
  binary_gives o (Function f) y v h = no_pointer (with_function_plain o f y v h)
  binary_gives o Null y v h = no_pointer (with_null_plain o y v h)
  binary_gives o (Id u) y v h = absurd (none-some v h)
  binary_gives o Indeterminate y v h = absurd (none-some v h)

-- ---- conversions to numbers and ids

pub to_kind_plain : (k : Kind) (x v : Value) → value_of (to_kind k x) ≡ Some v → IsPlain v
to_kind_plain k (Number j n) v h = subst IsPlain (same_Some _ v h) tt
to_kind_plain k (Pointer at) v h = subst IsPlain (same_Some _ v h) tt
to_kind_plain k (Function g) v h = subst IsPlain (same_Some _ v h) tt
to_kind_plain k Null v h = subst IsPlain (same_Some _ v h) tt
to_kind_plain k (Id u) v h = absurd (none-some v h)
to_kind_plain k Indeterminate v h = absurd (none-some v h)

pub to_id_plain : (x v : Value) → value_of (to_id x) ≡ Some v → IsPlain v
to_id_plain (Number j n) v h = absurd (none-some v h)
to_id_plain (Pointer at) v h = absurd (none-some v h)
to_id_plain (Function g) v h = absurd (none-some v h)
to_id_plain Null v h = absurd (none-some v h)
to_id_plain (Id u) v h = subst IsPlain (same_Some _ v h) tt
to_id_plain Indeterminate v h = absurd (none-some v h)

-- ---- what is computed by the word, and of ids

pub by_word_plain : (program : Program) (w : ℕ) (ty : Option ℕ) (v : Value) → by_word program w ty ≡ Some v → IsPlain v
by_word_plain program w ty v h = let made = mapped (λ k. Number k (convert k (pos w))) (option_and_then int_kind (option_and_then (form_of program.types) ty)) v h in subst IsPlain made.2 tt

equal_ids_plain : (a b : Option (Option ℕ)) (v : Value) → equal_ids a b ≡ Some v → IsPlain v
equal_ids_plain a b v h =
    let first = chained (λ x. option_map (λ y. Number kind.Int (truth (option_eq nat_eq x y))) b) a v h in
    let second = mapped (λ y. Number kind.Int (truth (option_eq nat_eq first.0 y))) b v first.2 in
    subst IsPlain second.2 tt

pub ids_equal_plain : (vs : List (Option Value)) (v : Value) → ids_equal vs ≡ Some v → IsPlain v
ids_equal_plain [] v h = absurd (none-some v h)
ids_equal_plain (a ∷ []) v h = absurd (none-some v h)
ids_equal_plain (a ∷ (b ∷ [])) v h = equal_ids_plain (id_in a) (id_in b) v h
ids_equal_plain (a ∷ (b ∷ (c ∷ more))) v h = absurd (none-some v h)
