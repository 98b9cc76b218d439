-- The address of what a rule gives.
use Rattle.std.proofs.Common.{◌≡◌, ◌∙◌, Bool, true, false, List, [], ◌∷◌, Option, Some, None, ℕ, refl, sym, ap}
use Rattle.std.specs.Prelude.{if◌then◌else◌, ◌&&◌, ◌||◌, ◌++◌, not, is_some, ⊤}
use Rattle.std.proofs.lemmas.Bool.{false≢true}
use Rattle.lk_base.specs.declared.code.Code.{Code}
use Rattle.lk_base.specs.declared.code.Code.TheVariants.{Mismatch, Incomplete, MutexValue, NotAPlace}
use Rattle.lk_base.specs.declared.kind.Kind.{Kind}
use Rattle.lk_base.specs.declared.kind.Kind.TheVariants.{ULong}
use Rattle.lk_base.specs.declared.kind.Kind.TheVariants as kind
use Rattle.lk_arith.specs.Conversions.{promoted, usual}
use Rattle.lk_arith.specs.Operators.{result_kind}
use Rattle.lk_tree.specs.declared.operators.AssignOperator.{AssignOperator}
use Rattle.lk_tree.specs.declared.operators.BinaryOperator.{BinaryOperator}
use Rattle.lk_tree.specs.declared.operators.BinaryOperator.TheVariants as binary
use Rattle.lk_tree.specs.declared.operators.PrefixOperator.{PrefixOperator}
use Rattle.lk_tree.specs.declared.operators.PrefixOperator.TheVariants as prefix
use Rattle.lk_arith.specs.declared.operators.Op.{Op}
use Rattle.lk_arith.specs.declared.operators.Op.TheVariants as op
use Rattle.lk_arith.specs.declared.operators.UnaryOp.{UnaryOp}
use Rattle.lk_arith.specs.declared.operators.UnaryOp.TheVariants as u
use Rattle.lk_typed.specs.Addresses.{inside, member_at, moved, moved_back, value}
use Rattle.lk_typed.specs.Assignments.{assign_rule, cast_rule, operator_of, right_codes}
use Rattle.lk_typed.specs.Calls.{Argument, arguments_codes, asked, asks_of, call_of, call_rule, library_called, passes_by, signature_of}
use Rattle.lk_typed.specs.Constants.{binary_constant, choice_constant, logical_constant, shift_constant}
use Rattle.lk_typed.specs.Conversions.{are_same_pointers, are_void_and_object, cast_codes, converted}
use Rattle.lk_typed.specs.Env.{Env, Declared, Field, Meaning, AnObject, AFunction, ATypedef, AnEnumerator, AnInitialiserWord, AFaultyName, Members, Name, NotYet, Begun, Known, Faulty, members_of, field_of, number_of_field}
use Rattle.lk_typed.specs.Library.{LibraryFunction}
use Rattle.lk_typed.specs.Operators.{arm_codes, by_row, chosen_integer, choice_result, distance, is_pointer_beside_null, is_scalar, moved_to, must_be, plain_truth, with_kinds, if_taken, either, at_common_kind, shifted, moved_pointer, logical, sum, difference, order, equality, result_of, row_of, binary_rule, chosen_other, choice_rule, comma_rule, is_steppable, are_comparable, is_condition}
use Rattle.lk_typed.specs.Places.{address_of, arithmetic_rule, is_addressable, is_counted, arrow_rule, arrow_of, arrow_target, at_promoted_kind, dot_rule, dot_of, element_of, index_rule, indirect, member_in, member_of, not_of, prefix_rule, sizeof_codes, sizeof_rule, step_rule}
use Rattle.lk_typed.specs.Sizes.{bytes_in, constant_of_bytes, is_broken, is_complete}
use Rattle.lk_typed.specs.Ty.{Ty, Signature, Void, Int, ThreadId, Mutex, Cond, Pointer, Array, Struct, Function, Opaque, holds_of, kind_of, struct_of, target_of, is_function, is_integer, is_lock, is_pointer, is_void, long, void_pointer}
use Rattle.lk_typed.specs.Typing.{Typing, Verdict, Typed, Broken, Silent, Address, FunctionAddress, NotAddress, if_so, integer, place_of_type, unless, value_of_type}
use Rattle.lk_typed.specs.Words.{address_of_storage, function_codes, function_named, refused_codes, silent_unless, use_of, use_of_declared}
use Rattle.lk_typed.specs.declared.constant.Constant.TheVariants.{Known as KnownValue, NotConstant}
use Rattle.lk_found.specs.Addresses.{binary_address, cast_address, declared_address, moved_by_operator, name_address, prefix_address}
use Rattle.lk_found.specs.Judging.{Gives}

-- the same of a row of a table
abbrev pub GivesRow : (Typing → Type 0) → Option Typing → Type 0
GivesRow Says None = ⊤
GivesRow Says (Some x) = Says x

-- it is no address constant
abbrev pub IsPlain : Typing → Type 0
IsPlain x = x.address ≡ NotAddress

pub gives_more : {S T : Typing → Type 0} (v : Verdict) → ((x : Typing) → S x → T x) → Gives S v → Gives T v
gives_more (Typed x) more h = more x h
gives_more (Broken codes) more h = tt
gives_more Silent more h = tt

unless_gives : (S : Typing → Type 0) (codes : List Code) (x : Typing) → S x → Gives S (unless codes x)
unless_gives S [] x h = h
unless_gives S (c ∷ codes) x h = tt

row_gives : (S : Typing → Type 0) (codes : List Code) (row : Option Typing) → GivesRow S row → Gives S (by_row codes row)
row_gives S [] None h = tt
row_gives S [] (Some x) h = h
row_gives S (c ∷ codes) None h = tt
row_gives S (c ∷ codes) (Some x) h = tt

either_gives : (S : Typing → Type 0) (a b : Option Typing) → GivesRow S a → GivesRow S b → GivesRow S (either a b)
either_gives S None b g h = h
either_gives S (Some x) b g h = g

taken_gives : (S : Typing → Type 0) (taken : Bool) (x : Typing) → (taken ≡ true → S x) → GivesRow S (if_taken taken x)
taken_gives S true x h = h refl
taken_gives S false x h = tt

kinds_give : (S : Typing → Type 0) (a b : Option Kind) (give : Kind → Kind → Typing) → (is_some a ≡ true → (j k : Kind) → S (give j k)) → GivesRow S (with_kinds a b give)
kinds_give S None b give h = tt
kinds_give S (Some j) None give h = tt
kinds_give S (Some j) (Some k) give h = h refl j k

-- ---- pointers that move

some_held : {A : Type 0} (o : Option A) (test : A → Bool) → holds_of o test ≡ true → is_some o ≡ true
some_held None test h = h
some_held (Some a) test h = refl

no_pointer : (t : Ty) → is_integer t ≡ true → is_pointer t ≡ false
no_pointer Void h = refl
no_pointer (Int k) h = refl
no_pointer ThreadId h = refl
no_pointer Mutex h = refl
no_pointer Cond h = refl
no_pointer (Pointer t) h = absurd (false≢true h)
no_pointer (Array t n) h = refl
no_pointer (Struct s) h = refl
no_pointer (Function result params dots) h = refl
no_pointer (Opaque n) h = refl

both_held : (a b : Bool) → (a && b) ≡ true → (a ≡ true) × (b ≡ true)
both_held true true h = (refl, refl)
both_held true false h = absurd (false≢true h)
both_held false b h = absurd (false≢true h)

-- which of two addresses it is
abbrev chosen : Bool → Bool → Address → Address
chosen p i to = if p && i then to else NotAddress

always : (p i : Bool) → NotAddress ≡ chosen p i NotAddress
always true true = refl
always true false = refl
always false i = refl

chosen_first : (p i : Bool) (to : Address) → p ≡ true → i ≡ true → to ≡ chosen p i to
chosen_first p i to e d = ap (λ p. chosen p true to) (sym e) ∙ ap (λ i. chosen p i to) (sym d)

not_chosen : (p i : Bool) (to : Address) → p ≡ false → NotAddress ≡ chosen p i to
not_chosen p i to e = ap (λ p. chosen p i to) (sym e)

not_second : (p i : Bool) (to : Address) → i ≡ false → NotAddress ≡ chosen p i to
not_second true i to e = ap (λ i. chosen true i to) (sym e)
not_second false i to e = refl

step_gives : (S : Typing → Type 0) (s i same : Bool) (x y : Typing) → (s ≡ true → i ≡ true → S x) → (i ≡ false → S y) →
    GivesRow S (either (if_taken (s && i) x) (if_taken (s && same) y))
step_gives S false i same x y f g = tt
step_gives S true true same x y f g = f refl refl
step_gives S true false true x y f g = g refl
step_gives S true false false x y f g = tt

abbrev common : Op → Typing → Typing → Kind → Kind → Typing
common o a b j k = integer (result_kind o (usual j k)) (binary_constant o (usual j k) a.constant b.constant)

sum_gives : (structs : List Members) (a b : Typing) → GivesRow (λ x. x.address ≡ chosen (is_pointer a.type) (is_integer b.type) (moved a.address b.constant)) (sum structs a b)
sum_gives structs a b =
    let p = is_pointer a.type in
    let i = is_integer b.type in
    let s = is_steppable structs a.type in
    let to = moved a.address b.constant in
    let S : Typing → Type 0 = λ x. x.address ≡ chosen p i to in
    either_gives S (at_common_kind op.Add a b) (moved_to to structs a b)
    (kinds_give S (kind_of a.type) (kind_of b.type) (common op.Add a b) (λ integer j k. not_chosen p i to (no_pointer a.type integer)))
    (taken_gives S (s && i) (moved_pointer a to) (λ h. let both = both_held s i h in chosen_first p i to (some_held (target_of a.type) (is_complete structs) both.0) both.1))

difference_gives : (structs : List Members) (a b : Typing) →
    GivesRow (λ x. x.address ≡ chosen (is_pointer a.type) (is_integer b.type) (moved_back a.address b.constant)) (difference structs a b)
difference_gives structs a b =
    let p = is_pointer a.type in
    let i = is_integer b.type in
    let s = is_steppable structs a.type in
    let to = moved_back a.address b.constant in
    let S : Typing → Type 0 = λ x. x.address ≡ chosen p i to in
    either_gives S (at_common_kind op.Subtract a b) (either (moved_to to structs a b) (distance structs a b))
    (kinds_give S (kind_of a.type) (kind_of b.type) (common op.Subtract a b) (λ integer j k. not_chosen p i to (no_pointer a.type integer)))
    (step_gives S s i (are_same_pointers a.type b.type) (moved_pointer a to) (value_of_type long)
    (λ h g. chosen_first p i to (some_held (target_of a.type) (is_complete structs) h) g) (λ h. not_second p i to h))

-- a row that gives no address constant
plain_row : (op : BinaryOperator) (a b : Typing) (row : Option Typing) → moved_by_operator op a.address b.constant ≡ NotAddress → GivesRow IsPlain row →
    GivesRow (λ x. x.address ≡ binary_address op a b) row
plain_row op a b None e h = tt
plain_row op a b (Some x) e h = h ∙ always (is_pointer a.type) (is_integer b.type) ∙ ap (chosen (is_pointer a.type) (is_integer b.type)) (sym e)

common_plain : (o : Op) (a b : Typing) → GivesRow IsPlain (at_common_kind o a b)
common_plain o a b = kinds_give IsPlain (kind_of a.type) (kind_of b.type) (common o a b) (λ integer j k. refl)

shifted_plain : (o : Op) (a b : Typing) → GivesRow IsPlain (shifted o a b)
shifted_plain o a b =
    kinds_give IsPlain (kind_of a.type) (kind_of b.type) (λ j k. integer (promoted j) (shift_constant o (promoted j) a.constant b.constant)) (λ integer j k. refl)

abbrev taken_plain : (taken : Bool) (x : Typing) → IsPlain x → GivesRow IsPlain (if_taken taken x)
taken_plain taken x h = taken_gives IsPlain taken x (λ is. h)

logical_plain : (decides : Bool) (a b : Typing) → GivesRow IsPlain (logical decides a b)
logical_plain decides a b = taken_plain (is_condition a.type && is_condition b.type) (integer kind.Int (logical_constant decides a.constant b.constant)) refl

order_plain : (o : Op) (a b : Typing) → GivesRow IsPlain (order o a b)
order_plain o a b =
    let same = are_same_pointers a.type b.type in
    either_gives IsPlain (at_common_kind o a b) (if_taken same plain_truth) (common_plain o a b) (taken_plain same plain_truth refl)

equality_plain : (o : Op) (a b : Typing) → GivesRow IsPlain (equality o a b)
equality_plain o a b =
    let taken = are_comparable a b in
    either_gives IsPlain (at_common_kind o a b) (if_taken taken plain_truth) (common_plain o a b) (taken_plain taken plain_truth refl)

row_of_operator : (structs : List Members) (op : BinaryOperator) (a b : Typing) → GivesRow (λ x. x.address ≡ binary_address op a b) (result_of structs (row_of op) a b)
row_of_operator structs binary.Or a b = plain_row binary.Or a b (logical true a b) refl (logical_plain true a b)
row_of_operator structs binary.And a b = plain_row binary.And a b (logical false a b) refl (logical_plain false a b)
row_of_operator structs binary.BitOr a b = plain_row binary.BitOr a b (at_common_kind op.Or a b) refl (common_plain op.Or a b)
row_of_operator structs binary.BitXor a b = plain_row binary.BitXor a b (at_common_kind op.Xor a b) refl (common_plain op.Xor a b)
row_of_operator structs binary.BitAnd a b = plain_row binary.BitAnd a b (at_common_kind op.And a b) refl (common_plain op.And a b)
row_of_operator structs binary.Equal a b = plain_row binary.Equal a b (equality op.Equal a b) refl (equality_plain op.Equal a b)
row_of_operator structs binary.NotEqual a b = plain_row binary.NotEqual a b (equality op.NotEqual a b) refl (equality_plain op.NotEqual a b)
row_of_operator structs binary.Less a b = plain_row binary.Less a b (order op.Less a b) refl (order_plain op.Less a b)
row_of_operator structs binary.Greater a b = plain_row binary.Greater a b (order op.Greater a b) refl (order_plain op.Greater a b)
row_of_operator structs binary.LessEqual a b = plain_row binary.LessEqual a b (order op.LessOrEqual a b) refl (order_plain op.LessOrEqual a b)
row_of_operator structs binary.GreaterEqual a b = plain_row binary.GreaterEqual a b (order op.GreaterOrEqual a b) refl (order_plain op.GreaterOrEqual a b)
row_of_operator structs binary.ShiftLeft a b = plain_row binary.ShiftLeft a b (shifted op.ShiftLeft a b) refl (shifted_plain op.ShiftLeft a b)
row_of_operator structs binary.ShiftRight a b = plain_row binary.ShiftRight a b (shifted op.ShiftRight a b) refl (shifted_plain op.ShiftRight a b)
row_of_operator structs binary.Add a b = sum_gives structs a b
row_of_operator structs binary.Subtract a b = difference_gives structs a b
row_of_operator structs binary.Multiply a b = plain_row binary.Multiply a b (at_common_kind op.Multiply a b) refl (common_plain op.Multiply a b)
row_of_operator structs binary.Divide a b = plain_row binary.Divide a b (at_common_kind op.Divide a b) refl (common_plain op.Divide a b)
row_of_operator structs binary.Remainder a b = plain_row binary.Remainder a b (at_common_kind op.Remainder a b) refl (common_plain op.Remainder a b)

abbrev operands_codes : (Ty → Bool) → (Ty → Bool) → Ty → Ty → List Code
operands_codes first second s t = must_be first s ++ must_be second t

pub binary_gives : (structs : List Members) (op : BinaryOperator) (a b : Typing) → Gives (λ x. x.address ≡ binary_address op a b) (binary_rule structs op a b)
binary_gives structs op a b =
    row_gives (λ x. x.address ≡ binary_address op a b) (operands_codes is_scalar is_scalar a.type b.type) (result_of structs (row_of op) a b) (row_of_operator structs op a b)

-- ---- other rules

pub comma_gives : (a b : Typing) → Gives IsPlain (comma_rule a b)
comma_gives a b = unless_gives IsPlain (if_so (is_lock a.type) MutexValue ++ if_so (is_lock b.type) MutexValue) (value_of_type b.type) refl

pub assign_gives : (structs : List Members) (op : AssignOperator) (a b : Typing) → Gives IsPlain (assign_rule structs op a b)
assign_gives structs op a b = unless_gives IsPlain (if_so (not a.is_place) NotAPlace ++ right_codes structs (operator_of op) a b) (value_of_type a.type) refl

pub step_rule_gives : (structs : List Members) (a : Typing) → Gives IsPlain (step_rule structs a)
step_rule_gives structs a = unless_gives IsPlain (if_so (not a.is_place) NotAPlace ++ must_be (is_counted structs) a.type) (value_of_type a.type) refl

abbrev then_plain : (taken : Bool) (t : Ty) (row : Option Typing) → GivesRow IsPlain row → GivesRow IsPlain (either (if_taken taken (value_of_type t)) row)
then_plain taken t row h = either_gives IsPlain (if_taken taken (value_of_type t)) row (taken_plain taken (value_of_type t) refl) h

other_plain : (a b : Typing) → GivesRow IsPlain (chosen_other a b)
other_plain a b =
    let last = if_taken (are_void_and_object a.type b.type) (value_of_type void_pointer) in
    let fourth = either (if_taken (is_pointer_beside_null b a) (value_of_type b.type)) last in
    let third = either (if_taken (is_pointer_beside_null a b) (value_of_type a.type)) fourth in
    let second = either (if_taken (are_same_pointers a.type b.type) (value_of_type a.type)) third in
    then_plain (is_void a.type && is_void b.type) Void second
    (then_plain (are_same_pointers a.type b.type) a.type third
    (then_plain (is_pointer_beside_null a b) a.type fourth
    (then_plain (is_pointer_beside_null b a) b.type last
    (taken_plain (are_void_and_object a.type b.type) (value_of_type void_pointer) refl))))

pub choice_gives : (c a b : Typing) → Gives IsPlain (choice_rule c a b)
choice_gives c a b =
    let row = choice_result c a b in
    row_gives IsPlain (must_be is_condition c.type ++ arm_codes a b row) row
    (either_gives IsPlain (chosen_integer c.constant a b) (chosen_other a b)
    (kinds_give IsPlain (kind_of a.type) (kind_of b.type) (λ j k. integer (usual j k) (choice_constant (usual j k) c.constant a.constant b.constant)) (λ integer j k. refl)) (other_plain a b))

abbrev HasAddress : Address → Typing → Type 0
HasAddress address x = x.address ≡ address

pointed_gives : (e : Typing) (target : Option Ty) → GivesRow (HasAddress e.address) (indirect e target)
pointed_gives e None = tt
pointed_gives e (Some t) = pointed_by e t (is_void t)
  where
    pointed_by : (e : Typing) (t : Ty) (void : Bool) → GivesRow (HasAddress e.address)
        (if void then None else Some (record { type = t; is_place = not (is_function t); constant = NotConstant; is_null = false; address = e.address }))
    pointed_by e t true = tt
    pointed_by e t false = refl

promoted_plain : (o : UnaryOp) (e : Typing) (kind : Option Kind) → GivesRow IsPlain (at_promoted_kind o e kind)
promoted_plain o e None = tt
promoted_plain o e (Some k) = refl

not_plain : (e : Typing) (kind : Option Kind) → IsPlain (not_of e kind)
not_plain e None = refl
not_plain e (Some k) = refl

arithmetic_gives : (o : UnaryOp) (e : Typing) → Gives IsPlain (arithmetic_rule o e)
arithmetic_gives o e = row_gives IsPlain (must_be is_integer e.type) (at_promoted_kind o e (kind_of e.type)) (promoted_plain o e (kind_of e.type))

pub prefix_gives : (op : PrefixOperator) (e : Typing) → Gives (HasAddress (prefix_address op e)) (prefix_rule op e)
prefix_gives prefix.Address e = unless_gives (HasAddress e.address) (if_so (not (is_addressable e)) NotAPlace) (address_of e) refl
prefix_gives prefix.Indirection e =
    let v = value e in row_gives (HasAddress v.address) (must_be is_pointer v.type) (indirect v (target_of v.type)) (pointed_gives v (target_of v.type))
prefix_gives prefix.Plus e = arithmetic_gives u.Plus (value e)
prefix_gives prefix.Minus e = arithmetic_gives u.Negate (value e)
prefix_gives prefix.Complement e = arithmetic_gives u.Complement (value e)
prefix_gives prefix.Not e = let v = value e in unless_gives IsPlain (must_be is_condition v.type) (not_of v (kind_of v.type)) (not_plain v (kind_of v.type))

element_gives : (a i : Typing) (target : Option Ty) → GivesRow (HasAddress (moved a.address i.constant)) (element_of a i target)
element_gives a i None = tt
element_gives a i (Some t) = refl

pub index_gives : (structs : List Members) (a i : Typing) → Gives (HasAddress (moved a.address i.constant)) (index_rule structs a i)
index_gives structs a i =
    row_gives (HasAddress (moved a.address i.constant)) (operands_codes (is_steppable structs) is_integer a.type i.type) (element_of a i (target_of a.type)) (element_gives a i (target_of a.type))

-- a member of what is at an address
pub record IsMemberAt (address : Address) (x : Typing) : Type 0 where
  pub number : ℕ
  pub is : x.address ≡ inside (member_at number) address

field_gives : (address : Address) (k : ℕ) (field : Option Field) → Gives (IsMemberAt address) (member_in address k field)
field_gives address k None = tt
field_gives address k (Some field) = record { number = k; is = refl }

member_gives : (code : Code) (address : Address) (name : Name) (members : Members) → Gives (IsMemberAt address) (member_of code address name members)
member_gives code address name NotYet = tt
member_gives code address name Begun = tt
member_gives code address name (Known fields) = field_gives address (number_of_field fields name) (field_of fields name)
member_gives code address name Faulty = tt

dot_by : (structs : List Members) (e : Typing) (name : Name) (s : Option ℕ) → Gives (IsMemberAt e.address) (dot_of structs e name s)
dot_by structs e name None = tt
dot_by structs e name (Some s) = by_place structs e name s e.is_place
  where
    by_place : (structs : List Members) (e : Typing) (name : Name) (s : ℕ) (place : Bool) → Gives (IsMemberAt e.address) (if place then member_of Mismatch e.address name (members_of structs s) else Broken (Mismatch ∷ []))
    by_place structs e name s true = member_gives Mismatch e.address name (members_of structs s)
    by_place structs e name s false = tt

pub dot_gives : (structs : List Members) (e : Typing) (name : Name) → Gives (IsMemberAt e.address) (dot_rule structs e name)
dot_gives structs e name = dot_by structs e name (struct_of e.type)

target_gives : (structs : List Members) (e : Typing) (name : Name) (t : Ty) (s : Option ℕ) → Gives (IsMemberAt e.address) (arrow_target structs e name t s)
target_gives structs e name t None = by_test e (is_void t || is_function t || is_complete structs t)
  where
    by_test : (e : Typing) (test : Bool) → Gives (IsMemberAt e.address) (if test then Broken (Mismatch ∷ []) else Broken (Incomplete ∷ []))
    by_test e true = tt
    by_test e false = tt
target_gives structs e name t (Some s) = member_gives Incomplete e.address name (members_of structs s)

arrow_by : (structs : List Members) (e : Typing) (name : Name) (target : Option Ty) → Gives (IsMemberAt e.address) (arrow_of structs e name target)
arrow_by structs e name None = tt
arrow_by structs e name (Some t) = target_gives structs e name t (struct_of t)

pub arrow_gives : (structs : List Members) (e : Typing) (name : Name) → Gives (IsMemberAt e.address) (arrow_rule structs e name)
arrow_gives structs e name = arrow_by structs e name (target_of e.type)

pub sizeof_gives : (structs : List Members) (in_size : Bool) (t : Ty) → Gives IsPlain (sizeof_rule structs in_size t)
sizeof_gives structs in_size t = by_broken structs in_size t (is_broken structs t)
  where
    by_broken : (structs : List Members) (in_size : Bool) (t : Ty) (broken : Bool) → Gives IsPlain (if broken then Silent else unless (sizeof_codes structs in_size t) (integer ULong (constant_of_bytes (bytes_in t))))
    by_broken structs in_size t true = tt
    by_broken structs in_size t false = unless_gives IsPlain (sizeof_codes structs in_size t) (integer ULong (constant_of_bytes (bytes_in t))) refl

converted_gives : (target : Ty) (v : Typing) → (converted target v).address ≡ cast_address target v
converted_gives Void v = refl
converted_gives (Int k) v = refl
converted_gives ThreadId v = refl
converted_gives Mutex v = refl
converted_gives Cond v = refl
converted_gives (Pointer t) v = refl
converted_gives (Array t n) v = refl
converted_gives (Struct s) v = refl
converted_gives (Function result params dots) v = refl
converted_gives (Opaque n) v = refl

pub cast_gives : (target : Ty) (e : Typing) → Gives (HasAddress (cast_address target (value e))) (cast_rule target e)
cast_gives target e =
    unless_gives (HasAddress (cast_address target (value e))) (cast_codes target (value e)) (converted target (value e)) (converted_gives target (value e))

call_by : (env : Env) (known : Option LibraryFunction) (f : Typing) (s : Option Signature) (arguments : List Argument) → Gives IsPlain (call_of env known f s arguments)
call_by env known f None arguments = tt
call_by env known f (Some s) arguments =
    unless_gives IsPlain (arguments_codes env s.dots (passes_by known (Some s)) arguments ++ asked env.role (asks_of known) arguments) (value_of_type s.result) refl

pub call_gives : (env : Env) (f : Argument) (arguments : List Argument) → Gives IsPlain (call_rule env f arguments)
call_gives env f arguments = call_by env (library_called f.look.word) f.typing (signature_of f.typing) arguments

silent_gives : (S : Typing → Type 0) (codes : List Code) → Gives S (silent_unless codes)
silent_gives S [] = tt
silent_gives S (c ∷ codes) = tt

use_gives : (env : Env) (name : Name) (d : Declared) (m : Meaning) → Gives (HasAddress (declared_address d m)) (use_of env name d.ordinal m)
use_gives env name d (AnObject t static) =
    let address = address_of_storage static d.ordinal in unless_gives (HasAddress address) (refused_codes env name) (place_of_type t address) refl
use_gives env name d (AFunction t) =
    unless_gives (HasAddress (FunctionAddress d.ordinal)) (refused_codes env name ++ function_codes env name t) (function_named t d.ordinal) refl
use_gives env name d (ATypedef t) = tt
use_gives env name d (AnEnumerator z) = unless_gives IsPlain (refused_codes env name) (integer kind.Int (KnownValue z)) refl
use_gives env name d (AnInitialiserWord t) = tt
use_gives env name d AFaultyName = silent_gives (HasAddress NotAddress) (refused_codes env name)

pub name_gives : (env : Env) (name : Name) (found : Option Declared) → Gives (HasAddress (name_address found)) (use_of_declared env name found)
name_gives env name None = tt
name_gives env name (Some d) = use_gives env name d d.meaning
