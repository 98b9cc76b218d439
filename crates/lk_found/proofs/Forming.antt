-- What the forms of a declarator make of types of the table.
use Rattle.std.proofs.Common.{◌≡◌, ◌∙◌, ◌*◌, ◌<◌, ◌^◌, ℕ, zero, suc, Bool, true, false, List, [], ◌∷◌, ◌++◌, Option, Some, None, refl, sym, ap, subst, arith, All, IfSome, nat_lt, nat_eq}
use Rattle.std.specs.Prelude.{not, if◌then◌else◌, ◌&&◌, is_some, unsigned_abs}
use Rattle.std.specs.Option.{option_map}
use Rattle.std.proofs.lemmas.Bool.{and_parts, false≢true}
use Rattle.std.proofs.lemmas.Bool.Decides.{nat_tests}
use Rattle.std.proofs.lemmas.Option.{none-some, same_Some}
use Rattle.lk_base.specs.declared.code.Code.{Code}
use Rattle.lk_base.specs.declared.code.Code.TheVariants.{Incomplete}
use Rattle.lk_types.specs.Building.{IsTable, IsPartOfObjects, IsPassed}
use Rattle.lk_types.specs.Table as lists
use Rattle.lk_types.specs.Table.{Table, IsKnown, type_at}
use Rattle.lk_types.specs.declared.c_type.CType.{CType}
use Rattle.lk_types.specs.declared.c_type.CType.TheVariants as forms
use Rattle.lk_typed.proofs.Meanings.{meaning_is}
use Rattle.lk_typed.specs.Bounds.{holds_struct, is_large}
use Rattle.lk_typed.specs.Codes.{lesser}
use Rattle.lk_typed.specs.DeclaratorRules.{Size, array_rules, array_type, array_made, elements, function_rules, has_size, is_few, is_size, most_elements, unless}
use Rattle.lk_typed.specs.Faults.{Breach}
use Rattle.lk_typed.specs.Layers.{array_by}
use Rattle.lk_typed.specs.Meaning.{meaning, tree_of}
use Rattle.lk_typed.specs.MemberRules.{is_over, within_bounds, fields_in}
use Rattle.lk_typed.specs.Sizes.{is_broken, is_complete}
use Rattle.lk_typed.specs.Told.{Span, unless_broken}
use Rattle.lk_typed.specs.Ty.{Ty, Void, Int, ThreadId, Mutex, Cond, Pointer, Array, Struct, Function, Opaque}
use Rattle.lk_check_decl.proofs.Sizes.{holds_is}
use Rattle.lk_check_decl.specs.Arrays.{size_of, is_in_range}
use Rattle.lk_check_decl.specs.declared.arrays.ArraySize.{ArraySize}
use Rattle.lk_check_decl.specs.declared.arrays.ArraySize.TheVariants as sizes
use Rattle.lk_typed.specs.declared.constant.Constant.TheVariants as constant
use Rattle.lk_check_decl.specs.Breaches.{told}
use Rattle.lk_check_decl.specs.Making.{IsMade}
use Rattle.lk_found.specs.Shapes.{Form, AnArray, IsElement, IsArrayMade, IsMadeBy, array_codes, is_faulty, made_of, rules_of}
use Rattle.lk_found.specs.declared.layers.Element.{Element}
use Rattle.lk_found.specs.declared.layers.Made.{Made}

-- ---- codes

lesser_some : (code : Code) (o : Option Code) → lesser (Some code) o ≡ None → ⊥
lesser_some code None is = none-some code (sym is)
lesser_some code (Some other) is = none-some _ (sym is)

-- without a code no rule is broken
pub no_code : (broken : List Breach) → told broken ≡ None → broken ≡ []
no_code [] is = refl
no_code (b ∷ broken) is = absurd (lesser_some b.code (told broken) is)

pub some_code : (broken : List Breach) (code : Option Code) → code ≡ told broken → is_some code ≡ true → (t : Option Ty) → unless_broken broken t ≡ None
some_code [] None is some t = absurd (false≢true some)
some_code [] (Some code) is some t = absurd (none-some code (sym is))
some_code (b ∷ broken) code is some t = refl

pub none_code : (broken : List Breach) (code : Option Code) → code ≡ told broken → is_some code ≡ false → (t : Option Ty) → unless_broken broken t ≡ t
none_code broken None is none t = rw (no_code broken (sym is)) refl
none_code broken (Some code) is none t = absurd (false≢true (sym none))

unless_empty : (holds : Bool) (code : Code) (others : List Breach) → told (unless holds code ++ others) ≡ None → holds ≡ true
unless_empty true code others is = refl
unless_empty false code others is = absurd (lesser_some code (told others) is)

-- ---- what of a type the table tells

-- whether a type that holds no struct by value is complete
abbrev pub is_plain : Ty → Bool
is_plain Void = false
is_plain (Int k) = true
is_plain ThreadId = true
is_plain Mutex = true
is_plain Cond = true
is_plain (Pointer t) = true
is_plain (Array t n) = not (nat_eq n 0)
is_plain (Struct s) = false
is_plain (Function result params dots) = false
is_plain (Opaque n) = false

plain_form : (table : Table) (at : ℕ → Ty) (form : CType) → is_plain (tree_of at form) ≡ true → lists.is_complete_form table form ≡ true
plain_form table at forms.Void is = is
plain_form table at (forms.Int k) is = is
plain_form table at forms.ThreadId is = is
plain_form table at forms.Mutex is = is
plain_form table at forms.Cond is = is
plain_form table at (forms.Pointer t) is = is
plain_form table at (forms.Array t n) is = is
plain_form table at (forms.Struct s) is = absurd (false≢true is)
plain_form table at (forms.Function r ps dots) is = is
plain_form table at (forms.Opaque n) is = is

-- a type of the table that is a pointer, or an array of some size
pub part_of_objects : (table : Table) → IsTable table → (t : ℕ) → IsKnown table t → (tree : Ty) → meaning table t ≡ tree → is_plain tree ≡ true → IsPartOfObjects table t
part_of_objects table good t known tree is plain = record {
  known = known;
  complete = plain_form table (meaning table) (type_at table t) (subst (λ tree. is_plain tree ≡ true) (sym is ∙ meaning_is table good t known) plain);
}

pub part_of_made : (old new : Table) → IsTable new → (tree : Ty) (complete : Bool) → is_plain tree ≡ complete → (answer : Option ℕ) → IsMade old new tree answer →
    IfSome answer (λ t. complete ≡ true → false ≡ false → IsPartOfObjects new t)
part_of_made old new good tree complete plain None is = tt
part_of_made old new good tree complete plain (Some t) is = λ yes same. part_of_objects new good t is.known tree is.means (plain ∙ yes)

pub made_known : (old new : Table) (tree : Ty) (answer : Option ℕ) → IsMade old new tree answer → IfSome answer (IsKnown new)
made_known old new tree None is = tt
made_known old new tree (Some t) is = is.known

-- ---- sizes of arrays

array_count_same : (t : Ty) (n m : ℕ) → Some (Array t n) ≡ Some (Array t m) → n ≡ m
array_count_same t n m is = ap count (same_Some _ _ is)
  where
    count : Ty → ℕ
    count Void = 0
    count (Int k) = 0
    count ThreadId = 0
    count Mutex = 0
    count Cond = 0
    count (Pointer t) = 0
    count (Array t n) = n
    count (Struct s) = 0
    count (Function result params dots) = 0
    count (Opaque n) = 0

pub in_range : (may : Bool) (tree : Ty) (size : ArraySize) → has_size may (Some tree) (size_of size) ≡ true → is_in_range size ≡ true
in_range may tree sizes.Absent is = refl
in_range may tree sizes.Faulty is = refl
in_range may tree (sizes.Written constant.NotConstant) is = is
in_range may tree (sizes.Written constant.Undefined) is = is
in_range may tree (sizes.Written (constant.Known z)) is = and_true (is_size z) (is_few (unsigned_abs z) (Some tree)) is
  where
    and_true : (a b : Bool) → (a && b) ≡ true → (a && true) ≡ true
    and_true true b is = refl
    and_true false b is = is

at_most : (m : ℕ) → not (nat_lt most_elements m) ≡ true → m < 2 ^ 64
unfolding most_elements
at_most m few = grind (arith, nat_tests)

-- the elements of an array of this size are few
pub few_elements : (may : Bool) (tree : Ty) (size : ArraySize) → is_faulty size ≡ false → has_size may (Some tree) (size_of size) ≡ true → (answer : Option ℕ) →
    ((t : Ty) → option_map (Array t) answer ≡ array_type (size_of size) t) → (n : ℕ) → answer ≡ Some n → n * elements tree < 2 ^ 64
unfolding most_elements
few_elements may tree sizes.Absent whole is answer count n some =
    let zero_is : n ≡ 0 = array_count_same tree n 0 (ap (option_map (Array tree)) (sym some) ∙ count tree) in
    rw zero_is (omega arith)
few_elements may tree sizes.Faulty whole is answer count n some = absurd (false≢true (sym whole))
few_elements may tree (sizes.Written constant.NotConstant) whole is answer count n some = absurd (false≢true is)
few_elements may tree (sizes.Written constant.Undefined) whole is answer count n some = absurd (false≢true is)
few_elements may tree (sizes.Written (constant.Known z)) whole is answer count n some =
    let same : n ≡ unsigned_abs z = array_count_same tree n (unsigned_abs z) (ap (option_map (Array tree)) (sym some) ∙ count tree) in
    let few = (and_parts (is_size z) (is_few (unsigned_abs z) (Some tree)) is).1 in
    rw same (at_most (unsigned_abs z * elements tree) few)

-- ---- an array

pub codes_asked : (span : Span) (tree : Option Ty) (size : ArraySize) → is_faulty size ≡ false → array_codes span (size_of size) tree ≡ array_rules span.env span.may_be_absent tree (size_of size)
codes_asked span tree sizes.Absent whole = refl
codes_asked span tree sizes.Faulty whole = absurd (false≢true (sym whole))
codes_asked span tree (sizes.Written c) whole = refl

-- what is made of elements that are complete and not faulty
array_is : (span : Span) (size : Size) (tree : Ty) → array_rules span.env span.may_be_absent (Some tree) size ≡ [] → is_broken span.env.structs tree ≡ false →
    array_by span size (Some tree) ≡ array_type size tree
array_is span size tree none whole =
    ap (λ broken. unless_broken broken (array_made span.env.structs size tree)) none ∙ ap (λ broken. if broken then None else array_type size tree) whole

pub array_made_by : (old new : Table) (span : Span) (tree : Ty) (size : ArraySize) (element : Element) → is_faulty size ≡ false →
    IsElement span.env.structs element (Some tree) → element.is_complete ≡ true → element.is_broken ≡ false →
    None ≡ told (array_rules span.env span.may_be_absent (Some tree) (size_of size)) →
    (count : ℕ) → array_type (size_of size) tree ≡ Some (Array tree count) → (made : Made) → IsArrayMade old new span tree count made →
    IsMadeBy old new span (AnArray (size_of size)) (Some tree) made
array_made_by old new span tree size element whole is complete sound none count counted made array =
    let rules = array_rules span.env span.may_be_absent (Some tree) (size_of size) in
    let made_is = array_is span (size_of size) tree (no_code rules (sym none)) (is.1 ∙ sound) ∙ counted in
    record {
      code = array.code ∙ none ∙ ap told (sym (codes_asked span (Some tree) size whole));
      type = array.type ∙ ap (within_bounds span.behind) (sym made_is);
      large = array.large ∙ ap (is_over span.behind) (sym made_is);
      element = subst (λ t. IsElement span.env.structs made.element (within_bounds span.behind t)) (sym made_is) (element_of (is_large (fields_in span.behind) (Array tree count)));
    }
  where
    element_of : (large : Bool) → IsElement span.env.structs made.element (if large then None else Some (Array tree count))
    element_of true = tt
    element_of false = (ap (λ b. not (nat_eq count 0) && b) (is.0 ∙ complete) ∙ and_id (not (nat_eq count 0)) ∙ sym array.complete, is.1 ∙ sound ∙ sym array.broken)
      where
        and_id : (b : Bool) → (b && true) ≡ b
        and_id true = refl
        and_id false = refl

-- nothing is made
pub nothing_made_by : (old new : Table) (span : Span) (form : Form) (left : Option Ty) (made : Made) → made.code ≡ told (rules_of form span left) → made_of form span left ≡ None →
    made.ty ≡ None → made.is_large ≡ false → IsMadeBy old new span form left made
nothing_made_by old new span form left made code none no_type small = record {
  code = code;
  type = ap (option_map (meaning new)) no_type ∙ ap (within_bounds span.behind) (sym none);
  large = small ∙ ap (is_over span.behind) (sym none);
  element = subst (λ t. IsElement span.env.structs made.element (within_bounds span.behind t)) (sym none) tt;
}

pub array_not_made_by : (old new : Table) (span : Span) (tree : Ty) (size : ArraySize) (element : Element) → is_faulty size ≡ false →
    IsElement span.env.structs element (Some tree) →
    None ≡ told (array_rules span.env span.may_be_absent (Some tree) (size_of size)) →
    (element.is_complete ≡ true → element.is_broken ≡ false → array_type (size_of size) tree ≡ None) → (made : Made) → made.code ≡ None → made.ty ≡ None → made.is_large ≡ false →
    IsMadeBy old new span (AnArray (size_of size)) (Some tree) made
array_not_made_by old new span tree size element whole is none no_count made code no_type small =
    let rules = array_rules span.env span.may_be_absent (Some tree) (size_of size) in
    let complete = sym is.0 ∙ unless_empty (is_complete span.env.structs tree) Incomplete _ (sym none) in
    nothing_made_by old new span (AnArray (size_of size)) (Some tree) made (code ∙ none ∙ ap told (sym (codes_asked span (Some tree) size whole)))
    (ap (λ broken. unless_broken broken (array_made span.env.structs (size_of size) tree)) (no_code rules (sym none)) ∙ (of_broken (is_broken span.env.structs tree) (λ sound. no_count complete (sym is.1 ∙ sound)))) no_type small
  where
    of_broken : (broken : Bool) → (broken ≡ false → array_type (size_of size) tree ≡ None) → (if broken then None else array_type (size_of size) tree) ≡ None
    of_broken true is = refl
    of_broken false is = is refl

-- ---- a function: what it returns holds no struct by value

passed_form : (table : Table) (at : ℕ → Ty) (form : CType) → told (function_rules (Some (tree_of at form))) ≡ None → holds_struct (tree_of at form) ≡ false
passed_form table at forms.Void is = refl
passed_form table at (forms.Int k) is = refl
passed_form table at forms.ThreadId is = refl
passed_form table at forms.Mutex is = refl
passed_form table at forms.Cond is = refl
passed_form table at (forms.Pointer t) is = refl
passed_form table at (forms.Array t n) is = absurd (none-some _ (sym is))
passed_form table at (forms.Struct s) is = absurd (none-some _ (sym is))
passed_form table at (forms.Function r ps dots) is = refl
passed_form table at (forms.Opaque n) is = refl

pub returned_passed : (table : Table) → IsTable table → (t : ℕ) → IsKnown table t → told (function_rules (Some (meaning table t))) ≡ None → IsPassed table t
returned_passed table good t known none = record {
  known = known;
  no_struct = sym (holds_is table good t known) ∙ ap holds_struct (meaning_is table good t known) ∙
      passed_form table (meaning table) (type_at table t) (subst (λ tree. told (function_rules (Some tree)) ≡ None) (meaning_is table good t known) none);
}

pub none_is : {A : Type 0} (o : Option A) → is_some o ≡ false → o ≡ None
none_is None is = refl
none_is (Some a) is = absurd (false≢true (sym is))

pub all_cons : {A : Type 0} (P : A → Type 0) (a : A) (others : List A) → P a → All P others → All P (a ∷ others)
all_cons P a others first all zero d within = first
all_cons P a others first all (suc k) d within = all k d (omega (arith, within))

-- without elements there is no array
pub no_array : (span : Span) (size : Size) → array_by span size None ≡ None
no_array span size = unless_none (array_rules span.env span.may_be_absent None size)
  where
    unless_none : (broken : List Breach) → unless_broken broken None ≡ None
    unless_none [] = refl
    unless_none (b ∷ broken) = refl
