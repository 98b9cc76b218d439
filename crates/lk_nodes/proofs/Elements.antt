-- The types of declared names: the elements of an array are of a complete type (C99 6.7.5.2, 1), whatever a typedef, another declaration or an initialiser makes of it; and an object that
-- is given an initialiser holds complete structs alone (6.7, 7; 6.9.2, 1).
use Rattle.std.proofs.Common.{◌≡◌, ◌∙◌, ℕ, Bool, true, false, List, [], ◌∷◌, ◌++◌, Option, Some, None, refl, sym, ap, subst}
use Rattle.std.specs.Prelude.{⊤, ◌&&◌, ◌||◌, not, nat_eq, if◌then◌else◌}
use Rattle.std.proofs.lemmas.Bool.{false≢true}
use Rattle.lk_tree.specs.declared.declaration.Init.{Init, out-Init}
use Rattle.lk_tree.specs.declared.expression.DeclaratorForm.TheOpen.{Specifier-F}
use Rattle.lk_tree.specs.declared.expression.Specifier.{Specifier, out-Specifier}
use Rattle.lk_tree.specs.declared.specifiers.Storage.{Storage}
use Rattle.lk_tree.specs.declared.specifiers.TypeWord.{TypeWord}
use Rattle.lk_typed.specs.Declarations.{completed, composite, composite_if_equal, composite_type, declared_as, elements_given, old_type, reach_of, sized, sized_by, type_of_name, type_with_old}
use Rattle.lk_typed.specs.DeclarationRules.{Given, Holder, Scope, has, is_static_object, is_typedef, meaning_of, specifier_rules, type_in}
use Rattle.lk_typed.specs.Declarations as declarations
use Rattle.lk_typed.specs.Env.{Env, AFunction, ATypedef, AnObject, Declared, Members, Name, Tag, latest, look_up, look_up_tag, members_of, nothing, or_else}
use Rattle.lk_typed.specs.declared.entity.Linkage.{Linkage}
use Rattle.lk_typed.specs.Expressions.{specifier_found}
use Rattle.lk_typed.specs.Faults.{Breach}
use Rattle.lk_typed.specs.InitialiserRules.{given_rules}
use Rattle.lk_typed.specs.Initialisers.{completed_by, size_of_init}
use Rattle.lk_typed.specs.MemberRules.{fields_in, within_bounds}
use Rattle.lk_typed.specs.Bounds.{is_large}
use Rattle.lk_typed.specs.Redeclared.{DefinesEnum, DefinesStruct, NamesEnum, is_linked_alike, may_use, tag_meant, typedef_type}
use Rattle.lk_typed.specs.Sizes.{are_known, is_complete}
use Rattle.lk_typed.specs.Telling.{of_specifier}
use Rattle.lk_typed.specs.Told.{Meant, Named, SpecifierTold, meant, named_type, of_type_alone, struct_meant_by, struct_use, tag_found, type_if_admitted, type_of, type_of_word, typedef_of, unless_broken, with_optional}
use Rattle.lk_typed.specs.TypeWords.{WordType, integer, type_of_words, void}
use Rattle.lk_typed.specs.Ty.{Ty, Tys, Void, Int, ThreadId, Mutex, Cond, Pointer, Array, Struct, Function, Opaque, Signature, array_of, function_of, int, is_array, is_function, is_redeclarable, target_of}
use Rattle.lk_rules.specs.LayerLaws.{SpecifierTree, specifier_parts_told}
use Rattle.lk_rules.proofs.Layered.{specifiers_follow_their_forms}
use Rattle.lk_nodes.proofs.Lists.{IfThere}
use Rattle.lk_nodes.proofs.Structs.{HasElements, KnownStay, MayHaveElements, NamesHaveElements, complete_stays, may_elements_stay}

-- ---- what an object holds

-- an object of this type holds complete structs alone
abbrev pub HoldsComplete : List Members → Ty → Type 0
HoldsComplete structs Void = ⊤
HoldsComplete structs (Int k) = ⊤
HoldsComplete structs ThreadId = ⊤
HoldsComplete structs Mutex = ⊤
HoldsComplete structs Cond = ⊤
HoldsComplete structs (Pointer t) = ⊤
HoldsComplete structs (Array t n) = is_complete structs t ≡ true
HoldsComplete structs (Struct s) = are_known (members_of structs s) ≡ true
HoldsComplete structs (Function result params dots) = ⊤
HoldsComplete structs (Opaque n) = ⊤

-- the same of a type that may be missing
abbrev pub MayHold : List Members → Option Ty → Type 0
MayHold structs = IfThere (HoldsComplete structs)

-- so does an object of a complete type
pub complete_holds : (structs : List Members) (t : Ty) → is_complete structs t ≡ true → HoldsComplete structs t
complete_holds structs Void is = tt
complete_holds structs (Int k) is = tt
complete_holds structs ThreadId is = tt
complete_holds structs Mutex is = tt
complete_holds structs Cond is = tt
complete_holds structs (Pointer t) is = tt
complete_holds structs (Array t n) is = by_size (nat_eq n 0) is
  where
    by_size : (b : Bool) → (not b && is_complete structs t) ≡ true → is_complete structs t ≡ true
    by_size true is = absurd (false≢true is)
    by_size false is = is
complete_holds structs (Struct s) is = is
complete_holds structs (Function result params dots) is = tt
complete_holds structs (Opaque n) is = tt

-- and it stays so
pub holding_stays : (xs ys : List Members) → KnownStay xs ys → (t : Ty) → HoldsComplete xs t → HoldsComplete ys t
holding_stays xs ys stays Void holds = tt
holding_stays xs ys stays (Int k) holds = tt
holding_stays xs ys stays ThreadId holds = tt
holding_stays xs ys stays Mutex holds = tt
holding_stays xs ys stays Cond holds = tt
holding_stays xs ys stays (Pointer t) holds = tt
holding_stays xs ys stays (Array t n) holds = complete_stays xs ys stays t holds
holding_stays xs ys stays (Struct s) holds = ap are_known (stays s holds) ∙ holds
holding_stays xs ys stays (Function result params dots) holds = tt
holding_stays xs ys stays (Opaque n) holds = tt

pub may_holding_stays : (xs ys : List Members) → KnownStay xs ys → (t : Option Ty) → MayHold xs t → MayHold ys t
may_holding_stays xs ys stays None holds = tt
may_holding_stays xs ys stays (Some t) holds = holding_stays xs ys stays t holds

-- an array that holds complete structs has complete elements
holding_elements : (structs : List Members) (t : Ty) → HoldsComplete structs t → HasElements structs t
holding_elements structs Void holds = tt
holding_elements structs (Int k) holds = tt
holding_elements structs ThreadId holds = tt
holding_elements structs Mutex holds = tt
holding_elements structs Cond holds = tt
holding_elements structs (Pointer t) holds = tt
holding_elements structs (Array t n) holds = holds
holding_elements structs (Struct s) holds = tt
holding_elements structs (Function result params dots) holds = tt
holding_elements structs (Opaque n) holds = tt

pub may_holding_elements : (structs : List Members) (t : Option Ty) → MayHold structs t → MayHaveElements structs t
may_holding_elements structs None holds = tt
may_holding_elements structs (Some t) holds = holding_elements structs t holds

-- an array with complete elements or a complete type holds complete structs
pub elements_holding : (structs : List Members) (t : Ty) → HasElements structs t → (is_array t || is_complete structs t) ≡ true → HoldsComplete structs t
elements_holding structs Void has is = tt
elements_holding structs (Int k) has is = tt
elements_holding structs ThreadId has is = tt
elements_holding structs Mutex has is = tt
elements_holding structs Cond has is = tt
elements_holding structs (Pointer t) has is = tt
elements_holding structs (Array t n) has is = has
elements_holding structs (Struct s) has is = is
elements_holding structs (Function result params dots) has is = tt
elements_holding structs (Opaque n) has is = tt

-- ---- composite types (C99 6.2.7)

-- a size that isn't 0 is kept
sized_complete : (n m : ℕ) (c d : Bool) → (c ≡ true → d ≡ true) → (not (nat_eq n 0) && c) ≡ true → (not (nat_eq (sized n m) 0) && d) ≡ true
sized_complete n m c d stays is = by_size (nat_eq n 0) refl is
  where
    by_size : (b : Bool) → nat_eq n 0 ≡ b → (not b && c) ≡ true → (not (nat_eq (if b then m else n) 0) && d) ≡ true
    by_size true none is = absurd (false≢true is)
    by_size false some is = subst (λ b. (not b && d) ≡ true) (sym some) (stays is)

-- an array, where the composite types of its elements are complete
array_complete : (structs : List Members) (t : Ty) (n : ℕ) (other : Option (Ty × ℕ)) → ((u : Ty) → is_complete structs t ≡ true → is_complete structs (composite t u) ≡ true) →
    is_complete structs (Array t n) ≡ true → is_complete structs (with_optional (Array t n) (λ other. Array (composite t other.0) (sized n other.1)) other) ≡ true
array_complete structs t n None stays is = is
array_complete structs t n (Some other) stays is = sized_complete n other.1 (is_complete structs t) (is_complete structs (composite t other.0)) (stays other.0) is

-- a composite type is complete where the later one is
composite_complete : (structs : List Members) (t old : Ty) → is_complete structs t ≡ true → is_complete structs (composite t old) ≡ true
composite_complete structs Void old is = is
composite_complete structs (Int k) old is = is
composite_complete structs ThreadId old is = is
composite_complete structs Mutex old is = is
composite_complete structs Cond old is = is
composite_complete structs (Pointer t) old is = by_target (target_of old)
  where
    by_target : (u : Option Ty) → is_complete structs (with_optional (Pointer t) (λ u. Pointer (composite t u)) u) ≡ true
    by_target None = refl
    by_target (Some u) = refl
composite_complete structs (Array t n) old is = array_complete structs t n (array_of old) (composite_complete structs t) is
composite_complete structs (Struct s) old is = is
composite_complete structs (Function result params dots) old is = absurd (false≢true is)
composite_complete structs (Opaque n) old is = is

-- what holds of a composite pointer, array or function by what it is
by_composite : (Holds : Ty → Type 0) → ((t : Ty) → Holds (Pointer t)) → ((result : Ty) (params : Tys) (dots : Bool) → Holds (Function result params dots)) →
    ((t u : Ty) (n m : ℕ) → Holds (Array t n) → Holds (Array (composite t u) m)) → (t old : Ty) → Holds t → Holds (composite t old)
by_composite Holds pointer function array Void old holds = holds
by_composite Holds pointer function array (Int k) old holds = holds
by_composite Holds pointer function array ThreadId old holds = holds
by_composite Holds pointer function array Mutex old holds = holds
by_composite Holds pointer function array Cond old holds = holds
by_composite Holds pointer function array (Pointer t) old holds = by_target (target_of old)
  where
    by_target : (u : Option Ty) → Holds (with_optional (Pointer t) (λ u. Pointer (composite t u)) u)
    by_target None = holds
    by_target (Some u) = pointer (composite t u)
by_composite Holds pointer function array (Array t n) old holds = by_array (array_of old)
  where
    by_array : (other : Option (Ty × ℕ)) → Holds (with_optional (Array t n) (λ other. Array (composite t other.0) (sized n other.1)) other)
    by_array None = holds
    by_array (Some other) = array t other.0 n (sized n other.1) holds
by_composite Holds pointer function array (Struct s) old holds = holds
by_composite Holds pointer function array (Function result params dots) old holds = by_function (function_of old)
  where
    by_function : (other : Option Signature) →
        Holds (with_optional (Function result params dots) (λ other. Function (composite result other.result) (declarations.composites params other.params) dots) other)
    by_function None = holds
    by_function (Some other) = function _ _ _
by_composite Holds pointer function array (Opaque n) old holds = holds

-- a type with the size that its initialiser gives
by_completed : (Holds : Ty → Type 0) → ((t : Ty) (n m : ℕ) → Holds (Array t n) → Holds (Array t m)) → (init : Init) (t : Ty) → Holds t → Holds (completed_by init t)
by_completed Holds array init Void holds = holds
by_completed Holds array init (Int k) holds = holds
by_completed Holds array init ThreadId holds = holds
by_completed Holds array init Mutex holds = holds
by_completed Holds array init Cond holds = holds
by_completed Holds array init (Pointer t) holds = holds
by_completed Holds array init (Array t n) holds = by_size (nat_eq n 0)
  where
    by_size : (b : Bool) → Holds (if b then Array t (size_of_init t (out-Init init)) else Array t n)
    by_size true = array t n (size_of_init t (out-Init init)) holds
    by_size false = holds
by_completed Holds array init (Struct s) holds = holds
by_completed Holds array init (Function result params dots) holds = holds
by_completed Holds array init (Opaque n) holds = holds

-- a type that is missing where a rule is broken
pub by_unbroken : (Holds : Ty → Type 0) (bs : List Breach) (t : Option Ty) → (bs ≡ [] → IfThere Holds t) → IfThere Holds (unless_broken bs t)
by_unbroken Holds [] t holds = holds refl
by_unbroken Holds (b ∷ bs) t holds = tt

-- or where it is over a bound
pub by_bounds : (Holds : Ty → Type 0) (env : Env) (t : Option Ty) → IfThere Holds t → IfThere Holds (within_bounds env t)
by_bounds Holds env None holds = tt
by_bounds Holds env (Some t) holds = by_large (is_large (fields_in env) t)
  where
    by_large : (b : Bool) → IfThere Holds (if b then None else Some t)
    by_large true = tt
    by_large false = holds

-- the type of a declared name, by the declarations before it
by_old : (Holds : Ty → Type 0) → ((t old : Ty) → Holds t → Holds (composite t old)) → (env : Env) (name : Name) (reach : Linkage) (t : Option Ty) → IfThere Holds t →
    IfThere Holds (type_with_old env name reach t)
by_old Holds composed env name reach None holds = tt
by_old Holds composed env name reach (Some t) holds = by_linked (is_linked_alike reach reach)
  where
    by_equal : (old : Ty) (b : Bool) → Holds (if b then composite t old else t)
    by_equal old true = composed t old holds
    by_equal old false = holds

    by_found : (old : Option Ty) → Holds (composite_if_equal t old)
    by_found None = holds
    by_found (Some old) = by_equal old (is_redeclarable t old)

    by_linked : (b : Bool) → Holds (composite_if_equal t (if b then old_type (look_up env name) else None))
    by_linked true = by_found (old_type (look_up env name))
    by_linked false = holds

-- and by its initialiser
by_given : (Holds : Ty → Type 0) → ((init : Init) (t : Ty) → Holds t → Holds (completed_by init t)) → (init : Option Init) (t : Option Ty) → IfThere Holds t → IfThere Holds (completed init t)
by_given Holds sized init t holds = by_unbroken Holds (given_rules (elements_given init t)) (sized_by init t) (λ none. by_size init t holds)
  where
    by_size : (init : Option Init) (t : Option Ty) → IfThere Holds t → IfThere Holds (sized_by init t)
    by_size init None holds = tt
    by_size None (Some t) holds = holds
    by_size (Some init) (Some t) holds = sized init t holds

-- both of them, of a name that may be missing
by_declared : (Holds : Ty → Type 0) → ((t old : Ty) → Holds t → Holds (composite t old)) → ((init : Init) (t : Ty) → Holds t → Holds (completed_by init t)) →
    (env : Env) (scope : Scope) (ss : List Storage) (name : Option Named) (init : Option Init) (t : Option Ty) → IfThere Holds t → IfThere Holds (completed init (type_of_name env scope ss name t))
by_declared Holds composed sized env scope ss None init t holds = by_given Holds sized init t holds
by_declared Holds composed sized env scope ss (Some named) init t holds =
    by_given Holds sized init _ (by_old Holds composed env named.name (reach_of env scope ss named.name t) t holds)

-- an array that is made of one with complete elements has such
composite_elements : (structs : List Members) (t old : Ty) → HasElements structs t → HasElements structs (composite t old)
composite_elements structs = by_composite (HasElements structs) (λ t. tt) (λ result params dots. tt) (λ t u n m is. composite_complete structs t u is)

completed_elements : (structs : List Members) (init : Init) (t : Ty) → HasElements structs t → HasElements structs (completed_by init t)
completed_elements structs = by_completed (HasElements structs) (λ t n m is. is)

-- so it is with what an object holds
composite_holding : (structs : List Members) (t old : Ty) → HoldsComplete structs t → HoldsComplete structs (composite t old)
composite_holding structs = by_composite (HoldsComplete structs) (λ t. tt) (λ result params dots. tt) (λ t u n m is. composite_complete structs t u is)

completed_holding : (structs : List Members) (init : Init) (t : Ty) → HoldsComplete structs t → HoldsComplete structs (completed_by init t)
completed_holding structs = by_completed (HoldsComplete structs) (λ t n m is. is)

-- ---- declared names

-- a declared name is a typedef of its type, or none
named_elements : (structs : List Members) (scope : Scope) (ss : List Storage) (t : Option Ty) → MayHaveElements structs t → MayHaveElements structs (typedef_type (meaning_of scope ss t))
named_elements structs scope ss None complete = tt
named_elements structs scope ss (Some t) complete = by_typedef (has is_typedef ss) (is_function t)
  where
    by_function : (b : Bool) → MayHaveElements structs (typedef_type (if b then AFunction t else AnObject t (is_static_object scope ss)))
    by_function true = tt
    by_function false = tt

    by_typedef : (b c : Bool) → MayHaveElements structs (typedef_type (if b then ATypedef t else if c then AFunction t else AnObject t (is_static_object scope ss)))
    by_typedef true c = complete
    by_typedef false c = by_function c

-- it has complete elements where its declarator makes such a type
pub declared_elements : (structs : List Members) (env : Env) (scope : Scope) (ss : List Storage) (given : Given) (init : Option Init) (named : Named) (t : Option Ty) → MayHaveElements structs t →
    MayHaveElements structs (typedef_type (declared_as env scope ss given init named.name named.ordinal t).meaning)
declared_elements structs env scope ss given init named t has =
    named_elements structs scope ss (completed init (composite_type env scope ss named.name t))
    (by_declared (HasElements structs) (composite_elements structs) (completed_elements structs) env scope ss (Some named) init t has)

-- an object that is given an initialiser holds complete structs where its declarator makes such a type
pub declared_holding : (structs : List Members) (env : Env) (scope : Scope) (ss : List Storage) (name : Option Named) (init : Option Init) (t : Option Ty) → MayHold structs t →
    MayHold structs (completed init (type_of_name env scope ss name t))
declared_holding structs env scope ss name init t holds = by_declared (HoldsComplete structs) (composite_holding structs) (completed_holding structs) env scope ss name init t holds

-- ---- specifiers

-- each of these types has complete elements
abbrev pub TypesHaveElements : List Members → List (Option Ty) → Type 0
TypesHaveElements structs [] = ⊤
TypesHaveElements structs (t ∷ ts) = MayHaveElements structs t × TypesHaveElements structs ts

-- and still has
pub types_further : (xs ys : List Members) → KnownStay xs ys → (ts : List (Option Ty)) → TypesHaveElements xs ts → TypesHaveElements ys ts
types_further xs ys stays [] all = tt
types_further xs ys stays (t ∷ ts) all = (may_elements_stay xs ys stays t all.0, types_further xs ys stays ts all.1)

-- types, then others
pub types_both : (structs : List Members) (ts us : List (Option Ty)) → TypesHaveElements structs ts → TypesHaveElements structs us → TypesHaveElements structs (ts ++ us)
types_both structs [] us first others = others
types_both structs (t ∷ ts) us first others = (first.0, types_both structs ts us first.1 others)

-- the last name that passes a test
latest_elements : (structs : List Members) (test : Declared → Bool) (ds : List Declared) → NamesHaveElements structs ds → MayHaveElements structs (typedef_of (latest test ds))
latest_elements structs test [] all = tt
latest_elements structs test (d ∷ ds) all = by_found (latest test ds) (test d) (latest_elements structs test ds all.1)
  where
    by_found : (found : Option Declared) (b : Bool) → MayHaveElements structs (typedef_of found) → MayHaveElements structs (typedef_of (or_else found (if b then Some d else None)))
    by_found (Some e) b has = has
    by_found None true has = all.0
    by_found None false has = tt

-- a type that a tag may stand for
if_admitted : (structs : List Members) (b : Bool) (t : Ty) → HasElements structs t → MayHaveElements structs (if b then Some t else None)
if_admitted structs true t has = has
if_admitted structs false t has = tt

-- the types that a specifier tells
pub specifier_elements : (s : Specifier) (env : Env) (alone : Bool) → NamesHaveElements env.structs env.declared → TypesHaveElements env.structs (specifier_found s env alone).types
specifier_elements s env alone names =
    subst (λ f. TypesHaveElements env.structs (f env alone).types) (sym (specifiers_follow_their_forms s)) (by_form (out-Specifier s))
  where
    by_tag : (b : Bool) (m : Meant) → TypesHaveElements env.structs (if b then of_type_alone m.additions (Some (Struct m.number)) else of_type_alone nothing None).types
    by_tag true m = (tt, tt)
    by_tag false m = (tt, tt)

    by_enum : (found : Option Tag) → MayHaveElements env.structs (with_optional None (λ tag. type_if_admitted env NamesEnum (Some tag) int) found)
    by_enum None = tt
    by_enum (Some tag) = if_admitted env.structs (may_use env (Some tag) NamesEnum) int tt

    by_form : (form : SpecifierTree) → TypesHaveElements env.structs (of_specifier (specifier_parts_told form) env alone).types
    by_form (Specifier-F.Storage word) = tt
    by_form Specifier-F.Inline = tt
    by_form (Specifier-F.Qualifier word) = tt
    by_form (Specifier-F.Type word) = tt
    by_form (Specifier-F.Struct tag members) =
        (if_admitted env.structs (may_use env (tag_found env DefinesStruct tag) DefinesStruct) (Struct (struct_meant_by env tag).number) tt, tt)
    by_form (Specifier-F.StructTag tag) =
        let found = tag_meant env (struct_use alone) tag in by_tag (may_use env found (struct_use alone)) (meant env found (Some tag))
    by_form (Specifier-F.Enum tag items) = (if_admitted env.structs (may_use env (tag_found env DefinesEnum tag) DefinesEnum) int tt, tt)
    by_form (Specifier-F.EnumTag tag) = (by_enum (look_up_tag env tag), tt)
    by_form (Specifier-F.Typedef name) = (latest_elements env.structs _ env.declared names, tt)

-- the type that specifiers name
pub told_elements : (structs : List Members) (holder : Holder) (told : SpecifierTold) → TypesHaveElements structs told.types → MayHaveElements structs (type_in holder told)
told_elements structs holder told all = by_unbroken (HasElements structs) (specifier_rules holder told) (type_of told) (λ none. by_types told.words told.types all)
  where
    by_word : (w : Option WordType) → MayHaveElements structs (with_optional None (λ t. t) (with_optional None (λ t. Some (Some t)) (type_of_word w)))
    by_word None = tt
    by_word (Some void) = tt
    by_word (Some (integer k)) = tt

    by_types : (words : List TypeWord) (types : List (Option Ty)) → TypesHaveElements structs types → MayHaveElements structs (with_optional None (λ t. t) (named_type words types))
    by_types words [] all = by_word (type_of_words words)
    by_types [] (t ∷ []) all = all.0
    by_types (word ∷ words) (t ∷ ts) all = tt
    by_types [] (t ∷ other ∷ ts) all = tt
