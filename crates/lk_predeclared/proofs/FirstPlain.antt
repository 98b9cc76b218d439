-- Types that are made of the predeclared ones: what they mean, and that they are within the bounds.
use Rattle.std.proofs.Common.{◌≡◌, ◌∙◌, ◌<◌, ◌++◌, ◌∷◌, [], ℕ, zero, suc, Bool, true, false, List, Option, Some, None, refl, sym, ap, subst, map, length, arith}
use Rattle.std.specs.Prelude.{IsSome, unwrap_or, OnOk, Result, Ok, Err}
use Rattle.std.specs.List.{slice_get, list_all}
use Rattle.std.proofs.lemmas.Bool.{and_parts, false≢true}
use Rattle.std.proofs.lemmas.Option.{slice_get_within, none-some, same_Some}
use Rattle.lk_check_decl.proofs.Sizes.{holds_is}
use Rattle.lk_base.specs.declared.memory.NoMemory.{NoMemory}
use Rattle.lk_check_decl.specs.Making.{IsMade, IsThere, function_tree}
use Rattle.lk_types.specs.Building.{IsTable, IsPassed, types_of as member_types}
use Rattle.lk_types.specs.Predeclared.{predeclared}
use Rattle.lk_types.specs.Table.{Table, members_of}
use Rattle.lk_types.specs.declared.c_type.CType.{CType}
use Rattle.lk_types.specs.declared.c_type.CType.TheVariants as forms
use Rattle.lk_types.proofs.GrowLemmas.{longer_same, longer_then}
use Rattle.lk_typed.proofs.FirstTypes.{first_got}
use Rattle.lk_typed.proofs.Meanings.{meaning_by}
use Rattle.lk_typed.specs.Bounds.{holds_struct, size_within, steps_counted}
use Rattle.lk_typed.specs.Library.{routine_type}
use Rattle.lk_typed.specs.Meaning.{meaning, tree_of, IsReady}
use Rattle.lk_typed.specs.Ty.{Ty, Void, Pointer, Function, types_of, void_pointer}
use Rattle.lk_predeclared.specs.Plain.{first_tree, Grows, IsPlain, IsSmall}

-- ---- predeclared numbers

abbrev is_alone : CType → Bool
is_alone forms.Void = true
is_alone (forms.Int k) = true
is_alone forms.ThreadId = true
is_alone forms.Mutex = true
is_alone forms.Cond = true
is_alone (forms.Pointer u) = false
is_alone (forms.Array u n) = false
is_alone (forms.Struct s) = false
is_alone (forms.Function r ps dots) = false
is_alone (forms.Opaque n) = true

alone_tree : (f g : ℕ → Ty) (form : CType) → is_alone form ≡ true → tree_of f form ≡ tree_of g form
alone_tree f g forms.Void is = refl
alone_tree f g (forms.Int k) is = refl
alone_tree f g forms.ThreadId is = refl
alone_tree f g forms.Mutex is = refl
alone_tree f g forms.Cond is = refl
alone_tree f g (forms.Pointer u) is = absurd (false≢true is)
alone_tree f g (forms.Array u n) is = absurd (false≢true is)
alone_tree f g (forms.Struct s) is = absurd (false≢true is)
alone_tree f g (forms.Function r ps dots) is = absurd (false≢true is)
alone_tree f g (forms.Opaque n) is = refl

alone_small : (form : CType) → is_alone form ≡ true → (f : ℕ → Ty) → IsSmall (Pointer (tree_of f form))
unfolding size_within steps_counted
alone_small forms.Void is f = λ fields. refl
alone_small (forms.Int k) is f = λ fields. refl
alone_small forms.ThreadId is f = λ fields. refl
alone_small forms.Mutex is f = λ fields. refl
alone_small forms.Cond is f = λ fields. refl
alone_small (forms.Pointer u) is f = absurd (false≢true is)
alone_small (forms.Array u n) is f = absurd (false≢true is)
alone_small (forms.Struct s) is f = absurd (false≢true is)
alone_small (forms.Function r ps dots) is f = absurd (false≢true is)
alone_small (forms.Opaque n) is f = λ fields. refl

pub all_at : {A : Type 0} (p : A → Bool) (xs : List A) (n : ℕ) (x : A) → list_all p xs ≡ true → slice_get xs n ≡ Some x → p x ≡ true
all_at p [] n x all got = absurd (none-some x got)
all_at p (y ∷ xs) zero x all got = subst (λ z. p z ≡ true) (same_Some y x got) (and_parts (p y) (list_all p xs) all).0
all_at p (y ∷ xs) (suc n) x all got = all_at p xs n x (and_parts (p y) (list_all p xs) all).1 got

there_at : {A : Type 0} (xs : List A) (n : ℕ) (d : A) → n < length xs → slice_get xs n ≡ Some (unwrap_or (slice_get xs n) d)
there_at [] n d within = absurd (omega arith)
there_at (x ∷ xs) zero d within = refl
there_at (x ∷ xs) (suc n) d within = there_at xs n d (omega arith)

before : {A : Type 0} (xs ys : List A) (n : ℕ) (x : A) → slice_get xs n ≡ Some x → slice_get (xs ++ ys) n ≡ Some x
before [] ys n x got = absurd (none-some x got)
before (y ∷ xs) ys zero x got = got
before (y ∷ xs) ys (suc n) x got = before xs ys n x got

-- the form of a predeclared number
first_form : ℕ → CType
first_form n = unwrap_or (slice_get predeclared n) forms.Void

form_alone : (n : ℕ) → n < length predeclared → is_alone (first_form n) ≡ true
unfolding first_form
form_alone n within = all_at is_alone predeclared n (first_form n) refl (there_at predeclared n forms.Void within)

pub first_plain : (table : Table) → IsReady table → (n : ℕ) → n < length predeclared → IsPlain table (first_tree n) n
unfolding first_form
first_plain table ready n within =
    let form = first_form n in
    let at = first_got table ready n form (before predeclared ready.predeclared.0 n form (there_at predeclared n forms.Void within)) in
    let known = slice_get_within table.types n form at in
    record { known = known; means = meaning_by table ready.table_is n form known at ∙ alone_tree (meaning table) (λ u. Void) form (form_alone n within) }

pub first_small : (table : Table) → IsReady table → (n : ℕ) → n < length predeclared → IsSmall (Pointer (meaning table n))
unfolding first_form
first_small table ready n within =
    subst (λ tree. IsSmall (Pointer tree)) (sym (first_plain table ready n within).means) (alone_small (first_form n) (form_alone n within) (λ u. Void))

-- ---- types made of them

pub small_address : IsSmall (Pointer void_pointer)
unfolding size_within steps_counted
small_address fields = refl

pub small_routine : IsSmall routine_type
unfolding size_within steps_counted
small_routine fields = refl

pub small_routine_pointer : IsSmall (Pointer routine_type)
unfolding size_within steps_counted
small_routine_pointer fields = refl

-- what is within the bounds was made
pub made_some : (old new : Table) (tree : Ty) (answer : Option ℕ) → IsMade old new tree answer → IsSmall tree → IsSome answer
made_some old new tree None large small =
    let fields = λ (s : ℕ). map (meaning old) (member_types (members_of old s)) in
    absurd (false≢true (sym (small fields) ∙ large fields (λ s. refl)))
made_some old new tree (Some t) made small = refl

pub made_plain : (old new : Table) (tree : Ty) (answer : Option ℕ) (t : ℕ) → IsMade old new tree answer → answer ≡ Some t → IsPlain new tree t
made_plain old new tree answer t made some =
    let there : IsThere old new tree t = subst (IsMade old new tree) some made in
    record { known = there.known; means = there.means }

-- what holds no struct may be passed
pub passes : (table : Table) → IsTable table → (t : ℕ) (tree : Ty) → IsPlain table tree t → holds_struct tree ≡ false → IsPassed table t
passes table good t tree plain none =
    record { known = plain.known; no_struct = sym (holds_is table good t plain.known) ∙ ap holds_struct plain.means ∙ none }

-- ---- tables that grow

pub grows_none : (table : Table) → IsReady table → Grows table table
grows_none table ready = record {
  longer = longer_same table;
  members = refl;
  ready = ready;
  few = λ few. few;
}

pub grows_then : (a b c : Table) → Grows a b → Grows b c → Grows a c
grows_then a b c first second = record {
  longer = longer_then a b c first.longer second.longer;
  members = second.members ∙ first.members;
  ready = second.ready;
  few = λ few. second.few (first.few few);
}

pub grows_on : {T : Type 0} (a b c : Table) (r : Result T NoMemory) → Grows a b → OnOk r (Grows b c) → OnOk r (Grows a c)
grows_on a b c (Ok x) first second = grows_then a b c first second
grows_on a b c (Err e) first second = tt

-- the type of start routines, as it is put
pub routine_tree : (table : Table) (address : ℕ) (params : List ℕ) → params ≡ address ∷ [] → meaning table address ≡ void_pointer → function_tree table address params false ≡ routine_type
routine_tree table address params are is = ap (λ ps. function_tree table address ps false) are ∙ ap (λ (t : Ty). Function t (types_of (t ∷ [])) false) is
