-- What a call calls, by the name that its function is (C99 6.5.2.2).
use Rattle.std.proofs.Common.{◌≡◌, ◌∙◌, ◌⊎◌, inl, inr, Bool, true, false, List, [], ◌∷◌, Option, Some, None, ℕ, ℤ, refl, sym, ap, subst}
use Rattle.std.specs.Prelude.{is_some, if◌then◌else◌}
use Rattle.std.proofs.lemmas.Bool.{false≢true}
use Rattle.std.proofs.lemmas.Slice.Eq.{bytes_eq-Decides}
use Rattle.lk_types.specs.Table.{Table}
use Rattle.lk_tree.specs.declared.expression.DeclaratorForm.TheOpen.{ExprForm-F}
use Rattle.lk_typed.specs.Calls.{library_called, library_meaning, passes_by, signature_of}
use Rattle.lk_typed.specs.Elaborated.{InPlace, PlacedForm, Called, ALibraryFunction, AnExternFunction, AFunctionHere, AnyFunction, called, passes_in, typing_at}
use Rattle.lk_typed.specs.Env.{Env, Name, Declared, Meaning, AnObject, AFunction, ATypedef, AnEnumerator, AnInitialiserWord, AFaultyName, is_name, latest, look_up, or_else}
use Rattle.lk_typed.specs.Expressions.{expression}
use Rattle.lk_typed.specs.Forms.{passes_of}
use Rattle.lk_typed.specs.Library.{LibraryFunction, Passing, library, library_function}
use Rattle.lk_typed.specs.Names.{meaning_in}
use Rattle.lk_typed.specs.Ty.{Ty}
use Rattle.lk_typed.specs.Typing.{Typing, Judged}
use Rattle.lk_typed.specs.Words.{is_extern}
use Rattle.lk_typed.specs.declared.names.Duration.{Duration}
use Rattle.lk_typed.specs.declared.names.Meaning.{Meaning as Found}
use Rattle.lk_typed.specs.declared.names.Meaning.TheVariants as means
use Rattle.lk_check_expr.proofs.FunctionRows.{row_there}
use Rattle.lk_check_expr.specs.Functions.{row_of, rows_of, spelling}
use Rattle.lk_check_expr.specs.declared.library.LibraryFunction.{LibraryFunction as Known}
use Rattle.lk_found.specs.declared.records.Meant.{Meant}
use Rattle.lk_elaborator.specs.Telling.{IsMeant}
use Rattle.lk_elaborator.specs.declared.elaborator.Elaborator.{Elaborator}
use Rattle.lk_elaborator.proofs.Knowing.{same_some, some_none}
use Rattle.lk_elab_expr.specs.CalledWords.{IsWordIn}
use Rattle.lk_elab_expr.specs.Calling.{IsCalled, IsCalledBy}
use Rattle.lk_elab_expr.specs.PassedArguments.{passes_to}
use Rattle.lk_elab_expr.specs.declared.calls.Called.{Called as How}
use Rattle.lk_elab_expr.specs.declared.calls.Called.TheVariants as by

-- ---- what is called, by what the name stands for

abbrev by_library : Env → Declared → Option LibraryFunction → Called
by_library env d (Some f) = ALibraryFunction f
by_library env d None = if is_extern env d.name then AnExternFunction d.ordinal else AFunctionHere d.ordinal

abbrev by_meaning : Env → Declared → Meaning → Called
by_meaning env d (AnObject t is_static) = AnyFunction
by_meaning env d (AFunction t) = by_library env d (library_function d.name)
by_meaning env d (ATypedef t) = AnyFunction
by_meaning env d (AnEnumerator z) = AnyFunction
by_meaning env d (AnInitialiserWord t) = AnyFunction
by_meaning env d AFaultyName = AnyFunction

abbrev by_name : Env → Option Declared → Called
by_name env None = AnyFunction
by_name env (Some d) = by_meaning env d d.meaning

abbrev known_of : Called → Option LibraryFunction
known_of (ALibraryFunction f) = Some f
known_of (AnExternFunction n) = None
known_of (AFunctionHere n) = None
known_of AnyFunction = None

pub called_as : (env : Env) (f : InPlace) (w : Option Declared) → (expression f.1 f.0).look.word ≡ w → called env f ≡ by_name env w
called_as env f w is = ap (by_name env) is

-- ---- how its arguments are passed

neither : (b : Bool) (n : ℕ) → known_of (if b then AnExternFunction n else AFunctionHere n) ≡ None
neither true n = refl
neither false n = refl

known_by : (env : Env) (d : Declared) (o : Option LibraryFunction) → known_of (by_library env d o) ≡ o
known_by env d None = neither (is_extern env d.name) d.ordinal
known_by env d (Some f) = refl

known_meant : (env : Env) (d : Declared) (m : Meaning) → known_of (by_meaning env d m) ≡ library_meaning d.name m
known_meant env d (AnObject t is_static) = refl
known_meant env d (AFunction t) = known_by env d (library_function d.name)
known_meant env d (ATypedef t) = refl
known_meant env d (AnEnumerator z) = refl
known_meant env d (AnInitialiserWord t) = refl
known_meant env d AFaultyName = refl

known_named : (env : Env) (w : Option Declared) → known_of (by_name env w) ≡ library_called w
known_named env None = refl
known_named env (Some d) = known_meant env d d.meaning

abbrev passes_by_called : Called → Option Typing → List Passing
passes_by_called called None = []
passes_by_called called (Some typing) = passes_by (known_of called) (signature_of typing)

same_passes_by : (env : Env) (f : Judged) (o : Option Typing) → passes_by_called (by_name env f.look.word) o ≡ passes_of f o
same_passes_by env f None = refl
same_passes_by env f (Some typing) = ap (λ known. passes_by known (signature_of typing)) (known_named env f.look.word)

pub same_passes : (env : Env) (f : InPlace) → passes_in env f ≡ passes_to f
same_passes env f = same_passes_by env (expression f.1 f.0) (typing_at f)

-- ---- functions of the library

pub row_is : (known : Known) → (row : LibraryFunction) × (rows_of known ≡ Some row)
row_is known = of (rows_of known) refl (row_there (Some known))
  where
    of : (o : Option LibraryFunction) → rows_of known ≡ o → is_some (rows_of known) ≡ true → (row : LibraryFunction) × (rows_of known ≡ Some row)
    of None is there = absurd (false≢true (sym (ap is_some is) ∙ there))
    of (Some row) is there = (row, is)

library_meant : (env : Env) (d : Declared) (m : Meaning) (row : LibraryFunction) → library_meaning d.name m ≡ Some row → by_meaning env d m ≡ ALibraryFunction row
library_meant env d (AnObject t is_static) row is = absurd (some_none is)
library_meant env d (AFunction t) row is = ap (by_library env d) is
library_meant env d (ATypedef t) row is = absurd (some_none is)
library_meant env d (AnEnumerator z) row is = absurd (some_none is)
library_meant env d (AnInitialiserWord t) row is = absurd (some_none is)
library_meant env d AFaultyName row is = absurd (some_none is)

library_named : (env : Env) (w : Option Declared) (row : LibraryFunction) → library_called w ≡ Some row → by_name env w ≡ ALibraryFunction row
library_named env None row is = absurd (some_none is)
library_named env (Some d) row is = library_meant env d d.meaning row is

-- the function of a call is the name of one
pub is_library_call : (walk : Elaborator) (env : Env) (f : InPlace) (known : Known) → library_called (expression f.1 f.0).look.word ≡ row_of (Some known) → IsCalledBy walk (Some (by.Library known)) (called env f)
is_library_call walk env f known is = let row = row_is known in (row.0, row.1, library_named env (expression f.1 f.0).look.word row.0 (is ∙ row.1))

-- ---- other functions

latest_passes : {A : Type 0} (test : A → Bool) (xs : List A) (a : A) → latest test xs ≡ Some a → test a ≡ true
latest_passes test [] a is = absurd (some_none is)
latest_passes {A} test (x ∷ xs) a is = behind (λ b there. latest_passes test xs b there) (latest test xs) refl is
  where
    taken : (b : Bool) → test x ≡ b → (if b then Some x else None) ≡ Some a → test a ≡ true
    taken true passes is = subst (λ a. test a ≡ true) (same_some is) passes
    taken false fails is = absurd (some_none is)

    behind : ((b : A) → latest test xs ≡ Some b → test b ≡ true) → (o : Option A) → latest test xs ≡ o → or_else o (if test x then Some x else None) ≡ Some a → test a ≡ true
    behind later None none is = taken (test x) refl is
    behind later (Some b) there is = subst (λ a. test a ≡ true) (same_some is) (later b there)

-- what a name stands for is declared with it
pub named_so : (env : Env) (name : Name) (d : Declared) → look_up env name ≡ Some d → d.name ≡ name
named_so env name d is = (bytes_eq-Decides d.name name).0 (latest_passes (λ d. is_name d.name name) env.declared d is)

-- the row of a function bears its name
pub row_name : (known : Known) (row : LibraryFunction) → rows_of known ≡ Some row → row.name ≡ spelling known
unfolding library
row_name known row is = (bytes_eq-Decides row.name (spelling known)).0 (latest_passes (λ f. is_name f.name (spelling known)) library row is)

same_word : {a b : Name} → ◌≡◌ {A = PlacedForm} (ExprForm-F.Word a) (ExprForm-F.Word b) → a ≡ b
same_word e = cc

function_meant : (env : Env) (d : Declared) (m : Meaning) (t : Ty) → m ≡ AFunction t → library_meaning d.name m ≡ None →
    by_meaning env d m ≡ (if is_extern env d.name then AnExternFunction d.ordinal else AFunctionHere d.ordinal)
function_meant env d m t is none =
    let of : library_function d.name ≡ None = sym (ap (library_meaning d.name) is) ∙ none in ap (by_meaning env d) is ∙ ap (by_library env d) of

-- of a name, what isn't a function
abbrev pub IsOther : Found → Type 0
IsOther m =
    ((t : ℕ) × (lasts : Duration) × (m ≡ means.Object t lasts)) ⊎ (((t : ℕ) × (m ≡ means.Typedef t)) ⊎ (((z : ℤ) × (m ≡ means.Enumerator z)) ⊎ (((t : ℕ) × (m ≡ means.InitialiserWord t)) ⊎ (m ≡ means.Faulty))))

other_meant : (table : Table) (env : Env) (d : Declared) (m : Found) → IsOther m → by_meaning env d (meaning_in table m) ≡ AnyFunction
other_meant table env d m (inl is) = ap (λ m. by_meaning env d (meaning_in table m)) is.2
other_meant table env d m (inr (inl is)) = ap (λ m. by_meaning env d (meaning_in table m)) is.1
other_meant table env d m (inr (inr (inl is))) = ap (λ m. by_meaning env d (meaning_in table m)) is.1
other_meant table env d m (inr (inr (inr (inl is)))) = ap (λ m. by_meaning env d (meaning_in table m)) is.1
other_meant table env d m (inr (inr (inr (inr is)))) = ap (λ m. by_meaning env d (meaning_in table m)) is

module _ (walk : Elaborator) (p f : InPlace) (name : Name) (n : ℕ) (word : IsWordIn walk f name n) (looked : (expression f.1 f.0).look.word ≡ look_up f.0 name) (m : Meant) (is : IsMeant walk.types word.word m) where
  same_name : is.stands.0 ≡ name
  same_name = same_word (sym is.stands.1 ∙ word.form)

  found_here : look_up f.0 name ≡ Some is.declared
  found_here = sym word.same ∙ ap (look_up word.word.0) (sym same_name) ∙ is.stands.2

  called_so : called p.0 f ≡ by_meaning p.0 is.declared is.declared.meaning
  called_so = called_as p.0 f (Some is.declared) (looked ∙ found_here)

  pub other_called : IsOther m.meaning → called p.0 f ≡ AnyFunction
  other_called other = called_so ∙ ap (by_meaning p.0 is.declared) is.meaning ∙ other_meant walk.types p.0 is.declared m.meaning other

  pub function_called : (t : ℕ) → m.meaning ≡ means.Function t → library_called (expression f.1 f.0).look.word ≡ None → (way : How) → IsCalled walk way (if is_extern p.0 name then AnExternFunction m.ordinal else AFunctionHere m.ordinal) →
      IsCalledBy walk (Some way) (called p.0 f)
  function_called t function none way by =
      let none_here = sym (ap library_called (looked ∙ found_here)) ∙ none in
      let here = called_so ∙ function_meant p.0 is.declared is.declared.meaning _ (is.meaning ∙ ap (meaning_in walk.types) function) none_here in
      let same = here ∙ ap (λ n. if is_extern p.0 is.declared.name then AnExternFunction n else AFunctionHere n) is.ordinal ∙
      ap (λ name. if is_extern p.0 name then AnExternFunction m.ordinal else AFunctionHere m.ordinal) (named_so f.0 name is.declared found_here) in
      subst (IsCalled walk way) (sym same) by

-- what no name calls
pub nothing_called : (env : Env) (f : InPlace) → (expression f.1 f.0).look.word ≡ None → called env f ≡ AnyFunction
nothing_called env f is = called_as env f None is

-- how the arguments of a function of the library are passed
pub library_passes : (env : Env) (f : InPlace) (row : LibraryFunction) (typing : Typing) → called env f ≡ ALibraryFunction row → typing_at f ≡ Some typing → passes_in env f ≡ row.passes
library_passes env f row typing is found = ap (λ c. passes_by_called c (typing_at f)) is ∙ ap (passes_by_called (ALibraryFunction row)) found

-- a way in which a call was found to be made
pub called_way : (walk : Elaborator) (c : Called) (o : Option How) (way : How) → o ≡ Some way → IsCalledBy walk o c → IsCalled walk way c
called_way walk c o way is by = subst (λ o. IsCalledBy walk o c) is by

pub called_none : (walk : Elaborator) (c : Called) (o : Option How) → o ≡ None → IsCalledBy walk o c → c ≡ AnyFunction
called_none walk c o is by = subst (λ o. IsCalledBy walk o c) is by
