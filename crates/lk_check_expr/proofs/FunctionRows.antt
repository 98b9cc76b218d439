-- The functions of the library by their names, and the rows of the table of the rules.
use Rattle.std.proofs.Common.{◌≡◌, ◌∙◌, Bool, true, false, List, [], ◌∷◌, ℕ, Option, Some, None, map, refl, sym, ap, subst}
use Rattle.std.specs.Prelude.{is_some, if◌then◌else◌}
use Rattle.std.specs.List.{find}
use Rattle.std.specs.Str.{bytes_eq}
use Rattle.std.proofs.lemmas.Bool.{false≢true}
use Rattle.std.proofs.lemmas.Option.{none-some, same_Some}
use Rattle.std.proofs.lemmas.Slice.Eq.{bytes_eq-Decides}
use Rattle.lk_typed.specs.Env.{Name, is_name, latest, or_else}
use Rattle.lk_typed.specs.Library as spec
use Rattle.lk_typed.specs.Library.{library, library_function}
use Rattle.lk_check_expr.specs.Functions.{spelling, functions, function_named, row_of}
use Rattle.lk_check_expr.specs.declared.library.LibraryFunction.{LibraryFunction}
use Rattle.lk_check_expr.specs.declared.library.LibraryFunction.TheVariants as f

abbrev name_of : spec.LibraryFunction → Name
name_of row = row.name

-- the rows stand in the order of the functions
same_names : map name_of library ≡ map spelling functions
unfolding library
same_names = refl

pub row_there : (o : Option LibraryFunction) → is_some (row_of o) ≡ is_some o
unfolding library
row_there None = refl
row_there (Some f.Create) = refl
row_there (Some f.Join) = refl
row_there (Some f.Detach) = refl
row_there (Some f.ExitThread) = refl
row_there (Some f.SelfId) = refl
row_there (Some f.Equal) = refl
row_there (Some f.MutexInit) = refl
row_there (Some f.MutexDestroy) = refl
row_there (Some f.MutexLock) = refl
row_there (Some f.MutexUnlock) = refl
row_there (Some f.CondInit) = refl
row_there (Some f.CondDestroy) = refl
row_there (Some f.CondSignal) = refl
row_there (Some f.CondBroadcast) = refl
row_there (Some f.CondWait) = refl
row_there (Some f.Malloc) = refl
row_there (Some f.Calloc) = refl
row_there (Some f.Free) = refl
row_there (Some f.Exit) = refl
row_there (Some f.Abort) = refl
row_there (Some f.Puts) = refl
row_there (Some f.Perror) = refl
row_there (Some f.Atoi) = refl
row_there (Some f.Printf) = refl
row_there (Some f.Putchar) = refl
row_there (Some f.Getchar) = refl
row_there (Some f.Rand) = refl
row_there (Some f.Sleep) = refl

abbrev finds : Name → List LibraryFunction → Option LibraryFunction
finds name fs = find (λ function. bytes_eq (spelling function) name) fs

abbrev first_or : Name → List Name → Name
first_or other [] = other
first_or other (x ∷ xs) = x

abbrev rest_of : List Name → List Name
rest_of [] = []
rest_of (x ∷ xs) = xs

same_heads : {x y : Name} {xs ys : List Name} → x ∷ xs ≡ y ∷ ys → (x ≡ y) × (xs ≡ ys)
same_heads {x} e = (ap (first_or x) e, ap rest_of e)

abbrev is_more : List Name → Bool
is_more [] = false
is_more (x ∷ xs) = true

missed : {A : Type 0} (holds : Bool) (a : A) (o : Option A) → (if holds then Some a else o) ≡ None → (holds ≡ false) × (o ≡ None)
missed true a o e = absurd (none-some a (sym e))
missed false a o e = (refl, e)

none_named : (rows : List spec.LibraryFunction) (fs : List LibraryFunction) (name : Name) → map name_of rows ≡ map spelling fs → finds name fs ≡ None →
    latest (λ row. is_name row.name name) rows ≡ None
none_named [] fs name same none = refl
none_named (row ∷ rows) [] name same none = absurd (false≢true (sym (ap is_more same)))
none_named (row ∷ rows) (function ∷ fs) name same none =
    let parts = missed (bytes_eq (spelling function) name) function (finds name fs) none in
    let heads = same_heads same in
    ap (λ o. or_else o (if is_name row.name name then Some row else None)) (none_named rows fs name heads.1 parts.1) ∙
    ap (λ taken. if taken then Some row else None) (ap (λ other. is_name other name) heads.0 ∙ parts.0)

found_named : (fs : List LibraryFunction) (name : Name) (function : LibraryFunction) → finds name fs ≡ Some function → bytes_eq (spelling function) name ≡ true
found_named [] name function e = absurd (none-some function e)
found_named (other ∷ fs) name function e = of (found_named fs name function) (bytes_eq (spelling other) name) refl e
  where
    of : (finds name fs ≡ Some function → bytes_eq (spelling function) name ≡ true) → (holds : Bool) → bytes_eq (spelling other) name ≡ holds →
        (if holds then Some other else finds name fs) ≡ Some function → bytes_eq (spelling function) name ≡ true
    of later true is some = subst (λ g. bytes_eq (spelling g) name ≡ true) (same_Some other function some) is
    of later false is some = later some

same_text : (xs ys : List ℕ) → bytes_eq xs ys ≡ true → xs ≡ ys
same_text xs ys e = (bytes_eq-Decides xs ys).0 e

-- a name means the row of the function that is called so
pub named_row : (name : Name) → library_function name ≡ row_of (function_named name)
unfolding function_named
named_row name = of (finds name functions) refl
  where
    of : (o : Option LibraryFunction) → finds name functions ≡ o → library_function name ≡ row_of o
    of None e = none_named library functions name same_names e
    of (Some function) e = ap library_function (sym (same_text (spelling function) name (found_named functions name function e)))
