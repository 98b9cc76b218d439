-- How a call is made, and what it is made of (C99 6.5.2.2).
use Rattle.std.specs.Prelude.{ℕ, ◌≡◌, Bool, Option, Some, None, List, codes, if◌then◌else◌}
use Rattle.lk_tree.specs.declared.expression.Expr.{Expr}
use Rattle.lk_typed.specs.Calls.{library_called}
use Rattle.lk_typed.specs.Elaborated as spec
use Rattle.lk_typed.specs.Elaborated.{InPlace, ALibraryFunction, AnExternFunction, AFunctionHere, AnyFunction, IsValue, called}
use Rattle.lk_typed.specs.Env.{Env, Name, look_up}
use Rattle.lk_typed.specs.Expressions.{expression}
use Rattle.lk_typed.specs.Library.{LibraryFunction}
use Rattle.lk_typed.specs.Tables.{Tables}
use Rattle.lk_typed.specs.Words.{is_extern}
use Rattle.lk_typed.specs.declared.expression.Callee.{Callee, out-Callee}
use Rattle.lk_typed.specs.declared.expression.Callee.TheOpen.{Callee-F, TypedForm-F}
use Rattle.lk_typed.specs.declared.expression.TypedExpr.{TypedExpr}
use Rattle.lk_typed.specs.declared.expression.TypedForm.{TypedForm, out-TypedForm}
use Rattle.lk_typed.specs.declared.library.LibraryCall.{LibraryCall, out-LibraryCall}
use Rattle.lk_typed.specs.declared.role.Role.{Role}
use Rattle.lk_check_expr.specs.Functions.{rows_of}
use Rattle.lk_check_expr.specs.declared.library.LibraryFunction.{LibraryFunction as Known}
use Rattle.lk_elaborator.specs.Leading.{Leads, entity_by}
use Rattle.lk_elaborator.specs.Standing.{IsFormOf, OpenForm, StandsAs}
use Rattle.lk_elaborator.specs.Telling.{IsTrueOf}
use Rattle.lk_elaborator.specs.declared.elaborator.Elaborator.{Elaborator}
use Rattle.lk_elab_expr.specs.Allocating.{IsAllocating}
use Rattle.lk_elab_expr.specs.CalledWords.{IsWordIn}
use Rattle.lk_elab_expr.specs.LibraryForms.{IsCallOf}
use Rattle.lk_elab_expr.specs.PassedArguments.{IsToldCall}
use Rattle.lk_elab_expr.specs.Starting.{StartsAt}
use Rattle.lk_elab_expr.specs.Walking.{IsToldOf}
use Rattle.lk_elab_expr.specs.declared.calls.Called.{Called}
use Rattle.lk_elab_expr.specs.declared.calls.Called.TheVariants as by
use Rattle.lk_elab_expr.specs.declared.calls.Calling.{Calling}
use Rattle.lk_elab_expr.specs.declared.calls.Calling.TheVariants as calling
use Rattle.lk_elab_expr.specs.declared.ways.Way.{Way}

-- ---- what is called

abbrev pub IsCalled : Elaborator → Called → spec.Called → Type 0
IsCalled walk (by.Library known) c =
    (row : LibraryFunction) × (rows_of known ≡ Some row) × (c ≡ ALibraryFunction row)
IsCalled walk (by.Extern e) c = (n : ℕ) × (entity_by walk n ≡ Some e) × (c ≡ AnExternFunction n)
IsCalled walk (by.Program e) c = (n : ℕ) × (entity_by walk n ≡ Some e) × (c ≡ AFunctionHere n)

abbrev pub IsCalledBy : Elaborator → Option Called → spec.Called → Type 0
IsCalledBy walk None c = c ≡ AnyFunction
IsCalledBy walk (Some way) c = IsCalled walk way c

-- a function of this name that the node with this number declares
abbrev pub CallsFunction : Elaborator → Name → ℕ → Called → Type 0
CallsFunction walk name n way =
    (p : InPlace) → IsTrueOf walk p →
    IsCalled walk way (if is_extern p.0 name then AnExternFunction n else AFunctionHere n)

-- no function of the library is called: by this name with this number, which the function of the call is
abbrev pub CallsWord : Elaborator → Name → ℕ → Option Called → Type 0
CallsWord walk name n way =
    (p f : InPlace) → IsTrueOf walk p → IsWordIn walk f name n →
    (expression f.1 f.0).look.word ≡ look_up f.0 name →
    library_called (expression f.1 f.0).look.word ≡ None →
    IsCalledBy walk way (called p.0 f)

-- by this function
abbrev pub CallsOther : Elaborator → Expr → Option Called → Type 0
CallsOther walk function way =
    (at_end : Env) (p f : InPlace) → IsTrueOf walk p → f.1 ≡ function → IsToldOf at_end walk f →
    library_called (expression f.1 f.0).look.word ≡ None → IsCalledBy walk way (called p.0 f)

abbrev pub CallsNamed : Elaborator → Expr → Option Called → Type 0
CallsNamed walk function way = (at_end : Env) (p f : InPlace) → IsTrueOf walk p → f.1 ≡ function →
    IsToldOf at_end walk f → IsCalledBy walk way (called p.0 f)

-- a call of pthread_create
pub record IsCreating (walk : Elaborator) (p f : InPlace) (ps : List InPlace) (e : ℕ) : Type 0 where
  pub row : LibraryFunction
  pub is : called p.0 f ≡ ALibraryFunction row
  pub name : row.name ≡ codes "pthread_create"
  pub starts : StartsAt walk ps e

-- ---- how a call is made

abbrev pub IsCalling : Elaborator → InPlace → InPlace → List InPlace → Calling → Type 0
IsCalling walk p f ps (calling.Allocating a) = IsAllocating walk.types p f ps a
IsCalling walk p f ps (calling.Creating e) = IsCreating walk p f ps e
IsCalling walk p f ps (calling.Named way) = IsCalled walk way (called p.0 f)
IsCalling walk p f ps calling.Pointed = called p.0 f ≡ AnyFunction

-- it is decided so of each call of this function with these arguments
abbrev pub DecidesCall : Elaborator → Elaborator → Expr → List Expr → Role → Calling → Type 0
DecidesCall old new function arguments role way =
    (at_end : Env) (p f : InPlace) (ps : List InPlace) → IsToldCall at_end old p f ps arguments →
    f.1 ≡ function → StandsAs old.types role p.0.role → IsCalling new p f ps way

-- of each call of this function of the library
abbrev pub DecidesLibrary : Elaborator → Elaborator → Known → List Expr → Role → Calling → Type 0
DecidesLibrary old new known arguments role way =
    (at_end : Env) (p f : InPlace) (ps : List InPlace) → IsToldCall at_end old p f ps arguments →
    (row : LibraryFunction) → rows_of known ≡ Some row → called p.0 f ≡ ALibraryFunction row →
    StandsAs old.types role p.0.role → IsCalling new p f ps way

-- of each call that calls this
abbrev pub DecidesNamed : Elaborator → Elaborator → Called → List Expr → Role → Calling → Type 0
DecidesNamed old new named arguments role way =
    (at_end : Env) (p f : InPlace) (ps : List InPlace) → IsToldCall at_end old p f ps arguments →
    IsCalled old named (called p.0 f) → StandsAs old.types role p.0.role → IsCalling new p f ps way

-- ---- what is made

-- a call by a name with these values
abbrev pub IsCallWith : Called → List TypedExpr → OpenForm → Type 0
IsCallWith (by.Library known) values form =
    (call : LibraryCall) × (form ≡ TypedForm-F.Library call) × IsCallOf known values (out-LibraryCall call)
IsCallWith (by.Extern e) values form = form ≡ TypedForm-F.Extern e values
IsCallWith (by.Program e) values form =
    (callee : Callee) × (form ≡ TypedForm-F.Call callee values)
    × (out-Callee callee ≡ Callee-F.Callee::Function e)

-- the pointer by which a function is called
abbrev pub MakesPointer : Elaborator → Elaborator → Expr → Bool → TypedExpr → Type 0
MakesPointer old new function folded a =
    (at_end : Env) (f : InPlace) → f.1 ≡ function → IsToldOf at_end old f → (tables : Tables) →
    Leads new tables → IsValue tables folded f a

-- a call that is made so, of the function with this number
abbrev pub FormsSo : Elaborator → Elaborator → Calling → ℕ → List Expr → Bool → TypedForm → Type 0
FormsSo old new way n arguments folded form =
    (at_end : Env) (p f : InPlace) (ps : List InPlace) → IsToldCall at_end old p f ps arguments →
    f.1.ordinal ≡ n → IsCalling old p f ps way → (tables : Tables) → Leads new tables →
    IsFormOf tables folded p (out-TypedForm form)

-- of this function
abbrev pub FormsCalling : Elaborator → Elaborator → Calling → Expr → List Expr → Bool → TypedForm → Type 0
FormsCalling old new way function arguments folded form =
    (at_end : Env) (p f : InPlace) (ps : List InPlace) → IsToldCall at_end old p f ps arguments →
    f.1 ≡ function → IsCalling old p f ps way → (tables : Tables) → Leads new tables →
    IsFormOf tables folded p (out-TypedForm form)

-- a call that stands so
abbrev pub FormsCall : Elaborator → Elaborator → Expr → List Expr → Way → TypedForm → Type 0
FormsCall old new function arguments way form =
    (at_end : Env) (p f : InPlace) (ps : List InPlace) → IsToldCall at_end old p f ps arguments →
    f.1 ≡ function → StandsAs old.types way.role p.0.role → (tables : Tables) → Leads new tables →
    IsFormOf tables way.folded p (out-TypedForm form)
