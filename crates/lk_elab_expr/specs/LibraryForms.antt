-- Which call a call of a library function is, by those of its arguments that compute something.
use Rattle.std.specs.Prelude.{ℕ, ◌≡◌, Option, Some, None, List, [], ◌∷◌}
use Rattle.lk_typed.specs.LibraryCalls.{IsCallBy, OpenLibraryCall}
use Rattle.lk_typed.specs.LibraryCalls as spec
use Rattle.lk_typed.specs.declared.expression.Callee.TheOpen.{LibraryCall-F}
use Rattle.lk_typed.specs.declared.expression.TypedExpr.{TypedExpr}
use Rattle.lk_check_expr.specs.Functions.{spelling}
use Rattle.lk_check_expr.specs.declared.library.LibraryFunction.{LibraryFunction}
use Rattle.lk_check_expr.specs.declared.library.LibraryFunction.TheVariants as f
use Rattle.lk_elab_expr.specs.declared.library.Making.{Making}
use Rattle.lk_elab_expr.specs.declared.library.Making.TheVariants.{OfNone, OfOne, OfTwo, OfAll, Print, Apart}
use Rattle.lk_elab_expr.specs.declared.library.NoValue.{NoValue}
use Rattle.lk_elab_expr.specs.declared.library.NoValue.TheVariants as no
use Rattle.lk_elab_expr.specs.declared.library.OneValue.{OneValue}
use Rattle.lk_elab_expr.specs.declared.library.OneValue.TheVariants as one
use Rattle.lk_elab_expr.specs.declared.library.TwoValues.{TwoValues}
use Rattle.lk_elab_expr.specs.declared.library.TwoValues.TheVariants as two

abbrev pub call_of_none : NoValue → OpenLibraryCall
call_of_none no.SelfId = LibraryCall-F.SelfId
call_of_none no.Abort = LibraryCall-F.Exit None

abbrev pub call_of_one : OneValue → TypedExpr → OpenLibraryCall
call_of_one one.Join a = LibraryCall-F.Join a
call_of_one one.Detach a = LibraryCall-F.Detach a
call_of_one one.ExitThread a = LibraryCall-F.ExitThread a
call_of_one one.Init a = LibraryCall-F.Init a
call_of_one one.Destroy a = LibraryCall-F.Destroy a
call_of_one one.Lock a = LibraryCall-F.Lock a
call_of_one one.Unlock a = LibraryCall-F.Unlock a
call_of_one one.Signal a = LibraryCall-F.Signal a
call_of_one one.Free a = LibraryCall-F.Free a
call_of_one one.Exit a = LibraryCall-F.Exit (Some a)
call_of_one one.Scan a = LibraryCall-F.Scan a

abbrev pub call_of_two : TwoValues → TypedExpr → TypedExpr → OpenLibraryCall
call_of_two two.Equal a b = LibraryCall-F.Equal a b
call_of_two two.Wait a b = LibraryCall-F.Wait a b

-- what is made of the arguments of a function
abbrev pub making_for : LibraryFunction → Making
making_for f.Join = OfOne one.Join
making_for f.Detach = OfOne one.Detach
making_for f.ExitThread = OfOne one.ExitThread
making_for f.SelfId = OfNone no.SelfId
making_for f.Equal = OfTwo two.Equal
making_for f.MutexInit = OfOne one.Init
making_for f.CondInit = OfOne one.Init
making_for f.MutexDestroy = OfOne one.Destroy
making_for f.CondDestroy = OfOne one.Destroy
making_for f.MutexLock = OfOne one.Lock
making_for f.MutexUnlock = OfOne one.Unlock
making_for f.CondSignal = OfOne one.Signal
making_for f.CondBroadcast = OfOne one.Signal
making_for f.CondWait = OfTwo two.Wait
making_for f.Free = OfOne one.Free
making_for f.Exit = OfOne one.Exit
making_for f.Abort = OfNone no.Abort
making_for f.Puts = OfOne one.Scan
making_for f.Perror = OfOne one.Scan
making_for f.Atoi = OfOne one.Scan
making_for f.Putchar = OfAll
making_for f.Getchar = OfAll
making_for f.Rand = OfAll
making_for f.Sleep = OfAll
making_for f.Printf = Print
making_for f.Create = Apart
making_for f.Malloc = Apart
making_for f.Calloc = Apart

-- in the words of the rules; nothing of those that have rules of their own
abbrev pub making_in : Making → Option spec.Making
making_in (OfNone v) = Some (spec.of_none (call_of_none v))
making_in (OfOne v) = Some (spec.of_one (call_of_one v))
making_in (OfTwo v) = Some (spec.of_two (call_of_two v))
making_in OfAll = Some (spec.of_all (λ arguments. LibraryCall-F.Compute arguments))
making_in Print = None
making_in Apart = None

-- a format, and the arguments behind it
pub record IsPrint (arguments : List TypedExpr) (call : OpenLibraryCall) : Type 0 where
  pub format : TypedExpr
  pub others : List TypedExpr
  pub given : arguments ≡ format ∷ others
  pub made : call ≡ LibraryCall-F.Print format others

-- a thread that is started at the function with this number among the entities
pub record IsCreate (routine : ℕ) (arguments : List TypedExpr) (call : OpenLibraryCall) : Type 0 where
  pub id : TypedExpr
  pub argument : TypedExpr
  pub given : arguments ≡ id ∷ argument ∷ []
  pub made : call ≡ LibraryCall-F.Create id routine argument

pub record IsOfOne (value : OneValue) (arguments : List TypedExpr) (call : OpenLibraryCall) : Type 0 where
  pub argument : TypedExpr
  pub given : arguments ≡ argument ∷ []
  pub made : call ≡ call_of_one value argument

pub record IsOfTwo (value : TwoValues) (arguments : List TypedExpr) (call : OpenLibraryCall) : Type 0 where
  pub first : TypedExpr
  pub second : TypedExpr
  pub given : arguments ≡ first ∷ second ∷ []
  pub made : call ≡ call_of_two value first second

-- a call of the function
pub data IsCallOf : LibraryFunction → List TypedExpr → OpenLibraryCall → Type 0 where
  listed : {function : LibraryFunction} {arguments : List TypedExpr} {call : OpenLibraryCall} →
      IsCallBy (spelling function) arguments call → IsCallOf function arguments call
  print : {function : LibraryFunction} {arguments : List TypedExpr} {call : OpenLibraryCall} →
      function ≡ f.Printf → IsPrint arguments call → IsCallOf function arguments call
