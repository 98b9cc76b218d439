-- The rows of the calls of library functions (POSIX, pthread.h; C99 7.19, 7.20).
use Rattle.std.proofs.Common.{◌≡◌, ◌∙◌, Option, Some, None, List, [], ◌∷◌, refl, sym, ap, subst, arith}
use Rattle.std.specs.List.{Contains}
use Rattle.lk_typed.specs.LibraryCalls as spec
use Rattle.lk_typed.specs.LibraryCalls.{CallRow, IsCallBy, OpenLibraryCall, call_rows}
use Rattle.lk_typed.specs.LibraryCalls.Made.{none, one, two, all}
use Rattle.lk_typed.specs.declared.expression.Callee.TheOpen.{LibraryCall-F}
use Rattle.lk_typed.specs.declared.expression.TypedExpr.{TypedExpr}
use Rattle.lk_check_expr.specs.Functions.{spelling}
use Rattle.lk_check_expr.specs.declared.library.LibraryFunction.{LibraryFunction}
use Rattle.lk_check_expr.specs.declared.library.LibraryFunction.TheVariants as f
use Rattle.lk_elaborator.proofs.Knowing.{same_some, some_none}
use Rattle.lk_elab_expr.specs.LibraryForms.{IsOfOne, IsOfTwo, call_of_none, call_of_one, call_of_two, making_for, making_in}
use Rattle.lk_elab_expr.specs.declared.library.Making.{Making}
use Rattle.lk_elab_expr.specs.declared.library.Making.TheVariants.{OfNone, OfOne, OfTwo, OfAll, Print, Apart}
use Rattle.lk_elab_expr.specs.declared.library.NoValue.{NoValue}
use Rattle.lk_elab_expr.specs.declared.library.OneValue.{OneValue}
use Rattle.lk_elab_expr.specs.declared.library.TwoValues.{TwoValues}

abbrev row_for : LibraryFunction → spec.Making → CallRow
row_for function making = record { name = spelling function; making = making }

-- each function without a rule of its own has its row
row_there : (function : LibraryFunction) (making : spec.Making) → making_in (making_for function) ≡ Some making → Contains call_rows (row_for function making)
row_there f.Join making is = subst (λ m. Contains call_rows (row_for f.Join m)) (same_some is) (0, omega arith, refl)
row_there f.Detach making is = subst (λ m. Contains call_rows (row_for f.Detach m)) (same_some is) (1, omega arith, refl)
row_there f.ExitThread making is = subst (λ m. Contains call_rows (row_for f.ExitThread m)) (same_some is) (2, omega arith, refl)
row_there f.SelfId making is = subst (λ m. Contains call_rows (row_for f.SelfId m)) (same_some is) (3, omega arith, refl)
row_there f.Equal making is = subst (λ m. Contains call_rows (row_for f.Equal m)) (same_some is) (4, omega arith, refl)
row_there f.MutexInit making is = subst (λ m. Contains call_rows (row_for f.MutexInit m)) (same_some is) (5, omega arith, refl)
row_there f.CondInit making is = subst (λ m. Contains call_rows (row_for f.CondInit m)) (same_some is) (9, omega arith, refl)
row_there f.MutexDestroy making is = subst (λ m. Contains call_rows (row_for f.MutexDestroy m)) (same_some is) (6, omega arith, refl)
row_there f.CondDestroy making is = subst (λ m. Contains call_rows (row_for f.CondDestroy m)) (same_some is) (10, omega arith, refl)
row_there f.MutexLock making is = subst (λ m. Contains call_rows (row_for f.MutexLock m)) (same_some is) (7, omega arith, refl)
row_there f.MutexUnlock making is = subst (λ m. Contains call_rows (row_for f.MutexUnlock m)) (same_some is) (8, omega arith, refl)
row_there f.CondSignal making is = subst (λ m. Contains call_rows (row_for f.CondSignal m)) (same_some is) (11, omega arith, refl)
row_there f.CondBroadcast making is = subst (λ m. Contains call_rows (row_for f.CondBroadcast m)) (same_some is) (12, omega arith, refl)
row_there f.CondWait making is = subst (λ m. Contains call_rows (row_for f.CondWait m)) (same_some is) (13, omega arith, refl)
row_there f.Free making is = subst (λ m. Contains call_rows (row_for f.Free m)) (same_some is) (14, omega arith, refl)
row_there f.Exit making is = subst (λ m. Contains call_rows (row_for f.Exit m)) (same_some is) (15, omega arith, refl)
row_there f.Abort making is = subst (λ m. Contains call_rows (row_for f.Abort m)) (same_some is) (16, omega arith, refl)
row_there f.Puts making is = subst (λ m. Contains call_rows (row_for f.Puts m)) (same_some is) (17, omega arith, refl)
row_there f.Perror making is = subst (λ m. Contains call_rows (row_for f.Perror m)) (same_some is) (18, omega arith, refl)
row_there f.Atoi making is = subst (λ m. Contains call_rows (row_for f.Atoi m)) (same_some is) (19, omega arith, refl)
row_there f.Putchar making is = subst (λ m. Contains call_rows (row_for f.Putchar m)) (same_some is) (20, omega arith, refl)
row_there f.Getchar making is = subst (λ m. Contains call_rows (row_for f.Getchar m)) (same_some is) (21, omega arith, refl)
row_there f.Rand making is = subst (λ m. Contains call_rows (row_for f.Rand m)) (same_some is) (22, omega arith, refl)
row_there f.Sleep making is = subst (λ m. Contains call_rows (row_for f.Sleep m)) (same_some is) (23, omega arith, refl)
row_there f.Printf making is = absurd (some_none is)
row_there f.Create making is = absurd (some_none is)
row_there f.Malloc making is = absurd (some_none is)
row_there f.Calloc making is = absurd (some_none is)

module _ (function : LibraryFunction) (arguments : List TypedExpr) (call : OpenLibraryCall) where
  by_row : (m : Making) → m ≡ making_for function → (making : spec.Making) → making_in m ≡ Some making → spec.Made making arguments call → IsCallBy (spelling function) arguments call
  by_row m is making of made = record { making = making; listed = row_there function making (ap making_in (sym is) ∙ of); made = made }

  pub by_none : (v : NoValue) → OfNone v ≡ making_for function → arguments ≡ [] → call ≡ call_of_none v → IsCallBy (spelling function) arguments call
  by_none v is given made =
      by_row (OfNone v) is _ refl (subst (λ as_. spec.Made (spec.of_none (call_of_none v)) as_ call) (sym given) (subst (λ c. spec.Made (spec.of_none c) [] call) made none))

  pub by_one : (v : OneValue) → OfOne v ≡ making_for function → IsOfOne v arguments call → IsCallBy (spelling function) arguments call
  by_one v is of =
      by_row (OfOne v) is _ refl (subst (λ as_. spec.Made (spec.of_one (call_of_one v)) as_ call) (sym of.given)
      (subst (λ c. spec.Made (spec.of_one (call_of_one v)) (of.argument ∷ []) c) (sym of.made) (one of.argument)))

  pub by_two : (v : TwoValues) → OfTwo v ≡ making_for function → IsOfTwo v arguments call → IsCallBy (spelling function) arguments call
  by_two v is of =
      by_row (OfTwo v) is _ refl (subst (λ as_. spec.Made (spec.of_two (call_of_two v)) as_ call) (sym of.given)
      (subst (λ c. spec.Made (spec.of_two (call_of_two v)) (of.first ∷ of.second ∷ []) c) (sym of.made) (two of.first of.second)))

  pub by_all : OfAll ≡ making_for function → call ≡ LibraryCall-F.Compute arguments → IsCallBy (spelling function) arguments call
  by_all is made = by_row OfAll is _ refl (subst (λ c. spec.Made (spec.of_all (λ as_. LibraryCall-F.Compute as_)) arguments c) (sym made) (all arguments))

print_code : Making → Option Making
print_code (OfNone v) = None
print_code (OfOne v) = None
print_code (OfTwo v) = None
print_code OfAll = None
print_code Print = Some Print
print_code Apart = None

pub print_is : (function : LibraryFunction) → Print ≡ making_for function → function ≡ f.Printf
unfolding print_code
print_is f.Join is = absurd (some_none (sym (ap print_code is)))
print_is f.Detach is = absurd (some_none (sym (ap print_code is)))
print_is f.ExitThread is = absurd (some_none (sym (ap print_code is)))
print_is f.SelfId is = absurd (some_none (sym (ap print_code is)))
print_is f.Equal is = absurd (some_none (sym (ap print_code is)))
print_is f.MutexInit is = absurd (some_none (sym (ap print_code is)))
print_is f.CondInit is = absurd (some_none (sym (ap print_code is)))
print_is f.MutexDestroy is = absurd (some_none (sym (ap print_code is)))
print_is f.CondDestroy is = absurd (some_none (sym (ap print_code is)))
print_is f.MutexLock is = absurd (some_none (sym (ap print_code is)))
print_is f.MutexUnlock is = absurd (some_none (sym (ap print_code is)))
print_is f.CondSignal is = absurd (some_none (sym (ap print_code is)))
print_is f.CondBroadcast is = absurd (some_none (sym (ap print_code is)))
print_is f.CondWait is = absurd (some_none (sym (ap print_code is)))
print_is f.Free is = absurd (some_none (sym (ap print_code is)))
print_is f.Exit is = absurd (some_none (sym (ap print_code is)))
print_is f.Abort is = absurd (some_none (sym (ap print_code is)))
print_is f.Puts is = absurd (some_none (sym (ap print_code is)))
print_is f.Perror is = absurd (some_none (sym (ap print_code is)))
print_is f.Atoi is = absurd (some_none (sym (ap print_code is)))
print_is f.Putchar is = absurd (some_none (sym (ap print_code is)))
print_is f.Getchar is = absurd (some_none (sym (ap print_code is)))
print_is f.Rand is = absurd (some_none (sym (ap print_code is)))
print_is f.Sleep is = absurd (some_none (sym (ap print_code is)))
print_is f.Printf is = refl
print_is f.Create is = absurd (some_none (sym (ap print_code is)))
print_is f.Malloc is = absurd (some_none (sym (ap print_code is)))
print_is f.Calloc is = absurd (some_none (sym (ap print_code is)))
