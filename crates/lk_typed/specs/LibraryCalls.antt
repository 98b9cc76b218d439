-- Which call of the typed tree a call of each library function is, by those of its arguments that
-- compute something (POSIX, pthread.h; C99 7.19, 7.20). `pthread_create`, `malloc`, `calloc` and
-- `printf` have rules of their own.
use Rattle.std.specs.Prelude.{Some, None, List, [], ◌∷◌, codes}
use Rattle.std.specs.List.{Contains}
use Rattle.lk_typed.specs.Env.{Name}
use Rattle.lk_typed.specs.declared.expression.Callee.{Callee}
use Rattle.lk_typed.specs.declared.expression.Callee.TheOpen.{LibraryCall-F}
use Rattle.lk_typed.specs.declared.expression.TypedExpr.{TypedExpr}
use Rattle.lk_typed.specs.declared.expression.TypedForm.{TypedForm}
use Rattle.lk_typed.specs.declared.library.LibraryCall.{LibraryCall}

abbrev pub OpenLibraryCall : Type 0
OpenLibraryCall = LibraryCall-F Callee TypedForm LibraryCall TypedExpr

-- what is made of the arguments
pub data Making : Type 0 where
  of_none : OpenLibraryCall → Making
  of_one : (TypedExpr → OpenLibraryCall) → Making
  of_two : (TypedExpr → TypedExpr → OpenLibraryCall) → Making
  of_all : (List TypedExpr → OpenLibraryCall) → Making

pub record CallRow : Type 0 where
  pub name : Name
  pub making : Making

abbrev row : Name → Making → CallRow
row name making = record { name = name; making = making }

abbrev pub call_rows : List CallRow
call_rows =
    row (codes "pthread_join") (of_one (λ thread. LibraryCall-F.Join thread))
    ∷ row (codes "pthread_detach") (of_one (λ thread. LibraryCall-F.Detach thread))
    ∷ row (codes "pthread_exit") (of_one (λ result. LibraryCall-F.ExitThread result))
    ∷ row (codes "pthread_self") (of_none LibraryCall-F.SelfId)
    ∷ row (codes "pthread_equal") (of_two (λ a b. LibraryCall-F.Equal a b))
    ∷ row (codes "pthread_mutex_init") (of_one (λ mutex. LibraryCall-F.Init mutex))
    ∷ row (codes "pthread_mutex_destroy") (of_one (λ mutex. LibraryCall-F.Destroy mutex))
    ∷ row (codes "pthread_mutex_lock") (of_one (λ mutex. LibraryCall-F.Lock mutex))
    ∷ row (codes "pthread_mutex_unlock") (of_one (λ mutex. LibraryCall-F.Unlock mutex))
    ∷ row (codes "pthread_cond_init") (of_one (λ cond. LibraryCall-F.Init cond))
    ∷ row (codes "pthread_cond_destroy") (of_one (λ cond. LibraryCall-F.Destroy cond))
    ∷ row (codes "pthread_cond_signal") (of_one (λ cond. LibraryCall-F.Signal cond))
    ∷ row (codes "pthread_cond_broadcast") (of_one (λ cond. LibraryCall-F.Signal cond))
    ∷ row (codes "pthread_cond_wait") (of_two (λ cond mutex. LibraryCall-F.Wait cond mutex))
    ∷ row (codes "free") (of_one (λ pointer. LibraryCall-F.Free pointer))
    ∷ row (codes "exit") (of_one (λ status. LibraryCall-F.Exit (Some status)))
    ∷ row (codes "abort") (of_none (LibraryCall-F.Exit None))
    ∷ row (codes "puts") (of_one (λ text. LibraryCall-F.Scan text))
    ∷ row (codes "perror") (of_one (λ text. LibraryCall-F.Scan text))
    ∷ row (codes "atoi") (of_one (λ text. LibraryCall-F.Scan text))
    ∷ row (codes "putchar") (of_all (λ arguments. LibraryCall-F.Compute arguments))
    ∷ row (codes "getchar") (of_all (λ arguments. LibraryCall-F.Compute arguments))
    ∷ row (codes "rand") (of_all (λ arguments. LibraryCall-F.Compute arguments))
    ∷ row (codes "sleep") (of_all (λ arguments. LibraryCall-F.Compute arguments))
    ∷ []

-- what is made of these arguments
pub data Made : Making → List TypedExpr → OpenLibraryCall → Type 0 where
  none : {call : OpenLibraryCall} → Made (of_none call) [] call
  one : {f : TypedExpr → OpenLibraryCall} (a : TypedExpr) → Made (of_one f) (a ∷ []) (f a)
  two : {f : TypedExpr → TypedExpr → OpenLibraryCall} (a b : TypedExpr) → Made (of_two f) (a ∷ b ∷ []) (f a b)
  all : {f : List TypedExpr → OpenLibraryCall} (arguments : List TypedExpr) →
      Made (of_all f) arguments (f arguments)

-- a call of the function with this name, by its arguments
pub record IsCallBy (name : Name) (arguments : List TypedExpr) (call : OpenLibraryCall) : Type 0 where
  pub making : Making
  pub listed : Contains call_rows (record { name = name; making = making })
  pub made : Made making arguments call
