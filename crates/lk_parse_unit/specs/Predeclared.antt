-- The names in scope before the first token of a source.
use Rattle.std.specs.Prelude.{ℕ, List, [], ◌∷◌, codes, true, map}
use Rattle.lk_parse_expr.specs.Input.{Names}

-- the types that each source has (POSIX, pthread.h and sys/types.h; C99 7.17)
abbrev pub type_names : List (List ℕ)
type_names =
    codes "pthread_t" ∷ codes "pthread_mutex_t" ∷ codes "pthread_cond_t" ∷ codes "size_t" ∷
    codes "pthread_attr_t" ∷ codes "pthread_mutexattr_t" ∷ codes "pthread_condattr_t" ∷ []

-- each is a typedef name
abbrev pub predeclared : Names
predeclared = map (λ name. (name, true)) type_names
