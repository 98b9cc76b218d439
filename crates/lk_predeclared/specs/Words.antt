-- The predeclared words (POSIX, sys/types.h and pthread.h; C99 7.17).
use Rattle.std.specs.Prelude.{List, [], ◌∷◌, codes}
use Rattle.lk_typed.specs.Env.{Name}
use Rattle.lk_typed.specs.declared.names.Meaning.{Meaning}
use Rattle.lk_typed.specs.declared.names.Meaning.TheVariants.{Typedef, InitialiserWord}
use Rattle.lk_predeclared.specs.declared.words.Word.{Word}
use Rattle.lk_predeclared.specs.declared.words.Word.TheVariants as w

abbrev pub word_name : Word → Name
word_name w.Thread = codes "pthread_t"
word_name w.Mutex = codes "pthread_mutex_t"
word_name w.Cond = codes "pthread_cond_t"
word_name w.Size = codes "size_t"
word_name w.ThreadAttributes = codes "pthread_attr_t"
word_name w.MutexAttributes = codes "pthread_mutexattr_t"
word_name w.CondAttributes = codes "pthread_condattr_t"
word_name w.MutexInitialiser = codes "PTHREAD_MUTEX_INITIALIZER"
word_name w.CondInitialiser = codes "PTHREAD_COND_INITIALIZER"

-- by the numbers of the predeclared types
abbrev pub word_meaning : Word → Meaning
word_meaning w.Thread = Typedef 13
word_meaning w.Mutex = Typedef 14
word_meaning w.Cond = Typedef 15
word_meaning w.Size = Typedef 10
word_meaning w.ThreadAttributes = Typedef 16
word_meaning w.MutexAttributes = Typedef 17
word_meaning w.CondAttributes = Typedef 18
word_meaning w.MutexInitialiser = InitialiserWord 14
word_meaning w.CondInitialiser = InitialiserWord 15

-- all of them
abbrev pub words : List Word
words =
    w.Thread ∷ w.Mutex ∷ w.Cond ∷ w.Size ∷ w.ThreadAttributes ∷ w.MutexAttributes ∷ w.CondAttributes ∷
    w.MutexInitialiser ∷ w.CondInitialiser ∷ []
