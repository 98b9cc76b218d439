-- Initialisers that are initialiser words (POSIX, pthread.h).
use Rattle.std.specs.Prelude.{Bool, true, false}
use Rattle.lk_found.specs.declared.records.InitialiserKind.{InitialiserKind}
use Rattle.lk_found.specs.declared.records.InitialiserKind.TheVariants as kind

abbrev pub is_word_kind : InitialiserKind → Bool
is_word_kind (kind.Word t) = true
is_word_kind kind.Value = false
