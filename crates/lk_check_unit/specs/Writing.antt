-- The initialiser words among what is declared.
use Rattle.std.specs.Prelude.{Option, Some, None}
use Rattle.lk_typed.specs.Env.{Declared, Meaning, AnObject, AFunction, ATypedef, AnEnumerator, AnInitialiserWord, AFaultyName}
use Rattle.lk_typed.specs.Ty.{Ty}

abbrev pub word_meant : Meaning → Option Ty
word_meant (AnObject t static) = None
word_meant (AFunction t) = None
word_meant (ATypedef t) = None
word_meant (AnEnumerator n) = None
word_meant (AnInitialiserWord t) = Some t
word_meant AFaultyName = None

-- the type whose initialiser word it is
abbrev pub word_given : Option Declared → Option Ty
word_given None = None
word_given (Some d) = word_meant d.meaning
