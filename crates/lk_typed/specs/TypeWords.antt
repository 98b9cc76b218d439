-- Which words make which type (C99 6.7.2, 2). The words of one row stand in any order.
use Rattle.std.specs.Prelude.{ℕ, Bool, ◌&&◌, Option, Some, None, List, [], ◌∷◌, nat_eq, if◌then◌else◌, ◌+◌}
use Rattle.lk_base.specs.declared.kind.Kind.{Kind}
use Rattle.lk_base.specs.declared.kind.Kind.TheVariants as kind
use Rattle.lk_tree.specs.declared.specifiers.TypeWord.{TypeWord}
use Rattle.lk_tree.specs.declared.specifiers.TypeWord.TheVariants as word

-- what words alone can name
pub data WordType : Type 0 where
  void : WordType
  integer : Kind → WordType

pub record Row : Type 0 where
  pub words : List TypeWord
  pub names : WordType

abbrev pub row : List TypeWord → WordType → Row
row words names = record { words = words; names = names }

-- the combinations that name a type; `double`, `float` and `_Complex` are no words of the language
abbrev pub rows : List Row
rows =
    row (word.Void ∷ []) void ∷
    row (word.Char ∷ []) (integer kind.Char) ∷
    row (word.Signed ∷ word.Char ∷ []) (integer kind.SChar) ∷
    row (word.Unsigned ∷ word.Char ∷ []) (integer kind.UChar) ∷
    row (word.Short ∷ []) (integer kind.Short) ∷
    row (word.Signed ∷ word.Short ∷ []) (integer kind.Short) ∷
    row (word.Short ∷ word.Int ∷ []) (integer kind.Short) ∷
    row (word.Signed ∷ word.Short ∷ word.Int ∷ []) (integer kind.Short) ∷
    row (word.Unsigned ∷ word.Short ∷ []) (integer kind.UShort) ∷
    row (word.Unsigned ∷ word.Short ∷ word.Int ∷ []) (integer kind.UShort) ∷
    row (word.Int ∷ []) (integer kind.Int) ∷
    row (word.Signed ∷ []) (integer kind.Int) ∷
    row (word.Signed ∷ word.Int ∷ []) (integer kind.Int) ∷
    row (word.Unsigned ∷ []) (integer kind.UInt) ∷
    row (word.Unsigned ∷ word.Int ∷ []) (integer kind.UInt) ∷
    row (word.Long ∷ []) (integer kind.Long) ∷
    row (word.Signed ∷ word.Long ∷ []) (integer kind.Long) ∷
    row (word.Long ∷ word.Int ∷ []) (integer kind.Long) ∷
    row (word.Signed ∷ word.Long ∷ word.Int ∷ []) (integer kind.Long) ∷
    row (word.Unsigned ∷ word.Long ∷ []) (integer kind.ULong) ∷
    row (word.Unsigned ∷ word.Long ∷ word.Int ∷ []) (integer kind.ULong) ∷
    row (word.Long ∷ word.Long ∷ []) (integer kind.LLong) ∷
    row (word.Signed ∷ word.Long ∷ word.Long ∷ []) (integer kind.LLong) ∷
    row (word.Long ∷ word.Long ∷ word.Int ∷ []) (integer kind.LLong) ∷
    row (word.Signed ∷ word.Long ∷ word.Long ∷ word.Int ∷ []) (integer kind.LLong) ∷
    row (word.Unsigned ∷ word.Long ∷ word.Long ∷ []) (integer kind.ULLong) ∷
    row (word.Unsigned ∷ word.Long ∷ word.Long ∷ word.Int ∷ []) (integer kind.ULLong) ∷
    row (word.Bool ∷ []) (integer kind.Bool) ∷ []

-- the words in some order, as a number each
abbrev pub place : TypeWord → ℕ
place word.Void = 0
place word.Char = 1
place word.Short = 2
place word.Int = 3
place word.Long = 4
place word.Signed = 5
place word.Unsigned = 6
place word.Bool = 7

-- how often a word stands in a list
abbrev pub count : TypeWord → List TypeWord → ℕ
count w [] = 0
count w (v ∷ vs) = if nat_eq (place w) (place v) then 1 + count w vs else count w vs

abbrev pub is_as_often : List TypeWord → List TypeWord → TypeWord → Bool
is_as_often us vs w = nat_eq (count w us) (count w vs)

-- whether two lists have the same words, each as often
abbrev pub are_same_words : List TypeWord → List TypeWord → Bool
are_same_words us vs =
    is_as_often us vs word.Void && is_as_often us vs word.Char && is_as_often us vs word.Short
    && is_as_often us vs word.Int &&
    is_as_often us vs word.Long && is_as_often us vs word.Signed && is_as_often us vs word.Unsigned
    && is_as_often us vs word.Bool

abbrev pub find_row : List TypeWord → List Row → Option WordType
find_row words [] = None
find_row words (r ∷ rs) = if are_same_words words r.words then Some r.names else find_row words rs

-- the type that words name, if they are one of the combinations
unfoldable pub type_of_words : List TypeWord → Option WordType
type_of_words words = find_row words rows
