-- The code's table of words, in the words of the rules.
use Rattle.std.specs.Prelude.{List}
use Rattle.std.specs.Borrow.{Bor}
use Rattle.lk_tree.specs.declared.specifiers.TypeWord.{TypeWord}
use Rattle.lk_typed.specs.TypeWords as spec
use Rattle.lk_names.specs.declared.words.WordType.{WordType}
use Rattle.lk_names.specs.declared.words.WordType.TheVariants.{Void, Integer}

abbrev pub rules_type : WordType → spec.WordType
rules_type Void = spec.void
rules_type (Integer k) = spec.integer k

abbrev pub rules_row : Bor (List TypeWord) × WordType → spec.Row
rules_row r = record { words = r.0.now; names = rules_type r.1 }
