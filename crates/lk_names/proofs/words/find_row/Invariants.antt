use Rattle.std.proofs.Common.{◌≡◌, drop, map}
use Rattle.lk_typed.specs.TypeWords.{find_row}
use Rattle.lk_names.specs.Words.{rules_row}
use Rattle.lk_names.proofs.words.find_row.Given as goal

abbrev pub invariant-loop-others : goal.invariant-loop-others
invariant-loop-others l = find_row l.words (map rules_row l.rows) ≡ find_row l.words (map rules_row (drop l.others-index l.rows))
