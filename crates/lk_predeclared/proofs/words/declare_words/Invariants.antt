use Rattle.std.proofs.Common.{map, take}
use Rattle.lk_types.specs.Table.{Table}
use Rattle.lk_typed.specs.Meaning.{IsReady}
use Rattle.lk_predeclared.specs.Scope.{AddsNames}
use Rattle.lk_predeclared.proofs.Scopes.{word_declared}
use Rattle.lk_predeclared.proofs.words.declare_words.Given as goal

abbrev pub invariant-loop-word : goal.invariant-loop-word
invariant-loop-word l = (table : Table) → IsReady table → AddsNames table l.fn.names table l.names (map word_declared (take l.word-index l.word-items))
