-- How many sources a command has, and how many are accepted.
use Rattle.std.proofs.Common.{◌≡◌, ◌∙◌, ℕ, suc, true, List, length, map, nat_le, refl, sym, ap, arith}
use Rattle.std.proofs.lemmas.Bool.{and_parts, leb-true}
use Rattle.std.proofs.lemmas.List.{length-map}
use Rattle.lk_lex.specs.declared.token.Token.{Token}
use Rattle.lk_sources.specs.Accepting.{AreAccepted, units_of}
use Rattle.lk_sources.specs.Readable.{AreFew}
use Rattle.lk_sources.specs.Trees.{AreTrees, nothing, next}
use Rattle.lk_sources.specs.declared.checking.AcceptedSource.{AcceptedSource}
use Rattle.lk_sources.specs.declared.reading.Source.{Source}
use Rattle.lk_tree.specs.declared.statement.Unit.{Unit}
use Rattle.lk_typed.specs.Env.{Name}
use Rattle.lk_words.specs.Words.{Command, is_count, is_in_bounds}

as_many : {sources : List Source} {lists : List (List Token)} {units : List Unit} → AreTrees sources lists units → length units ≡ length sources
as_many nothing = refl
as_many (next tree rest) = ap suc (as_many rest)

-- as many are accepted as there are
pub accepted_all : {names last : List (List ℕ)} {externs : List Name} (sources : List Source) (accepted : List AcceptedSource) → AreAccepted names externs sources last (units_of accepted) →
    length accepted ≡ length sources
accepted_all sources accepted are = sym (length-map accepted (λ (s : AcceptedSource). s.parsed.unit)) ∙ as_many are.trees

-- a command has 1 to 64
pub read_few : (command : Command) (sources : List Source) → is_in_bounds command ≡ true → map (λ s. s.name) sources ≡ command.files → AreFew (length sources)
read_few command sources bounds names =
    let counted = (and_parts (is_count (length command.files)) _ bounds).0 in
    let parts = and_parts (nat_le 1 (length command.files)) (nat_le (length command.files) 64) counted in
    let same = sym (length-map sources (λ (s : Source). s.name)) ∙ ap length names in
    record { some = omega (arith, same, leb-true 1 (length command.files) parts.0); few = omega (arith, same, leb-true (length command.files) 64 parts.1) }
