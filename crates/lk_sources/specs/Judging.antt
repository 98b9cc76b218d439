-- What the calls inside this crate answer about trees and faults, which private contracts alone cite.
use Rattle.std.specs.Bool.{⊤}
use Rattle.std.specs.Prelude.{ℕ, List}
use Rattle.lk_base.specs.declared.fault.Fault.{Fault}
use Rattle.lk_base.specs.declared.fault.Fault.TheVariants as fault
use Rattle.lk_lex.specs.declared.token.Token.{Token}
use Rattle.lk_tree.specs.declared.statement.Unit.{Unit}
use Rattle.lk_typed.specs.Env.{Name}
use Rattle.lk_sources.specs.Accepting.{AreRefused}
use Rattle.lk_sources.specs.Faults.{AreFaulty}
use Rattle.lk_sources.specs.Trees.{HasNoTree}
use Rattle.lk_sources.specs.declared.reading.Source.{Source}

-- ---- trees

abbrev pub IsTreeFault : List Source → List (List Token) → Fault → Type 0
IsTreeFault sources lists fault.NoMemory = ⊤
IsTreeFault sources lists (fault.Refused refusal) = HasNoTree sources lists refusal

-- ---- the check

abbrev pub IsFaulty : List Name → List Unit → Fault → Type 0
IsFaulty externs units fault.NoMemory = ⊤
IsFaulty externs units (fault.Refused refusal) = AreFaulty externs units refusal

-- ---- all of it

abbrev pub IsJudged : List (List ℕ) → List Name → List Source → List (List ℕ) → Fault → Type 0
IsJudged names externs sources last fault.NoMemory = ⊤
IsJudged names externs sources last (fault.Refused refusal) = AreRefused names externs sources last refusal
