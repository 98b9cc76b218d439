-- Bounds on lengths, which private contracts alone cite.
use Rattle.std.specs.Prelude.{◌≡◌, ℕ, ◌+◌, ◌<◌, ◌≤◌, List, [], Option, Some, None}
use Rattle.lk_lex.specs.declared.front.Front.{Front}
use Rattle.lk_lex.specs.declared.front.Front.TheVariants as f
use Rattle.lk_lex.specs.declared.mark.Directive.{Directive}
use Rattle.lk_lex.specs.declared.mark.Directive.TheVariants as d
use Rattle.lk_base.specs.declared.code.Code.{Code}
use Rattle.lk_base.specs.declared.spot.Spot.{Spot}
use Rattle.lk_base.specs.declared.refusal.Refusal.{Refusal}
use Rattle.lk_base.specs.declared.fault.Fault.{Fault}
use Rattle.lk_base.specs.declared.fault.Fault.TheVariants as e
use Rattle.lk_lex.specs.declared.place.Place.{Place}
use Rattle.lk_lex.specs.Answer.{refusal}
use Rattle.lk_lex.specs.Tokens.{Stops}

-- what stands in front has at least one byte, and at most so many
pub record IsWithin (most len : ℕ) : Type 0 where
  pub some : 0 < len
  pub fits : len ≤ most

abbrev pub IsFrontWithin : ℕ → Front → Type 0
IsFrontWithin most f.Nothing = Unit {0}
IsFrontWithin most f.Broken = Unit {0}
IsFrontWithin most (f.Gap n) = IsWithin most n
IsFrontWithin most (f.Mark n mark) = IsWithin most n × (mark.line ≤ 2147483647)
IsFrontWithin most (f.Token n kind) = IsWithin most n

-- a place's numbers fit, as long as a source has at most 1,048,576 bytes: a line mark sets at
-- most 2,147,483,647, and each byte adds at most one
pub record IsBounded (place : Place) : Type 0 where
  pub line : place.spot.line ≤ 2147483648 + place.at
  pub col : place.spot.col ≤ 1 + place.at
  pub next_line : place.next.line ≤ 2147483648 + place.at
  pub next_col : place.next.col ≤ 1 + place.at

abbrev pub IsLineSmall : Option Directive → Type 0
IsLineSmall None = Unit {0}
IsLineSmall (Some d.Pragma) = Unit {0}
IsLineSmall (Some (d.Mark mark)) = mark.line ≤ 2147483647

-- want of memory, or this refusal
abbrev pub IsFaultOf : Refusal → Fault → Type 0
IsFaultOf right e.NoMemory = Unit {0}
IsFaultOf right (e.Refused told) = told ≡ right

-- want of memory, or the split stops there
abbrev pub IsStop : List (List ℕ) → Place → List ℕ → List (List ℕ) → Fault → Type 0
IsStop names place bytes last e.NoMemory = Unit {0}
IsStop names place bytes last (e.Refused told) =
    (code : Code) × (spot : Spot) × (told ≡ refusal code spot []) × Stops names place bytes code spot last
