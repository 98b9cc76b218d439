-- The faults of types and declarations in several trees (C99 6.2 to 6.9), where --externs lists these names.
use Rattle.std.specs.Prelude.{◌≡◌, List, ◌∷◌}
use Rattle.std.specs.List.{AllByRecursion}
use Rattle.lk_base.specs.declared.refusal.Refusal.{Refusal}
use Rattle.lk_found.specs.Findings.{refusal_of}
use Rattle.lk_tree.specs.declared.statement.Unit.{Unit}
use Rattle.lk_typed.specs.Env.{Name}
use Rattle.lk_typed.specs.Faults.{Fault}
use Rattle.lk_typed.specs.Units.{IsFaultOf, IsFirstFault}

abbrev pub IsFaultless : List Name → Unit → Type 0
IsFaultless externs unit = (fault : Fault) → IsFaultOf externs unit fault → ⊥

-- no tree has a fault
abbrev pub AreFaultless : List Name → List Unit → Type 0
AreFaultless externs units = AllByRecursion (IsFaultless externs) units

-- the first tree with a fault, and the refusal by its least
pub data AreFaulty (externs : List Name) : List Unit → Refusal → Type 0 where
  here : {unit : Unit} {units : List Unit} {told : Refusal} (fault : Fault) →
      IsFirstFault externs unit fault → told ≡ refusal_of fault → AreFaulty externs (unit ∷ units) told
  behind : {unit : Unit} {units : List Unit} {told : Refusal} → IsFaultless externs unit →
      AreFaulty externs units told → AreFaulty externs (unit ∷ units) told
