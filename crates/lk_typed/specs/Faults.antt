-- Faults of a source and their order.
use Rattle.std.specs.Prelude.{ℕ, ◌≡◌, ◌<◌, ◌⊎◌, List, []}
use Rattle.lk_base.specs.declared.code.Code.{Code}
use Rattle.lk_base.specs.declared.spot.Spot.{Spot}
use Rattle.lk_base.specs.Code.{number_of}

-- a code, and the name that it tells, which is empty where the code has none
pub record Breach : Type 0 where
  pub code : Code
  pub name : List ℕ

abbrev pub breach : Code → Breach
breach code = record { code = code; name = [] }

abbrev pub breach_of : Code → List ℕ → Breach
breach_of code name = record { code = code; name = name }

-- a breach of a rule, at the node with this place and number
pub record Fault : Type 0 where
  pub spot : Spot
  pub ordinal : ℕ
  pub breach : Breach

-- places are compared by file number, then line, then column
abbrev pub StandsBefore : Spot → Spot → Type 0
StandsBefore a b =
    (a.file < b.file) ⊎ ((a.file ≡ b.file) × (a.line < b.line))
    ⊎ ((a.file ≡ b.file) × (a.line ≡ b.line) × (a.col < b.col))

-- faults are compared by place, then the number of the code, then the number of the node
abbrev pub IsBefore : Fault → Fault → Type 0
IsBefore f g =
    StandsBefore f.spot g.spot ⊎
    ((f.spot ≡ g.spot) × (number_of f.breach.code < number_of g.breach.code)) ⊎
    ((f.spot ≡ g.spot) × (number_of f.breach.code ≡ number_of g.breach.code) × (f.ordinal < g.ordinal))

-- the least of the faults that hold
pub record IsLeast (Holds : Fault → Type 0) (f : Fault) : Type 0 where
  pub holds : Holds f
  pub first : (g : Fault) → Holds g → IsBefore g f → ⊥
