-- Codes that are kept one node after another.
use Rattle.std.specs.Prelude.{◌≡◌, ◌⊎◌, List, [], ◌∷◌}
use Rattle.lk_typed.specs.Env.{Env}
use Rattle.lk_typed.specs.Faults.{Breach, Fault, breach}
use Rattle.lk_typed.specs.Nodes.{Placed}
use Rattle.lk_typed.specs.Stands.{IsIn, Mark}
use Rattle.lk_rules.specs.Keeping.{FaultAt, FaultIn, HasBreach, IsBroken, Kept, Keeps, KeepsCodes}

-- codes at a node
pub record Codes : Type 0 where
  pub mark : Mark
  pub broken : List Breach

abbrev pub codes_at : Mark → List Breach → Codes
codes_at mark broken = record { mark = mark; broken = broken }

abbrev pub KeepsEach : Kept → List Codes → Kept → Type 0
KeepsEach old [] new = new ≡ old
KeepsEach old (codes ∷ others) new =
    (middle : Kept) × KeepsCodes old codes.mark codes.broken middle × KeepsEach middle others new

-- none of them tells a name
abbrev pub AreUnnamed : List Breach → Type 0
AreUnnamed broken = (b : Breach) → IsIn b broken → b ≡ breach b.code

-- ---- nodes and codes of other nodes, in any order

-- it is so of the codes of one of them
abbrev pub OfEach : (Mark → List Breach → Type 0) → List Codes → Type 0
OfEach At [] = ⊥
OfEach At (codes ∷ others) = At codes.mark codes.broken ⊎ OfEach At others

abbrev pub FaultOfEach : List Codes → Fault → Type 0
FaultOfEach codes f = OfEach (λ mark broken. FaultAt mark broken f) codes

abbrev pub BreaksEach : List Codes → Type 0
BreaksEach codes = OfEach (λ mark broken. HasBreach broken) codes

-- `at_end` is the environment behind the whole source
abbrev pub KeepsAll : Env → Kept → List Placed → List Codes → Kept → Type 0
KeepsAll at_end old ps codes new =
    Keeps old (λ f. FaultIn at_end ps f ⊎ FaultOfEach codes f) (IsBroken at_end ps ⊎ BreaksEach codes) new
