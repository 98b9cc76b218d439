-- What is kept while the nodes of a source are walked: the least fault so far, and whether a code
-- was seen that holds at a node.
use Rattle.std.specs.Prelude.{◌≡◌, ◌↔◌, ◌⊎◌, ◌||◌, Bool, true, false, Option, Some, None, List, [], ◌∷◌, MatchOption}
use Rattle.lk_typed.specs.Env.{Env}
use Rattle.lk_typed.specs.Faults.{Breach, Fault, IsLeast}
use Rattle.lk_typed.specs.NodeParts.{parts}
use Rattle.lk_typed.specs.NodeRules.{breaches, hiding, mark_of}
use Rattle.lk_typed.specs.Nodes.{Node, Placed, at}
use Rattle.lk_typed.specs.Stands.{IsIn, Mark, Breaks, Holds, IsFault, fault_at}
use Rattle.lk_rules.specs.FirstFaults.{lesser_fault}

pub record Kept : Type 0 where
  pub least : Option Fault
  pub is_broken : Bool

-- what is kept before the first node
abbrev pub none_kept : Kept
none_kept = record { least = None; is_broken = false }

-- a walk that begins to watch for codes; and what is kept behind it, by what was kept before it
abbrev pub watched : Kept → Kept
watched old = record old { is_broken = false }

abbrev pub seen_by : Kept → Kept → Kept
seen_by old new = record new { is_broken = old.is_broken || new.is_broken }

-- the one that was kept before, and these
abbrev pub IsAmong : Option Fault → (Fault → Type 0) → Fault → Type 0
IsAmong None Adds f = Adds f
IsAmong (Some old) Adds f = (f ≡ old) ⊎ Adds f

-- a least one of them is kept; none where there is none
abbrev pub KeepsLeast : Option Fault → (Fault → Type 0) → Option Fault → Type 0
KeepsLeast old Adds new =
    MatchOption new ((f : Fault) → IsAmong old Adds f → ⊥) (λ f. IsLeast (IsAmong old Adds) f)

pub record Keeps (old : Kept) (Adds : Fault → Type 0) (Breaks : Type 0) (new : Kept) : Type 0 where
  pub least : KeepsLeast old.least Adds new.least
  pub broken : (new.is_broken ≡ true) ↔ ((old.is_broken ≡ true) ⊎ Breaks)

-- ---- codes at one node

pub record FaultAt (mark : Mark) (broken : List Breach) (f : Fault) : Type 0 where
  pub breach : Breach
  pub among : IsIn breach broken
  pub is : f ≡ fault_at mark breach

pub record HasBreach (broken : List Breach) : Type 0 where
  pub breach : Breach
  pub among : IsIn breach broken

-- these codes at this place are kept
abbrev pub KeepsCodes : Kept → Mark → List Breach → Kept → Type 0
KeepsCodes old mark broken new = Keeps old (FaultAt mark broken) (HasBreach broken) new

-- one code or none, by value: the lesser fault stays
abbrev pub breaches_told : Option Breach → List Breach
breaches_told None = []
breaches_told (Some broken) = broken ∷ []

abbrev pub keep : Kept → Mark → Option Breach → Kept
keep old mark None = old
keep old mark (Some broken) =
    record { least = lesser_fault old.least (fault_at mark broken); is_broken = true }

-- ---- nodes, where `at_end` is the environment behind the whole source

module _ (at_end : Env) where
  -- a fault in one of these nodes
  abbrev pub FaultIn : List Placed → Fault → Type 0
  FaultIn [] f = ⊥
  FaultIn (p ∷ ps) f =
      IsFault (parts at_end) (breaches at_end) (hiding at_end) mark_of p.env p.node f ⊎ FaultIn ps f

  -- a code holds at a node in one of them, hidden or not
  pub record IsBroken (ps : List Placed) : Type 0 where
    pub breach : Breach
    pub breaks : Breaks (parts at_end) (breaches at_end) (hiding at_end) mark_of ps breach

  -- these nodes are walked
  abbrev pub KeepsNodes : Kept → List Placed → Kept → Type 0
  KeepsNodes old ps new = Keeps old (FaultIn ps) (IsBroken ps) new

  -- these nodes are walked and these codes of one node kept, in any order
  abbrev pub KeepsBoth : Kept → List Placed → Mark → List Breach → Kept → Type 0
  KeepsBoth old ps mark broken new =
      Keeps old (λ f. FaultIn ps f ⊎ FaultAt mark broken f) (IsBroken ps ⊎ HasBreach broken) new
