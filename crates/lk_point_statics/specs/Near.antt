-- The pointers that points of static initialisers give where each that moves on the way stands at
-- a place that an index can name. A pointer that stood further would stand outside its array and
-- its end (C99 6.5.6, 8; 6.6, 9).
use Rattle.std.specs.Prelude.{◌≡◌, ◌<◌, ◌^◌, ℕ, ℤ, pos, neg_ℤ, Bool, true, false, List, [], ◌∷◌, ◌++◌, Some, length, ⊤}
use Rattle.lk_arith.specs.declared.operators.Op.TheVariants.{Add, Subtract}
use Rattle.lk_base.specs.declared.cell.CellStep.{CellStep}
use Rattle.lk_base.specs.declared.cell.CellStep.TheVariants.{Field as ToMember, Index as ToElement}
use Rattle.lk_facts.specs.Initials.{GivesFunction, IsMoved, IsNumber, stand}
use Rattle.lk_facts.specs.Program.{action_at, function_at}
use Rattle.lk_facts.specs.declared.action.Action.TheVariants.{Root, Text, Field, Index, Binary, Convert, Write}
use Rattle.lk_facts.specs.declared.initial.Initial.{Initial}
use Rattle.lk_facts.specs.declared.initial.InitialValue.{InitialValue}
use Rattle.lk_facts.specs.declared.initial.InitialValue.TheVariants as value
use Rattle.lk_facts.specs.declared.program.Program.{Program}

-- an index has 64 bits
abbrev pub IsIndex : ℤ → Type 0
IsIndex place = (index : ℕ) × (place ≡ pos index) × (index < 2 ^ 64)

-- a pointer moves from a place in its array that an index can name
pub record IsMovedNear (path : List CellStep) (past : Bool) (n : ℤ) (to : List CellStep)
    (after : Bool) : Type 0 where
  pub moved : IsMoved path past n to after
  pub near : (before : List CellStep) (k : ℕ) → path ≡ before ++ ToElement k ∷ [] → IsIndex (stand k past)

module _ (program : Program) where
  -- the point gives a pointer to the part of the root's object to which the steps lead, or one past it, and
  -- each that moves on the way is near
  pub data GivesNear : (p r : ℕ) → List CellStep → Bool → Type 0 where
    root : (p r : ℕ) → action_at program p ≡ Some (Root r) → GivesNear p r [] false
    text : (p r : ℕ) → action_at program p ≡ Some (Text r) → GivesNear p r [] false
    member : (p a k r : ℕ) (path : List CellStep) → action_at program p ≡ Some (Field a k) →
        GivesNear a r path false → GivesNear p r (path ++ ToMember k ∷ []) false
    element : (p a b k r : ℕ) (path : List CellStep) → action_at program p ≡ Some (Index a b true) →
        IsNumber program b (pos k) → GivesNear a r path false → GivesNear p r (path ++ ToElement k ∷ []) false
    index : (p a b r : ℕ) (n : ℤ) (path to : List CellStep) (past after : Bool) →
        action_at program p ≡ Some (Index a b false) → IsNumber program b n → GivesNear a r path past →
        IsMovedNear path past n to after → GivesNear p r to after
    plus : (p a b r : ℕ) (n : ℤ) (path to : List CellStep) (past after : Bool) →
        action_at program p ≡ Some (Binary Add a b) → IsNumber program b n → GivesNear a r path past →
        IsMovedNear path past n to after → GivesNear p r to after
    minus : (p a b r : ℕ) (n : ℤ) (path to : List CellStep) (past after : Bool) →
        action_at program p ≡ Some (Binary Subtract a b) → IsNumber program b n → GivesNear a r path past →
        IsMovedNear path past (neg_ℤ n) to after → GivesNear p r to after
    converted : (p a t r : ℕ) (path : List CellStep) (past : Bool) →
        action_at program p ≡ Some (Convert a t) → GivesNear a r path past → GivesNear p r path past

  -- a point of no function writes what the point b gives into the cell
  abbrev pub WritesNear : Initial → ℕ → Type 0
  WritesNear initial b =
      (p a : ℕ) × (function_at program p ≡ Some (length program.functions))
      × (action_at program p ≡ Some (Write a b false)) × GivesNear a initial.root initial.path false

  -- a pointer with which a cell of static storage begins is written by a point; no other value needs one
  abbrev pub IsWrittenNear : Initial → InitialValue → Type 0
  IsWrittenNear initial (value.Number n) = ⊤
  IsWrittenNear initial value.Null = ⊤
  IsWrittenNear initial (value.Function f) = (b : ℕ) × GivesFunction program b f × WritesNear initial b
  IsWrittenNear initial (value.Address r path past) = (b : ℕ) × GivesNear b r path past × WritesNear initial b
  IsWrittenNear initial value.Ready = ⊤
