-- The points of static initialisers (C99 6.6, 9; 6.7.8, 4): which pointers they
-- give, and that they write them.
use Rattle.std.specs.Prelude.{◌≡◌, ℕ, ℤ, pos, neg_ℤ, ◌+ℤ◌, Bool, true, false, List, [], ◌∷◌, ◌++◌, Some, length, ⊤}
use Rattle.lk_arith.specs.declared.operators.Op.TheVariants.{Add, Subtract}
use Rattle.lk_facts.specs.Program.{action_at, function_at}
use Rattle.lk_facts.specs.declared.action.Action.TheVariants.{Value, Func, Root, Text, Field, Index, Binary, Convert, Write}
use Rattle.lk_facts.specs.declared.initial.Initial.{Initial}
use Rattle.lk_facts.specs.declared.initial.InitialValue.{InitialValue}
use Rattle.lk_facts.specs.declared.initial.InitialValue.TheVariants as value
use Rattle.lk_facts.specs.declared.program.Program.{Program}
use Rattle.lk_base.specs.declared.cell.CellStep.{CellStep}
use Rattle.lk_base.specs.declared.cell.CellStep.TheVariants.{Field as ToMember, Index as ToElement}

-- a place in its array, counted from 0: one past a part stands one further
abbrev pub stand : ℕ → Bool → ℤ
stand k false = pos k
stand k true = pos k +ℤ pos 1

-- A pointer to a part, or one past it, moves by so many elements (C99 6.5.6, 8). An object in no
-- array counts as an array of one.
pub data IsMoved : List CellStep → Bool → ℤ → List CellStep → Bool → Type 0 where
  in_array : (path : List CellStep) (k m : ℕ) (from to : Bool) (n : ℤ) → stand k from +ℤ n ≡ stand m to →
      IsMoved (path ++ ToElement k ∷ []) from n (path ++ ToElement m ∷ []) to
  of_member : (path : List CellStep) (k : ℕ) (from to : Bool) (n : ℤ) → stand 0 from +ℤ n ≡ stand 0 to →
      IsMoved (path ++ ToMember k ∷ []) from n (path ++ ToMember k ∷ []) to
  of_object : (from to : Bool) (n : ℤ) → stand 0 from +ℤ n ≡ stand 0 to → IsMoved [] from n [] to

module _ (program : Program) where
  abbrev pub IsNumber : ℕ → ℤ → Type 0
  IsNumber p n = (t : ℕ) × (action_at program p ≡ Some (Value n t))

  -- the point gives a pointer to the part of the root's object to which the steps lead, or one past it
  pub data GivesAddress : (p r : ℕ) → List CellStep → Bool → Type 0 where
    root : (p r : ℕ) → action_at program p ≡ Some (Root r) → GivesAddress p r [] false
    text : (p r : ℕ) → action_at program p ≡ Some (Text r) → GivesAddress p r [] false
    member : (p a k r : ℕ) (path : List CellStep) → action_at program p ≡ Some (Field a k) →
        GivesAddress a r path false → GivesAddress p r (path ++ ToMember k ∷ []) false
    element : (p a b k r : ℕ) (path : List CellStep) → action_at program p ≡ Some (Index a b true) →
        IsNumber b (pos k) → GivesAddress a r path false → GivesAddress p r (path ++ ToElement k ∷ []) false
    index : (p a b r : ℕ) (n : ℤ) (path to : List CellStep) (past after : Bool) →
        action_at program p ≡ Some (Index a b false) → IsNumber b n → GivesAddress a r path past →
        IsMoved path past n to after → GivesAddress p r to after
    plus : (p a b r : ℕ) (n : ℤ) (path to : List CellStep) (past after : Bool) →
        action_at program p ≡ Some (Binary Add a b) → IsNumber b n → GivesAddress a r path past →
        IsMoved path past n to after → GivesAddress p r to after
    minus : (p a b r : ℕ) (n : ℤ) (path to : List CellStep) (past after : Bool) →
        action_at program p ≡ Some (Binary Subtract a b) → IsNumber b n → GivesAddress a r path past →
        IsMoved path past (neg_ℤ n) to after → GivesAddress p r to after
    converted : (p a t r : ℕ) (path : List CellStep) (past : Bool) →
        action_at program p ≡ Some (Convert a t) → GivesAddress a r path past → GivesAddress p r path past

  -- the point gives a pointer to the function
  pub data GivesFunction : (p f : ℕ) → Type 0 where
    function : (p f : ℕ) → action_at program p ≡ Some (Func f) → GivesFunction p f
    converted : (p a t f : ℕ) → action_at program p ≡ Some (Convert a t) →
        GivesFunction a f → GivesFunction p f

  -- a point of no function writes what the point b gives into the cell
  abbrev pub Writes : Initial → ℕ → Type 0
  Writes initial b =
      (p a : ℕ) × (function_at program p ≡ Some (length program.functions))
      × (action_at program p ≡ Some (Write a b false)) × GivesAddress a initial.root initial.path false

  -- a pointer with which a cell of static storage begins is written by a point; no other value needs one
  abbrev pub IsWritten : Initial → InitialValue → Type 0
  IsWritten initial (value.Number n) = ⊤
  IsWritten initial value.Null = ⊤
  IsWritten initial (value.Function f) = (b : ℕ) × GivesFunction b f × Writes initial b
  IsWritten initial (value.Address r path past) = (b : ℕ) × GivesAddress b r path past × Writes initial b
  IsWritten initial value.Ready = ⊤
