-- The places of cells that an initialiser fills (C99 6.7.8): the points that give pointers to them.
use Rattle.std.specs.Prelude.{◌≡◌, ◌⊎◌, ℕ, suc, true, Some}
use Rattle.lk_facts.specs.LabelRules.{IsStart, Steps}
use Rattle.lk_facts.specs.Program.{action_at}
use Rattle.lk_facts.specs.Typed.{IsRootType}
use Rattle.lk_facts.specs.declared.action.Action.{Action}
use Rattle.lk_facts.specs.declared.action.Action.TheVariants.{Root, Field, Index}
use Rattle.lk_facts.specs.declared.program.Program.{Program}
use Rattle.lk_types.specs.declared.node.NodeId.{NodeId}
use Rattle.lk_types.specs.declared.node.Sel.{Sel}
use Rattle.lk_types.specs.declared.node.Sel.TheVariants.{Element, Field as ToField}

-- the action goes from the pointer that its operand gives to a member or to an element
abbrev pub IsStepFrom : Action → (a : ℕ) → Sel → Type 0
IsStepFrom action a sel =
    ((k : ℕ) × (action ≡ Field a k) × (sel ≡ ToField k))
    ⊎ ((b : ℕ) × (action ≡ Index a b true) × (sel ≡ Element))

module _ (program : Program) where
  -- the part is the object of a root
  abbrev pub IsRootStart : (r : ℕ) → NodeId → Type 0
  IsRootStart r n = (t : ℕ) × IsRootType program r t × IsStart program.types t n

  -- the point gives a pointer to this part of an object, by so many steps to members and
  -- elements from the object of a root
  pub data LeadsBy : (steps p : ℕ) → NodeId → Type 0 where
    object : (p r : ℕ) (n : NodeId) → action_at program p ≡ Some (Root r) → IsRootStart r n → LeadsBy 0 p n
    further : (steps p a : ℕ) (does : Action) (sel : Sel) (m n : NodeId) → action_at program p ≡ Some does →
        IsStepFrom does a sel → LeadsBy steps a m → Steps program.types m sel n → LeadsBy (suc steps) p n

  abbrev pub LeadsToNode : (p : ℕ) → NodeId → Type 0
  LeadsToNode p n = (steps : ℕ) × LeadsBy steps p n
