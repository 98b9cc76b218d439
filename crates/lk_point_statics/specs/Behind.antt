-- The operands to which the pointer that a point of a static initialiser gives leads back (C99 6.6, 9).
use Rattle.std.specs.Prelude.{◌≡◌, ℕ, suc, Bool, Some}
use Rattle.lk_arith.specs.declared.operators.Op.{Op}
use Rattle.lk_facts.specs.Program.{action_at}
use Rattle.lk_facts.specs.declared.action.Action.TheVariants.{Field, Index, Binary, Convert}
use Rattle.lk_facts.specs.declared.program.Program.{Program}

module _ (program : Program) where
  -- the operand that gives the pointer from which that of the point is made
  pub data IsBehind : (p a : ℕ) → Type 0 where
    member : (p a k : ℕ) → action_at program p ≡ Some (Field a k) → IsBehind p a
    index : (p a b : ℕ) (into : Bool) → action_at program p ≡ Some (Index a b into) → IsBehind p a
    sum : (p a b : ℕ) (op : Op) → action_at program p ≡ Some (Binary op a b) → IsBehind p a
    converted : (p a t : ℕ) → action_at program p ≡ Some (Convert a t) → IsBehind p a

  -- so many operands lead back from one point to another
  pub data LeadsBack : (steps p q : ℕ) → Type 0 where
    here : (p : ℕ) → LeadsBack 0 p p
    there : (steps p a q : ℕ) → IsBehind p a → LeadsBack steps a q → LeadsBack (suc steps) p q
