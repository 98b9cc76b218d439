-- Edges of rows that are put one after the other. Only the private calls of this crate speak of it.
use Rattle.std.specs.Prelude.{◌≡◌, ◌<◌, ℕ, suc, Bool, true, false, List, Some, slice_get}
use Rattle.lk_facts.specs.EdgeRules.{In, Sub, parameter, place, value}
use Rattle.lk_facts.specs.declared.edge.Mark.{Mark}
use Rattle.lk_facts.specs.declared.edge.Mark.TheVariants.{Enter}
use Rattle.lk_facts.specs.declared.label_entry.LabelName.{LabelName}
use Rattle.lk_facts.specs.declared.program.Program.{Program}
use Rattle.lk_types.specs.declared.node.Sel.TheVariants.{Element}

module _ (program : Program) where
  -- the first n arguments of a call or creation of f at the site i
  abbrev pub PassesTo : (i f : ℕ) → List ℕ → ℕ → LabelName → LabelName → Mark → Type 0
  PassesTo i f args n u v m =
      (k : ℕ) × (a : ℕ) × (k < n) × (slice_get args k ≡ Some a)
      × Sub program (Enter i) (value program a) (parameter program f (suc k)) u v m

  -- all arguments
  abbrev pub PassesAll : (i f : ℕ) → List ℕ → LabelName → LabelName → Mark → Type 0
  PassesAll i f args u v m =
      (k : ℕ) × (a : ℕ) × (slice_get args k ≡ Some a)
      × Sub program (Enter i) (value program a) (parameter program f (suc k)) u v m

  -- what an allocation makes: the object of its root, or an element of it
  abbrev pub object_of : ℕ → Bool → LabelName → Type 0
  object_of r false = place program r
  object_of r true = In program (place program r) Element
