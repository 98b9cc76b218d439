-- What roots have one object at most, as `linear` asks it root by root.
use Rattle.std.specs.Prelude.{◌≡◌, ℕ, Option, Some}
use Rattle.lk_facts.specs.Many.{IsEnteredOnce, IsLinear, IsOnce, IsOneOfKind}
use Rattle.lk_facts.specs.Program.{place_at, root_at}
use Rattle.lk_facts.specs.declared.place.Place.{Place}
use Rattle.lk_facts.specs.declared.program.Program.{Program}
use Rattle.lk_facts.specs.declared.root.Root.{Root}
use Rattle.lk_types.specs.Nodes.{IsNode}

module _ (program : Program) where
  -- the node of each place is one of the program's types
  abbrev pub ArePlaceNodes : Type 0
  ArePlaceNodes = (n : ℕ) (place : Place) → place_at program n ≡ Some place → IsNode program.types place.node

  -- the root has one object at most
  abbrev pub IsOneRoot : ℕ → Type 0
  IsOneRoot r = (root : Root) × (root_at program r ≡ Some root) × IsOneOfKind program root.kind root

  -- so where it is a local of the function
  abbrev pub IsOneLocal : Option ℕ → Type 0
  IsOneLocal function = (f : ℕ) × (function ≡ Some f) × IsEnteredOnce program f

  -- and where the point allocates it
  abbrev pub IsOneAllocated : Option ℕ → Type 0
  IsOneAllocated point = (p : ℕ) × (point ≡ Some p) × IsOnce program p

  -- x is the place, which is linear
  abbrev pub IsLinearAt : ℕ → ℕ → Type 0
  IsLinearAt place x = (place ≡ x) × IsLinear program place
