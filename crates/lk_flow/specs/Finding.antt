-- Labels that are found. Only the private calls of this crate speak of it.
use Rattle.std.specs.Prelude.{◌≡◌, ℕ, true, List, Option, None, Some, MatchOption, slice_get}
use Rattle.lk_facts.specs.LabelRules.{IsLabel, IsPart, Steps, form_of, leads_to_place}
use Rattle.lk_facts.specs.Labels.{name_with}
use Rattle.lk_facts.specs.Places.{IsNumberOf}
use Rattle.lk_facts.specs.declared.label_entry.LabelName.{LabelName}
use Rattle.lk_facts.specs.declared.program.Program.{Program}
use Rattle.lk_facts.specs.declared.root.Holder.{Holder}
use Rattle.lk_types.specs.Nodes.{node_of, step}
use Rattle.lk_types.specs.Table.{Table}
use Rattle.lk_types.specs.declared.node.NodeId.{NodeId}
use Rattle.lk_types.specs.declared.node.Sel.{Sel}
use Rattle.lk_types.specs.declared.node.Sel.TheVariants.{Target}

module _ (names : List LabelName) where
  -- the label is the only value or place of which this holds
  pub record IsOnly (X : LabelName → Type 0) (l : ℕ) : Type 0 where
    pub name : LabelName
    pub at : slice_get names l ≡ Some name
    pub is : X name
    pub only : (x : LabelName) → X x → x ≡ name

  -- the label of the only value or place of which this holds, or nothing where there is none
  abbrev pub Finds : (LabelName → Type 0) → Option ℕ → Type 0
  Finds X found = MatchOption found ((x : LabelName) → X x → ⊥) (IsOnly X)

  -- the same of what belongs to a label that was found
  abbrev pub FindsFrom : (LabelName → LabelName → Type 0) → Option ℕ → Option ℕ → Type 0
  FindsFrom S from found =
      MatchOption from (found ≡ None) (λ l. (x : LabelName) → slice_get names l ≡ Some x → Finds (S x) found)

-- the part of a label to which a step leads, where it is a place or a function
abbrev pub FindsPart : Program → List LabelName → LabelName → Sel → Option ℕ → Type 0
FindsPart program names x sel found =
    IsLabel program x → leads_to_place (form_of program.types x.node) sel ≡ true →
    Finds names (IsPart program x sel) found

-- the label of the node that a node of a holder points to: nothing where it points to none
pub data FindsTarget (table : Table) (names : List LabelName) (h : Holder) (n : NodeId) : Option ℕ →
    Type 0 where
  nowhere : None ≡ step table (node_of table n) Target → FindsTarget table names h n None
  somewhere : (m : NodeId) (found : Option ℕ) → Steps table n Target m →
      IsNumberOf names (name_with h m) found → FindsTarget table names h n found
