-- What is known of labels, as far as it is found. Only the private calls of this crate speak of it.
use Rattle.std.specs.Prelude.{◌≡◌, ◌<◌, ℕ, List, [], IfSome, MatchOption, Option, Some, length, slice_get}
use Rattle.lk_facts.specs.LabelRules.{IsEntryOf, IsTargetOf}
use Rattle.lk_facts.specs.Labels.{labels_of}
use Rattle.lk_facts.specs.declared.label_entry.LabelEntry.{LabelEntry}
use Rattle.lk_facts.specs.declared.label_entry.LabelName.{LabelName}
use Rattle.lk_facts.specs.declared.program.Program.{Program}

module _ (program : Program) where
  -- an entry for each of the names
  pub record AreEntriesOf (names : List LabelName) (entries : List LabelEntry) : Type 0 where
    pub count : length entries ≡ length names
    pub each : (l : ℕ) (x : LabelName) (entry : LabelEntry) → slice_get names l ≡ Some x →
        slice_get entries l ≡ Some entry → IsEntryOf program x entry

  -- the target of the point is the label with this number, and there is none where the point has no target
  pub record IsTarget (names : List LabelName) (p : ℕ) (target : Option ℕ) : Type 0 where
    pub exact : MatchOption target ((l : ℕ) → IsTargetOf program (labels_of names [] []) p l →
        ⊥) (IsTargetOf program (labels_of names [] []) p)
    pub in_range : IfSome target (λ l. l < length names)

  -- the targets of the first n points
  pub record AreTargets (names : List LabelName) (n : ℕ) (targets : List (Option ℕ)) : Type 0 where
    pub count : length targets ≡ n
    pub each : (p : ℕ) (target : Option ℕ) → slice_get targets p ≡ Some target → IsTarget names p target
