-- What is known of each label, and what the readers of `Labels` read from it.
use Rattle.std.specs.Prelude.{◌≡◌, ℕ, ◌<◌, ◌≤◌, Bool, false, List, Option, length, slice_get, All, IfSome, if◌then◌else◌}
use Rattle.std.specs.Option.{option_map, option_map_or, option_and_then}
use Rattle.lk_facts.specs.Places.{AreDifferent}
use Rattle.lk_facts.specs.declared.label_entry.LabelEntry.{LabelEntry}
use Rattle.lk_facts.specs.declared.label_entry.LabelName.{LabelName}
use Rattle.lk_facts.specs.declared.root.Holder.{Holder}
use Rattle.lk_facts.specs.declared.subject.Subject.{Subject}
use Rattle.lk_facts.specs.declared.subject.Subject.TheVariants.{Label, Origin}
use Rattle.lk_types.specs.declared.node.NodeId.{NodeId}

pub record LabelTable : Type 0 where
  -- for each label the holder and the node that it names
  pub names : List LabelName
  pub entries : List LabelEntry
  -- for each point the label of what its value points to, where there is one
  pub targets : List (Option ℕ)

abbrev pub labels_of : List LabelName → List LabelEntry → List (Option ℕ) → LabelTable
labels_of names entries targets = record { names = names; entries = entries; targets = targets }

abbrev pub name_with : Holder → NodeId → LabelName
name_with holder node = record { holder = holder; node = node }

-- the number of the holder; of a root its own number
abbrev pub root_of : LabelTable → ℕ → Option ℕ
root_of labels l = option_map (λ entry. entry.root) (slice_get labels.entries l)

abbrev pub holder_of : LabelTable → ℕ → Option Holder
holder_of labels l = option_map (λ name. name.holder) (slice_get labels.names l)

abbrev pub node_of : LabelTable → ℕ → Option NodeId
node_of labels l = option_map (λ name. name.node) (slice_get labels.names l)

abbrev pub is_origin_at : LabelTable → ℕ → Bool
is_origin_at labels l = option_map_or (λ entry. entry.is_origin) (slice_get labels.entries l) false

abbrev pub is_lock_at : LabelTable → ℕ → Bool
is_lock_at labels l = option_map_or (λ entry. entry.is_lock) (slice_get labels.entries l) false

abbrev pub is_global_at : LabelTable → ℕ → Bool
is_global_at labels l = option_map_or (λ entry. entry.is_global) (slice_get labels.entries l) false

-- the label as what an item accesses
abbrev pub subject_of : LabelTable → ℕ → Subject
subject_of labels l = if is_origin_at labels l then Origin l else Label l

-- the label of what the value of a point points to
abbrev pub target_at : LabelTable → ℕ → Option ℕ
target_at labels p = option_and_then (λ target. target) (slice_get labels.targets p)

-- there are at most 65,536 labels, all of different names, and each number of a label is below theirs
pub record AreLabelsInRange (labels : LabelTable) : Type 0 where
  pub few : length labels.entries ≤ 65536
  pub named : length labels.names ≡ length labels.entries
  pub different : AreDifferent labels.names
  pub targets : All (λ target. IfSome target (λ l. l < length labels.entries)) labels.targets
