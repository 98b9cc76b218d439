-- What is known of a program, as it is handed on, and what the rules rest on there.
use Rattle.std.specs.Prelude.{◌≡◌, ◌↔◌, ℕ, ◌<◌, ◌≤◌, true, length, Some}
use Rattle.lk_facts.specs.Basis.{Basis}
use Rattle.lk_facts.specs.Labels.{LabelTable, root_of, is_origin_at, is_lock_at}
use Rattle.lk_facts.specs.Origins.{OriginTable, flow_of}
use Rattle.lk_facts.specs.Program.{IsLockPlace}
use Rattle.lk_facts.specs.declared.program.Program.{Program}

pub record FactTable : Type 0 where
  pub program : Program
  pub labels : LabelTable
  pub origins : OriginTable

abbrev pub facts_of : Program → LabelTable → OriginTable → FactTable
facts_of program labels origins = record { program = program; labels = labels; origins = origins }

abbrev pub basis_of : FactTable → Basis
basis_of facts = record { program = facts.program; labels = facts.labels; flow = flow_of facts.origins }

-- the label is an origin and a lock
abbrev pub IsLockOrigin : LabelTable → ℕ → Type 0
IsLockOrigin labels x = (is_origin_at labels x ≡ true) × (is_lock_at labels x ≡ true)

-- the label is an origin and a lock exactly where it is that of a lock place, and its root
-- is there where it is an origin
pub record IsLabelOf (program : Program) (labels : LabelTable) (x : ℕ) : Type 0 where
  pub lock : IsLockOrigin labels x ↔ IsLockPlace program x
  pub root : (r : ℕ) → is_origin_at labels x ≡ true → root_of labels x ≡ Some r → r < length program.roots

-- The three speak of the same labels and points. An origin and a lock is exactly the label of a lock place,
-- and the root of an origin is there.
pub record AreFacts (facts : FactTable) : Type 0 where
  pub targets : length facts.labels.targets ≡ length facts.program.points
  pub origins : facts.origins.all.size ≡ length facts.labels.entries
  pub places : length facts.program.places ≤ length facts.labels.entries
  pub locks : (x : ℕ) → IsLockOrigin facts.labels x ↔ IsLockPlace facts.program x
  pub roots : (x r : ℕ) → is_origin_at facts.labels x ≡ true → root_of facts.labels x ≡ Some r →
      r < length facts.program.roots
