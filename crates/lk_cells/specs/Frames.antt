-- What a frame keeps of its points (C99 6.2.4).
use Rattle.std.specs.Prelude.{ℕ, Option, option_and_then, nat_eq}
use Rattle.std.specs.Map.{lookup}
use Rattle.indexmap.specs.IndexMap.{insert_entry}
use Rattle.lk_cells.specs.declared.state.Frame.{Frame}
use Rattle.lk_values.specs.declared.value.Value.{Value}

-- the value that a point gave when the frame last performed it, where it gave one
abbrev pub given_by : Frame → ℕ → Option Value
given_by frame p = option_and_then (λ given. given) (lookup (nat_eq p) frame.values)

-- the frame after a point gave a value, or none
abbrev pub with_given : Frame → ℕ → Option Value → Frame
with_given frame p v = record frame { values = insert_entry nat_eq frame.values p v }
