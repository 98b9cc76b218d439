-- Soundness of cells.
use Rattle.std.proofs.Common.{ℕ}
use Rattle.lk_cells.specs.declared.state.State.{State}
use Rattle.lk_facts.specs.declared.program.Program.{Program}
use Rattle.lk_meaning.specs.Stepping.{Tells}
use Rattle.lk_meaning.specs.declared.stepping.Stepped.{Stepped}
use Rattle.lk_right.proofs.Assembling.{changes_are_right}
use Rattle.lk_sound.proofs.Keeping.{right_changes_keep}
use Rattle.lk_sound.proofs.Reaching.{steps_keep_sound, reached_is_sound, cells_are_sound, stepped_is_sound}
use Rattle.lk_sound.proofs.Starting.{start_is_sound}
use Rattle.lk_sound.specs.Soundness.{StepsKeepSound, ReachedIsSound, CellsAreSound, IsSteppedSound}

-- each step keeps the invariant
pub steps_sound : StepsKeepSound
steps_sound = steps_keep_sound changes_are_right right_changes_keep

-- each state that is reached has it
pub reached_sound : ReachedIsSound
reached_sound = reached_is_sound start_is_sound steps_sound

-- the origin of each cell that a thread is about to touch is in All of the label of the access
pub cells_sound : CellsAreSound
cells_sound = cells_are_sound reached_sound

-- so it is with what a step tells
pub stepped_sound : (program : Program) (s : State) (t w : ℕ) (stepped : Stepped) → Tells program s t w stepped → IsSteppedSound program s stepped
stepped_sound program s t w stepped tells = stepped_is_sound cells_sound program s t w stepped tells
