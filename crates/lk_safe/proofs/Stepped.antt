-- The thread of a step that moved owned what the lock sets have at its point.
use Rattle.std.proofs.Common.{◌≡◌, ℕ, Some, sym, subst}
use Rattle.lk_cells.specs.declared.state.State.{State}
use Rattle.lk_cells.specs.declared.state.Thread.{Thread}
use Rattle.lk_facts.specs.declared.program.Program.{Program}
use Rattle.lk_meaning.specs.Reached.{Reached}
use Rattle.lk_meaning.specs.Stepping.{Tells, event_of}
use Rattle.lk_meaning.specs.declared.stepping.Stepped.{Stepped}
use Rattle.lk_meaning.specs.declared.stepping.Stepped.TheVariants.{Moved, Waits, Undefined, Ended, NoSuchThread, Full, NoMemory}
use Rattle.lk_safe.specs.Soundness.{IsEventHeld, IsNoRetake, IsSteppedHeld, LocksAreHeld}
use Rattle.lk_safe.proofs.All.{locks_held}
use Rattle.std.specs.Prelude.{slice_get}

event_held : LocksAreHeld → (program : Program) (s : State) (t : ℕ) (thread : Thread) → slice_get s.threads t ≡ Some thread → IsEventHeld program s (event_of program s t thread)
event_held law program s t thread there basis es same followed held closed reached no_retake x at =
    law basis es followed held closed s (subst (λ q. Reached q s) (sym same) reached) t thread there (subst (λ q. IsNoRetake q thread.frame.point) (sym same) no_retake) x at

pub stepped_held : (program : Program) (s : State) (t w : ℕ) (stepped : Stepped) → Tells program s t w stepped → IsSteppedHeld program s stepped
stepped_held program s t w (Moved s2 event) tells = subst (IsEventHeld program s) (sym tells.tells) (event_held locks_held program s t tells.step.thread tells.step.may.there)
stepped_held program s t w (Waits s2) tells = tells.1
stepped_held program s t w (Undefined s2 why) tells = tells.1
stepped_held program s t w (Ended s2) tells = tells.1
stepped_held program s t w (NoSuchThread s2) tells = tells.1
stepped_held program s t w (Full s2) tells = tells.1
stepped_held program s t w (NoMemory s2) tells = tells
