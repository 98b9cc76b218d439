-- What is made once stays made once along runs: each step keeps it, and so it is in each state that is reached.
use Rattle.std.proofs.Common.{ℕ, List, sym, subst}
use Rattle.lk_birth.specs.Begins.{StartsRight}
use Rattle.lk_birth.specs.Starts.{started}
use Rattle.lk_cells.specs.declared.state.State.{State}
use Rattle.lk_facts.specs.Basis.{Basis}
use Rattle.lk_facts.specs.declared.edge.Edge.{Edge}
use Rattle.lk_meaning.specs.Reached.{Choice, Leads, Reached}
use Rattle.lk_meaning.specs.Reached.Leads.{stays, goes}
use Rattle.lk_meaning.specs.Steps.{Step}
use Rattle.lk_right.specs.Contexts.{Contexts}
use Rattle.lk_right.specs.Sound.{IsSound}
use Rattle.lk_safe.specs.Owners.{trails_in, roots_in}
use Rattle.lk_safe.specs.Safe.{IsCounted}
use Rattle.lk_safe.specs.Steps.{IsFollowed, StepsMoveTrails}
use Rattle.lk_sound.proofs.CellSoundness.{steps_sound}
use Rattle.lk_sound.proofs.Starting.{start_is_sound}
use Rattle.lk_sound.specs.Soundness.{first_contexts, contexts_next}
use Rattle.lk_trails.specs.Counting.{AreCounted}
use Rattle.lk_trails.specs.Laws.{CountsAreKept}

-- what is made once is so at the start
abbrev pub StartIsCounted : Type 0
StartIsCounted =
    (basis : Basis) (es : List Edge) → IsFollowed basis es → StartsRight basis.program → (args : List (List ℕ)) →
    IsCounted basis (first_contexts (started basis.program args)) (started basis.program args)

-- in each state that is reached
abbrev pub ReachedIsCounted : Type 0
ReachedIsCounted =
    (basis : Basis) (es : List Edge) → IsFollowed basis es → (s : State) → Reached basis.program s →
    (contexts : Contexts) × IsSound basis.program basis.labels es contexts s × IsCounted basis contexts s

-- each step keeps it
pub counts_next : CountsAreKept → StepsMoveTrails → (basis : Basis) (es : List Edge) → IsFollowed basis es → (contexts : Contexts) (s s2 : State) (t w : ℕ) →
    IsSound basis.program basis.labels es contexts s →
    IsCounted basis contexts s → (step : Step basis.program s t w s2) → IsCounted basis (contexts_next basis.program contexts t step.thread step.change) s2
counts_next counts move basis es follows contexts s s2 t w sound (done, counted) step =
    let moved = move basis es follows contexts s s2 t w sound step in
    let later = contexts_next basis.program contexts t step.thread step.change in
    let kept = counts basis follows.analysed.in_range follows.analysed.lowered done t (trails_in contexts s) (trails_in later s2)
    (roots_in contexts) moved.more moved.act counted moved.trails moved.makes in
    (kept.0, subst (AreCounted basis.program kept.0 (trails_in later s2)) (sym moved.roots) kept.1)

pub reached_is_counted : CountsAreKept → StepsMoveTrails → StartIsCounted → ReachedIsCounted
reached_is_counted counts move begin basis es follows s reached =
    on reached.run (first_contexts (started basis.program reached.args)) (start_is_sound basis.program basis.labels es follows.analysed reached.begins reached.args)
    (begin basis es follows reached.begins reached.args)
  where
    on : {s s2 : State} {choices : List Choice} → Leads basis.program s choices s2 → (contexts : Contexts) → IsSound basis.program basis.labels es contexts s → IsCounted basis contexts s →
        (after : Contexts) × IsSound basis.program basis.labels es after s2 × IsCounted basis after s2
    on stays contexts sound counted = (contexts, sound, counted)
    on (goes {s = s} {s2 = s2} {t = t} {w = w} step rest) contexts sound counted =
        on rest (contexts_next basis.program contexts t step.thread step.change) (steps_sound basis.program basis.labels es follows.analysed contexts s s2 t w sound step)
        (counts_next counts move basis es follows contexts s s2 t w sound counted step)
