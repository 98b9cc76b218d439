-- What holds of what steps change. Each law is the contract of a public function.
use Rattle.std.specs.Prelude.{◌≡◌, ℕ, List, None, Some, slice_get}
use Rattle.lk_cells.specs.declared.state.State.{State}
use Rattle.lk_cells.specs.declared.state.Thread.{Thread}
use Rattle.lk_change.specs.Changes.{change}
use Rattle.lk_change.specs.declared.change.Change.{Change}
use Rattle.lk_decide.specs.Undefined.{cause}
use Rattle.lk_facts.specs.EdgeRules.{AreEdges}
use Rattle.lk_facts.specs.InRange.{IsInRange}
use Rattle.lk_facts.specs.LabelRules.{AreLabels}
use Rattle.lk_facts.specs.Labels.{LabelTable, AreLabelsInRange}
use Rattle.lk_facts.specs.Lowered.{IsLowered}
use Rattle.lk_facts.specs.Program.{action_at, function_at}
use Rattle.lk_facts.specs.declared.action.Action.{Action}
use Rattle.lk_facts.specs.declared.edge.Edge.{Edge}
use Rattle.lk_facts.specs.declared.program.Program.{Program}
use Rattle.lk_right.specs.Changes.{IsChangeRight}
use Rattle.lk_right.specs.Contexts.{Contexts, last_of}
use Rattle.lk_right.specs.Sound.{IsSound}
use Rattle.lk_types.specs.Building.{IsTable}

-- the labels and the edges are those of a program that was lowered
pub record IsAnalysed (program : Program) (labels : LabelTable) (es : List Edge) : Type 0 where
  pub table : IsTable program.types
  pub in_range : IsInRange program
  pub lowered : IsLowered program
  pub labelled : AreLabels program labels
  pub few_labels : AreLabelsInRange labels
  pub joined : AreEdges program labels.names es

-- The thread t of a state stands at the action, in a frame of the function f and in the context c; its
-- frames are in the contexts cs.
pub record Performs (program : Program) (contexts : Contexts) (s : State) (t : ℕ) (thread : Thread) (f : ℕ)
    (cs : List (List ℕ)) (c : List ℕ) (action : Action) : Type 0 where
  pub there : slice_get s.threads t ≡ Some thread
  pub in_contexts : slice_get contexts.frames t ≡ Some cs
  pub in_context : c ≡ last_of cs
  pub stands : function_at program thread.frame.point ≡ Some f
  pub at : action_at program thread.frame.point ≡ Some action

-- What a defined step changes is right, where what the state stores is.
abbrev pub ChangesAreRight : Type 0
ChangesAreRight =
    (program : Program) (labels : LabelTable) (es : List Edge) → IsAnalysed program labels es →
    (contexts : Contexts) (s : State) → IsSound program labels es contexts s →
    (t w f : ℕ) (thread : Thread) (cs : List (List ℕ)) (c : List ℕ) (action : Action) (made : Change) →
    Performs program contexts s t thread f cs c action →
    cause program s t thread action ≡ None → change program s t thread w action ≡ Some made →
    IsChangeRight program labels es contexts t thread f cs c made
