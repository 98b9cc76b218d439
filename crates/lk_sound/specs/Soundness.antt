-- Cell soundness: the origin of each cell that a thread is about to touch is in All of the label of the
-- access. Each law is the contract of a public function.
use Rattle.std.specs.Prelude.{◌≡◌, ℕ, true, List, [], ◌∷◌, map, Some, slice_get}
use Rattle.lk_birth.specs.Begins.{StartsRight}
use Rattle.lk_birth.specs.Starts.{started}
use Rattle.lk_cells.specs.declared.object.Object.{Object}
use Rattle.lk_cells.specs.declared.state.State.{State}
use Rattle.lk_cells.specs.declared.state.Thread.{Thread}
use Rattle.lk_change.specs.declared.change.Change.{Change}
use Rattle.lk_facts.specs.Flow.{Flow}
use Rattle.lk_facts.specs.Labels.{LabelTable, target_at}
use Rattle.lk_facts.specs.PathTables.{IsClosed}
use Rattle.lk_facts.specs.declared.action.Action.{Action}
use Rattle.lk_facts.specs.declared.edge.Edge.{Edge}
use Rattle.lk_facts.specs.declared.label_entry.LabelName.{LabelName}
use Rattle.lk_facts.specs.declared.program.Program.{Program}
use Rattle.lk_meaning.specs.After.{after_change}
use Rattle.lk_meaning.specs.Locations.{HasLocation}
use Rattle.lk_meaning.specs.Reached.{Reached}
use Rattle.lk_meaning.specs.Runs.{touch}
use Rattle.lk_meaning.specs.Steps.{Step}
use Rattle.lk_meaning.specs.declared.stepping.Event.{Event}
use Rattle.lk_meaning.specs.declared.stepping.Stepped.{Stepped}
use Rattle.lk_meaning.specs.declared.stepping.Stepped.TheVariants.{Moved, Waits, Undefined, Ended, NoSuchThread, Full, NoMemory}
use Rattle.lk_meaning.specs.declared.touching.Touched.{Touched}
use Rattle.lk_right.specs.Changes.{IsChangeRight}
use Rattle.lk_right.specs.Contexts.{Contexts, home_of, own_context, contexts_after}
use Rattle.lk_right.specs.Laws.{IsAnalysed, Performs}
use Rattle.lk_right.specs.Right.{IsPlaceAt}
use Rattle.lk_right.specs.Sound.{IsSound, accessed_at}
use Rattle.lk_values.specs.declared.cell.Cell.{Cell}

-- the contexts at the start: no site was entered
abbrev pub first_contexts : State → Contexts
first_contexts s =
    record { homes = map (λ object. home_of object.root []) s.objects; frames = map (λ thread. [] ∷ []) s.threads }

-- the invariant holds at the start of a program whose static initialisers are right
abbrev pub StartIsSound : Type 0
StartIsSound =
    (program : Program) (labels : LabelTable) (es : List Edge) → IsAnalysed program labels es →
    StartsRight program → (args : List (List ℕ)) →
    IsSound program labels es (first_contexts (started program args)) (started program args)

-- the contexts after a step
abbrev pub contexts_next : Program → Contexts → ℕ → Thread → Change → Contexts
contexts_next program contexts t thread change =
    contexts_after program t thread.frame.point (own_context contexts t) contexts change

-- a change that is right keeps it
abbrev pub RightChangesKeep : Type 0
RightChangesKeep =
    (program : Program) (labels : LabelTable) (es : List Edge) → IsAnalysed program labels es →
    (contexts : Contexts) (s : State) → IsSound program labels es contexts s →
    (t f : ℕ) (thread : Thread) (cs : List (List ℕ)) (c : List ℕ) (action : Action) (change : Change) →
    Performs program contexts s t thread f cs c action →
    IsChangeRight program labels es contexts t thread f cs c change →
    IsSound program labels es (contexts_next program contexts t thread change)
    (after_change program t s change)

-- so each step keeps it
abbrev pub StepsKeepSound : Type 0
StepsKeepSound =
    (program : Program) (labels : LabelTable) (es : List Edge) → IsAnalysed program labels es →
    (contexts : Contexts) (s s2 : State) (t w : ℕ) → IsSound program labels es contexts s →
    (step : Step program s t w s2) →
    IsSound program labels es (contexts_next program contexts t step.thread step.change) s2

-- and each state that is reached has it
abbrev pub ReachedIsSound : Type 0
ReachedIsSound =
    (program : Program) (labels : LabelTable) (es : List Edge) → IsAnalysed program labels es → (s : State) →
    Reached program s → (contexts : Contexts) × IsSound program labels es contexts s

-- the label is the origin of the cell's place
pub record HasOrigin (program : Program) (labels : LabelTable) (s : State) (cell : Cell)
    (o : ℕ) : Type 0 where
  pub object : Object
  pub there : slice_get s.objects cell.object ≡ Some object
  pub name : LabelName
  pub named : slice_get labels.names o ≡ Some name
  pub place : IsPlaceAt program object.root cell.path name

-- the access of the point p to a cell of the state is sound: the origin of the cell, which is its location
-- where it has one, is in All of the label of the access
pub record IsAccessSound (program : Program) (labels : LabelTable) (flow : Flow) (s : State) (p : ℕ)
    (cell : Cell) : Type 0 where
  pub operand : ℕ
  pub accesses : accessed_at program p ≡ Some operand
  pub label : ℕ
  pub leads : target_at labels operand ≡ Some label
  pub origin : ℕ
  pub of : HasOrigin program labels s cell origin
  pub location : (n : ℕ) → HasLocation program s cell n → origin ≡ n
  pub all : flow.all label origin ≡ true

-- Soundness of cells (LOCKSMITH: label flow). It is asked of each thread that is about to touch a cell,
-- whether its step is defined or not.
abbrev pub CellsAreSound : Type 0
CellsAreSound =
    (program : Program) (labels : LabelTable) (es : List Edge) (flow : Flow) → IsAnalysed program labels es →
    IsClosed es labels flow → (s : State) → Reached program s →
    (t : ℕ) (thread : Thread) (touched : Touched) → slice_get s.threads t ≡ Some thread →
    touch program s t ≡ Some touched → IsAccessSound program labels flow s thread.frame.point touched.cell

-- the same of what a step tells
abbrev pub IsEventSound : Program → State → Event → Type 0
IsEventSound program s event =
    (labels : LabelTable) (es : List Edge) (flow : Flow) → IsAnalysed program labels es →
    IsClosed es labels flow → Reached program s →
    (cell : Cell) → event.touched ≡ Some cell → IsAccessSound program labels flow s event.point cell

-- what `step` promises where it moved
abbrev pub IsSteppedSound : Program → State → Stepped → Type 0
IsSteppedSound program s (Moved s2 event) = IsEventSound program s event
IsSteppedSound program s (Waits s2) = s2 ≡ s
IsSteppedSound program s (Undefined s2 why) = s2 ≡ s
IsSteppedSound program s (Ended s2) = s2 ≡ s
IsSteppedSound program s (NoSuchThread s2) = s2 ≡ s
IsSteppedSound program s (Full s2) = s2 ≡ s
IsSteppedSound program s (NoMemory s2) = s2 ≡ s
