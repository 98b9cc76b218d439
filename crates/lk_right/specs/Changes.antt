-- When what a step changes is right: what it gives, puts and passes is right where it goes.
use Rattle.std.specs.Prelude.{◌≡◌, ℕ, ◌-◌, suc, true, List, Option, None, Some, length, slice_get, ⊤}
use Rattle.lk_cells.specs.declared.state.Frame.{Frame}
use Rattle.lk_cells.specs.declared.state.Thread.{Thread}
use Rattle.lk_change.specs.Calls.{caller_of}
use Rattle.lk_change.specs.declared.change.Call.{Call}
use Rattle.lk_change.specs.declared.change.Change.{Change}
use Rattle.lk_change.specs.declared.change.Change.TheVariants.{Goes, Enter, Leave, EndThread, EndProcess}
use Rattle.lk_change.specs.declared.change.Effect.{Effect}
use Rattle.lk_change.specs.declared.change.Effect.TheVariants as effect
use Rattle.lk_change.specs.declared.change.Turn.{Turn}
use Rattle.lk_change.specs.declared.change.Turn.TheVariants as turn
use Rattle.lk_facts.specs.EdgeRules.{value, slot, parameter}
use Rattle.lk_facts.specs.Labels.{LabelTable}
use Rattle.lk_facts.specs.Program.{entry_of, function_at, live_at}
use Rattle.lk_facts.specs.Typed.{IsRootType}
use Rattle.lk_facts.specs.declared.edge.Edge.{Edge}
use Rattle.lk_facts.specs.declared.program.Program.{Program}
use Rattle.lk_right.specs.Contexts.{Home, Contexts, entered_context, contexts_after}
use Rattle.lk_right.specs.Right.{IsPlaceAt, IsPointerRight, IsRight}
use Rattle.lk_right.specs.Sound.{IsCalling, accessed_at}
use Rattle.lk_values.specs.declared.cell.Cell.{Cell}
use Rattle.lk_values.specs.declared.value.Value.{Value}

module _ (program : Program) (labels : LabelTable) (es : List Edge) where
  -- the function is there, begins at this entry, and its arguments are right for
  -- its parameters in the context d
  pub record IsCallRight (homes : List Home) (call : Call) (d : List ℕ) : Type 0 where
    pub begins : entry_of program call.function ≡ Some call.entry
    pub args : (k : ℕ) (v : Value) → slice_get call.args k ≡ Some v →
        IsRight program labels es homes v (parameter program call.function (suc k)) d

  -- a value that may be given is right
  abbrev pub IsGivenRight : List Home → Option Value → ℕ → List ℕ → Type 0
  IsGivenRight homes None p c = ⊤
  IsGivenRight homes (Some v) p c = IsRight program labels es homes v (value program p) c

  -- the value is right for the cell
  pub record IsPutRight (homes : List Home) (cell : Cell) (v : Value) : Type 0 where
    pub home : Home
    pub lives_in : slice_get homes cell.object ≡ Some home
    pub right : IsRight program labels es homes v (IsPlaceAt program home.root cell.path) home.context

  -- a live point of the function
  pub record IsLiveIn (f q : ℕ) : Type 0 where
    pub stands : function_at program q ≡ Some f
    pub live : live_at program q ≡ true

  -- Of a step of a thread whose frame of the function f stands at the point p in the context c;
  -- the homes are those after it.
  module _ (homes : List Home) (p f : ℕ) (c : List ℕ) where
    abbrev pub IsTurnRight : Turn → Type 0
    IsTurnRight (turn.To q) = IsLiveIn f q
    IsTurnRight (turn.OnAt next) = (a : ℕ) → accessed_at program p ≡ Some a →
        IsPointerRight program labels es homes next (value program a) c

    abbrev pub IsEffectRight : Effect → Type 0
    IsEffectRight effect.Nothing = ⊤
    IsEffectRight (effect.PutSlot k v) = IsRight program labels es homes v (slot program f k) c
    IsEffectRight (effect.PutValue cell v) = IsPutRight homes cell v
    IsEffectRight (effect.PutMutex cell m) = ⊤
    IsEffectRight (effect.PutCondition cell m) = ⊤
    IsEffectRight (effect.Begin call) = IsCallRight homes call (entered_context program p call.function c)
    IsEffectRight (effect.Join u) = ⊤
    IsEffectRight (effect.Detach u) = ⊤
    IsEffectRight (effect.Bear birth) = (ty : ℕ) × IsRootType program birth.root ty
    IsEffectRight (effect.End o) = ⊤

  -- the frame that gets the value of a return, its function and its context
  pub record IsReturnRight (homes : List Home) (cs : List (List ℕ)) (thread : Thread) (v : Option Value)
      (q : ℕ) : Type 0 where
    pub caller : Frame
    pub calls : caller_of thread ≡ Some caller
    pub function : ℕ
    pub context : List ℕ
    pub in_context : slice_get cs (length thread.below - 1) ≡ Some context
    pub stands : function_at program caller.point ≡ Some function
    pub goes : IsLiveIn function q
    pub given : IsGivenRight homes v caller.point context

  -- What a change of the thread t does is right. The contexts are those before it, those of the frames of t
  -- are cs, and that of its own frame, of the function f, is c.
  module _ (contexts : Contexts) (t : ℕ) (thread : Thread) (f : ℕ) (cs : List (List ℕ)) (c : List ℕ) where
    abbrev homes_after : Change → List Home
    homes_after change = (contexts_after program t thread.frame.point c contexts change).homes

    abbrev pub IsChangeRight : Change → Type 0
    IsChangeRight (Goes going) =
        IsGivenRight (homes_after (Goes going)) going.gives thread.frame.point c
        × IsTurnRight (homes_after (Goes going)) thread.frame.point f c going.turn
        × IsEffectRight (homes_after (Goes going)) thread.frame.point f c going.effect
    IsChangeRight (Enter call) =
        IsCalling program thread.frame c call.function
        (entered_context program thread.frame.point call.function c)
        × IsCallRight contexts.homes call (entered_context program thread.frame.point call.function c)
    IsChangeRight (Leave v q) = IsReturnRight contexts.homes cs thread v q
    IsChangeRight EndThread = ⊤
    IsChangeRight EndProcess = ⊤
