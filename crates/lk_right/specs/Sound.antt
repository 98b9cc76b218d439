-- The invariant of cell soundness: each pointer that a state stores is right, in
-- the context of what stores it.
use Rattle.std.specs.Prelude.{◌≡◌, ℕ, suc, true, List, [], ◌∷◌, length, Option, Some, slice_get, option_and_then}
use Rattle.lk_cells.specs.Cells.{value_at}
use Rattle.lk_cells.specs.Frames.{given_by}
use Rattle.lk_cells.specs.declared.object.Object.{Object}
use Rattle.lk_cells.specs.declared.state.Frame.{Frame}
use Rattle.lk_cells.specs.declared.state.Local.{Local}
use Rattle.lk_cells.specs.declared.state.State.{State}
use Rattle.lk_cells.specs.declared.state.Thread.{Thread}
use Rattle.lk_base.specs.declared.cell.CellStep.{CellStep}
use Rattle.lk_facts.specs.EdgeRules.{value, slot}
use Rattle.lk_facts.specs.Effects.{accessed}
use Rattle.lk_facts.specs.Labels.{LabelTable}
use Rattle.lk_facts.specs.Program.{action_at, effect_at, function_at, live_at, site_at, value_site_of}
use Rattle.lk_facts.specs.Typed.{IsRootType}
use Rattle.lk_facts.specs.declared.action.Action.TheVariants.{Call, PointerCall}
use Rattle.lk_facts.specs.declared.edge.Edge.{Edge}
use Rattle.lk_facts.specs.declared.program.Program.{Program}
use Rattle.lk_right.specs.Contexts.{Home, Contexts, home_of, frames_of}
use Rattle.lk_right.specs.Right.{IsPlaceAt, IsPointerRight, IsRight}
use Rattle.lk_values.specs.declared.cell.Pointer.{Pointer as PointerTo}
use Rattle.lk_values.specs.declared.value.Value.{Value}
use Rattle.lk_values.specs.declared.value.Value.TheVariants.{Function}

-- the operand through which a point accesses cells
abbrev pub accessed_at : Program → ℕ → Option ℕ
accessed_at program p = option_and_then accessed (effect_at program p)

module _ (program : Program) where
  -- The frame of a call in the context c called one of the function g, which is in the context d: through the
  -- site of the call, or through the site of the function, to which the call's operand points.
  pub data IsCalling (caller : Frame) (c : List ℕ) (g : ℕ) (d : List ℕ) : Type 0 where
    direct : (i : ℕ) (args : List ℕ) → action_at program caller.point ≡ Some (Call g args) →
        site_at program caller.point ≡ Some i → d ≡ i ∷ c → IsCalling caller c g d
    through : (a i : ℕ) (args : List ℕ) → action_at program caller.point ≡ Some (PointerCall a args) →
        given_by caller a ≡ Some (Function g) → value_site_of program g ≡ Some i → d ≡ i ∷ [] →
        IsCalling caller c g d

  -- a local of a frame in the context c is an object of its root that was made in that context
  abbrev pub IsLocalSound : List Home → List ℕ → Local → Type 0
  IsLocalSound homes c local = slice_get homes local.object ≡ Some (home_of local.root c)

  module _ (labels : LabelTable) (es : List Edge) where
    -- a frame of the function f in the context c: what its slots hold and what its points gave is right
    pub record IsFrameSound (homes : List Home) (f : ℕ) (c : List ℕ) (frame : Frame) : Type 0 where
      pub stands : function_at program frame.point ≡ Some f
      pub live : live_at program frame.point ≡ true
      pub slots : (k : ℕ) (v : Value) → slice_get frame.slots k ≡ Some v →
          IsRight program labels es homes v (slot program f k) c
      pub values : (p : ℕ) (v : Value) → given_by frame p ≡ Some v →
          IsRight program labels es homes v (value program p) c
      pub locals : (i : ℕ) (local : Local) → slice_get frame.locals i ≡ Some local →
          IsLocalSound homes c local
      -- a point that goes from cell to cell comes next to one of its operand's
      pub next : (a : ℕ) (p : PointerTo) → accessed_at program frame.point ≡ Some a →
          frame.next_cell ≡ Some p → IsPointerRight program labels es homes p (value program a) c

    -- the frame of the number j in a thread is sound
    pub record IsFrameSoundAt (homes : List Home) (cs : List (List ℕ)) (j : ℕ) (frame : Frame) : Type 0 where
      pub function : ℕ
      pub context : List ℕ
      pub in_context : slice_get cs j ≡ Some context
      pub sound : IsFrameSound homes function context frame

    -- the frames of a thread, the oldest first, each in its context, and each but the
    -- first called by the one before it
    pub record AreFramesSound (homes : List Home) (frames : List Frame) (cs : List (List ℕ)) : Type 0 where
      pub many : length cs ≡ length frames
      pub each : (j : ℕ) (frame : Frame) → slice_get frames j ≡ Some frame → IsFrameSoundAt homes cs j frame
      pub calls : (j g : ℕ) (caller callee : Frame) (c d : List ℕ) → slice_get frames j ≡ Some caller →
          slice_get frames (suc j) ≡ Some callee → slice_get cs j ≡ Some c → slice_get cs (suc j) ≡ Some d →
          function_at program callee.point ≡ Some g → IsCalling caller c g d

    -- an object is one of its home's root, and what its cells hold is right
    pub record IsObjectSound (homes : List Home) (home : Home) (object : Object) : Type 0 where
      pub root : object.root ≡ home.root
      pub typed : IsRootType program object.root object.ty
      pub cells : (path : List CellStep) (v : Value) → value_at program.types object path ≡ Some v →
          IsRight program labels es homes v (IsPlaceAt program home.root path) home.context

    pub record IsSound (contexts : Contexts) (s : State) : Type 0 where
      pub objects_many : length contexts.homes ≡ length s.objects
      pub objects : (o : ℕ) (object : Object) (home : Home) → slice_get s.objects o ≡ Some object →
          slice_get contexts.homes o ≡ Some home → IsObjectSound contexts.homes home object
      pub threads_many : length contexts.frames ≡ length s.threads
      pub threads : (t : ℕ) (thread : Thread) (cs : List (List ℕ)) → slice_get s.threads t ≡ Some thread →
          slice_get contexts.frames t ≡ Some cs → AreFramesSound contexts.homes (frames_of thread) cs
