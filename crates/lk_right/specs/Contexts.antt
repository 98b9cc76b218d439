-- Contexts: which sites were entered, and not yet left, on the way to a frame, the last one first; and
-- how a step changes them. An object has the context of the frame that made it (LOCKSMITH: label flow,
-- with call and return matched).
use Rattle.std.specs.Prelude.{ℕ, ◌-◌, List, [], ◌∷◌, ◌++◌, map, take, length, slice_get, unwrap_or}
use Rattle.std.specs.Option.{option_map_or}
use Rattle.lk_birth.specs.Births.{changed_at, listed, locals_of}
use Rattle.lk_cells.specs.declared.state.Frame.{Frame}
use Rattle.lk_cells.specs.declared.state.Thread.{Thread}
use Rattle.lk_change.specs.declared.change.Call.{Call}
use Rattle.lk_change.specs.declared.change.Change.{Change}
use Rattle.lk_change.specs.declared.change.Change.TheVariants.{Goes, Enter, Leave, EndThread, EndProcess}
use Rattle.lk_change.specs.declared.change.Effect.{Effect as Changed}
use Rattle.lk_change.specs.declared.change.Effect.TheVariants as effect
use Rattle.lk_facts.specs.Program.{effect_at, site_at, value_site_of}
use Rattle.lk_facts.specs.declared.effect.Effect.{Effect}
use Rattle.lk_facts.specs.declared.effect.Effect.TheVariants.{Nothing, Reads, Writes, Takes, Frees, Runs, RunsThrough, Starts}
use Rattle.lk_facts.specs.declared.program.Program.{Program}

-- where an object is at home: its root, and the context of the frame that made it
pub record Home : Type 0 where
  pub root : ℕ
  pub context : List ℕ

abbrev pub home_of : ℕ → List ℕ → Home
home_of r c = record { root = r; context = c }

-- The contexts of a state: of its objects by their numbers, and of each thread those of
-- its frames, the oldest first.
pub record Contexts : Type 0 where
  pub homes : List Home
  pub frames : List (List (List ℕ))

-- the frames of a thread, the oldest first
abbrev pub frames_of : Thread → List Frame
frames_of thread = thread.below ++ thread.frame ∷ []

-- the context of the frame in which a thread is
abbrev pub last_of : List (List ℕ) → List ℕ
last_of cs = unwrap_or (slice_get cs (length cs - 1)) []

abbrev pub own_context : Contexts → ℕ → List ℕ
own_context contexts t = option_map_or last_of (slice_get contexts.frames t) []

module _ (program : Program) where
  -- The context of a frame of the function g that is entered from a frame in the context c, by what the point
  -- is to the analysis: the site of the call or creation is entered; a call through a pointer goes through
  -- the site of the function, wherever it is.
  abbrev pub entered_from : (p g : ℕ) → List ℕ → Effect → List ℕ
  entered_from p g c (Runs f) = listed (site_at program p) ++ c
  entered_from p g c (Starts f) = listed (site_at program p) ++ c
  entered_from p g c (RunsThrough a) = listed (value_site_of program g)
  entered_from p g c Nothing = c
  entered_from p g c (Reads a) = c
  entered_from p g c (Writes a) = c
  entered_from p g c (Takes a) = c
  entered_from p g c (Frees a) = c

  abbrev pub entered_context : (p g : ℕ) → List ℕ → List ℕ
  entered_context p g c = option_map_or (entered_from p g c) (effect_at program p) c

  -- the homes of the objects that a frame of the function g begins with
  abbrev pub homes_in : (g : ℕ) → List ℕ → List Home
  homes_in g c = map (λ r. home_of r c) (locals_of program g)

  -- What a step of the thread t, whose frame stands at the point p in the context c, makes of the contexts.
  module _ (t p : ℕ) (c : List ℕ) where
    abbrev entered_by : Call → List ℕ
    entered_by call = entered_context p call.function c

    abbrev pub begun : Contexts → Call → Contexts
    begun contexts call = record {
      homes = contexts.homes ++ homes_in call.function (entered_by call);
      frames = contexts.frames ++ (entered_by call ∷ []) ∷ [];
    }

    abbrev pub called : Contexts → Call → Contexts
    called contexts call = record {
      homes = contexts.homes ++ homes_in call.function (entered_by call);
      frames = changed_at contexts.frames t (λ cs. cs ++ entered_by call ∷ []);
    }

    abbrev pub after_effect : Contexts → Changed → Contexts
    after_effect contexts effect.Nothing = contexts
    after_effect contexts (effect.PutSlot slot v) = contexts
    after_effect contexts (effect.PutValue cell v) = contexts
    after_effect contexts (effect.PutMutex cell m) = contexts
    after_effect contexts (effect.PutCondition cell m) = contexts
    after_effect contexts (effect.Begin call) = begun contexts call
    after_effect contexts (effect.Join u) = contexts
    after_effect contexts (effect.Detach u) = contexts
    after_effect contexts (effect.Bear birth) =
        record { homes = contexts.homes ++ home_of birth.root c ∷ []; frames = contexts.frames }
    after_effect contexts (effect.End o) = contexts

    abbrev pub contexts_after : Contexts → Change → Contexts
    contexts_after contexts (Goes going) = after_effect contexts going.effect
    contexts_after contexts (Enter call) = called contexts call
    contexts_after contexts (Leave v q) =
        record { homes = contexts.homes; frames = changed_at contexts.frames t (λ cs. take (length cs - 1) cs) }
    contexts_after contexts EndThread = contexts
    contexts_after contexts EndProcess = contexts
