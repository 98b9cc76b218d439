-- The trails of a state's threads, and the mutexes that these own.
use Rattle.std.specs.Prelude.{◌≡◌, ◌⊎◌, ℕ, false, List, [], ◌∷◌, map, Some, slice_get}
use Rattle.lk_cells.specs.Operands.{operand}
use Rattle.lk_cells.specs.declared.state.Frame.{Frame}
use Rattle.lk_cells.specs.declared.state.State.{State}
use Rattle.lk_cells.specs.declared.state.Thread.{Thread}
use Rattle.lk_facts.specs.Basis.{Basis}
use Rattle.lk_facts.specs.declared.action.Action.TheVariants.{Retake}
use Rattle.lk_facts.specs.declared.label_entry.LabelName.{LabelName}
use Rattle.lk_meaning.specs.Laws.{Owns, StandsAt}
use Rattle.lk_right.specs.Contexts.{Home, Contexts, last_of}
use Rattle.lk_right.specs.Right.{IsPlaceAt}
use Rattle.lk_trails.specs.Trails.{Left, Trail, left_at, stay, trail}
use Rattle.lk_values.specs.declared.cell.Cell.{Cell}
use Rattle.lk_values.specs.declared.cell.Pointer.{Pointer as PointerTo}
use Rattle.lk_values.specs.declared.value.Value.TheVariants.{Pointer}

-- the frames of a thread that called the next one, each in its context; and the trail of its own frames
abbrev pub lefts : List Frame → List (List ℕ) → List Left
lefts [] cs = []
lefts (frame ∷ frames) [] = []
lefts (frame ∷ frames) (c ∷ cs) = left_at (stay frame.point c) false ∷ lefts frames cs

abbrev pub own_trail : Thread → List (List ℕ) → Trail
own_trail thread cs = trail (lefts thread.below cs) (stay thread.frame.point (last_of cs))

-- of all threads, in their order
abbrev pub trails_of : List Thread → List (List (List ℕ)) → List Trail
trails_of [] frames = []
trails_of (thread ∷ threads) [] = []
trails_of (thread ∷ threads) (cs ∷ frames) = own_trail thread cs ∷ trails_of threads frames

abbrev pub trails_in : Contexts → State → List Trail
trails_in contexts s = trails_of s.threads contexts.frames

-- the root of each object
abbrev pub roots_in : Contexts → List ℕ
roots_in contexts = map (λ home. home.root) contexts.homes

-- the thread gave the mutex in the cell back, and takes it again before it goes on (POSIX pthread_cond_wait)
pub record WaitsFor (basis : Basis) (s : State) (t : ℕ) (cell : Cell) : Type 0 where
  pub thread : Thread
  pub operand_ : ℕ
  pub stands : StandsAt basis.program s t thread (Retake operand_)
  pub at : PointerTo
  pub points : operand thread operand_ ≡ Some (Pointer at)
  pub to : at.part ≡ cell

-- the label o is the place of the cell, whose object is at home in the context h
pub record IsAt (basis : Basis) (homes : List Home) (cell : Cell) (o : ℕ) (h : List ℕ) : Type 0 where
  pub home : Home
  pub lives_in : slice_get homes cell.object ≡ Some home
  pub context : home.context ≡ h
  pub name : LabelName
  pub named : slice_get basis.labels.names o ≡ Some name
  pub place : IsPlaceAt basis.program home.root cell.path name

-- the thread owns a mutex at the place, or waits for it
pub record HasMutex (basis : Basis) (homes : List Home) (s : State) (t o : ℕ) (h : List ℕ) : Type 0 where
  pub cell : Cell
  pub has : Owns basis.program s t cell ⊎ WaitsFor basis s t cell
  pub at : IsAt basis homes cell o h

abbrev pub owned_by : Basis → Contexts → State → ℕ → ℕ → List ℕ → Type 0
owned_by basis contexts s t o h = HasMutex basis contexts.homes s t o h
