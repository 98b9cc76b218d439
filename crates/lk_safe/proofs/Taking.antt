-- Mutexes that are taken: who puts itself into a cell in which a mutex stands owns it.
use Rattle.std.proofs.Common.{◌≡◌, ℕ, Option, None, Some, List, refl, ap, ◌∙◌}
use Rattle.std.proofs.lemmas.Option.{none-some}
use Rattle.std.specs.List.{slice_get}
use Rattle.std.specs.Option.{option_and_then}
use Rattle.std.specs.Prelude.{unwrap_or}
use Rattle.lk_base.specs.declared.cell.CellStep.{CellStep}
use Rattle.lk_cells.specs.Cells.{found_at, put_at, with_mutex, first_mutex, kind_at, mutex_at}
use Rattle.lk_cells.specs.declared.kind.CellKind.{CellKind}
use Rattle.lk_cells.specs.declared.kind.CellKind.TheVariants as cell
use Rattle.lk_cells.specs.declared.object.Initial.{Initial}
use Rattle.lk_cells.specs.declared.object.Object.{Object}
use Rattle.lk_cells.specs.declared.state.State.{State}
use Rattle.lk_change.specs.declared.change.Effect.TheVariants as effect
use Rattle.lk_facts.specs.declared.program.Program.{Program}
use Rattle.lk_meaning.proofs.CellLemmas.{mutex_same}
use Rattle.lk_meaning.proofs.Reading.{same_changed}
use Rattle.lk_meaning.specs.After.{after_change, with_put}
use Rattle.lk_meaning.specs.Laws.{mutex_in, Owns}
use Rattle.lk_meaning.specs.declared.applying.Put.TheVariants as put
use Rattle.lk_safe.proofs.Performing.{goes_to}
use Rattle.lk_types.specs.Table.{Table}
use Rattle.lk_values.specs.declared.cell.Cell.{Cell}
use Rattle.lk_values.specs.declared.value.Mutex.{Mutex}
use Rattle.lk_values.specs.declared.value.Mutex.TheVariants as mutex
use Rattle.lk_values.specs.declared.value.Value.{Value}

module _ (table : Table) where
  -- the mutex of a cell, by what was put there, by what its object began with, and by what the cell is
  abbrev mutex_of : Option Mutex → Initial → CellKind → Option Mutex
  mutex_of found first cell.Value = None
  mutex_of found first cell.Mutex = Some (unwrap_or found (first_mutex first))
  mutex_of found first cell.Condition = None

  abbrev mutex_from : Option Mutex → Initial → Option CellKind → Option Mutex
  mutex_from found first kind = option_and_then (mutex_of found first) kind

  -- where a mutex stands, one that is put stands after it
  mutex_put : (object : Object) (path : List CellStep) (m found : Mutex) → mutex_at table object path ≡ Some found → mutex_at table (with_mutex object path m) path ≡ Some m
  mutex_put object path m found is =
      let there = by (kind_at table object path) is in
      there.1 ∙ ap (λ x. Some x) (mutex_same table object path m there.0 there.1)
    where
      by : (k : Option CellKind) → mutex_from (found_at object.mutexes path) object.initial k ≡ Some found →
          (x : Mutex) × (mutex_from (found_at (put_at object.mutexes path m) path) object.initial k ≡ Some x)
      by None h = absurd (none-some found h)
      by (Some cell.Value) h = absurd (none-some found h)
      by (Some cell.Mutex) h = (unwrap_or (found_at (put_at object.mutexes path m) path) (first_mutex object.initial), refl)
      by (Some cell.Condition) h = absurd (none-some found h)

-- after a step that puts a thread's ownership into a cell in which a mutex stood, the thread owns it
pub owned_after_put : (program : Program) (s : State) (t u : ℕ) (given : Option Value) (q : ℕ) (c : Cell) (found : Mutex) → mutex_in program s c ≡ Some found →
    Owns program (after_change program t s (goes_to given q (effect.PutMutex c (mutex.Owned u)))) u c
owned_after_put program s t u given q c found there =
    same_changed (λ x. mutex_at program.types x c.path) s.objects c.object (with_put c.path (put.Mutex (mutex.Owned u))) ∙ by (slice_get s.objects c.object) there
  where
    by : (o : Option Object) → option_and_then (λ x. mutex_at program.types x c.path) o ≡ Some found →
        option_and_then (λ x. mutex_at program.types (with_put c.path (put.Mutex (mutex.Owned u)) x) c.path) o ≡ Some (mutex.Owned u)
    by None h = absurd (none-some found h)
    by (Some x) h = mutex_put program.types x c.path (mutex.Owned u) found h
