-- Mutexes that are given back: what an Unlock gives back, its point frees.
use Rattle.std.proofs.Common.{◌≡◌, ℕ, true, List, Some, refl, subst}
use Rattle.lk_cells.specs.Operands.{operand}
use Rattle.lk_cells.specs.Places as places
use Rattle.lk_cells.specs.declared.state.State.{State}
use Rattle.lk_cells.specs.declared.state.Thread.{Thread}
use Rattle.lk_change.specs.declared.change.Change.{Change}
use Rattle.lk_facts.specs.Basis.{Basis}
use Rattle.lk_facts.specs.Doing.{Frees}
use Rattle.lk_facts.specs.Labels.{is_origin_at}
use Rattle.lk_facts.specs.Program.{action_at}
use Rattle.lk_facts.specs.declared.action.Action.{Action}
use Rattle.lk_facts.specs.declared.action.Action.TheVariants as does
use Rattle.lk_facts.specs.declared.edge.Edge.{Edge}
use Rattle.lk_facts.specs.declared.program.Program.{Program}
use Rattle.lk_right.proofs.Accessing.{part_leads}
use Rattle.lk_right.proofs.Callers.{effect_is}
use Rattle.lk_right.proofs.Doing.{Acts, frame_sound}
use Rattle.lk_right.specs.Contexts.{Contexts}
use Rattle.lk_safe.proofs.Meant.{PointsAt, means_place, operand_means}
use Rattle.lk_safe.specs.Owners.{IsAt}
use Rattle.lk_trails.specs.Named.{Means}
use Rattle.lk_types.specs.declared.c_type.CType.TheVariants.{Mutex}
use Rattle.lk_values.specs.declared.cell.Cell.{Cell}

-- the point frees a mutex whose label means the place, an origin
abbrev pub FreesAt : Basis → List Edge → ℕ → List ℕ → ℕ → List ℕ → Type 0
FreesAt basis es p c o h = (f y : ℕ) × Frees basis p f y × (is_origin_at basis.labels o ≡ true) × Means basis.labels es o h y c

module _ (basis : Basis) (es : List Edge) (contexts : Contexts) (s : State) (t w f : ℕ) (thread : Thread) (cs : List (List ℕ)) (c : List ℕ) (action : Action) (made : Change)
    (acts : Acts basis.program basis.labels es contexts s t w f thread cs c action made) where
  abbrev program : Program
  program = basis.program

  abbrev p : ℕ
  p = thread.frame.point

  pub unlocked : (a : ℕ) (cell : Cell) (o : ℕ) (h : List ℕ) → action_at program p ≡ Some (does.Unlock a) → places.part_of s (operand thread a) ≡ Some cell →
      IsAt basis contexts.homes cell o h → FreesAt basis es p c o h
  unlocked a cell o h at leads is_at =
      let pointer = part_leads s (operand thread a) cell leads in
      let typed = acts.ok.lowered.typed p f (does.Unlock a) at acts.performs.stands in
      let points : PointsAt basis es contexts.homes cell a c =
      subst (λ d. PointsAt basis es contexts.homes d a c) pointer.to (operand_means basis es contexts s t w f thread cs c action made acts a pointer.pointer Mutex pointer.points typed.0 refl) in
      let own = frame_sound program basis.labels es contexts s t w f thread cs c action made acts in
      let means = means_place basis es acts.ok contexts.homes cell a o c h points is_at in
      (f, points.label, Frees.frees a (record { live = own.live; of = acts.performs.stands; is = effect_is program p (does.Unlock a) at }) points.leads, means.0, means.1)
