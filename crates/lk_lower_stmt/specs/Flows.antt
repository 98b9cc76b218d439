-- The flows of statements, by what the lowering of a source reads.
use Rattle.std.specs.Prelude.{ℕ, List, [], ◌∷◌}
use Rattle.lk_base.specs.declared.cell.CellStep.{CellStep}
use Rattle.lk_base.specs.declared.spot.Spot.{Spot}
use Rattle.lk_facts.specs.declared.place.Place.{Place}
use Rattle.lk_lower_expr.specs.Names.{Names}
use Rattle.lk_lower_expr.specs.Parts.{Part, goes}
use Rattle.lk_lower_expr.specs.Reads.{names_by}
use Rattle.lk_lower_expr.specs.Statements.{Flow, branch, flow, item_flow}
use Rattle.lk_lower_expr.specs.Walk.{own, ◌then◌}
use Rattle.lk_lower_expr.specs.declared.lowering.Lowering.{Lowering}
use Rattle.lk_typed.specs.declared.statement.TypedItem.{TypedItem}
use Rattle.lk_typed.specs.declared.statement.TypedStmt.{TypedStmt}

-- the place of a cell of a local, by the steps to it
abbrev pub Places : Type 0
Places = ℕ → List CellStep → Place

abbrev pub flow_by : Lowering → Places → TypedStmt → Flow
flow_by source = flow (names_by source)

abbrev pub item_by : Lowering → Places → TypedItem → Flow
item_by source = item_flow (names_by source)

-- an `if` whose second statement begins at `other`, without that
abbrev pub then_flow : Names → (o : ℕ) → Spot → Part → Flow → (other : ℕ) → Flow
then_flow names o spot c a other = record {
  first = λ go. c.first;
  labelled = a.labelled;
  all = λ go. own o (branch spot c.value (a.first go) other ∷ []) then goes c (names.at o 0) then a.all go;
}
