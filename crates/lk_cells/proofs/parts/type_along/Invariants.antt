use Rattle.std.proofs.Common.{◌≡◌, drop}
use Rattle.lk_cells.specs.Parts.{type_along}
use Rattle.lk_cells.proofs.parts.type_along.Given as goal

-- what is left of the path leads on from where the loop has come to
abbrev pub invariant-loop-step : goal.invariant-loop-step
invariant-loop-step l = type_along l.types l.own (drop l.step-index l.path) l.reached ≡ type_along l.types l.own l.path l.fn.ty
