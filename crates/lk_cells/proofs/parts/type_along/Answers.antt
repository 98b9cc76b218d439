use Rattle.std.proofs.Common.{arith}
use Rattle.std.proofs.lemmas.Grind.{common_steps}
use Rattle.lk_cells.proofs.PartLemmas.{type_along-stops}
use Rattle.lk_cells.proofs.parts.type_along.Goals as goal

pub returns-in-None : goal.returns-in-None
returns-in-None c = let given = c.part_at.ensures in let gone = c.in-None.is in grind (arith, common_steps, type_along-stops)
