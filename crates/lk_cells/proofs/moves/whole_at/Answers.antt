use Rattle.std.proofs.Common.{arith}
use Rattle.std.proofs.lemmas.Grind.{common_steps}
use Rattle.lk_cells.proofs.PartLemmas.{whole_at-cut, whole_at-kept}
use Rattle.lk_cells.proofs.moves.whole_at.Goals as goal

pub loop-kept-preserved : goal.loop-kept-preserved
loop-kept-preserved c = grind (arith, common_steps, whole_at-cut)

pub returns : goal.returns
returns c = grind (arith, common_steps, whole_at-kept)
