use Rattle.std.proofs.Common.{subst, sym}
use Rattle.lk_facts.specs.Facts.{FactTable}
use Rattle.lk_graph.specs.Single.{ArePlaceNodes}
use Rattle.lk_solve.proofs.points.verdicts_by.Goals as goal

pub solve-requires : goal.solve-requires
solve-requires c = subst (λ (f : FactTable). ArePlaceNodes f.program) (sym c.new-facts.ensures) c.requires
