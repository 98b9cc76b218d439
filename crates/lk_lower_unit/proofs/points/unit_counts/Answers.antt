use Rattle.lk_lower_unit.proofs.PointsOf.{counted_if}
use Rattle.lk_lower_unit.proofs.points.unit_counts.Goals as goal

pub returns : goal.returns
returns c = counted_if c.args.unit.now c.no_names-names.result _ _ _ c.in_ok-steps.steps.items c.deref.result.now c.counts_of.result c.in_ok-steps.ensures.steps c.deref.ensures.value c.counts_of.ensures
