use Rattle.std.proofs.Common.{◌∙◌, arith}
use Rattle.lk_graph.specs.Again.{IsValueAt}
use Rattle.lk_graph.proofs.AgainLemmas.{values_all}
use Rattle.lk_graph.proofs.FoundLemmas.{below_more, below_none}
use Rattle.lk_graph.proofs.again.values.Goals as goal

pub loop-function-init : goal.loop-function-init
loop-function-init c = record { size = c.in_ok-values.ensures.size ∙ c.functions.ensures; below = below_none (IsValueAt c.args.points.now) c.in_ok-values.values.list c.in_ok-values.ensures.none }

pub loop-function-preserved : goal.loop-function-preserved
loop-function-preserved c = record {
  size = c.in_ok-put_value.ensures.size ∙ c.loop-function.invariant.size;
  below = below_more (IsValueAt c.args.points.now) c.loop-function.function c.loop-function.values.list c.put_value.new.values.list c.in_ok-put_value.ensures.adds c.loop-function.invariant.below;
}

pub returns-clause-members : goal.returns-clause-members
returns-clause-members c = values_all c.args.points.now c.loop-function.function c.loop-function.values.list (omega (arith, c.loop-function-test.false, c.functions-function-end.ensures)) c.loop-function.invariant.below
