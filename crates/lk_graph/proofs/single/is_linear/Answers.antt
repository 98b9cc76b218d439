use Rattle.std.proofs.Common.{subst, sym}
use Rattle.lk_types.specs.Nodes.{IsNode}
use Rattle.lk_graph.proofs.single.is_linear.Goals as goal

pub has_no_element-requires : goal.has_no_element-requires
has_no_element-requires c = subst (λ table. IsNode table c.place-place.result.node) (sym c.types.ensures) (c.requires.nodes c.args.place c.place-place.result c.place-place.ensures.value)
