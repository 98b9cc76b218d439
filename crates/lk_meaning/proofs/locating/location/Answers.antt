use Rattle.std.proofs.Common.{sym}
use Rattle.lk_meaning.proofs.Located.{none_there, no_node, at_node}
use Rattle.lk_meaning.proofs.locating.location.Goals as goal

pub returns-in_err-object : goal.returns-in_err-object
returns-in_err-object c = rw c.from_residual.ensures (none_there c.args.points.now c.args.state.now c.args.cell.now (sym c.in_err-object.ensures))

pub returns-in_err-node : goal.returns-in_err-node
returns-in_err-node c = rw c.from_residual-in_err-node.ensures
    (no_node c.args.points.now c.args.state.now c.args.cell.now c.in_ok-object.object.now (sym c.in_ok-object.ensures) c.in_err-node.ensures.exact)

pub returns : goal.returns
returns c = at_node c.args.points.now c.args.state.now c.args.cell.now c.in_ok-object.object.now c.in_ok-node.node c.place_number-found.result
    (sym c.in_ok-object.ensures) c.in_ok-node.ensures.exact c.in_ok-node.ensures.node c.place_number-found.ensures.value
