use Rattle.std.proofs.Common.{◌≡◌, Some, subst}
use Rattle.lk_types.specs.Table.{IsKnown}
use Rattle.lk_typed.specs.Meaning.{meaning}
use Rattle.lk_typed.specs.NodeParts.{result_of}
use Rattle.lk_elaborate.proofs.Defining.{round_in}
use Rattle.lk_elaborate.proofs.definitions.around_in.Goals as goal

pub returns : goal.returns
returns c =
    let table = c.table.ensures.value in
    round_in c.args.walk.now c.args.node.now c.args.t _ c.in_ok-labels.ensures (subst (λ types. IsKnown types c.in_ok-returned.returned) table c.in_ok-returned.ensures.known)
    (subst (λ types. ◌≡◌ (result_of (Some (meaning types c.args.t))) (Some (meaning types c.in_ok-returned.returned))) table c.in_ok-returned.ensures.value)
