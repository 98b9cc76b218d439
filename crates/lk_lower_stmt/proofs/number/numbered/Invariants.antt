use Rattle.std.proofs.Common.{◌≡◌, ◌++◌, length}
use Rattle.std.specs.Prelude.{reverse}
use Rattle.lk_lower_expr.specs.Initialisers.{numbered}
use Rattle.lk_lower_expr.specs.Naming.{at_of}
use Rattle.lk_lower_stmt.proofs.number.numbered.Given as goal

abbrev pub invariant-loop-deed : goal.invariant-loop-deed
invariant-loop-deed l =
    let at = at_of l.source.names.now l.local.ordinal in
    numbered at l.local.spot 0 l.initial.left.items l.on ≡ numbered at l.local.spot 0 l.left.items l.next ++ reverse l.steps.items

abbrev pub decreases-loop-deed : goal.decreases-loop-deed
decreases-loop-deed l = length l.left.items
