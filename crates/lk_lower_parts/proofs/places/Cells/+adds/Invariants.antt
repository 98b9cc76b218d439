use Rattle.std.proofs.Common.{◌+◌, ◌*◌}
use Rattle.lk_lower_parts.specs.Within.{AddsCells, IsInMembers, steps_below}
use Rattle.lk_lower_parts.proofs.places.Cells.+adds.Given as goal

abbrev pub invariant-push_members-loop-k : goal.invariant-push_members-loop-k
invariant-push_members-loop-k l = AddsCells l.types (IsInMembers l.types l.part l.k) l.initial.self l.self

abbrev pub decreases-push : goal.decreases-push
decreases-push l = 3 * steps_below l.types.now l.part.now.node + 2

abbrev pub decreases-push_members : goal.decreases-push_members
decreases-push_members l = 3 * steps_below l.types.now l.part.now.node + 1

abbrev pub decreases-push_inner : goal.decreases-push_inner
decreases-push_inner l = 3 * steps_below l.types.now l.part.now.node
