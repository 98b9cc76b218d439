use Rattle.std.proofs.Common.{◌≡◌, drop}
use Rattle.lk_lower_expr.specs.Cells.{member_at}
use Rattle.lk_lower_expr.proofs.cells.member.Given as goal

abbrev pub invariant-loop-member : goal.invariant-loop-member
invariant-loop-member l = member_at l.types l.of l.number (drop l.member-index l.members) l.left ≡ member_at l.types l.of l.first l.members l.k
