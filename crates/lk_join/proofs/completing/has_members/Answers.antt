use Rattle.std.proofs.Common.{◌∙◌, arith, sym}
use Rattle.std.proofs.lemmas.Bool.{false≢true}
use Rattle.lk_join.proofs.Completed.{open_past}
use Rattle.lk_join.proofs.completing.has_members.Goals as goal

pub returns-then-s-count : goal.returns-then-s-count
returns-then-s-count c = ((λ is. absurd (false≢true is)), (λ closed. absurd (false≢true (sym closed ∙ open_past c.args.table.now c.args.s (omega arith)))))
