use Rattle.std.proofs.Common.{rules, ◌≡◌, ◌+◌, IfOk, subst, ap, ◌∙◌}
use Rattle.lk_lower_expr.proofs.Chosen.{print_counts}
use Rattle.lk_lower_expr.specs.Counts.{text_count}
use Rattle.lk_lower_expr.proofs.lowering.Lowering.library_count.Goals as goal

pub returns-in_ok-count-in-Print : goal.returns-in_ok-count-in-Print
returns-in_ok-count-in-Print c =
    subst (λ n. IfOk c.with_more.result (λ count. count ≡ n))
    (ap (λ n. n + 1) counted ∙ print_counts c.args.self.now.table.now c.args.self.now.names.now _ _ _ _ c.in-Print.is) c.with_more.ensures
  where
    counted : c.in_ok-count-in-Print.count ≡ text_count c.args.self.now.table.now c.in-Print.args
    counted = search rules
