-- Accesses are told in an order.
use Rattle.std.specs.Cmp.{IsStrictWeakOrder, IsTotalOrder, nat_cmp_total, on_total, then_total}
use Rattle.std.proofs.lemmas.List.Sorted.{ranks_by}
use Rattle.lk_facts.specs.declared.program.Program.{Program}
use Rattle.lk_facts.specs.declared.verdict.Racing.{Racing}
use Rattle.lk_base.specs.declared.spot.Spot.{Spot}
use Rattle.lk_report.specs.Order.{access_cmp, is_told_before, spot_at, spot_cmp}

spots_are_ordered : IsTotalOrder spot_cmp
spots_are_ordered = then_total (then_total (on_total (λ (s : Spot). s.file) nat_cmp_total) (on_total (λ (s : Spot). s.line) nat_cmp_total)) (on_total (λ (s : Spot). s.col) nat_cmp_total)

pub accesses_are_ordered : (program : Program) → IsStrictWeakOrder (is_told_before program)
accesses_are_ordered program =
    ranks_by (then_total (on_total (λ (r : Racing). spot_at program r.access) spots_are_ordered) (on_total (λ (r : Racing). r.access) nat_cmp_total)) (λ (r : Racing). r)
