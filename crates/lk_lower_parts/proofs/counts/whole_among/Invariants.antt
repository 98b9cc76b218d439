use Rattle.std.proofs.Common.{◌≡◌, drop}
use Rattle.std.specs.List.{find}
use Rattle.lk_lower_expr.specs.Lowering.{is_whole}
use Rattle.lk_lower_parts.proofs.counts.whole_among.Given as goal

abbrev pub invariant-loop-declaration : goal.invariant-loop-declaration
invariant-loop-declaration l = find (λ is. is_whole is.defines) (drop l.declaration-index l.list) ≡ find (λ is. is_whole is.defines) l.list
