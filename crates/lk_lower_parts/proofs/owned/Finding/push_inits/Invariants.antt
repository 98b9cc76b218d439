use Rattle.std.proofs.Common.{◌≡◌, ◌++◌, drop}
use Rattle.lk_lower_expr.specs.Owned.{of_inits}
use Rattle.lk_lower_parts.specs.Found.{all_found, form_in}
use Rattle.lk_lower_parts.proofs.owned.Finding.push_inits.Given as goal

abbrev pub invariant-loop-init : goal.invariant-loop-init
invariant-loop-init l = all_found l.initial.out.items ++ of_inits (form_in l.self) l.inits ≡ all_found l.out.items ++ of_inits (form_in l.self) (drop l.init-index l.inits)
