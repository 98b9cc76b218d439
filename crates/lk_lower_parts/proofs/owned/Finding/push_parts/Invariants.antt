use Rattle.std.proofs.Common.{◌≡◌, ◌++◌, drop}
use Rattle.lk_lower_expr.specs.Owned.{of_parts}
use Rattle.lk_lower_parts.specs.Found.{all_found, form_in}
use Rattle.lk_lower_parts.proofs.owned.Finding.push_parts.Given as goal

abbrev pub invariant-loop-part : goal.invariant-loop-part
invariant-loop-part l = all_found l.initial.out.items ++ of_parts (form_in l.self) l.parts ≡ all_found l.out.items ++ of_parts (form_in l.self) (drop l.part-index l.parts)
