use Rattle.std.proofs.Common.{◌≡◌, ◌++◌, drop}
use Rattle.std.specs.Prelude.{map}
use Rattle.lk_lower_expr.specs.Owned.{all_of}
use Rattle.lk_lower_parts.specs.Found.{all_found, form_in, item_owned}
use Rattle.lk_lower_parts.proofs.owned.Finding.+finds_in.Given as goal

abbrev pub invariant-push_items-loop-item : goal.invariant-push_items-loop-item
invariant-push_items-loop-item l =
    all_found l.initial.out.items ++ all_of (map (item_owned (form_in l.self)) l.items) ≡ all_found l.out.items ++ all_of (map (item_owned (form_in l.self)) (drop l.item-index l.items))
