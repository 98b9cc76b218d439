use Rattle.std.proofs.Common.{◌≡◌, ◌≤◌, ◌-◌, drop, false, length, map}
use Rattle.std.specs.List.{list_any}
use Rattle.lk_types.specs.Table.{Table}
use Rattle.lk_typed.specs.Names.{declared_in}
use Rattle.lk_typed.specs.Redeclared.{gives_name}
use Rattle.lk_names.proofs.names.Names.is_given_here.Given as goal

-- none of those behind the place gives it
abbrev pub invariant-loop-place : goal.invariant-loop-place
invariant-loop-place l = (l.place ≤ length l.self-inside.declared)
    × ((table : Table) → list_any (gives_name l.name) (drop l.place (map (declared_in table) l.self-inside.declared)) ≡ false)

abbrev pub decreases-loop-place : goal.decreases-loop-place
decreases-loop-place l = l.place - l.self-inside.base
