use Rattle.std.proofs.Common.{◌≡◌, drop}
use Rattle.lk_typed.specs.Env.{or_else}
use Rattle.lk_check_expr.specs.Fields.{type_named}
use Rattle.lk_check_expr.proofs.fields.type_named.Given as goal

-- the latest of the members that are left, or else the one that was found
abbrev pub invariant-loop-field : goal.invariant-loop-field
invariant-loop-field l = or_else (type_named (drop l.field-index l.fields) l.name) l.found ≡ type_named l.fields l.name
