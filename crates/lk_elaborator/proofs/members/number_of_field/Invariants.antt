use Rattle.std.proofs.Common.{◌≡◌, ◌+◌, drop, map}
use Rattle.lk_elaborator.specs.Fields.{number_of_name}
use Rattle.lk_elaborator.proofs.members.number_of_field.Given as goal

abbrev pub invariant-loop-field : goal.invariant-loop-field
invariant-loop-field l =
    l.number + number_of_name (map (λ field. field.name) (drop l.field-index l.fields)) l.name ≡ number_of_name (map (λ field. field.name) l.fields) l.name
