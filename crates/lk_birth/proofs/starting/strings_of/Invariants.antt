use Rattle.std.proofs.Common.{◌≡◌, drop, ◌++◌}
use Rattle.std.specs.Prelude.{map}
use Rattle.lk_birth.specs.Starts.{string_object}
use Rattle.lk_birth.proofs.starting.strings_of.Given as goal

abbrev pub invariant-loop-text : goal.invariant-loop-text
invariant-loop-text l = l.objects.items ++ map (string_object l.root l.ty) (map (λ text. text.items) (drop l.text-index l.strings)) ≡ map (string_object l.root l.ty) (map (λ text. text.items) l.strings)
