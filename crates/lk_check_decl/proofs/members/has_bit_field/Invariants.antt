use Rattle.std.specs.Prelude.{◌≡◌, drop}
use Rattle.lk_typed.specs.HolderRules.{has_bit_field}
use Rattle.lk_check_decl.proofs.members.has_bit_field.Given as goal

abbrev pub invariant-loop-declarator : goal.invariant-loop-declarator
invariant-loop-declarator l = has_bit_field (drop l.declarator-index l.declarators) ≡ has_bit_field l.declarators
