use Rattle.std.specs.Prelude.{◌≡◌, drop}
use Rattle.lk_typed.specs.DeclarationRules.{has, is_typedef}
use Rattle.lk_check_decl.proofs.storages.has_typedef.Given as goal

abbrev pub invariant-loop-word : goal.invariant-loop-word
invariant-loop-word l = has is_typedef (drop l.word-index l.words) ≡ has is_typedef l.words
