use Rattle.std.specs.Prelude.{◌≡◌, drop}
use Rattle.lk_typed.specs.DeclarationRules.{has, is_static}
use Rattle.lk_check_decl.proofs.storages.has_static.Given as goal

abbrev pub invariant-loop-word : goal.invariant-loop-word
invariant-loop-word l = has is_static (drop l.word-index l.words) ≡ has is_static l.words
