use Rattle.std.specs.Prelude.{◌≡◌, drop}
use Rattle.lk_typed.specs.DeclarationRules.{has, is_extern}
use Rattle.lk_check_decl.proofs.storages.has_extern.Given as goal

abbrev pub invariant-loop-word : goal.invariant-loop-word
invariant-loop-word l = has is_extern (drop l.word-index l.words) ≡ has is_extern l.words
