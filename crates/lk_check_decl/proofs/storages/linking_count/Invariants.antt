use Rattle.std.specs.Prelude.{◌≡◌, ◌≤◌, ◌+◌, drop}
use Rattle.lk_typed.specs.DeclarationRules.{count_of, is_linking}
use Rattle.lk_check_decl.proofs.storages.linking_count.Given as goal

-- the words so far and those that are left are all of them
abbrev pub invariant-loop-word : goal.invariant-loop-word
invariant-loop-word l = record {
  few : l.count ≤ l.word-index;
  told : l.count + count_of is_linking (drop l.word-index l.words) ≡ count_of is_linking l.words;
}
