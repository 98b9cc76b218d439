use Rattle.std.proofs.Common.{◌≡◌, drop, map}
use Rattle.lk_typed.specs.Env.{is_one_of}
use Rattle.lk_names.proofs.declaring.is_among.Given as goal

abbrev pub invariant-loop-word : goal.invariant-loop-word
invariant-loop-word l = is_one_of (map (λ word. word.now) l.words) l.name ≡ is_one_of (map (λ word. word.now) (drop l.word-index l.words)) l.name
