-- Words, one after the other.
use Rattle.std.proofs.Common.{◌≡◌, ◌∙◌, ℕ, ◌+◌, ◌<◌, ◌≤◌, List, [], ◌∷◌, Option, Some, String, Global, drop, get_or, length, map, refl, sym, ap}
use Rattle.std.specs.Prelude.{option_and_then, string_bytes}
use Rattle.lk_play.proofs.Taking.{drop_at, drop_past}
use Rattle.lk_confirm.specs.Words.{Split, next_word, walk}
use Rattle.lk_words.specs.Words.{Word}

-- a word by which the walk goes on
walks_on : (split : Split) (next : Option Split) (word : Word) (words : List Word) → next_word split word ≡ next → walk split (word ∷ words) ≡ option_and_then (λ n. walk n words) next
unfolding walk
walks_on split next word words is = ap (option_and_then (λ n. walk n words)) is

walk_ends : (split : Split) → walk split [] ≡ Some split
unfolding walk
walk_ends split = refl

-- what is left of the words from a number on
abbrev left : List (String Global) → ℕ → List Word
left words i = map string_bytes (drop i words)

module _ (words : List (String Global)) (i : ℕ) (d : String Global) (within : i < length words) where
  left_at : left words i ≡ string_bytes (get_or words i d) ∷ left words (i + 1)
  left_at = ap (map string_bytes) (drop_at words i d within)

  pub left_walk : (split : Split) (next : Option Split) (start : Option Split) → start ≡ walk split (left words i) → next ≡ next_word split (string_bytes (get_or words i d)) →
      start ≡ option_and_then (λ n. walk n (left words (i + 1))) next
  left_walk split next start is goes =
      is ∙ ap (walk split) left_at ∙ walks_on split next (string_bytes (get_or words i d)) (left words (i + 1)) (sym goes)

pub left_none : (words : List (String Global)) (i : ℕ) (split : Split) (start : Option Split) → length words ≤ i → start ≡ walk split (left words i) → start ≡ Some split
left_none words i split start past is = is ∙ ap (λ ws. walk split (map string_bytes ws)) (drop_past words i past) ∙ walk_ends split
