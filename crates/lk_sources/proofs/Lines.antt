-- The lines of a text, one after another.
use Rattle.std.proofs.Common.{◌≡◌, ◌∙◌, ℕ, suc, ◌+◌, ◌-◌, ◌<◌, ◌≤◌, ◌==◌, Bool, true, false, not, cond, ◌||◌, if◌then◌else◌, List, [], ◌∷◌, ◌++◌, length, take, drop, refl, sym, ap, arith}
use Rattle.std.proofs.lemmas.Bool.{eqb-true}
use Rattle.std.proofs.lemmas.List.{append_assoc}
use Rattle.lk_lex.specs.Ascii.{new_line}
use Rattle.lk_lex.specs.Bytes.{line_len}
use Rattle.lk_sources.specs.Calls.{is_line, with_line}
use Rattle.lk_sources.proofs.Lists.{all_taken}
use Rattle.lk_sources.specs.Externs.{lines, longer, is_identifier, Listed, Names, BadLine, with_first, listed_from}

-- the lines behind the first, by what stands behind its bytes
abbrev behind_line : List ℕ → List (List ℕ)
behind_line [] = []
behind_line (b ∷ behind) = lines behind

lines_cut : (text : List ℕ) → lines text ≡ take (line_len text) text ∷ behind_line (drop (line_len text) text)
lines_cut [] = refl
lines_cut (b ∷ text) = by (b == new_line) (lines_cut text)
  where
    n : ℕ
    n = line_len text

    by : (found : Bool) → lines text ≡ take n text ∷ behind_line (drop n text) → (if found then [] ∷ lines text else longer b (lines text)) ≡ take (cond (not found) (1 + n) 0) (b ∷ text) ∷ behind_line (drop (cond (not found) (1 + n) 0) (b ∷ text))
    by true others = refl
    by false others =
        let next : 1 + n ≡ suc n = omega arith in
        ap (longer b) others ∙ ap (λ k. take k (b ∷ text) ∷ behind_line (drop k (b ∷ text))) (sym next)

-- what is listed, where these names stand before it
abbrev pub before : List (List ℕ) → Listed → Listed
before names (Names more) = Names (names ++ more)
before names (BadLine line) = BadLine line

pub nothing_before : (listed : Listed) → listed ≡ before [] listed
nothing_before (Names more) = refl
nothing_before (BadLine line) = refl

first_before : (names : List (List ℕ)) (name : List ℕ) (listed : Listed) → before names (with_first name listed) ≡ before (names ++ name ∷ []) listed
first_before names name (Names more) = ap Names (sym (append_assoc names (name ∷ []) more))
first_before names name (BadLine line) = refl

-- a line more
listed_line : (names : List (List ℕ)) (number : ℕ) (line : List ℕ) (others : List (List ℕ)) → is_line line ≡ true →
    before names (listed_from number (line ∷ others)) ≡ before (with_line names line) (listed_from (number + 1) others)
listed_line names number [] others good = refl
listed_line names number (b ∷ line) others good = by (is_identifier (b ∷ line)) good
  where
    rest : Listed
    rest = listed_from (number + 1) others

    by : (found : Bool) → (found || (length (b ∷ line) == 0)) ≡ true →
        before names (if found then with_first (b ∷ line) rest else BadLine number) ≡ before (if found then names ++ (b ∷ line) ∷ [] else names) rest
    by true good = first_before names (b ∷ line) rest
    by false good = absurd (omega (arith, eqb-true (length (b ∷ line)) 0 good))

bad_line : (names : List (List ℕ)) (number : ℕ) (line : List ℕ) (others : List (List ℕ)) → is_line line ≡ false → before names (listed_from number (line ∷ others)) ≡ BadLine number
bad_line names number [] others bad = absurd cc
bad_line names number (b ∷ line) others bad = by (is_identifier (b ∷ line)) bad
  where
    by : (found : Bool) → (found || (length (b ∷ line) == 0)) ≡ false → before names (if found then with_first (b ∷ line) (listed_from (number + 1) others) else BadLine number) ≡ BadLine number
    by true bad = absurd cc
    by false bad = refl

-- ---- what a text lists, by what stands before a line and what is left from it on

module _ (whole : Listed) (names : List (List ℕ)) (number : ℕ) (rest line : List ℕ) (so_far : whole ≡ before names (listed_from number (lines rest))) (is : line ≡ take (line_len rest) rest) where
  split_so_far : (others : List ℕ) → others ≡ drop (line_len rest) rest → whole ≡ before names (listed_from number (line ∷ behind_line others))
  split_so_far others left =
      so_far ∙ (ap (λ ls. before names (listed_from number ls)) (lines_cut rest)
      ∙ (ap (λ l. before names (listed_from number (l ∷ behind_line (drop (line_len rest) rest)))) (sym is) ∙ ap (λ l. before names (listed_from number (line ∷ behind_line l))) (sym left)))

  pub lists_bad : (others : List ℕ) → others ≡ drop (line_len rest) rest → is_line line ≡ false → whole ≡ BadLine number
  lists_bad others left bad = split_so_far others left ∙ bad_line names number line (behind_line others) bad

  pub lists_more : (b : ℕ) (behind : List ℕ) → b ∷ behind ≡ drop (line_len rest) rest → is_line line ≡ true → whole ≡ before (with_line names line) (listed_from (number + 1) (lines behind))
  lists_more b behind left good = split_so_far (b ∷ behind) left ∙ listed_line names number line (lines behind) good

  pub lists_end : (others : List ℕ) → others ≡ drop (line_len rest) rest → others ≡ [] → is_line line ≡ true → whole ≡ Names (with_line names line ++ [])
  lists_end others left none good = split_so_far others left ∙ (ap (λ l. before names (listed_from number (line ∷ behind_line l))) none ∙ listed_line names number line [] good)

  pub lists_next : (others : List ℕ) → others ≡ drop (line_len rest) rest → 1 ≤ length others → is_line line ≡ true → (all : List (List ℕ)) → all ≡ with_line names line →
      whole ≡ before all (listed_from (number + 1) (lines (take (length others - 1) (drop 1 others))))
  lists_next [] left some good all put = absurd (omega arith)
  lists_next (b ∷ behind) left some good all put =
      lists_more b behind left good
      ∙ (ap (λ n. before n (listed_from (number + 1) (lines behind))) (sym put)
      ∙ ap (λ l. before all (listed_from (number + 1) (lines l))) (sym (all_taken behind (length (b ∷ behind) - 1) (omega arith))))

pub nothing_left : (others : List ℕ) → length others < 1 → others ≡ []
nothing_left [] none = refl
nothing_left (b ∷ behind) none = absurd (omega arith)
