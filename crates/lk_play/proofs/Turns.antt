-- The lines of a schedule, one after another; and that a file is one schedule or has one first bad line.
use Rattle.std.proofs.Common.{◌≡◌, ◌∙◌, ℕ, suc, ◌+◌, ◌==◌, Bool, true, false, not, cond, List, [], ◌∷◌, ◌++◌, length, take, drop, refl, sym, ap, subst, arith}
use Rattle.std.proofs.lemmas.List.{append-nil, append_assoc}
use Rattle.std.specs.List.{onto_first}
use Rattle.lk_play.specs.Calls.{len_before, PutsLine}
use Rattle.lk_play.specs.Schedules.{AreTurns, no_lines, empty_line, a_turn, IsTurn, IsBad, HasBadLine, IsSchedule, SchedulesAreOne, lines_of}
use Rattle.lk_play.specs.declared.schedules.Turn.{Turn}
use Rattle.lk_play.proofs.Cuts.{same_turns, no_empty_turn}

join : {a b : List (List ℕ)} {x y : List Turn} → AreTurns a x → AreTurns b y → AreTurns (a ++ b) (x ++ y)
join no_lines k = k
join (empty_line h) k = empty_line (join h k)
join (a_turn is h) k = a_turn is (join h k)

-- a line more
pub put_empty : (line : List ℕ) (old : List Turn) → line ≡ [] → PutsLine line old old true
put_empty line old is before good =
    subst (λ l. AreTurns (before ++ l ∷ []) old) (sym is) (subst (AreTurns (before ++ [] ∷ [])) (append-nil old) (join good (empty_line no_lines)))

pub put_turn : (line : List ℕ) (old new : List Turn) (more : Turn) → IsTurn line more → new ≡ old ++ more ∷ [] →
    PutsLine line old new true
put_turn line old new more is put before good = subst (AreTurns (before ++ line ∷ [])) (sym put) (join good (a_turn is no_lines))

-- the lines behind the first, by what stands behind its bytes
abbrev behind_line : List ℕ → List (List ℕ)
behind_line [] = []
behind_line (b ∷ behind) = lines_of behind

lines_cut : (text : List ℕ) →
    lines_of text ≡ take (len_before 10 text) text ∷ behind_line (drop (len_before 10 text) text)
lines_cut [] = refl
lines_cut (b ∷ text) = by (b == 10) (lines_cut text)
  where
    n : ℕ
    n = len_before 10 text

    by : (found : Bool) → lines_of text ≡ take n text ∷ behind_line (drop n text) →
        cond found ([] ∷ lines_of text) (onto_first b (lines_of text))
        ≡ take (cond (not found) (1 + n) 0) (b ∷ text) ∷ behind_line (drop (cond (not found) (1 + n) 0) (b ∷ text))
    by true others = refl
    by false others =
        let next : 1 + n ≡ suc n = omega arith in
        ap (onto_first b) others ∙ ap (λ k. take k (b ∷ text) ∷ behind_line (drop k (b ∷ text))) (sym next)

-- where the loop over the lines of a text stands
pub record Stands (text : List ℕ) (turns : List Turn) (number : ℕ) (rest : List ℕ) : Type 0 where
  pub before : List (List ℕ)
  pub are : lines_of text ≡ before ++ lines_of rest
  pub good : AreTurns before turns
  pub counts : number ≡ length before + 1

pub begins : (text : List ℕ) → Stands text [] 1 text
begins text = record { before = []; are = refl; good = no_lines; counts = omega arith }

module _ (text : List ℕ) (turns : List Turn) (number : ℕ) (rest : List ℕ) (stands : Stands text turns number rest) (line others : List ℕ) (line_is : line ≡ take (len_before 10 rest) rest)
    (others_is : others ≡ drop (len_before 10 rest) rest) where
  lines_are : lines_of text ≡ stands.before ++ (line ∷ behind_line others)
  lines_are =
      stands.are ∙ ap (λ ls. stands.before ++ ls) (lines_cut rest ∙ ap (λ l. l ∷ behind_line (drop (len_before 10 rest) rest)) (sym line_is)
      ∙ ap (λ o. line ∷ behind_line o) (sym others_is))

  pub stops_bad : IsBad line → HasBadLine text number
  stops_bad bad = record {
    before = stands.before;
    line = line;
    behind = behind_line others;
    are = lines_are;
    turns = turns;
    good = stands.good;
    bad = bad;
    counts = stands.counts;
  }

  pub stops_good : (new : List Turn) → others ≡ [] → PutsLine line turns new true → IsSchedule text new
  stops_good new last puts =
      subst (λ ls. AreTurns ls new) (sym (lines_are ∙ ap (λ o. stands.before ++ (line ∷ behind_line o)) last)) (puts stands.before stands.good)

  pub goes_on : (new : List Turn) (b : ℕ) (behind : List ℕ) → others ≡ b ∷ behind → PutsLine line turns new true →
      (after : ℕ) → after ≡ number + 1 → Stands text new after behind
  goes_on new b behind next puts after counts = record {
    before = stands.before ++ line ∷ [];
    are = lines_are ∙ ap (λ o. stands.before ++ (line ∷ behind_line o)) next ∙ sym (append_assoc stands.before (line ∷ []) (lines_of behind));
    good = puts stands.before stands.good;
    counts = omega (arith, counts, stands.counts, longer stands.before);
  }
    where
      longer : (before : List (List ℕ)) → length (before ++ line ∷ []) ≡ length before + 1
      longer [] = refl
      longer (l ∷ before) = omega (arith, longer before)

-- ---- laws

one : (lines : List (List ℕ)) {x y : List Turn} → AreTurns lines x → AreTurns lines y → x ≡ y
one [] no_lines no_lines = refl
one (line ∷ lines) (empty_line h) (empty_line k) = one lines h k
one (line ∷ lines) (empty_line h) (a_turn is k) = absurd (no_empty_turn _ is)
one (line ∷ lines) (a_turn is h) (empty_line k) = absurd (no_empty_turn _ is)
one (line ∷ lines) (a_turn {turn = t} {turns = ts} is h) (a_turn {turn = u} it k) =
    ap (λ x. x ∷ ts) (same_turns line t u is it) ∙ ap (λ xs. u ∷ xs) (one lines h k)

-- a line of a schedule isn't bad
not_bad : (before : List (List ℕ)) (line : List ℕ) (behind : List (List ℕ)) {x : List Turn} →
    AreTurns (before ++ line ∷ behind) x → IsBad line → ⊥
not_bad [] line behind (empty_line h) bad = bad.something refl
not_bad [] line behind (a_turn is h) bad = bad.no_turn _ is
not_bad (l ∷ before) line behind (empty_line h) bad = not_bad before line behind h bad
not_bad (l ∷ before) line behind (a_turn is h) bad = not_bad before line behind h bad

first_same : (l m : List ℕ) (a b : List (List ℕ)) → l ∷ a ≡ m ∷ b → l ≡ m
first_same l m a b same = cc

rest_same : (l m : List ℕ) (a b : List (List ℕ)) → l ∷ a ≡ m ∷ b → a ≡ b
rest_same l m a b same = cc

behind_good : (l : List ℕ) (a : List (List ℕ)) {x : List Turn} → AreTurns (l ∷ a) x → (more : List Turn) × AreTurns a more
behind_good l a (empty_line h) = (_, h)
behind_good l a (a_turn is h) = (_, h)

one_bad : (a b : List (List ℕ)) (line other : List ℕ) (x y : List (List ℕ)) {s t : List Turn} → AreTurns a s → AreTurns b t →
    IsBad line → IsBad other → a ++ line ∷ x ≡ b ++ other ∷ y → length a ≡ length b
one_bad [] [] line other x y h k bad worse same = refl
one_bad [] (l ∷ b) line other x y h k bad worse same =
    absurd (not_bad [] l b k (subst IsBad (first_same line l x (b ++ other ∷ y) same) bad))
one_bad (l ∷ a) [] line other x y h k bad worse same =
    absurd (not_bad [] l a h (subst IsBad (sym (first_same l other (a ++ line ∷ x) y same)) worse))
one_bad (l ∷ a) (m ∷ b) line other x y h k bad worse same =
    let more = one_bad a b line other x y (behind_good l a h).1 (behind_good m b k).1 bad worse (rest_same l m (a ++ line ∷ x) (b ++ other ∷ y) same) in
    omega (arith, more)

pub schedules_are_one : SchedulesAreOne
schedules_are_one = record {
  one = λ bytes x y h k. one (lines_of bytes) h k;
  not_bad = λ bytes x number h k. not_bad k.before k.line k.behind (subst (λ ls. AreTurns ls x) k.are h) k.bad;
  one_bad = λ bytes number other h k.
      h.counts ∙ ap (λ n. n + 1) (one_bad h.before k.before h.line k.line h.behind k.behind h.good k.good h.bad k.bad (sym h.are ∙ k.are)) ∙ sym k.counts;
}
