-- Lines and words that are cut at a byte.
use Rattle.std.proofs.Common.{◌≡◌, ◌∙◌, ℕ, zero, suc, ◌+◌, ◌-◌, ◌<◌, ◌≤◌, ◌^◌, ◌==◌, Bool, true, false, not, cond, List, [], ◌∷◌, ◌++◌, None, Some, Result, Ok, Err, length, take, drop, refl, sym, ap, subst, arith, codes}
use Rattle.std.proofs.lemmas.Bool.{and_parts, eqb-true, eq-eqb, false≢true}
use Rattle.std.proofs.lemmas.Fmt.{digits_decimal, decimal_injective, parse-decimal, IsAscii-decimal}
use Rattle.std.proofs.lemmas.List.{append-nil}
use Rattle.std.proofs.lemmas.Str.{IsUtf8-from_ascii}
use Rattle.std.proofs.lemmas.Str.Parse.{IsNumeralModel, numerals_by_value, tells_all_ascii_digits}
use Rattle.std.specs.Char.{is_ascii_digit}
use Rattle.std.specs.Fmt.{decimal}
use Rattle.std.specs.Str.{all_ascii_digits, IsAscii, IsUtf8}
use Rattle.std.specs.Str.Parse.{digits_value, ParsesUnsigned}
use Rattle.lk_play.specs.Calls.{len_before, TellsNumber, TellsStar, TellsTurn}
use Rattle.lk_play.specs.Schedules.{IsTurn, star_text}
use Rattle.lk_play.specs.declared.schedules.Turn.{Turn}

all_digits : IsNumeralModel (λ ds. all_ascii_digits ds ≡ true) (digits_value 10)
all_digits = numerals_by_value _ tells_all_ascii_digits

decimal_digits : (n : ℕ) → n < 2 ^ 64 → all_ascii_digits (decimal n) ≡ true
decimal_digits n h = digits_decimal all_digits n h

-- what is no text, or isn't parsed, is no number
pub no_text : (bytes : List ℕ) → (IsUtf8 bytes → ⊥) → TellsNumber bytes None
no_text bytes none n small is = none (IsUtf8-from_ascii bytes (subst IsAscii (sym is) (IsAscii-decimal n small)))

pub unparsed : {E : Type 0} (bytes : List ℕ) (r : Result ℕ E) → ParsesUnsigned 64 10 bytes r → (e : E) → r ≡ Err e → TellsNumber bytes None
unparsed bytes r parses e is n small write = let parsed = parse-decimal 64 n bytes r small small write parses in absurd cc

pub unwritten : {E : Type 0} (bytes : List ℕ) (r : Result ℕ E) → ParsesUnsigned 64 10 bytes r → (found : ℕ) → r ≡ Ok found →
    (bytes ≡ decimal found → ⊥) → TellsNumber bytes None
unwritten bytes r parses found is not n small write =
    let parsed = parse-decimal 64 n bytes r small small write parses in
    let same : n ≡ found = cc in
    not (write ∙ ap decimal same)

-- digits end before a byte that is no digit
digits_end : (end : ℕ) → is_ascii_digit end ≡ false → (digits rest : List ℕ) → all_ascii_digits digits ≡ true →
    len_before end (digits ++ end ∷ rest) ≡ length digits
digits_end end plain [] rest h = by (end == end) (eq-eqb end end refl)
  where
    by : (b : Bool) → b ≡ true → cond (not b) (1 + len_before end rest) 0 ≡ 0
    by true e = refl
    by false e = absurd (false≢true e)
digits_end end plain (c ∷ cs) rest h =
    let parts = and_parts (is_ascii_digit c) (all_ascii_digits cs) h in
    by (c == end) refl parts.0 (digits_end end plain cs rest parts.1)
  where
    by : (b : Bool) → (c == end) ≡ b → is_ascii_digit c ≡ true → len_before end (cs ++ end ∷ rest) ≡ length cs →
        cond (not b) (1 + len_before end (cs ++ end ∷ rest)) 0 ≡ length (c ∷ cs)
    by true e d more = absurd (false≢true (sym plain ∙ ap is_ascii_digit (sym (eqb-true c end e)) ∙ d))
    by false e d more = omega (arith, more)

-- or with the text
digits_all : (end : ℕ) → is_ascii_digit end ≡ false → (digits : List ℕ) → all_ascii_digits digits ≡ true →
    len_before end digits ≡ length digits
digits_all end plain [] h = refl
digits_all end plain (c ∷ cs) h =
    let parts = and_parts (is_ascii_digit c) (all_ascii_digits cs) h in
    by (c == end) refl parts.0 (digits_all end plain cs parts.1)
  where
    by : (b : Bool) → (c == end) ≡ b → is_ascii_digit c ≡ true → len_before end cs ≡ length cs →
        cond (not b) (1 + len_before end cs) 0 ≡ length (c ∷ cs)
    by true e d more = absurd (false≢true (sym plain ∙ ap is_ascii_digit (sym (eqb-true c end e)) ∙ d))
    by false e d more = omega (arith, more)

take_front : (a b : List ℕ) → take (length a) (a ++ b) ≡ a
take_front [] b = refl
take_front (x ∷ a) b = ap (λ r. x ∷ r) (take_front a b)

drop_front : (a b : List ℕ) → drop (length a) (a ++ b) ≡ b
drop_front [] b = refl
drop_front (x ∷ a) b = drop_front a b

take_drop : (n : ℕ) (a : List ℕ) → take n a ++ drop n a ≡ a
take_drop zero a = refl
take_drop (suc n) [] = refl
take_drop (suc n) (x ∷ a) = ap (λ r. x ∷ r) (take_drop n a)

-- a text that is cut in two at a byte
pub record IsCut (end : ℕ) (text front back : List ℕ) : Type 0 where
  pub front_is : take (len_before end text) text ≡ front
  pub back_is : drop (len_before end text) text ≡ back

cut_at : (end : ℕ) → is_ascii_digit end ≡ false → (digits rest : List ℕ) → all_ascii_digits digits ≡ true →
    IsCut end (digits ++ end ∷ rest) digits (end ∷ rest)
cut_at end plain digits rest h =
    let k = digits_end end plain digits rest h in
    record {
      front_is = ap (λ n. take n (digits ++ end ∷ rest)) k ∙ take_front digits (end ∷ rest);
      back_is = ap (λ n. drop n (digits ++ end ∷ rest)) k ∙ drop_front digits (end ∷ rest);
    }

cut_all : (end : ℕ) → is_ascii_digit end ≡ false → (digits : List ℕ) → all_ascii_digits digits ≡ true →
    IsCut end (digits ++ []) digits []
cut_all end plain digits h =
    let k : len_before end (digits ++ []) ≡ length digits = ap (len_before end) (append-nil digits) ∙ digits_all end plain digits h in
    record {
      front_is = ap (λ n. take n (digits ++ [])) k ∙ take_front digits [];
      back_is = ap (λ n. drop n (digits ++ [])) k ∙ drop_front digits [];
    }

cut_word : (w : ℕ) (until : Bool) → w < 2 ^ 64 → IsCut 32 (decimal w ++ star_text until) (decimal w) (star_text until)
cut_word w true h = cut_at 32 refl (decimal w) (42 ∷ []) (decimal_digits w h)
cut_word w false h = cut_all 32 refl (decimal w) (decimal_digits w h)

-- a line that is a turn is cut so
pub record IsCutTurn (line : List ℕ) (turn : Turn) (first behind second star : List ℕ) : Type 0 where
  pub first_is : first ≡ decimal turn.thread
  pub second_is : second ≡ decimal turn.word
  pub star_is : star ≡ star_text turn.until

module _ (line : List ℕ) where
  abbrev first_of : List ℕ
  first_of = take (len_before 32 line) line

  abbrev others_of : List ℕ
  others_of = drop (len_before 32 line) line

  -- so is a line that is a turn
  turn_cut : (turn : Turn) → IsTurn line turn →
      IsCut 32 line (decimal turn.thread) (32 ∷ (decimal turn.word ++ star_text turn.until))
  turn_cut turn is =
      let small : turn.thread < 2 ^ 64 = omega (arith, is.thread) in
      subst (λ text. IsCut 32 text (decimal turn.thread) (32 ∷ (decimal turn.word ++ star_text turn.until))) (sym is.text)
      (cut_at 32 refl (decimal turn.thread) (decimal turn.word ++ star_text turn.until) (decimal_digits turn.thread small))

  no_blank : others_of ≡ [] → (turn : Turn) → IsTurn line turn → ⊥
  no_blank none turn is = let back = (turn_cut turn is).back_is in absurd cc

  module _ (blank : ℕ) (behind : List ℕ) (there : others_of ≡ blank ∷ behind) where
    abbrev second_of : List ℕ
    second_of = take (len_before 32 behind) behind

    abbrev star_of : List ℕ
    star_of = drop (len_before 32 behind) behind

    behind_is : (turn : Turn) → IsTurn line turn → behind ≡ decimal turn.word ++ star_text turn.until
    behind_is turn is = let back = (turn_cut turn is).back_is in cc

    turn_parts : (turn : Turn) → IsTurn line turn →
        IsCutTurn line turn first_of behind second_of star_of
    turn_parts turn is =
        let word = subst (λ text. IsCut 32 text (decimal turn.word) (star_text turn.until)) (sym (behind_is turn is)) (cut_word turn.word turn.until is.word) in
        record { first_is = (turn_cut turn is).front_is; second_is = word.front_is; star_is = word.back_is }

    bad_star : TellsStar star_of None → (turn : Turn) → IsTurn line turn → ⊥
    bad_star none turn is = none turn.until (turn_parts turn is).star_is

    bad_thread : TellsNumber first_of None → (turn : Turn) → IsTurn line turn → ⊥
    bad_thread none turn is = none turn.thread (omega (arith, is.thread)) (turn_parts turn is).first_is

    bad_word : TellsNumber second_of None → (turn : Turn) → IsTurn line turn → ⊥
    bad_word none turn is = none turn.word is.word (turn_parts turn is).second_is

    large_thread : (n : ℕ) → TellsNumber first_of (Some n) → 2 ^ 32 ≤ n → (turn : Turn) → IsTurn line turn → ⊥
    large_thread n told large turn is =
        let same : n ≡ turn.thread = decimal_injective n turn.thread told.0 (omega (arith, is.thread)) (sym told.1 ∙ (turn_parts turn is).first_is) in
        absurd (omega (arith, same, is.thread, large))

    is_turn : (thread word : ℕ) (until : Bool) → blank ≡ 32 → (star_of ≡ star_text until) → TellsNumber first_of (Some thread) →
        thread < 2 ^ 32 → TellsNumber second_of (Some word) → IsTurn line (record { thread = thread; word = word; until = until })
    is_turn thread word until is star first small second = record {
      thread = small;
      word = second.0;
      text =
          sym (take_drop (len_before 32 line) line) ∙ ap (λ f. f ++ others_of) first.1 ∙ ap (λ o. decimal thread ++ o) (there ∙ ap (λ b. b ∷ behind) is)
          ∙ ap (λ o. decimal thread ++ (32 ∷ o)) (sym (take_drop (len_before 32 behind) behind) ∙ ap (λ f. f ++ star_of) second.1 ∙ ap (λ s. decimal word ++ s) star);
    }

same_head : (c b : ℕ) (cs bs : List ℕ) → c ∷ cs ≡ b ∷ bs → c ≡ b
same_head c b cs bs h = cc

blank_is : (line : List ℕ) (blank : ℕ) (behind : List ℕ) → drop (len_before 32 line) line ≡ blank ∷ behind → blank ≡ 32
blank_is [] blank behind h = absurd cc
blank_is (c ∷ cs) blank behind h = by (c == 32) refl (blank_is cs blank behind) h
  where
    by : (b : Bool) → (c == 32) ≡ b → (drop (len_before 32 cs) cs ≡ blank ∷ behind → blank ≡ 32) →
        drop (cond (not b) (1 + len_before 32 cs) 0) (c ∷ cs) ≡ blank ∷ behind → blank ≡ 32
    by true e more h = sym (same_head c blank cs behind h) ∙ eqb-true c 32 e
    by false e more h =
        let next : 1 + len_before 32 cs ≡ suc (len_before 32 cs) = omega arith in
        more (sym (ap (λ k. drop k (c ∷ cs)) next) ∙ h)

pub nothing_left : (others : List ℕ) → length others < 1 → others ≡ []
nothing_left [] h = refl
nothing_left (b ∷ others) h = absurd (omega (arith, h))

all_taken : (bytes : List ℕ) (n : ℕ) → n ≡ length bytes → take n bytes ≡ bytes
all_taken [] n h = ap (λ k. take k []) h
all_taken (b ∷ bytes) n h = ap (λ k. take k (b ∷ bytes)) h ∙ ap (λ r. b ∷ r) (all_taken bytes (length bytes) refl)

pub some_left : (others behind : List ℕ) → 1 ≤ length others → behind ≡ take (length others - 1) (drop 1 others) →
    (b : ℕ) × (others ≡ b ∷ behind)
some_left [] behind h is = absurd (omega (arith, h))
some_left (b ∷ others) behind h is =
    let long : length (b ∷ others) - 1 ≡ length others = omega arith in
    (b, ap (λ r. b ∷ r) (sym (is ∙ all_taken others (length (b ∷ others) - 1) long)))

-- a line that has no blank
pub no_blank_turn : (line others : List ℕ) (k : ℕ) → k ≡ len_before 32 line → others ≡ drop k line → length others < 1 → TellsTurn line None
no_blank_turn line others k is others_is none =
    no_blank line (ap (λ n. drop n line) (sym is) ∙ sym others_is ∙ nothing_left others none)

-- a line that is cut at its first blank, and behind it at the next
pub record IsCutLine (line first second star : List ℕ) : Type 0 where
  pub blank : ℕ
  pub behind : List ℕ
  pub first_is : first ≡ first_of line
  pub there : others_of line ≡ blank ∷ behind
  pub second_is : second ≡ take (len_before 32 behind) behind
  pub star_is : star ≡ drop (len_before 32 behind) behind

pub cut_line : (line first others second star : List ℕ) (k j : ℕ) → k ≡ len_before 32 line → first ≡ take k line → others ≡ drop k line →
    1 ≤ length others → j ≡ len_before 32 (take (length others - 1) (drop 1 others)) →
    second ≡ take j (take (length others - 1) (drop 1 others)) → star ≡ drop j (take (length others - 1) (drop 1 others)) →
    IsCutLine line first second star
cut_line line first others second star k j k_is first_is others_is some j_is second_is star_is =
    let behind = take (length others - 1) (drop 1 others) in
    let next = some_left others behind some refl in
    record {
      blank = next.0;
      behind = behind;
      first_is = first_is ∙ ap (λ n. take n line) k_is;
      there = ap (λ n. drop n line) (sym k_is) ∙ sym others_is ∙ next.1;
      second_is = second_is ∙ ap (λ n. take n behind) j_is;
      star_is = star_is ∙ ap (λ n. drop n behind) j_is;
    }

module _ {line first second star : List ℕ} (cut : IsCutLine line first second star) where
  pub no_star : TellsStar star None → TellsTurn line None
  no_star told = bad_star line cut.blank cut.behind cut.there (subst (λ s. TellsStar s None) cut.star_is told)

  pub no_thread : TellsNumber first None → TellsTurn line None
  no_thread told = bad_thread line cut.blank cut.behind cut.there (subst (λ s. TellsNumber s None) cut.first_is told)

  pub no_word : TellsNumber second None → TellsTurn line None
  no_word told = bad_word line cut.blank cut.behind cut.there (subst (λ s. TellsNumber s None) cut.second_is told)

  pub no_number : (n : ℕ) → TellsNumber first (Some n) → 2 ^ 32 ≤ n → TellsTurn line None
  no_number n told large =
      large_thread line cut.blank cut.behind cut.there n (subst (λ s. TellsNumber s (Some n)) cut.first_is told) large

  pub a_turn : (thread word : ℕ) (until : Bool) → TellsStar star (Some until) → TellsNumber first (Some thread) → thread < 2 ^ 32 →
      TellsNumber second (Some word) → TellsTurn line (Some (record { thread = thread; word = word; until = until }))
  a_turn thread word until told number small written =
      is_turn line cut.blank cut.behind cut.there thread word until (blank_is line cut.blank cut.behind cut.there) (sym cut.star_is ∙ told)
      (subst (λ s. TellsNumber s (Some thread)) cut.first_is number) small (subst (λ s. TellsNumber s (Some word)) cut.second_is written)

-- a turn has a byte, and a line is one turn
pub no_empty_turn : (turn : Turn) → IsTurn [] turn → ⊥
no_empty_turn turn is = by (decimal turn.thread) is.text
  where
    by : (d : List ℕ) → [] ≡ d ++ (codes " " ++ (decimal turn.word ++ star_text turn.until)) → ⊥
    by [] e = absurd cc
    by (c ∷ cs) e = absurd cc

same_star : (a b : Bool) → star_text a ≡ star_text b → a ≡ b
same_star true true e = refl
same_star true false e = absurd cc
same_star false true e = absurd cc
same_star false false e = refl

one_turn : (t u w x : ℕ) (a b : Bool) → t ≡ u → w ≡ x → a ≡ b →
    ◌≡◌ {A = Turn} (record { thread = t; word = w; until = a }) (record { thread = u; word = x; until = b })
one_turn t u w x a b p q r = cc

pub same_turns : (line : List ℕ) (a b : Turn) → IsTurn line a → IsTurn line b → a ≡ b
same_turns line a b is it =
    let one = turn_parts line 32 (decimal a.word ++ star_text a.until) (turn_cut line a is).back_is a is in
    let other = turn_parts line 32 (decimal a.word ++ star_text a.until) (turn_cut line a is).back_is b it in
    one_turn a.thread b.thread a.word b.word a.until b.until
    (decimal_injective a.thread b.thread (omega (arith, is.thread)) (omega (arith, it.thread)) (sym one.first_is ∙ other.first_is))
    (decimal_injective a.word b.word is.word it.word (sym one.second_is ∙ other.second_is))
    (same_star a.until b.until (sym one.star_is ∙ other.star_is))
