-- Nothing stands in front exactly where nothing begins.
use Rattle.std.proofs.Common.{◌≡◌, ℕ, ◌+◌, ◌<◌, Bool, true, false, ◌||◌, ◌==◌, nat_eq, nat_lt, if◌then◌else◌, List, [], ◌∷◌, length, take, drop, codes, Option, Some, None, refl, subst, ⊎_elim, arith}
use Rattle.std.specs.List.{starts_with}
use Rattle.std.specs.Option.{option_map_or}
use Rattle.std.proofs.lemmas.Bool.{and_parts, and_from, or_cases, both_ways, false_from_ne_true}
use Rattle.std.proofs.lemmas.Bool.Decides.{nat_tests}
use Rattle.lk_lex.specs.declared.front.Front.{Front}
use Rattle.lk_lex.specs.declared.front.Front.TheVariants as f
use Rattle.lk_lex.specs.declared.mark.Directive.{Directive}
use Rattle.lk_lex.specs.declared.mark.Directive.TheVariants as d
use Rattle.lk_lex.specs.declared.number.Number.{Number}
use Rattle.lk_lex.specs.declared.punct.Punct.{Punct}
use Rattle.lk_lex.specs.declared.punct.Punct.TheVariants as p
use Rattle.lk_lex.specs.declared.quoted.Item.{Item}
use Rattle.lk_lex.specs.declared.quoted.Quotation.TheVariants as q
use Rattle.lk_lex.specs.declared.token.TokenKind.TheVariants as k
use Rattle.lk_lex.specs.Ascii.{hash}
use Rattle.lk_lex.specs.Bytes.{is_blank, word_len, blanks_len, line_len}
use Rattle.lk_lex.specs.Characters.{as_signed, character, quoted_len}
use Rattle.lk_lex.specs.Front.{cut, piece, word_front, word_kind, is_wide, number_front, character_front, text_front, comment_front, punct_front, hash_front, directive_front, begins_number, comment_len}
use Rattle.lk_lex.specs.Laws.{Begins, NothingBegins}
use Rattle.lk_lex.specs.Laws as law
use Rattle.lk_lex.specs.Marks as marks
use Rattle.lk_lex.specs.Numbers.{number_len, number_of}
use Rattle.lk_lex.specs.Punctuators.{spelling, is_digraph_in_front, punct_in_front}
use Rattle.lk_lex.proofs.Longest.{some_punct, punct_starts}

-- where the first of two is something, the second is what stands in front
if_nothing : (b : Bool) (x y : Front) → (x ≡ f.Nothing → ⊥) → (if b then x else y) ≡ f.Nothing → (b ≡ false) × (y ≡ f.Nothing)
if_nothing true x y never e = absurd (never e)
if_nothing false x y never e = (refl, e)

never_word : (bytes : List ℕ) → word_front bytes ≡ f.Nothing → ⊥
unfolding word_front
never_word bytes e = by (nat_lt 255 (word_len bytes) || is_wide (take (word_len bytes) bytes) (drop (word_len bytes) bytes)) e
  where
    by : (long : Bool) → (if long then f.Broken else f.Token (word_len bytes) (word_kind (take (word_len bytes) bytes))) ≡ f.Nothing → ⊥
    by true e = absurd cc
    by false e = absurd cc

never_number : (n : ℕ) (o : Option Number) → option_map_or (λ number. f.Token n (k.Number number.kind number.value)) o f.Broken ≡ f.Nothing → ⊥
never_number n None e = absurd cc
never_number n (Some number) e = absurd cc

never_character : (o : Option Item) → option_map_or (λ first. f.Token (first.len + 2) (k.Char (as_signed first.value))) o f.Broken ≡ f.Nothing → ⊥
never_character None e = absurd cc
never_character (Some first) e = absurd cc

never_text : (o : Option ℕ) → option_map_or (λ n. f.Token (n + 1) k.Text) o f.Broken ≡ f.Nothing → ⊥
never_text None e = absurd cc
never_text (Some n) e = absurd cc

never_comment : (o : Option ℕ) → option_map_or (λ n. f.Gap (n + 2)) o f.Broken ≡ f.Nothing → ⊥
never_comment None e = absurd cc
never_comment (Some n) e = absurd cc

never_directive : (n : ℕ) (o : Option Directive) → directive_front n o ≡ f.Nothing → ⊥
never_directive n None e = absurd cc
never_directive n (Some d.Pragma) e = absurd cc
never_directive n (Some (d.Mark mark)) e = absurd cc

no_punct : (o : Option Punct) → option_map_or (λ punct. f.Token (length (spelling punct)) (k.Punct punct)) o f.Nothing ≡ f.Nothing → o ≡ None
no_punct None e = refl
no_punct (Some punct) e = absurd cc

-- where no token and no comment is in front
record IsBare (bytes : List ℕ) : Type 0 where
  number : begins_number bytes ≡ false
  word : nat_lt 0 (word_len bytes) ≡ false
  character : starts_with nat_eq bytes (codes "'") ≡ false
  text : starts_with nat_eq bytes (codes "\"") ≡ false
  line_comment : starts_with nat_eq bytes (codes "//") ≡ false
  comment : starts_with nat_eq bytes (codes "/*") ≡ false
  punct : punct_in_front bytes ≡ None

bare_piece : (bytes : List ℕ) → piece bytes ≡ f.Nothing → IsBare bytes
unfolding piece number_front character_front text_front comment_front punct_front
bare_piece bytes e =
    let number = if_nothing (begins_number bytes) _ _ (never_number (number_len 0 bytes) (number_of (take (number_len 0 bytes) bytes))) e in
    let word = if_nothing (nat_lt 0 (word_len bytes)) _ _ (never_word bytes) number.1 in
    let character = if_nothing (starts_with nat_eq bytes (codes "'")) _ _ (never_character (character (drop 1 bytes))) word.1 in
    let text = if_nothing (starts_with nat_eq bytes (codes "\"")) _ _ (never_text (quoted_len q.Text 0 (drop 1 bytes))) character.1 in
    let line = if_nothing (starts_with nat_eq bytes (codes "//")) _ _ (λ e. absurd cc) text.1 in
    let comment = if_nothing (starts_with nat_eq bytes (codes "/*")) _ _ (never_comment (comment_len 0 (drop 2 bytes))) line.1 in
    let digraph = if_nothing (is_digraph_in_front bytes) _ _ (λ e. absurd cc) comment.1 in
    record {
      number = number.0;
      word = word.0;
      character = character.0;
      text = text.0;
      line_comment = line.0;
      comment = comment.0;
      punct = no_punct (punct_in_front bytes) digraph.1;
    }

-- where no token and no comment is in front, and no blank and no line with `#` either, nothing begins
bare_none : (fresh : Bool) (bytes : List ℕ) → blanks_len bytes ≡ 0 → (fresh ≡ true → starts_with nat_eq bytes (codes "#") ≡ false) → IsBare bytes → Begins fresh bytes → ⊥
bare_none fresh bytes blanks line is (law.blank some) = absurd (omega (arith, blanks, some))
bare_none fresh bytes blanks line is (law.comment here) = both_ways _ is.comment here
bare_none fresh bytes blanks line is (law.line_comment here) = both_ways _ is.line_comment here
bare_none fresh bytes blanks line is (law.directive at here) = both_ways _ (line at) here
bare_none fresh bytes blanks line is (law.word some) = let none = is.word in let here : nat_lt 0 (word_len bytes) ≡ true = grind (arith, nat_tests) in both_ways _ none here
bare_none fresh bytes blanks line is (law.number here) = both_ways _ is.number here
bare_none fresh bytes blanks line is (law.character here) = both_ways _ is.character here
bare_none fresh bytes blanks line is (law.text here) = both_ways _ is.text here
bare_none fresh bytes blanks line is (law.punctuator punct here) = some_punct bytes punct here is.punct

bare_piece_nothing : (bytes : List ℕ) → IsBare bytes → is_digraph_in_front bytes ≡ false → piece bytes ≡ f.Nothing
unfolding piece punct_front
bare_piece_nothing bytes is none = rw (is.number, is.word, is.character, is.text, is.line_comment, is.comment, none, is.punct) refl

-- the first byte of a digraph is a punctuator
first_of_two : (x y : ℕ) (bytes : List ℕ) → starts_with nat_eq bytes (x ∷ y ∷ []) ≡ true → starts_with nat_eq bytes (x ∷ []) ≡ true
first_of_two x y [] both = absurd cc
first_of_two x y (b ∷ bs) both = and_from _ _ (and_parts _ _ both).0 refl

digraph_begins : (fresh : Bool) (bytes : List ℕ) → is_digraph_in_front bytes ≡ true → Begins fresh bytes
digraph_begins fresh bytes digraph =
    ⊎_elim (λ here. law.punctuator p.Less (first_of_two 60 58 bytes here)) (λ others.
    ⊎_elim (λ here. law.punctuator p.Colon (first_of_two 58 62 bytes here)) (λ others.
    ⊎_elim (λ here. law.punctuator p.Less (first_of_two 60 37 bytes here)) (λ others.
    ⊎_elim (λ here. law.punctuator p.Percent (first_of_two 37 62 bytes here)) (λ others.
    ⊎_elim (λ here. law.punctuator p.Percent (first_of_two 37 58 bytes here)) (λ others. absurd cc)
    (or_cases _ _ others)) (or_cases _ _ others)) (or_cases _ _ others)) (or_cases _ _ others)) (or_cases _ _ digraph)

bare_from : (fresh : Bool) (bytes : List ℕ) → (Begins fresh bytes → ⊥) → IsBare bytes
bare_from fresh bytes never = record {
  number = false_from_ne_true _ (λ here. never (law.number here));
  word = false_from_ne_true _ (λ here. let some : 0 < word_len bytes = grind (arith, nat_tests) in never (law.word some));
  character = false_from_ne_true _ (λ here. never (law.character here));
  text = false_from_ne_true _ (λ here. never (law.text here));
  line_comment = false_from_ne_true _ (λ here. never (law.line_comment here));
  comment = false_from_ne_true _ (λ here. never (law.comment here));
  punct = by (punct_in_front bytes) refl;
}
  where
    by : (o : Option Punct) → punct_in_front bytes ≡ o → o ≡ None
    by None e = refl
    by (Some punct) e = absurd (never (law.punctuator punct (punct_starts bytes punct e)))

bare_empty : IsBare []
unfolding punct_in_front
bare_empty = record { number = refl; word = refl; character = refl; text = refl; line_comment = refl; comment = refl; punct = refl }

bare_hash : (cs : List ℕ) → IsBare (hash ∷ cs)
unfolding punct_in_front
bare_hash cs = record { number = refl; word = refl; character = refl; text = refl; line_comment = refl; comment = refl; punct = refl }

is_hash : (c : ℕ) → (c == hash) ≡ true → c ≡ hash
is_hash c is = grind (arith, nat_tests)

no_hash : (c : ℕ) (cs : List ℕ) → (c == hash) ≡ false → starts_with nat_eq (c ∷ cs) (codes "#") ≡ false
no_hash c cs other = let none : nat_eq 35 c ≡ false = grind (arith, nat_tests) in rw none refl

no_blank : (c : ℕ) (cs : List ℕ) → is_blank c ≡ false → blanks_len (c ∷ cs) ≡ 0
no_blank c cs other = rw other refl

a_blank : (c : ℕ) (cs : List ℕ) → is_blank c ≡ true → 0 < blanks_len (c ∷ cs)
a_blank c cs is = rw is (omega arith)

-- a `#` behind another byte of its line begins nothing
hash_none : (cs : List ℕ) → Begins false (hash ∷ cs) → ⊥
hash_none cs begins = bare_none false (hash ∷ cs) refl (λ at. absurd cc) (bare_hash cs) begins

none_begins : (fresh : Bool) (c : ℕ) (cs : List ℕ) → cut fresh (c ∷ cs) ≡ f.Nothing → Begins fresh (c ∷ cs) → ⊥
unfolding cut hash_front
none_begins fresh c cs e =
    let behind = if_nothing (is_blank c) _ _ (λ e. absurd cc) e in by (c == hash) refl fresh behind.0 behind.1
  where
    by : (line : Bool) → (c == hash) ≡ line → (fresh : Bool) → is_blank c ≡ false → (if line then (if fresh then directive_front (line_len cs + 1) (marks.directive (take (line_len cs) cs)) else f.Nothing) else piece (c ∷ cs)) ≡ f.Nothing
        → Begins fresh (c ∷ cs) → ⊥
    by true is true blank e begins = never_directive (line_len cs + 1) (marks.directive (take (line_len cs) cs)) e
    by true is false blank e begins = hash_none cs (subst (λ x. Begins false (x ∷ cs)) (is_hash c is) begins)
    by false is fresh blank e begins = bare_none fresh (c ∷ cs) (no_blank c cs blank) (λ at. no_hash c cs is) (bare_piece (c ∷ cs) e) begins

is_nothing : (fresh : Bool) (c : ℕ) (cs : List ℕ) → (Begins fresh (c ∷ cs) → ⊥) → cut fresh (c ∷ cs) ≡ f.Nothing
unfolding cut
is_nothing fresh c cs never =
    let blank : is_blank c ≡ false = false_from_ne_true _ (λ is. never (law.blank (a_blank c cs is))) in rw blank (by (c == hash) refl fresh never)
  where
    by : (line : Bool) → (c == hash) ≡ line → (fresh : Bool) → (Begins fresh (c ∷ cs) → ⊥) → (if line then (if fresh then hash_front cs else f.Nothing) else piece (c ∷ cs)) ≡ f.Nothing
    by true is true never = let here : nat_eq 35 c ≡ true = grind (arith, nat_tests) in absurd (never (law.directive refl (and_from _ _ here refl)))
    by true is false never = refl
    by false is fresh never = bare_piece_nothing (c ∷ cs) (bare_from fresh (c ∷ cs) never) (false_from_ne_true _ (λ digraph. never (digraph_begins fresh (c ∷ cs) digraph)))

pub nothing_begins : NothingBegins
unfolding cut
nothing_begins fresh [] = (λ e begins. bare_none fresh [] refl (λ at. refl) bare_empty begins, λ never. refl)
nothing_begins fresh (c ∷ cs) = (none_begins fresh c cs, is_nothing fresh c cs)
