-- A word, a number or a punctuator in front is the longest that can stand there.
use Rattle.std.proofs.Common.{◌≡◌, ℕ, zero, suc, ◌+◌, ◌≤◌, Bool, true, false, ◌&&◌, ◌||◌, ◌==◌, cond, nat_eq, nat_le, nat_lt, if◌then◌else◌, List, [], ◌∷◌, ◌++◌, length, take, Some, None, refl, sym, ap, subst, ◌∙◌, ⊎_elim, append_assoc, arith}
use Rattle.std.specs.Char.{is_ascii_digit}
use Rattle.std.specs.List.{find, list_all, prefix_len, starts_with}
use Rattle.std.specs.Str.{bytes_eq}
use Rattle.std.proofs.lemmas.Bool.{and_parts, and_from, or_cases, leb-true, true≢false}
use Rattle.std.proofs.lemmas.Bool.Decides.{nat_tests}
use Rattle.std.proofs.lemmas.List.{append-nil}
use Rattle.std.proofs.lemmas.List.Sums.{prefix_len-le-length}
use Rattle.std.proofs.lemmas.Slice.Eq.{bytes_eq-Decides}
use Rattle.std.proofs.Math.Numerals.{one-add}
use Rattle.lk_lex.specs.declared.base.Base.TheVariants as b
use Rattle.lk_lex.specs.declared.punct.Punct.{Punct}
use Rattle.lk_lex.specs.declared.punct.Punct.TheVariants as p
use Rattle.lk_lex.specs.Bytes.{is_word_byte, word_len}
use Rattle.lk_lex.specs.Front.{begins_number}
use Rattle.lk_lex.specs.Laws.{IsNumberText, digit, dot_digit, longer, IsLongestWord, IsLongestNumber, IsLongestPunct}
use Rattle.lk_lex.specs.Numbers.{digits_len, goes_on, number_len}
use Rattle.lk_lex.specs.Punctuators.{spelling, punctuators, is_digraph_in_front, punct_in_front}
use Rattle.lk_lex.proofs.Fronts.{find-passes}

-- words

fronts_pass : (t : ℕ → Bool) (bs : List ℕ) → list_all t (take (prefix_len t bs) bs) ≡ true
fronts_pass t [] = refl
fronts_pass t (b ∷ bs) = by (t b) refl (fronts_pass t bs)
  where
    by : (c : Bool) → t b ≡ c → list_all t (take (prefix_len t bs) bs) ≡ true → list_all t (take (cond c (1 + prefix_len t bs) 0) (b ∷ bs)) ≡ true
    by true e others = rw one-add (and_from _ _ e others)
    by false e others = refl

pass_below : (t : ℕ → Bool) (bs : List ℕ) (m : ℕ) → m ≤ length bs → list_all t (take m bs) ≡ true → m ≤ prefix_len t bs
pass_below t bs zero within all = omega arith
pass_below t [] (suc m) within all = absurd (omega arith)
pass_below t (b ∷ bs) (suc m) within all =
    let parts = and_parts (t b) (list_all t (take m bs)) all in let here : t b ≡ true = parts.0 in rw here (omega (arith, pass_below t bs m (omega arith) parts.1))

pub longest_word : (bytes : List ℕ) → nat_lt 0 (word_len bytes) ≡ true → digits_len b.Decimal bytes ≡ 0 → IsLongestWord bytes (word_len bytes)
longest_word bytes some none = record { some = grind (arith, nat_tests); within = prefix_len-le-length is_word_byte bytes; word = fronts_pass is_word_byte bytes; no_digit = none; longest = pass_below is_word_byte bytes }

-- a part in front of bytes that begin with no digit begins with none
pub no_digit_taken : (bytes : List ℕ) (n : ℕ) → digits_len b.Decimal bytes ≡ 0 → digits_len b.Decimal (take n bytes) ≡ 0
no_digit_taken bytes zero none = refl
no_digit_taken [] (suc n) none = refl
no_digit_taken (c ∷ cs) (suc n) none = by (is_ascii_digit c) none
  where
    by : (is : Bool) → cond is (1 + prefix_len is_ascii_digit cs) 0 ≡ 0 → cond is (1 + prefix_len is_ascii_digit (take n cs)) 0 ≡ 0
    by true none = absurd (omega arith)
    by false none = refl

pub word_passes : (bytes : List ℕ) → list_all is_word_byte (take (word_len bytes) bytes) ≡ true
word_passes bytes = fronts_pass is_word_byte bytes

-- numbers

grows : {text : List ℕ} {before : ℕ} (bytes : List ℕ) → IsNumberText text before → (last : ℕ) × IsNumberText (text ++ take (number_len before bytes) bytes) last
unfolding number_len
grows {text} {before} [] is = (before, subst (λ t. IsNumberText t before) (sym (append-nil text)) is)
grows {text} {before} (b ∷ bs) is = by (goes_on before b) refl (λ more. grows bs more)
  where
    by : (on : Bool) → goes_on before b ≡ on → (IsNumberText (text ++ b ∷ []) b → (last : ℕ) × IsNumberText ((text ++ b ∷ []) ++ take (number_len b bs) bs) last)
        → (last : ℕ) × IsNumberText (text ++ take (if on then 1 + number_len b bs else 0) (b ∷ bs)) last
    by true e others = let more = others (longer b is e) in
        (more.0, rw one-add (subst (λ t. IsNumberText t more.0) (append_assoc text (b ∷ []) (take (number_len b bs) bs)) more.1))
    by false e others = (before, subst (λ t. IsNumberText t before) (sym (append-nil text)) is)

-- each byte goes on from the one before it
runs : ℕ → List ℕ → Bool
runs before [] = true
runs before (c ∷ cs) = goes_on before c && runs c cs

last_of : ℕ → List ℕ → ℕ
last_of before [] = before
last_of before (c ∷ cs) = last_of c cs

runs-push : (before : ℕ) (text : List ℕ) (c : ℕ) → runs before text ≡ true → goes_on (last_of before text) c ≡ true → runs before (text ++ c ∷ []) ≡ true
unfolding runs last_of
runs-push before [] c run on = and_from _ _ on refl
runs-push before (t ∷ ts) c run on = let parts = and_parts _ _ run in and_from _ _ parts.0 (runs-push t ts c parts.1 on)

last_of-push : (before : ℕ) (text : List ℕ) (c : ℕ) → last_of before (text ++ c ∷ []) ≡ c
unfolding last_of
last_of-push before [] c = refl
last_of-push before (t ∷ ts) c = last_of-push t ts c

digit_on : (before d : ℕ) → is_ascii_digit d ≡ true → goes_on before d ≡ true
digit_on before d is = grind (arith, nat_tests)

number_runs : {text : List ℕ} {before : ℕ} → IsNumberText text before → (runs 0 text ≡ true) × (last_of 0 text ≡ before)
unfolding runs last_of
number_runs (digit d is) = (and_from _ _ (digit_on 0 d is) refl, refl)
number_runs (dot_digit d is) = (and_from _ _ refl (and_from _ _ (digit_on 46 d is) refl), refl)
number_runs (longer {text = text} {before = before} c is on) =
    let others = number_runs is in (runs-push 0 text c others.0 (ap (λ x. goes_on x c) others.1 ∙ on), last_of-push 0 text c)

runs_below : (before : ℕ) (bytes : List ℕ) (m : ℕ) → m ≤ length bytes → runs before (take m bytes) ≡ true → m ≤ number_len before bytes
unfolding runs number_len
runs_below before bytes zero within run = omega arith
runs_below before [] (suc m) within run = absurd (omega arith)
runs_below before (b ∷ bs) (suc m) within run =
    let parts = and_parts (goes_on before b) (runs b (take m bs)) run in let here : goes_on before b ≡ true = parts.0 in
    rw here (omega (arith, runs_below b bs m (omega arith) parts.1))

dot_on : goes_on 0 46 ≡ true
dot_on = refl

from_digit : (d : ℕ) (ds : List ℕ) → is_ascii_digit d ≡ true → (before : ℕ) × IsNumberText (take (number_len 0 (d ∷ ds)) (d ∷ ds)) before
unfolding number_len
from_digit d ds is = rw (digit_on 0 d is, one-add) (grows ds (digit d is))

from_dot : (d : ℕ) (ds : List ℕ) → is_ascii_digit d ≡ true → (before : ℕ) × IsNumberText (take (number_len 0 (46 ∷ d ∷ ds)) (46 ∷ d ∷ ds)) before
unfolding number_len
from_dot d ds is = rw (digit_on 46 d is, one-add, one-add) (grows ds (dot_digit d is))

some_digit : (c : ℕ) (cs : List ℕ) → nat_lt 0 (prefix_len is_ascii_digit (c ∷ cs)) ≡ true → is_ascii_digit c ≡ true
some_digit c cs some = by (is_ascii_digit c) some
  where
    by : (is : Bool) → nat_lt 0 (cond is (1 + prefix_len is_ascii_digit cs) 0) ≡ true → is ≡ true
    by true some = refl
    by false some = some

first_number : (bytes : List ℕ) → begins_number bytes ≡ true → (before : ℕ) × IsNumberText (take (number_len 0 bytes) bytes) before
first_number [] begins = absurd cc
first_number (c ∷ cs) begins = ⊎_elim (λ some. from_digit c cs (some_digit c cs some)) (λ dot. behind cs (dotted (and_parts _ _ dot).0) (and_parts _ _ dot).1) (or_cases _ _ begins)
  where
    dotted : (46 == c && true) ≡ true → 46 ≡ c
    dotted is = let here : (46 == c) ≡ true = (and_parts (46 == c) true is).0 in grind (arith, nat_tests)

    behind : (cs : List ℕ) → 46 ≡ c → nat_lt 0 (prefix_len is_ascii_digit cs) ≡ true → (before : ℕ) × IsNumberText (take (number_len 0 (c ∷ cs)) (c ∷ cs)) before
    behind [] dot some = absurd (true≢false (sym some))
    behind (d ∷ ds) dot some = subst (λ x. (before : ℕ) × IsNumberText (take (number_len 0 (x ∷ d ∷ ds)) (x ∷ d ∷ ds)) before) dot (from_dot d ds (some_digit d ds some))

pub number_len-within : (before : ℕ) (bytes : List ℕ) → number_len before bytes ≤ length bytes
unfolding number_len
number_len-within before [] = omega arith
number_len-within before (b ∷ bs) = by (goes_on before b) (number_len-within b bs)
  where
    by : (on : Bool) → number_len b bs ≤ length bs → (if on then 1 + number_len b bs else 0) ≤ length (b ∷ bs)
    by true others = omega (arith, others)
    by false others = omega arith

pub longest_number : (bytes : List ℕ) → begins_number bytes ≡ true → IsLongestNumber bytes (number_len 0 bytes)
longest_number bytes begins = record { within = number_len-within 0 bytes; number = first_number bytes begins; longest = λ m before within is. runs_below 0 bytes m within (number_runs is).0 }

-- punctuators

starts : List ℕ → Punct → Bool
starts bytes punct = starts_with nat_eq bytes (spelling punct)

is_among : Punct → List Punct → Bool
is_among punct [] = false
is_among punct (x ∷ xs) = bytes_eq (spelling x) (spelling punct) || is_among punct xs

-- longer ones first
falls : List Punct → Bool
falls [] = true
falls (x ∷ xs) = list_all (λ y. nat_le (length (spelling y)) (length (spelling x))) xs && falls xs

below_first : (n : ℕ) (xs : List Punct) (punct : Punct) → list_all (λ y. nat_le (length (spelling y)) n) xs ≡ true → is_among punct xs ≡ true → length (spelling punct) ≤ n
unfolding is_among
below_first n [] punct all among = absurd cc
below_first n (x ∷ xs) punct all among =
    let parts = and_parts (nat_le (length (spelling x)) n) (list_all (λ y. nat_le (length (spelling y)) n) xs) all in
    let fits : length (spelling x) ≤ n = leb-true (length (spelling x)) n parts.0 in
    ⊎_elim (λ here. let same : length (spelling x) ≡ length (spelling punct) = ap length ((bytes_eq-Decides (spelling x) (spelling punct)).0 here) in omega arith) (λ there. below_first n xs punct parts.1 there) (or_cases _ _ among)

first_longest : (bytes : List ℕ) (xs : List Punct) (found other : Punct) → falls xs ≡ true → is_among other xs ≡ true → starts bytes other ≡ true → find (starts bytes) xs ≡ Some found
    → length (spelling other) ≤ length (spelling found)
unfolding is_among falls starts
first_longest bytes [] found other order among fits e = absurd cc
first_longest bytes (x ∷ xs) found other order among fits e = by (starts bytes x) refl (λ others there. first_longest bytes xs found other (and_parts _ _ order).1 there fits others) e
  where
    by : (here : Bool) → starts bytes x ≡ here → (find (starts bytes) xs ≡ Some found → is_among other xs ≡ true → length (spelling other) ≤ length (spelling found))
        → cond here (Some x) (find (starts bytes) xs) ≡ Some found → length (spelling other) ≤ length (spelling found)
    by true s others e =
        let same : x ≡ found = cc in
        let lens : length (spelling x) ≡ length (spelling found) = ap (λ y. length (spelling y)) same in
        ⊎_elim (λ here. let equal : length (spelling x) ≡ length (spelling other) = ap length ((bytes_eq-Decides (spelling x) (spelling other)).0 here) in omega arith)
        (λ there. omega (arith, below_first (length (spelling x)) xs other (and_parts _ _ order).0 there, lens)) (or_cases _ _ among)
    by false s others e =
        ⊎_elim (λ here. absurd (true≢false (sym fits ∙ ap (λ t. starts_with nat_eq bytes t) (sym ((bytes_eq-Decides (spelling x) (spelling other)).0 here)) ∙ s))) (others e) (or_cases _ _ among)

-- where one of a list is in front, one of it is found
found_among : (bytes : List ℕ) (xs : List Punct) (other : Punct) → is_among other xs ≡ true → starts bytes other ≡ true → find (starts bytes) xs ≡ None → ⊥
unfolding is_among starts
found_among bytes [] other among fits e = absurd cc
found_among bytes (x ∷ xs) other among fits e = by (starts bytes x) refl (λ others there. found_among bytes xs other there fits others) e
  where
    by : (here : Bool) → starts bytes x ≡ here → (find (starts bytes) xs ≡ None → is_among other xs ≡ true → ⊥) → cond here (Some x) (find (starts bytes) xs) ≡ None → ⊥
    by true s others e = absurd cc
    by false s others e =
        ⊎_elim (λ here. absurd (true≢false (sym fits ∙ ap (λ t. starts_with nat_eq bytes t) (sym ((bytes_eq-Decides (spelling x) (spelling other)).0 here)) ∙ s))) (others e) (or_cases _ _ among)

all_there : (punct : Punct) → is_among punct punctuators ≡ true
unfolding is_among
all_there p.Comma = refl
all_there _ = refl

all_fall : falls punctuators ≡ true
unfolding falls
all_fall = refl

pub longest_punct : (bytes : List ℕ) (found : Punct) → punct_in_front bytes ≡ Some found → is_digraph_in_front bytes ≡ false → IsLongestPunct bytes (length (spelling found)) found
unfolding punct_in_front starts
longest_punct bytes found e none = record {
  len = refl;
  front = find-passes (starts bytes) punctuators found e;
  longest = λ other fits. first_longest bytes punctuators found other all_fall (all_there other) fits e;
  no_digraph = none;
}

-- a punctuator in front is found
pub some_punct : (bytes : List ℕ) (other : Punct) → starts_with nat_eq bytes (spelling other) ≡ true → punct_in_front bytes ≡ None → ⊥
unfolding punct_in_front starts
some_punct bytes other fits none = found_among bytes punctuators other (all_there other) fits none

pub punct_starts : (bytes : List ℕ) (found : Punct) → punct_in_front bytes ≡ Some found → starts_with nat_eq bytes (spelling found) ≡ true
unfolding punct_in_front
punct_starts bytes found e = find-passes (λ punct. starts_with nat_eq bytes (spelling punct)) punctuators found e

-- the bytes that a punctuator in front takes are its spelling
pub punct_taken : (bytes : List ℕ) (found : Punct) → starts_with nat_eq bytes (spelling found) ≡ true → take (length (spelling found)) bytes ≡ spelling found
punct_taken bytes found fits = sym ((bytes_eq-Decides (spelling found) (take (length (spelling found)) bytes)).0 fits)
