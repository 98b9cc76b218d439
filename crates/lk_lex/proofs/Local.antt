-- Characters between quotes are read alike where the bytes end behind the closing quote.
use Rattle.std.proofs.Common.{◌≡◌, ℕ, zero, suc, ◌+◌, ◌-◌, ◌<◌, ◌≤◌, min, Bool, true, false, not, ◌==◌, nat_eq, cond, if◌then◌else◌, List, [], ◌∷◌, length, take, drop, codes, Option, Some, None, refl, sym, ap, subst, ◌∙◌, arith}
use Rattle.std.specs.List.{prefix_len, starts_with}
use Rattle.std.specs.Option.{option_map, option_and_then}
use Rattle.std.proofs.lemmas.List.{take-take, length-take-le}
use Rattle.std.proofs.Math.Numerals.{add-one}
use Rattle.lk_lex.specs.declared.base.Base.TheVariants as b
use Rattle.lk_lex.specs.declared.quoted.Item.{Item}
use Rattle.lk_lex.specs.declared.quoted.Quotation.TheVariants as q
use Rattle.lk_lex.specs.Ascii.{backslash, quote, letter_x, new_line}
use Rattle.lk_lex.specs.Characters.{item_of, byte_of, simple_escape, octal_escape, hexadecimal_escape, escape_by, escape, item, quoted_len, character, as_signed}
use Rattle.lk_lex.specs.Numbers.{is_digit_of, digits_len}
use Rattle.lk_lex.specs.TokenList.{IsCharText, IsStringText}

-- how long a run is in a part of the bytes
run_taken : (t : ℕ → Bool) (xs : List ℕ) (m : ℕ) → prefix_len t (take m xs) ≡ min m (prefix_len t xs)
run_taken t xs zero = omega arith
run_taken t [] (suc m) = omega arith
run_taken t (x ∷ xs) (suc m) = by (t x) (run_taken t xs m)
  where
    by : (on : Bool) → prefix_len t (take m xs) ≡ min m (prefix_len t xs) → cond on (1 + prefix_len t (take m xs)) 0 ≡ min (suc m) (cond on (1 + prefix_len t xs) 0)
    by true others = omega (arith, others)
    by false others = omega arith

-- the length that a character with a value has
len_is : (n : ℕ) (o : Option ℕ) (it : Item) → option_map (item_of n) o ≡ Some it → it.len ≡ n
len_is n None it e = absurd cc
len_is n (Some value) it e = let same : item_of n value ≡ it = cc in sym (ap (λ i. i.len) same)

octal_local : (bytes : List ℕ) (it : Item) (m : ℕ) → octal_escape bytes ≡ Some it → it.len ≤ suc m → octal_escape (take m bytes) ≡ Some it
octal_local bytes it m e within =
    let n : ℕ = min (digits_len b.Octal bytes) 3 in
    let len : it.len ≡ n + 1 = len_is (n + 1) (byte_of b.Octal (take n bytes)) it e in
    let same : min (digits_len b.Octal (take m bytes)) 3 ≡ n = omega (arith, run_taken (is_digit_of b.Octal) bytes m, len, within) in
    subst (λ k. option_map (item_of (k + 1)) (byte_of b.Octal (take k (take m bytes))) ≡ Some it) (sym same) (rw (take-take n m bytes (omega (arith, len, within))) e)

octal_some : (bytes : List ℕ) (it : Item) → octal_escape bytes ≡ Some it → it.len ≡ min (digits_len b.Octal bytes) 3 + 1
octal_some bytes it e = len_is (min (digits_len b.Octal bytes) 3 + 1) (byte_of b.Octal (take (min (digits_len b.Octal bytes) 3) bytes)) it e

hexadecimal_some : (bytes : List ℕ) (it : Item) → hexadecimal_escape bytes ≡ Some it
    → ((digits_len b.Hexadecimal bytes == 0) ≡ false) × (it.len ≡ digits_len b.Hexadecimal bytes + 2) × (option_map (item_of (digits_len b.Hexadecimal bytes + 2)) (byte_of b.Hexadecimal (take (digits_len b.Hexadecimal bytes) bytes)) ≡ Some it)
hexadecimal_some bytes it e = by (digits_len b.Hexadecimal bytes == 0) refl e
  where
    n : ℕ
    n = digits_len b.Hexadecimal bytes

    by : (none : Bool) → (n == 0) ≡ none → (if none then None else option_map (item_of (n + 2)) (byte_of b.Hexadecimal (take n bytes))) ≡ Some it
        → ((n == 0) ≡ false) × (it.len ≡ n + 2) × (option_map (item_of (n + 2)) (byte_of b.Hexadecimal (take n bytes)) ≡ Some it)
    by true empty e = absurd cc
    by false empty e = (empty, len_is (n + 2) (byte_of b.Hexadecimal (take n bytes)) it e, e)

hexadecimal_local : (bytes : List ℕ) (it : Item) (m : ℕ) → hexadecimal_escape bytes ≡ Some it → it.len ≤ m + 2 → hexadecimal_escape (take m bytes) ≡ Some it
hexadecimal_local bytes it m e within =
    let n : ℕ = digits_len b.Hexadecimal bytes in
    let known = hexadecimal_some bytes it e in
    let same : digits_len b.Hexadecimal (take m bytes) ≡ n = omega (arith, run_taken (is_digit_of b.Hexadecimal) bytes m, known.1, within) in
    subst (λ k. (if k == 0 then None else option_map (item_of (k + 2)) (byte_of b.Hexadecimal (take k (take m bytes)))) ≡ Some it) (sym same)
    (rw (known.0, take-take n m bytes (omega (arith, known.1, within))) known.2)

-- an escape, by the byte behind its backslash
escape_by_local : (c : ℕ) (cs : List ℕ) (it : Item) (m : ℕ) → escape_by c (c ∷ cs) ≡ Some it → it.len ≤ m + 2 → escape_by c (c ∷ take m cs) ≡ Some it
escape_by_local c cs it m e within = by (is_digit_of b.Octal c) (c == letter_x) e
  where
    by : (octal x : Bool) → (if octal then octal_escape (c ∷ cs) else if x then hexadecimal_escape cs else option_map (item_of 2) (simple_escape c)) ≡ Some it
        → (if octal then octal_escape (c ∷ take m cs) else if x then hexadecimal_escape (take m cs) else option_map (item_of 2) (simple_escape c)) ≡ Some it
    by true x e = octal_local (c ∷ cs) it (suc m) e (omega arith)
    by false true e = hexadecimal_local cs it m e within
    by false false e = e

-- an escape has at least a backslash and a byte
escape_by_some : (c : ℕ) (cs : List ℕ) (it : Item) → escape_by c (c ∷ cs) ≡ Some it → 2 ≤ it.len
escape_by_some c cs it e = by (is_digit_of b.Octal c) (c == letter_x) refl e
  where
    by : (octal x : Bool) → is_digit_of b.Octal c ≡ octal → (if octal then octal_escape (c ∷ cs) else if x then hexadecimal_escape cs else option_map (item_of 2) (simple_escape c)) ≡ Some it → 2 ≤ it.len
    by true x is e = let some : 0 < digits_len b.Octal (c ∷ cs) = rw is (omega arith) in omega (arith, octal_some (c ∷ cs) it e, some)
    by false true is e = omega (arith, (hexadecimal_some cs it e).1)
    by false false is e = omega (arith, len_is 2 (simple_escape c) it e)

escape_local : (bytes : List ℕ) (it : Item) (m : ℕ) → escape bytes ≡ Some it → it.len ≤ suc m → escape (take m bytes) ≡ Some it
unfolding escape
escape_local [] it m e within = absurd cc
escape_local (c ∷ cs) it zero e within = absurd (omega (arith, escape_by_some c cs it e, within))
escape_local (c ∷ cs) it (suc m) e within = escape_by_local c cs it m e (omega arith)

-- a character of a text
item_local : (c : ℕ) (cs : List ℕ) (it : Item) (m : ℕ) → item q.Text (c ∷ cs) ≡ Some it → it.len ≤ suc m → item q.Text (c ∷ take m cs) ≡ Some it
unfolding item
item_local c cs it m e within = by (c == backslash) e
  where
    plain : Option Item
    plain = if not (c == new_line) then Some (item_of 1 c) else None

    by : (slash : Bool) → (if slash then escape cs else plain) ≡ Some it → (if slash then escape (take m cs) else plain) ≡ Some it
    by true e = escape_local cs it m e within
    by false e = e

-- behind a character that has begun, the closing quote is farther than its end
quoted_len-past : (begun : ℕ) (bytes : List ℕ) (n : ℕ) → quoted_len q.Text begun bytes ≡ Some n → begun < n
unfolding quoted_len
quoted_len-past begun [] n e = absurd cc
quoted_len-past zero (c ∷ cs) n e = by (c == quote) (item q.Text (c ∷ cs)) e
  where
    one : (o : Option ℕ) → option_map suc o ≡ Some n → 0 < n
    one None e = absurd cc
    one (Some k) e = let same : suc k ≡ n = cc in omega arith

    by : (closes : Bool) (o : Option Item) → (if closes then Some 1 else option_and_then (λ first. option_map suc (quoted_len q.Text (first.len - 1) cs)) o) ≡ Some n → 0 < n
    by true o e = let same : 1 ≡ n = cc in omega arith
    by false None e = absurd cc
    by false (Some first) e = one (quoted_len q.Text (first.len - 1) cs) e
quoted_len-past (suc begun) (c ∷ cs) n e = by (quoted_len q.Text begun cs) (λ k e. quoted_len-past begun cs k e) e
  where
    by : (o : Option ℕ) → ((k : ℕ) → o ≡ Some k → begun < k) → option_map suc o ≡ Some n → suc begun < n
    by None others e = absurd cc
    by (Some k) others e = let same : suc k ≡ n = cc in omega (arith, others k refl)

-- how many bytes there are up to the closing quote
quoted_len-local : (begun : ℕ) (bytes : List ℕ) (n : ℕ) → quoted_len q.Text begun bytes ≡ Some n → quoted_len q.Text begun (take n bytes) ≡ Some n
unfolding quoted_len
quoted_len-local begun [] n e = absurd cc
quoted_len-local zero (c ∷ cs) n e = by (c == quote) refl (item q.Text (c ∷ cs)) refl e (λ begun k e. quoted_len-local begun cs k e)
  where
    on : (first : Item) (o : Option ℕ) → item q.Text (c ∷ cs) ≡ Some first → (c == quote) ≡ false → ((k : ℕ) → o ≡ Some k → (first.len - 1 < k) × (quoted_len q.Text (first.len - 1) (take k cs) ≡ Some k))
        → option_map suc o ≡ Some n → quoted_len q.Text 0 (take n (c ∷ cs)) ≡ Some n
    on first None is other others e = absurd cc
    on first (Some k) is other others e =
        let known = others k refl in let same : suc k ≡ n = cc in
        subst (λ m. quoted_len q.Text 0 (take m (c ∷ cs)) ≡ Some m) same
        (rw (other, item_local c cs first k is (omega (arith, known.0)), known.1) refl)

    by : (closes : Bool) → (c == quote) ≡ closes → (o : Option Item) → item q.Text (c ∷ cs) ≡ o
        → (if closes then Some 1 else option_and_then (λ first. option_map suc (quoted_len q.Text (first.len - 1) cs)) o) ≡ Some n
        → ((begun k : ℕ) → quoted_len q.Text begun cs ≡ Some k → quoted_len q.Text begun (take k cs) ≡ Some k)
        → quoted_len q.Text 0 (take n (c ∷ cs)) ≡ Some n
    by true is o there e others = let same : 1 ≡ n = cc in subst (λ m. quoted_len q.Text 0 (take m (c ∷ cs)) ≡ Some m) same (rw is refl)
    by false is None there e others = absurd cc
    by false is (Some first) there e others = on first (quoted_len q.Text (first.len - 1) cs) there is (λ k e. (quoted_len-past (first.len - 1) cs k e, others (first.len - 1) k e)) e
quoted_len-local (suc begun) (c ∷ cs) n e = by (quoted_len q.Text begun cs) (λ k e. quoted_len-local begun cs k e) e
  where
    by : (o : Option ℕ) → ((k : ℕ) → o ≡ Some k → quoted_len q.Text begun (take k cs) ≡ Some k) → option_map suc o ≡ Some n → quoted_len q.Text (suc begun) (take n (c ∷ cs)) ≡ Some n
    by None others e = absurd cc
    by (Some k) others e =
        let same : suc k ≡ n = cc in
        subst (λ m. quoted_len q.Text (suc begun) (take m (c ∷ cs)) ≡ Some m) same (rw (others k refl) refl)

quoted_len-within : (begun : ℕ) (bytes : List ℕ) (n : ℕ) → quoted_len q.Text begun bytes ≡ Some n → n ≤ length bytes
unfolding quoted_len
quoted_len-within begun [] n e = absurd cc
quoted_len-within zero (c ∷ cs) n e = by (c == quote) (item q.Text (c ∷ cs)) e (λ begun k e. quoted_len-within begun cs k e)
  where
    one : (o : Option ℕ) → ((k : ℕ) → o ≡ Some k → k ≤ length cs) → option_map suc o ≡ Some n → n ≤ length (c ∷ cs)
    one None others e = absurd cc
    one (Some k) others e = let same : suc k ≡ n = cc in omega (arith, others k refl)

    by : (closes : Bool) (o : Option Item) → (if closes then Some 1 else option_and_then (λ first. option_map suc (quoted_len q.Text (first.len - 1) cs)) o) ≡ Some n
        → ((begun k : ℕ) → quoted_len q.Text begun cs ≡ Some k → k ≤ length cs) → n ≤ length (c ∷ cs)
    by true o e others = let same : 1 ≡ n = cc in omega arith
    by false None e others = absurd cc
    by false (Some first) e others = one (quoted_len q.Text (first.len - 1) cs) (others (first.len - 1)) e
quoted_len-within (suc begun) (c ∷ cs) n e = by (quoted_len q.Text begun cs) (λ k e. quoted_len-within begun cs k e) e
  where
    by : (o : Option ℕ) → ((k : ℕ) → o ≡ Some k → k ≤ length cs) → option_map suc o ≡ Some n → n ≤ length (c ∷ cs)
    by None others e = absurd cc
    by (Some k) others e = let same : suc k ≡ n = cc in omega (arith, others k refl)

-- the bytes of a string literal in front
pub text_taken : (c : ℕ) (bytes : List ℕ) (n : ℕ) → starts_with nat_eq (c ∷ bytes) (codes "\"") ≡ true → quoted_len q.Text 0 bytes ≡ Some n → IsStringText (take (n + 1) (c ∷ bytes))
text_taken c bytes n opens e =
    let len : length (take n bytes) ≡ n = length-take-le n bytes (quoted_len-within 0 bytes n e) in
    rw add-one (record { opens = opens; closes = quoted_len-local 0 bytes n e ∙ ap Some (sym len) })

-- a closing quote is in the bytes up to it
closing : (n : ℕ) (bytes : List ℕ) → starts_with nat_eq (drop n bytes) (codes "'") ≡ true → (starts_with nat_eq (drop n (take (suc n) bytes)) (codes "'") ≡ true) × (length (take (suc n) bytes) ≡ suc n)
closing zero [] quote = absurd cc
closing zero (c ∷ cs) quote = (quote, refl)
closing (suc n) [] quote = absurd cc
closing (suc n) (c ∷ cs) quote = let others = closing n cs quote in (others.0, ap suc others.1)

character_parts : (bytes : List ℕ) (first : Item) → character bytes ≡ Some first
    → (starts_with nat_eq bytes (codes "'") ≡ false) × (item q.Text bytes ≡ Some first) × (starts_with nat_eq (drop first.len bytes) (codes "'") ≡ true)
unfolding character
character_parts bytes first e = by (starts_with nat_eq bytes (codes "'")) refl (item q.Text bytes) refl e
  where
    closed : Item → Bool
    closed one = starts_with nat_eq (drop one.len bytes) (codes "'")

    last : (one : Item) → item q.Text bytes ≡ Some one → starts_with nat_eq bytes (codes "'") ≡ false → (closes : Bool) → closed one ≡ closes → (if closes then Some one else None) ≡ Some first
        → (starts_with nat_eq bytes (codes "'") ≡ false) × (item q.Text bytes ≡ Some first) × (closed first ≡ true)
    last one there is false not e = absurd cc
    last one there is true not e = let same : one ≡ first = cc in (is, there ∙ ap Some same, subst (λ x. closed x ≡ true) same not)

    by : (empty : Bool) → starts_with nat_eq bytes (codes "'") ≡ empty → (o : Option Item) → item q.Text bytes ≡ o
        → (if empty then None else option_and_then (λ one. if closed one then Some one else None) o) ≡ Some first
        → (starts_with nat_eq bytes (codes "'") ≡ false) × (item q.Text bytes ≡ Some first) × (closed first ≡ true)
    by true is o there e = absurd cc
    by false is None there e = absurd cc
    by false is (Some one) there e = last one there is (closed one) refl e

character_local : (bytes : List ℕ) (first : Item) → character bytes ≡ Some first → character (take (suc first.len) bytes) ≡ Some first
unfolding character item
character_local [] first e = absurd cc
character_local (d ∷ ds) first e =
    let parts = character_parts (d ∷ ds) first e in
    let closes : starts_with nat_eq (drop first.len (take (suc first.len) (d ∷ ds))) (codes "'") ≡ true = (closing first.len (d ∷ ds) parts.2).0 in
    rw (parts.0, item_local d ds first first.len parts.1 (omega arith), closes) refl

-- the bytes of a character in front
pub char_taken : (c : ℕ) (bytes : List ℕ) (first : Item) → starts_with nat_eq (c ∷ bytes) (codes "'") ≡ true → character bytes ≡ Some first
    → IsCharText (take (first.len + 2) (c ∷ bytes)) (as_signed first.value)
char_taken c bytes first opens e =
    let sum : first.len + 2 ≡ suc (suc first.len) = omega arith in
    rw sum (record {
      opens = opens;
      one = first;
      inside = character_local bytes first e;
      closes = rw sum (ap suc (closing first.len bytes (character_parts bytes first e).2).1);
      means = refl;
    })
