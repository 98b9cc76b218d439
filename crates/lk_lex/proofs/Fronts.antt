-- What stands in front: how far comments go, and that numbers and punctuators have bytes.
use Rattle.std.proofs.Common.{◌≡◌, ℕ, suc, ◌+◌, ◌<◌, ◌≤◌, Bool, true, false, ◌==◌, nat_eq, nat_lt, cond, List, [], ◌∷◌, length, drop, get_or, Option, Some, None, refl, sym, ap, ◌∙◌, ⊎_elim, arith}
use Rattle.std.specs.Char.{is_ascii_digit}
use Rattle.std.specs.List.{find, prefix_len, starts_with}
use Rattle.std.specs.Option.{option_map}
use Rattle.std.proofs.lemmas.Bool.{and_parts, or_cases}
use Rattle.std.proofs.lemmas.Bool.Decides.{nat_tests}
use Rattle.std.proofs.lemmas.List.{at_drop_more, at_drop_all}
use Rattle.lk_lex.specs.declared.punct.Punct.{Punct}
use Rattle.lk_lex.specs.declared.punct.Punct.TheVariants as p
use Rattle.lk_lex.specs.Front.{closes, comment_len, begins_number}
use Rattle.lk_lex.specs.Lengths.{IsWithin}
use Rattle.lk_lex.specs.Numbers.{goes_on, number_len}
use Rattle.lk_lex.specs.Punctuators.{spelling, punctuators, punct_in_front}
use Rattle.lk_lex.proofs.Quoting.{more}

pub comment_len-close : (before : ℕ) (bytes : List ℕ) (i : ℕ) → i < length bytes → closes before (get_or bytes i 0) ≡ true
    → comment_len before (drop i bytes) ≡ Some 1
unfolding comment_len
comment_len-close before bytes i there done =
    rw (at_drop_more (comment_len before) bytes i 0 there, done) refl

next_of : (before : ℕ) (bytes : List ℕ) (i : ℕ) → Option ℕ
next_of before bytes i = option_map suc (comment_len (get_or bytes i 0) (drop (i + 1) bytes))

suc_more : (k : ℕ) (found : Option ℕ) → more k (option_map suc found) ≡ more (k + 1) found
suc_more k None = refl
suc_more k (Some n) = ap Some (omega arith)

pub comment_len-on : (before : ℕ) (bytes : List ℕ) (i : ℕ) → i < length bytes → closes before (get_or bytes i 0) ≡ false
    → more i (comment_len before (drop i bytes)) ≡ more (i + 1) (comment_len (get_or bytes i 0) (drop (i + 1) bytes))
unfolding comment_len
comment_len-on before bytes i there goes =
    rw (at_drop_more (comment_len before) bytes i 0 there, goes) (suc_more i (comment_len (get_or bytes i 0) (drop (i + 1) bytes)))

pub comment_len-end : (before : ℕ) (bytes : List ℕ) (i : ℕ) → length bytes ≤ i → comment_len before (drop i bytes) ≡ None
unfolding comment_len
comment_len-end before bytes i past = at_drop_all (comment_len before) bytes i past

digit_goes : (c : ℕ) → is_ascii_digit c ≡ true → goes_on 0 c ≡ true
digit_goes c digit = grind (arith, nat_tests)

dot_goes : (c : ℕ) → (46 == c) ≡ true → goes_on 0 c ≡ true
dot_goes c dot = grind (arith, nat_tests)

goes : (c : ℕ) (cs : List ℕ) → begins_number (c ∷ cs) ≡ true → goes_on 0 c ≡ true
goes c cs begins = ⊎_elim (digit (is_ascii_digit c) refl) (λ dot. dot_goes c (and_parts _ _ (and_parts _ _ dot).0).0) (or_cases _ _ begins)
  where
    digit : (is : Bool) → is_ascii_digit c ≡ is → nat_lt 0 (cond is (1 + prefix_len is_ascii_digit cs) 0) ≡ true → goes_on 0 c ≡ true
    digit true e some = digit_goes c e
    digit false e some = absurd cc

-- a number that begins has a byte
pub number_len-some : (bytes : List ℕ) → begins_number bytes ≡ true → 0 < number_len 0 bytes
unfolding number_len
number_len-some [] begins = absurd cc
number_len-some (c ∷ cs) begins = rw (goes c cs begins) (omega arith)

starts-within : (needle bytes : List ℕ) → starts_with nat_eq bytes needle ≡ true → length needle ≤ length bytes
starts-within [] bytes starts = omega arith
starts-within (x ∷ xs) [] starts = absurd cc
starts-within (x ∷ xs) (b ∷ bs) starts = omega (arith, starts-within xs bs (and_parts _ _ starts).1)

pub find-passes : {A : Type 0} (p : A → Bool) (xs : List A) (x : A) → find p xs ≡ Some x → p x ≡ true
find-passes p [] x found = absurd cc
find-passes {A} p (y ∷ ys) x found = by (p y) refl (λ others. find-passes p ys x others) found
  where
    by : (passes : Bool) → p y ≡ passes → (find p ys ≡ Some x → p x ≡ true) → cond passes (Some y) (find p ys) ≡ Some x → p x ≡ true
    by true e others found = let same : y ≡ x = cc in ap p (sym same) ∙ e
    by false e others found = others found

pub some_bytes : (punct : Punct) → 0 < length (spelling punct)
some_bytes p.Comma = omega arith
some_bytes _ = omega arith

-- a punctuator in front has bytes, which are there
pub punct-within : (bytes : List ℕ) (punct : Punct) → punct_in_front bytes ≡ Some punct → IsWithin (length bytes) (length (spelling punct))
unfolding punct_in_front
punct-within bytes punct found = record {
  some = some_bytes punct;
  fits = starts-within (spelling punct) bytes (find-passes (λ p. starts_with nat_eq bytes (spelling p)) punctuators punct found);
}
