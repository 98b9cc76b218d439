-- A number in front is read as the integer constant that it is.
use Rattle.std.proofs.Common.{◌≡◌, ℕ, ◌+◌, Bool, true, false, ◌==◌, nat_lt, cond, List, [], ◌∷◌, ◌++◌, take, drop, Option, Some, None, refl, sym, ap, subst, ◌∙◌, ⊎_elim, append_assoc, arith}
use Rattle.std.specs.Char.{is_ascii_digit}
use Rattle.std.specs.List.{prefix_len}
use Rattle.std.specs.Option.{option_map_or}
use Rattle.std.proofs.lemmas.Bool.{and_parts, or_cases, or_left}
use Rattle.std.proofs.lemmas.Bool.Decides.{nat_tests}
use Rattle.std.proofs.lemmas.List.{take-append-drop}
use Rattle.lk_base.specs.declared.kind.Kind.{Kind}
use Rattle.lk_lex.specs.declared.base.Base.TheVariants as b
use Rattle.lk_lex.specs.declared.front.Front.{Front}
use Rattle.lk_lex.specs.declared.front.Front.TheVariants as f
use Rattle.lk_lex.specs.declared.number.Number.{Number}
use Rattle.lk_lex.specs.declared.token.TokenKind.TheVariants as k
use Rattle.lk_lex.specs.Ascii.{dot, hash}
use Rattle.lk_lex.specs.Bytes.{is_blank}
use Rattle.lk_lex.specs.Front.{cut, piece, number_front, begins_number}
use Rattle.lk_lex.specs.Laws.{IsNumberText, digit, dot_digit, longer, IsLongestNumber, NumbersAreConstants}
use Rattle.lk_lex.specs.Numbers.{digits_len, number_len, number_of, with_kind}
use Rattle.lk_lex.proofs.Longest.{longest_number}

positive : (n : ℕ) → nat_lt 0 (1 + n) ≡ true
positive n = grind (arith, nat_tests)

first_digit : (d : ℕ) (rest : List ℕ) → is_ascii_digit d ≡ true → nat_lt 0 (digits_len b.Decimal (d ∷ rest)) ≡ true
first_digit d rest is = rw is (positive _)

-- what begins with a number's text begins a number
text_begins : {text : List ℕ} {before : ℕ} (rest : List ℕ) → IsNumberText text before → begins_number (text ++ rest) ≡ true
text_begins rest (digit d is) = or_left _ _ (first_digit d rest is)
text_begins rest (dot_digit d is) = first_digit d rest is
text_begins rest (longer {text = text} c is on) = rw append_assoc (text_begins (c ∷ rest) is)

number_begins : (bytes : List ℕ) (n : ℕ) → IsLongestNumber bytes n → begins_number bytes ≡ true
number_begins bytes n is = subst (λ xs. begins_number xs ≡ true) (take-append-drop n bytes) (text_begins (drop n bytes) is.number.1)

-- one length alone is the longest
one_longest : (bytes : List ℕ) (n m : ℕ) → IsLongestNumber bytes n → IsLongestNumber bytes m → n ≡ m
one_longest bytes n m first second =
    let below = second.longest n first.number.0 first.within first.number.1 in
    let above = first.longest m second.number.0 second.within second.number.1 in omega (arith, below, above)

digit_plain : (c : ℕ) → is_ascii_digit c ≡ true → (is_blank c ≡ false) × ((c == hash) ≡ false)
digit_plain c is = (grind (arith, nat_tests), grind (arith, nat_tests))

dot_plain : (c : ℕ) → (dot == c) ≡ true → (is_blank c ≡ false) × ((c == hash) ≡ false)
dot_plain c is = (grind (arith, nat_tests), grind (arith, nat_tests))

-- a number begins with no blank and no `#`
number_plain : (c : ℕ) (cs : List ℕ) → begins_number (c ∷ cs) ≡ true → (is_blank c ≡ false) × ((c == hash) ≡ false)
number_plain c cs begins = ⊎_elim (by (is_ascii_digit c) refl) (λ after. dot_plain c (and_parts _ _ (and_parts _ _ after).0).0) (or_cases _ _ begins)
  where
    by : (is : Bool) → is_ascii_digit c ≡ is → nat_lt 0 (cond is (1 + prefix_len is_ascii_digit cs) 0) ≡ true → (is_blank c ≡ false) × ((c == hash) ≡ false)
    by true e some = digit_plain c e
    by false e some = absurd cc

cut_number : (fresh : Bool) (bytes : List ℕ) → begins_number bytes ≡ true → cut fresh bytes ≡ number_front bytes
unfolding cut piece
cut_number fresh [] begins = absurd cc
cut_number fresh (c ∷ cs) begins = let plain = number_plain c cs begins in rw (plain.0, plain.1, begins) refl

abbrev read : ℕ → Option Number → Front
read n o = option_map_or (λ number. f.Token n (k.Number number.kind number.value)) o f.Broken

refused_is : (n : ℕ) (o : Option Number) → (read n o ≡ f.Broken → o ≡ None) × (o ≡ None → read n o ≡ f.Broken)
refused_is n None = (λ e. refl, λ e. refl)
refused_is n (Some number) = (λ e. absurd cc, λ e. absurd cc)

read_is : (n : ℕ) (o : Option Number) (kind : Kind) (value : ℕ)
    → (read n o ≡ f.Token n (k.Number kind value) → o ≡ Some (with_kind value kind)) × (o ≡ Some (with_kind value kind) → read n o ≡ f.Token n (k.Number kind value))
read_is n None kind value = (λ e. absurd cc, λ e. absurd cc)
read_is n (Some number) kind value = (λ e. let same : number.kind ≡ kind = cc in let equal : number.value ≡ value = cc in ap (λ w. Some (with_kind number.value w)) same ∙ ap (λ v. Some (with_kind v kind)) equal, λ e. let same : number ≡ with_kind value kind = cc in ap (λ x. f.Token n (k.Number x.kind x.value)) same)

pub numbers_are_constants : NumbersAreConstants
unfolding number_front
numbers_are_constants fresh bytes n is =
    let begins = number_begins bytes n is in
    let same : number_len 0 bytes ≡ n = one_longest bytes (number_len 0 bytes) n (longest_number bytes begins) is in
    let front : cut fresh bytes ≡ read n (number_of (take n bytes)) = cut_number fresh bytes begins ∙ ap (λ m. read m (number_of (take m bytes))) same in
    let none = refused_is n (number_of (take n bytes)) in
    record {
      refused = (λ e. none.0 (sym front ∙ e), λ e. front ∙ none.1 e);
      read = λ kind value.
          let some = read_is n (number_of (take n bytes)) kind value in
          (λ e. some.0 (sym front ∙ e), λ e. front ∙ some.1 e);
    }
