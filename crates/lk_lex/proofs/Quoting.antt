-- How the characters between quotes are passed, one by one.
use Rattle.std.proofs.Common.{◌≡◌, ℕ, zero, suc, ◌+◌, ◌-◌, ◌<◌, ◌≤◌, List, [], ◌∷◌, ◌++◌, length, drop, Option, Some, None, slice_get, refl, sym, ap, ◌∙◌, append_assoc, arith}
use Rattle.std.proofs.Math.Numerals.{sub-one}
use Rattle.std.specs.Option.{option_map}
use Rattle.std.proofs.lemmas.List.{append-nil}
use Rattle.lk_lex.specs.declared.quoted.Item.{Item}
use Rattle.lk_lex.specs.declared.quoted.Quotation.{Quotation}
use Rattle.lk_lex.specs.declared.quoted.Quotation.TheVariants as q
use Rattle.lk_lex.specs.Answer.{Extends}
use Rattle.lk_lex.specs.Characters.{item, quoted_len, quoted_bytes}
use Rattle.lk_lex.proofs.Firsts.{not_34, is_34}

abbrev pub more : ℕ → Option ℕ → Option ℕ
more k found = option_map (λ n. k + n) found

pub more-zero : (found : Option ℕ) → found ≡ more 0 found
more-zero None = refl
more-zero (Some n) = ap Some (omega arith)

more-suc : (k : ℕ) (found : Option ℕ) → option_map suc (more k found) ≡ more (suc k) found
more-suc k None = refl
more-suc k (Some n) = ap Some (omega arith)

pub more-more : (a b : ℕ) (found : Option ℕ) → more a (more b found) ≡ more (a + b) found
more-more a b None = refl
more-more a b (Some n) = ap Some (omega arith)

quoted_len-skip : (quotation : Quotation) (k : ℕ) (bytes : List ℕ) → k ≤ length bytes → quoted_len quotation k bytes ≡ more k (quoted_len quotation 0 (drop k bytes))
unfolding quoted_len
quoted_len-skip quotation zero bytes within = more-zero _
quoted_len-skip quotation (suc k) [] within = absurd (omega arith)
quoted_len-skip quotation (suc k) (b ∷ bs) within = ap (option_map suc) (quoted_len-skip quotation k bs (omega arith)) ∙ more-suc k _

pub quoted_len-close : (quotation : Quotation) (bytes : List ℕ) (b : ℕ) → Some b ≡ slice_get bytes 0 → b ≡ 34 → quoted_len quotation 0 bytes ≡ Some 1
unfolding quoted_len
quoted_len-close quotation [] b first quote = absurd cc
quoted_len-close quotation (c ∷ cs) b first quote = let same : c ≡ 34 = cc in rw (is_34 c same) refl

pub quoted_len-bad : (quotation : Quotation) (bytes : List ℕ) (b : ℕ) → Some b ≡ slice_get bytes 0 → (b ≡ 34 → ⊥) → item quotation bytes ≡ None
    → quoted_len quotation 0 bytes ≡ None
unfolding quoted_len
quoted_len-bad quotation [] b first other bad = absurd cc
quoted_len-bad quotation (c ∷ cs) b first other bad = let same : b ≡ c = cc in rw (not_34 c (λ quote. other (same ∙ quote)), bad) refl

pub quoted_len-on : (quotation : Quotation) (bytes : List ℕ) (b : ℕ) (found : Item) → Some b ≡ slice_get bytes 0 → (b ≡ 34 → ⊥) → item quotation bytes ≡ Some found
    → 0 < found.len → found.len ≤ length bytes → quoted_len quotation 0 bytes ≡ more found.len (quoted_len quotation 0 (drop found.len bytes))
unfolding quoted_len
quoted_len-on quotation [] b found first other is some within = absurd cc
quoted_len-on quotation (c ∷ cs) b found first other is some within =
    let same : b ≡ c = cc in rw (not_34 c (λ quote. other (same ∙ quote)), is) (by found.len some within)
  where
    by : (n : ℕ) → 0 < n → n ≤ length (c ∷ cs) → option_map suc (quoted_len quotation (n - 1) cs) ≡ more n (quoted_len quotation 0 (drop n (c ∷ cs)))
    by zero some within = absurd (omega arith)
    by (suc n) some within = rw sub-one (ap (option_map suc) (quoted_len-skip quotation n cs (omega arith)) ∙ more-suc n _)

pub quoted_len-end : (quotation : Quotation) (bytes : List ℕ) → bytes ≡ [] → quoted_len quotation 0 bytes ≡ None
unfolding quoted_len
quoted_len-end quotation bytes empty = rw empty refl

quoted_bytes-skip : (quotation : Quotation) (k : ℕ) (bytes : List ℕ) → quoted_bytes quotation k bytes ≡ quoted_bytes quotation 0 (drop k bytes)
unfolding quoted_bytes
quoted_bytes-skip quotation zero bytes = refl
quoted_bytes-skip quotation (suc k) [] = refl
quoted_bytes-skip quotation (suc k) (b ∷ bs) = quoted_bytes-skip quotation k bs

pub quoted_bytes-close : (quotation : Quotation) (bytes : List ℕ) (b : ℕ) → Some b ≡ slice_get bytes 0 → b ≡ 34 → quoted_bytes quotation 0 bytes ≡ []
unfolding quoted_bytes
quoted_bytes-close quotation [] b first quote = refl
quoted_bytes-close quotation (c ∷ cs) b first quote = let same : c ≡ 34 = cc in rw (is_34 c same) refl

pub quoted_bytes-bad : (quotation : Quotation) (bytes : List ℕ) (b : ℕ) → Some b ≡ slice_get bytes 0 → (b ≡ 34 → ⊥) → item quotation bytes ≡ None → quoted_bytes quotation 0 bytes ≡ []
unfolding quoted_bytes
quoted_bytes-bad quotation [] b first other bad = refl
quoted_bytes-bad quotation (c ∷ cs) b first other bad = let same : b ≡ c = cc in rw (not_34 c (λ quote. other (same ∙ quote)), bad) refl

pub quoted_bytes-on : (quotation : Quotation) (bytes : List ℕ) (b : ℕ) (found : Item) → Some b ≡ slice_get bytes 0 → (b ≡ 34 → ⊥) → item quotation bytes ≡ Some found → 0 < found.len
    → quoted_bytes quotation 0 bytes ≡ found.value ∷ quoted_bytes quotation 0 (drop found.len bytes)
unfolding quoted_bytes
quoted_bytes-on quotation [] b found first other is some = absurd cc
quoted_bytes-on quotation (c ∷ cs) b found first other is some =
    let same : b ≡ c = cc in rw (not_34 c (λ quote. other (same ∙ quote)), is) (ap (λ more. found.value ∷ more) (by found.len some))
  where
    by : (n : ℕ) → 0 < n → quoted_bytes quotation (n - 1) cs ≡ quoted_bytes quotation 0 (drop n (c ∷ cs))
    by zero some = absurd (omega arith)
    by (suc n) some = rw sub-one (quoted_bytes-skip quotation n cs)

pub quoted_bytes-end : (quotation : Quotation) (bytes : List ℕ) → bytes ≡ [] → quoted_bytes quotation 0 bytes ≡ []
unfolding quoted_bytes
quoted_bytes-end quotation bytes empty = rw empty refl

-- nothing behind the quote of no bytes
pub quoted_bytes-none : (out text : List ℕ) → length text ≡ 0 → out ≡ out ++ quoted_bytes q.Text 0 (drop 1 text)
unfolding quoted_bytes
quoted_bytes-none out [] none = sym (append-nil out)
quoted_bytes-none out (b ∷ bs) none = absurd (omega (arith, none))

pub extends_more : (before now : List ℕ) (value : ℕ) → Extends before now → Extends before (now ++ value ∷ [])
extends_more before now value (others, is) = (others ++ value ∷ [], ap (λ front. front ++ value ∷ []) is ∙ append_assoc before others (value ∷ []))
