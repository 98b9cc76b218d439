-- The shape of a word, as `clap` sees it.
use Rattle.std.proofs.Common.{◌≡◌, ◌==◌, ℕ, Bool, true, false, [], ◌∷◌, Some, None, refl, arith}
use Rattle.std.specs.List.{after_first, before_first, list_any}
use Rattle.std.specs.Str.{bytes_eq}
use Rattle.std.proofs.lemmas.Bool.Decides.{nat_tests}
use Rattle.clap.specs.Lexer.{long_of, short_of}
use Rattle.lk_words.specs.Words.{Shape, Word, is_equals, shape_of, shape_of_dashed, shape_of_long}
use Rattle.lk_words.specs.Words.Shape.{End, Asks, Gives, Other, File}

abbrev pub dashes : Word
dashes = 45 ∷ 45 ∷ []

pub data IsShape (w : Word) : Shape → Type 0 where
  end : bytes_eq w dashes ≡ true → IsShape w End
  plain : bytes_eq w dashes ≡ false → long_of w ≡ None → short_of w ≡ None → IsShape w File
  asks : (option : Word) → bytes_eq w dashes ≡ false → long_of w ≡ Some (option, None) → IsShape w (Asks option)
  gives : (option file : Word) → bytes_eq w dashes ≡ false → long_of w ≡ Some (option, Some file) → IsShape w (Gives option file)
  short : (x : ℕ) (flags : Word) → bytes_eq w dashes ≡ false → long_of w ≡ None → short_of w ≡ Some (x ∷ flags) → w ≡ 45 ∷ x ∷ flags → IsShape w Other

long_shape : (x : ℕ) (xs : Word) (t : Bool) → list_any is_equals (x ∷ xs) ≡ t → IsShape (45 ∷ 45 ∷ x ∷ xs) (shape_of_long (x ∷ xs))
long_shape x xs true t = rw t (gives (before_first is_equals (x ∷ xs)) (after_first is_equals (x ∷ xs)) refl (rw t refl))
long_shape x xs false t = rw t (asks (before_first is_equals (x ∷ xs)) refl (rw t refl))

-- a word that begins with `-`, by its second byte
dash_shape : (c : ℕ) (rest : Word) (t : Bool) → (c == 45) ≡ t → IsShape (45 ∷ c ∷ rest) (shape_of_dashed (c ∷ rest))
dash_shape c [] true t = let same : c ≡ 45 = grind (arith, nat_tests) in rw same (end refl)
dash_shape c (x ∷ xs) true t = let same : c ≡ 45 = grind (arith, nat_tests) in rw same (long_shape x xs (list_any is_equals (x ∷ xs)) refl)
dash_shape c rest false t = rw t (short c rest (rw t refl) (rw t refl) (rw t refl) refl)

first_shape : (b c : ℕ) (rest : Word) (t : Bool) → (b == 45) ≡ t → IsShape (b ∷ c ∷ rest) (shape_of (b ∷ c ∷ rest))
first_shape b c rest true t = let same : b ≡ 45 = grind (arith, nat_tests) in rw same (dash_shape c rest (c == 45) refl)
first_shape b c rest false t = rw t (plain (rw t refl) (rw t refl) (rw t refl))

one_shape : (b : ℕ) (t : Bool) → (b == 45) ≡ t → IsShape (b ∷ []) (shape_of (b ∷ []))
one_shape b true t = rw t (plain (rw t refl) (rw t refl) (rw t refl))
one_shape b false t = rw t (plain (rw t refl) (rw t refl) (rw t refl))

pub shape_is : (w : Word) → IsShape w (shape_of w)
shape_is [] = plain refl refl refl
shape_is (b ∷ []) = one_shape b (b == 45) refl
shape_is (b ∷ c ∷ rest) = first_shape b c rest (b == 45) refl
