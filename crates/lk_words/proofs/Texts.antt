-- What the words are made of.
use Rattle.std.proofs.Common.{◌≡◌, ◌∙◌, ap, sym, subst, ℕ, List, [], ◌∷◌, refl, Global}
use Rattle.std.specs.Prelude.{String, map, string_bytes}
use Rattle.std.specs.Str.{IsUtf8, chars, encode_utf8_all}
use Rattle.std.proofs.lemmas.Str.{IsUtf8-had, chars_past_char, encodes-chars}
use Rattle.lk_words.specs.Words.{Word}
use Rattle.lk_words.proofs.Whole.{AreTexts, IsText}

text_is : (word : Word) → IsUtf8 word → IsText word
unfolding lib.Utf8.encode
text_is word u x flags is = go (chars (x ∷ flags)) refl
  where
    go : (found : List ℕ) → chars (x ∷ flags) ≡ found → (c : ℕ) × (cs : List ℕ) × (chars (x ∷ flags) ≡ c ∷ cs)
    go (c ∷ cs) e = (c, cs, e)
    go [] e =
        let v : IsUtf8 (45 ∷ x ∷ flags) = subst IsUtf8 is u in
        let spelled : chars (45 ∷ x ∷ flags) ≡ 45 ∷ [] = chars_past_char (45 ∷ x ∷ flags) (x ∷ flags) 45 v refl ∙ ap (λ cs. 45 ∷ cs) e in
        let bad : 45 ∷ [] ≡ 45 ∷ x ∷ flags = ap encode_utf8_all (sym spelled) ∙ encodes-chars (45 ∷ x ∷ flags) v in
        cc

pub texts_are : (words : List (String Global)) → AreTexts (map string_bytes words)
texts_are [] = tt
texts_are (word ∷ words) = (text_is (string_bytes word) (IsUtf8-had _ word.ok), texts_are words)
