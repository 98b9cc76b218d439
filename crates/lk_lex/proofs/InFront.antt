-- What stands in front has a byte; a token is the longest, and its bytes are what its kind says.
use Rattle.std.proofs.Common.{◌≡◌, ℕ, ◌+◌, ◌<◌, ◌≤◌, Bool, true, false, ◌||◌, ◌==◌, nat_eq, nat_lt, if◌then◌else◌, List, [], ◌∷◌, length, take, drop, codes, Option, Some, None, refl, subst, arith}
use Rattle.std.specs.List.{starts_with}
use Rattle.std.specs.Option.{option_map_or}
use Rattle.std.specs.Str.{bytes_eq}
use Rattle.std.proofs.lemmas.Bool.{and_parts, or_parts}
use Rattle.std.proofs.lemmas.Bool.Decides.{nat_tests}
use Rattle.std.proofs.lemmas.List.Folds.{length-prefix_len}
use Rattle.std.proofs.lemmas.Slice.Eq.{bytes_eq-Decides}
use Rattle.lk_lex.specs.declared.base.Base.TheVariants as b
use Rattle.lk_lex.specs.declared.front.Front.{Front}
use Rattle.lk_lex.specs.declared.front.Front.TheVariants as f
use Rattle.lk_lex.specs.declared.keyword.Keyword.{Keyword}
use Rattle.lk_lex.specs.declared.mark.Directive.{Directive}
use Rattle.lk_lex.specs.declared.mark.Directive.TheVariants as d
use Rattle.lk_lex.specs.declared.mark.Mark.{Mark}
use Rattle.lk_lex.specs.declared.number.Number.{Number}
use Rattle.lk_lex.specs.declared.punct.Punct.{Punct}
use Rattle.lk_lex.specs.declared.quoted.Item.{Item}
use Rattle.lk_lex.specs.declared.quoted.Quotation.TheVariants as q
use Rattle.lk_lex.specs.declared.token.TokenKind.{TokenKind}
use Rattle.lk_lex.specs.declared.token.TokenKind.TheVariants as k
use Rattle.lk_lex.specs.Answer.{is_word}
use Rattle.lk_lex.specs.Ascii.{hash}
use Rattle.lk_lex.specs.Bytes.{is_blank, is_in_line, is_word_byte, word_len, line_len}
use Rattle.lk_lex.specs.Characters.{as_signed, character, quoted_len}
use Rattle.lk_lex.specs.Front.{cut, piece, word_front, word_kind, is_wide, number_front, character_front, text_front, comment_front, punct_front, hash_front, directive_front, begins_number, comment_len}
use Rattle.lk_lex.specs.Laws.{IsLongest, AreLongest}
use Rattle.lk_lex.specs.Marks.{directive}
use Rattle.lk_lex.specs.Numbers.{digits_len, number_len, number_of}
use Rattle.lk_lex.specs.Punctuators.{spelling, is_digraph_in_front, punct_in_front}
use Rattle.lk_lex.specs.TokenList.{IsWordText, IsSpelled, is_end}
use Rattle.lk_lex.specs.Words as words
use Rattle.lk_lex.proofs.Fronts.{number_len-some, some_bytes, find-passes}
use Rattle.lk_lex.proofs.Local.{char_taken, text_taken}
use Rattle.lk_lex.proofs.Longest.{longest_word, longest_number, longest_punct, word_passes, no_digit_taken, punct_starts, punct_taken}

-- what is known of a token in front
pub record IsRead (bytes : List ℕ) (n : ℕ) (kind : TokenKind) : Type 0 where
  pub some : 0 < n
  pub longest : IsLongest bytes n kind
  pub spelled : IsSpelled (take n bytes) kind
  pub short : is_word kind ≡ true → n ≤ 255
  pub not_end : is_end kind ≡ false

-- what is known of what stands in front
pub IsGood : List ℕ → Front → Type 0
IsGood bytes f.Nothing = Unit {0}
IsGood bytes f.Broken = Unit {0}
IsGood bytes (f.Gap n) = 0 < n
IsGood bytes (f.Mark n mark) = 0 < n
IsGood bytes (f.Token n kind) = IsRead bytes n kind

either : (bytes : List ℕ) (b : Bool) (x y : Front) → (b ≡ true → IsGood bytes x) → (b ≡ false → IsGood bytes y) → IsGood bytes (if b then x else y)
either bytes true x y first second = first refl
either bytes false x y first second = second refl

good_nothing : (bytes : List ℕ) → IsGood bytes f.Nothing
unfolding IsGood
good_nothing bytes = tt

good_broken : (bytes : List ℕ) → IsGood bytes f.Broken
unfolding IsGood
good_broken bytes = tt

good_gap : (bytes : List ℕ) (n : ℕ) → 0 < n → IsGood bytes (f.Gap n)
unfolding IsGood
good_gap bytes n some = some

good_token : (bytes : List ℕ) (n : ℕ) (kind : TokenKind) → IsRead bytes n kind → IsGood bytes (f.Token n kind)
unfolding IsGood
good_token bytes n kind is = is

no_digits : (bytes : List ℕ) → begins_number bytes ≡ false → digits_len b.Decimal bytes ≡ 0
no_digits bytes begins = let none : nat_lt 0 (digits_len b.Decimal bytes) ≡ false = (or_parts _ _ begins).0 in grind (arith, nat_tests)

module _ (bytes : List ℕ) (begins : begins_number bytes ≡ false) (some : nat_lt 0 (word_len bytes) ≡ true) (fits : word_len bytes ≤ 255) where
  is_text : IsWordText (take (word_len bytes) bytes)
  is_text =
      let len : length (take (word_len bytes) bytes) ≡ word_len bytes = length-prefix_len is_word_byte bytes in
      record {
        some = let here : 0 < word_len bytes = grind (arith, nat_tests) in omega (arith, len, here);
        few = omega (arith, len, fits);
        all = word_passes bytes;
        no_digit = no_digit_taken bytes (word_len bytes) (no_digits bytes begins);
      }

  read_word : (o : Option Keyword) → words.keyword_of (take (word_len bytes) bytes) ≡ o → IsRead bytes (word_len bytes) (option_map_or k.Key o k.Word)
  unfolding words.keyword_of
  read_word None e = record {
    some = grind (arith, nat_tests);
    longest = longest_word bytes some (no_digits bytes begins);
    spelled = (is_text, e);
    short = λ word. fits;
    not_end = refl;
  }
  read_word (Some keyword) e = record {
    some = grind (arith, nat_tests);
    longest = longest_word bytes some (no_digits bytes begins);
    spelled = (bytes_eq-Decides (take (word_len bytes) bytes) (words.spelling keyword)).0 (find-passes (λ keyword. bytes_eq (take (word_len bytes) bytes) (words.spelling keyword)) words.keywords keyword e);
    short = λ word. fits;
    not_end = refl;
  }

good_word : (bytes : List ℕ) → begins_number bytes ≡ false → nat_lt 0 (word_len bytes) ≡ true → IsGood bytes (word_front bytes)
unfolding word_front
good_word bytes begins some =
    either bytes (nat_lt 255 n || is_wide (take n bytes) (drop n bytes)) f.Broken (f.Token n (word_kind (take n bytes))) (λ _. good_broken bytes)
    (λ right. good_token bytes n _ (read_word bytes begins some (fits right) (words.keyword_of (take n bytes)) refl))
  where
    n : ℕ
    n = word_len bytes

    fits : (nat_lt 255 n || is_wide (take n bytes) (drop n bytes)) ≡ false → n ≤ 255
    fits right = let few : nat_lt 255 n ≡ false = (or_parts _ _ right).0 in grind (arith, nat_tests)

good_number : (bytes : List ℕ) → begins_number bytes ≡ true → IsGood bytes (number_front bytes)
unfolding number_front
good_number bytes begins = by (number_of (take n bytes)) refl
  where
    n : ℕ
    n = number_len 0 bytes

    by : (o : Option Number) → number_of (take n bytes) ≡ o → IsGood bytes (option_map_or (λ number. f.Token n (k.Number number.kind number.value)) o f.Broken)
    by None e = good_broken bytes
    by (Some number) e = good_token bytes n _ (record {
      some = number_len-some bytes begins;
      longest = longest_number bytes begins;
      spelled = e;
      short = λ word. absurd cc;
      not_end = refl;
    })

good_character : (c : ℕ) (bytes : List ℕ) → starts_with nat_eq (c ∷ bytes) (codes "'") ≡ true → IsGood (c ∷ bytes) (character_front bytes)
unfolding character_front
good_character c bytes opens = by (character bytes) refl
  where
    by : (o : Option Item) → character bytes ≡ o → IsGood (c ∷ bytes) (option_map_or (λ first. f.Token (first.len + 2) (k.Char (as_signed first.value))) o f.Broken)
    by None e = good_broken (c ∷ bytes)
    by (Some first) e = good_token (c ∷ bytes) _ _ (record {
      some = omega arith;
      longest = tt;
      spelled = char_taken c bytes first opens e;
      short = λ word. absurd cc;
      not_end = refl;
    })

good_text : (c : ℕ) (bytes : List ℕ) → starts_with nat_eq (c ∷ bytes) (codes "\"") ≡ true → IsGood (c ∷ bytes) (text_front bytes)
unfolding text_front
good_text c bytes opens = by (quoted_len q.Text 0 bytes) refl
  where
    by : (o : Option ℕ) → quoted_len q.Text 0 bytes ≡ o → IsGood (c ∷ bytes) (option_map_or (λ n. f.Token (n + 1) k.Text) o f.Broken)
    by None e = good_broken (c ∷ bytes)
    by (Some n) e = good_token (c ∷ bytes) _ _ (record {
      some = omega arith;
      longest = tt;
      spelled = text_taken c bytes n opens e;
      short = λ word. absurd cc;
      not_end = refl;
    })

good_comment : (bytes : List ℕ) (o : Option ℕ) → IsGood bytes (option_map_or (λ n. f.Gap (n + 2)) o f.Broken)
good_comment bytes None = good_broken bytes
good_comment bytes (Some n) = good_gap bytes (n + 2) (omega arith)

good_directive : (bytes : List ℕ) (n : ℕ) (o : Option Directive) → IsGood bytes (directive_front (n + 1) o)
unfolding IsGood
good_directive bytes n None = tt
good_directive bytes n (Some d.Pragma) = omega arith
good_directive bytes n (Some (d.Mark mark)) = omega arith

good_line : (bytes : List ℕ) → starts_with nat_eq bytes (codes "//") ≡ true → IsGood bytes (f.Gap (line_len bytes))
good_line [] slashes = absurd cc
good_line (b ∷ bs) slashes =
    let slash : nat_eq 47 b ≡ true = (and_parts (nat_eq 47 b) (starts_with nat_eq bs (codes "/")) slashes).0 in
    let on : is_in_line b ≡ true = grind (arith, nat_tests) in good_gap (b ∷ bs) (line_len (b ∷ bs)) (rw on (omega arith))

good_punct : (bytes : List ℕ) → IsGood bytes (punct_front bytes)
unfolding punct_front
good_punct bytes = either bytes (is_digraph_in_front bytes) f.Broken _ (λ _. good_broken bytes) (λ none. by (punct_in_front bytes) refl none)
  where
    by : (o : Option Punct) → punct_in_front bytes ≡ o → is_digraph_in_front bytes ≡ false → IsGood bytes (option_map_or (λ punct. f.Token (length (spelling punct)) (k.Punct punct)) o f.Nothing)
    by None e none = good_nothing bytes
    by (Some punct) e none = good_token bytes _ _ (record {
      some = some_bytes punct;
      longest = longest_punct bytes punct e none;
      spelled = punct_taken bytes punct (punct_starts bytes punct e);
      short = λ word. absurd cc;
      not_end = refl;
    })

good_piece : (c : ℕ) (cs : List ℕ) → IsGood (c ∷ cs) (piece (c ∷ cs))
unfolding piece comment_front
good_piece c cs = let bytes : List ℕ = c ∷ cs in
    either bytes (begins_number bytes) _ _ (good_number bytes) (λ begins.
    either bytes (nat_lt 0 (word_len bytes)) _ _ (good_word bytes begins) (λ _.
    either bytes (starts_with nat_eq bytes (codes "'")) _ _ (good_character c cs) (λ _.
    either bytes (starts_with nat_eq bytes (codes "\"")) _ _ (good_text c cs) (λ _.
    either bytes (starts_with nat_eq bytes (codes "//")) _ _ (good_line bytes) (λ _.
    either bytes (starts_with nat_eq bytes (codes "/*")) _ _ (λ _. good_comment bytes (comment_len 0 (drop 2 bytes))) (λ _.
    good_punct bytes))))))

pub good_cut : (fresh : Bool) (bytes : List ℕ) → IsGood bytes (cut fresh bytes)
unfolding cut hash_front
good_cut fresh [] = good_nothing []
good_cut fresh (c ∷ cs) =
    either (c ∷ cs) (is_blank c) _ _ (λ _. good_gap (c ∷ cs) 1 (omega arith)) (λ _.
    either (c ∷ cs) (c == hash) _ _ (λ _.
    either (c ∷ cs) fresh _ _ (λ _. good_directive (c ∷ cs) (line_len cs) (directive (take (line_len cs) cs))) (λ _. good_nothing (c ∷ cs))) (λ _.
    good_piece c cs))

-- a token in front
pub token_read : (fresh : Bool) (bytes : List ℕ) (n : ℕ) (kind : TokenKind) → cut fresh bytes ≡ f.Token n kind → IsRead bytes n kind
unfolding IsGood
token_read fresh bytes n kind e = subst (IsGood bytes) e (good_cut fresh bytes)

pub gap_some : (fresh : Bool) (bytes : List ℕ) (n : ℕ) → cut fresh bytes ≡ f.Gap n → 0 < n
unfolding IsGood
gap_some fresh bytes n e = subst (IsGood bytes) e (good_cut fresh bytes)

pub mark_some : (fresh : Bool) (bytes : List ℕ) (n : ℕ) (mark : Mark) → cut fresh bytes ≡ f.Mark n mark → 0 < n
unfolding IsGood
mark_some fresh bytes n mark e = subst (IsGood bytes) e (good_cut fresh bytes)

pub are_longest : AreLongest
are_longest fresh bytes n kind e = (token_read fresh bytes n kind e).longest
