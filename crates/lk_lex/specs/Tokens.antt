-- The tokens of a source (C99 5.1.1.2, 6.4), with places counted from the last line mark.
use Rattle.std.specs.Prelude.{◌≡◌, ℕ, ◌+◌, true, ◌&&◌, ◌==◌, nat_eq, if◌then◌else◌, List, [], ◌∷◌, take, drop, Option}
use Rattle.std.specs.Cmp.Lexicographic.{pointwise}
use Rattle.std.specs.List.{fold, position_or_len}
use Rattle.std.specs.Option.{option_map_or}
use Rattle.lk_base.specs.declared.code.Code.{Code}
use Rattle.lk_base.specs.declared.code.Code.TheVariants as c
use Rattle.lk_base.specs.declared.spot.Spot.{Spot}
use Rattle.lk_base.specs.Files.{with_name}
use Rattle.lk_lex.specs.declared.token.Token.{Token}
use Rattle.lk_lex.specs.declared.token.TokenKind.{TokenKind}
use Rattle.lk_lex.specs.declared.token.TokenKind.TheVariants as k
use Rattle.lk_lex.specs.declared.front.Front.TheVariants as f
use Rattle.lk_lex.specs.declared.mark.Mark.{Mark}
use Rattle.lk_lex.specs.declared.place.Place.{Place}
use Rattle.lk_lex.specs.Ascii.{new_line}
use Rattle.lk_lex.specs.Bytes.{is_blank}
use Rattle.lk_lex.specs.Front.{cut}

-- the place after a new line: the first of the next line
abbrev pub after_line : Place → Place
after_line place =
    record { spot = place.next; next = record place.next { line = place.next.line + 1 }; at = place.at + 1; fresh = true }

-- the place after another byte: one column on
abbrev pub after_column : Place → ℕ → Place
after_column place b =
    record {
      spot = record place.spot { col = place.spot.col + 1 };
      next = place.next;
      at = place.at + 1;
      fresh = place.fresh && is_blank b;
    }

abbrev pub after_byte : Place → ℕ → Place
after_byte place b = if b == new_line then after_line place else after_column place b

abbrev pub after : Place → List ℕ → Place
after place bytes = fold after_byte place bytes

-- the place of a source's first byte
abbrev pub start_of : ℕ → Place
start_of own =
    record { spot = record { file = own; line = 1; col = 1 }; next = record { file = own; line = 2; col = 1 }; at = 0; fresh = true }

-- the names with that of the mark, where it has one
abbrev pub names_with : List (List ℕ) → Option (List ℕ) → List (List ℕ)
names_with names name = option_map_or (λ n. with_name names n) name names

-- the number of the file that the mark names, or of the file that it stands in
abbrev pub file_of : List (List ℕ) → Place → Option (List ℕ) → ℕ
file_of names place name =
    option_map_or (λ n. position_or_len (pointwise nat_eq n) names) name place.spot.file

-- a place behind a mark, whose next line is the one that the mark says
abbrev pub marked : List (List ℕ) → Place → Mark → Place
marked names place mark =
    record place { next = record { file = file_of names place mark.name; line = mark.line; col = 1 } }

abbrev pub token_at : Place → Place → TokenKind → Token
token_at first behind kind = record { kind = kind; from = first.at; to = behind.at; spot = first.spot }

-- the bytes, of which the first has this place, split into these tokens, with blanks, comments and line marks
-- between them. The names of files grow by those of the marks
pub data Splits : List (List ℕ) → Place → List ℕ → List Token → List (List ℕ) → Type 0 where
  ends : {names : List (List ℕ)} {place : Place} →
      Splits names place [] (token_at place place k.End ∷ []) names
  gap : {names last : List (List ℕ)} {place : Place} {b : ℕ} {bs : List ℕ} {tokens : List Token} (n : ℕ) →
      cut place.fresh (b ∷ bs) ≡ f.Gap n →
      Splits names (after place (take n (b ∷ bs))) (drop n (b ∷ bs)) tokens last →
      Splits names place (b ∷ bs) tokens last
  line_mark : {names last : List (List ℕ)} {place : Place} {b : ℕ} {bs : List ℕ} {tokens : List Token} (n : ℕ)
      (mark : Mark) → cut place.fresh (b ∷ bs) ≡ f.Mark n mark →
      Splits (names_with names mark.name) (marked names (after place (take n (b ∷ bs))) mark)
      (drop n (b ∷ bs)) tokens last → Splits names place (b ∷ bs) tokens last
  token : {names last : List (List ℕ)} {place : Place} {b : ℕ} {bs : List ℕ} {tokens : List Token} (n : ℕ)
      (kind : TokenKind) → cut place.fresh (b ∷ bs) ≡ f.Token n kind →
      Splits names (after place (take n (b ∷ bs))) (drop n (b ∷ bs)) tokens last →
      Splits names place (b ∷ bs) (token_at place (after place (take n (b ∷ bs))) kind ∷ tokens) last

-- the split of the bytes stops at this place: with the code Byte where nothing begins, with the code Token
-- where something begins and isn't whole or isn't valid
pub data Stops : List (List ℕ) → Place → List ℕ → Code → Spot → List (List ℕ) → Type 0 where
  nothing : {names : List (List ℕ)} {place : Place} {b : ℕ} {bs : List ℕ} →
      cut place.fresh (b ∷ bs) ≡ f.Nothing → Stops names place (b ∷ bs) c.Byte place.spot names
  broken : {names : List (List ℕ)} {place : Place} {b : ℕ} {bs : List ℕ} →
      cut place.fresh (b ∷ bs) ≡ f.Broken → Stops names place (b ∷ bs) c.Token place.spot names
  past_gap : {names last : List (List ℕ)} {place : Place} {b : ℕ} {bs : List ℕ} {code : Code} {spot : Spot}
      (n : ℕ) → cut place.fresh (b ∷ bs) ≡ f.Gap n →
      Stops names (after place (take n (b ∷ bs))) (drop n (b ∷ bs)) code spot last →
      Stops names place (b ∷ bs) code spot last
  past_mark : {names last : List (List ℕ)} {place : Place} {b : ℕ} {bs : List ℕ} {code : Code} {spot : Spot}
      (n : ℕ) (mark : Mark) → cut place.fresh (b ∷ bs) ≡ f.Mark n mark →
      Stops (names_with names mark.name) (marked names (after place (take n (b ∷ bs))) mark)
      (drop n (b ∷ bs)) code spot last → Stops names place (b ∷ bs) code spot last
  past_token : {names last : List (List ℕ)} {place : Place} {b : ℕ} {bs : List ℕ} {code : Code} {spot : Spot}
      (n : ℕ) (kind : TokenKind) → cut place.fresh (b ∷ bs) ≡ f.Token n kind →
      Stops names (after place (take n (b ∷ bs))) (drop n (b ∷ bs)) code spot last →
      Stops names place (b ∷ bs) code spot last
